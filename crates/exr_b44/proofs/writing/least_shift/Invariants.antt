use Rattle.std.proofs.Common.{◌≡◌, ◌-◌, ◌<◌, ℕ, true, false, ◌++◌, ◌∷◌, get_or}
use Rattle.exr_b44.specs.Cell.{depths_of, all_fit, differences_of}
use Rattle.exr_b44.specs.Lanes.{turned, AreSmall}
use Rattle.exr_b44.proofs.writing.least_shift.Given as goal

abbrev pub invariant-shifts : goal.invariant-shifts
invariant-shifts l = let below = turned (l.near ++ l.far) in record {
  few : l.shift < 13;
  before : (k : ℕ) → k < l.shift → all_fit (depths_of below k) ≡ false;
  first : l.tried.first ≡ get_or (depths_of below l.shift) 0 0;
  fits_is : l.tried.fits ≡ all_fit (depths_of below l.shift);
  differences : l.tried.fits ≡ true → l.tried.near ++ l.tried.far ≡ 32 ∷ differences_of (depths_of below l.shift);
  small : l.tried.fits ≡ true → AreSmall 64 (l.tried.near ++ l.tried.far);
}

abbrev pub decreases-shifts : goal.decreases-shifts
decreases-shifts l = 13 - l.shift
