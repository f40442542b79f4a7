use Rattle.std.proofs.Common.{◌≡◌, ◌+◌, ◌<◌, ℕ, inl, inr, Bool, true, not, List, ◌++◌, get_or, sym, ap, ◌∙◌, arith}
use Rattle.std.proofs.lemmas.Bool.{cases_lt, false≢true, not-true, not-false}
use Rattle.exr_b44.specs.Cell.{depths_of, all_fit}
use Rattle.exr_b44.specs.Lanes.{turned}
use Rattle.exr_b44.proofs.Depths.{twelve_fits, shift_found}
use Rattle.exr_b44.proofs.writing.least_shift.Goals as goal

pub shifts-init : goal.shifts-init
shifts-init c =
    let tried = c.try_shift-tried.ensures in
    record { few = omega arith; before = λ k lt. absurd (omega arith); first = tried.first; fits_is = tried.fits; differences = tried.differences; small = tried.small }

-- a shift that does not fit is not 12
more_fit : (below : List ℕ) (s : ℕ) (fit : Bool) → s < 13 → ((k : ℕ) → get_or below k 0 < 63488) → fit ≡ all_fit (depths_of below s) → not fit ≡ true → s + 1 < 13
more_fit below s fit few small is failed =
    elim (cases_lt (s + 1) 13) [
      | inl lt ↦ lt
      | inr le ↦
          let last : s ≡ 12 = omega arith in
          absurd (false≢true (sym (not-true fit failed) ∙ is ∙ ap (λ k. all_fit (depths_of below k)) last ∙ twelve_fits below (λ k. omega (arith, small k))))
    ]

pub try_shift-tried-requires-in-shifts-clause-shift : goal.try_shift-tried-requires-in-shifts-clause-shift
try_shift-tried-requires-in-shifts-clause-shift c =
    more_fit (turned (c.args.near ++ c.args.far)) c.shifts.shift c.shifts.tried.fits c.shifts.invariant.few c.requires.each c.shifts.invariant.fits_is c.shifts-test.true

pub shifts-preserved : goal.shifts-preserved
shifts-preserved c =
    let below = turned (c.args.near ++ c.args.far) in
    let known = c.shifts.invariant in
    let tried = c.try_shift-tried-in-shifts.ensures in
    record {
      few = more_fit below c.shifts.shift c.shifts.tried.fits known.few c.requires.each known.fits_is c.shifts-test.true;
      before = λ k lt. elim (cases_lt k c.shifts.shift) [
        | inl earlier ↦ known.before k earlier
        | inr here ↦ let same : k ≡ c.shifts.shift = omega arith in ap (λ s. all_fit (depths_of below s)) same ∙ sym known.fits_is ∙ not-true c.shifts.tried.fits c.shifts-test.true
      ];
      first = tried.first;
      fits_is = tried.fits;
      differences = tried.differences;
      small = tried.small;
    }

pub returns-clause-least : goal.returns-clause-least
returns-clause-least c =
    let known = c.shifts.invariant in
    shift_found (turned (c.args.near ++ c.args.far)) c.shifts.shift known.few known.before (sym known.fits_is ∙ (not-false c.shifts.tried.fits c.shifts-test.false))

pub returns-clause-differences : goal.returns-clause-differences
returns-clause-differences c = c.shifts.invariant.differences (not-false c.shifts.tried.fits c.shifts-test.false)

pub returns-clause-small : goal.returns-clause-small
returns-clause-small c = c.shifts.invariant.small (not-false c.shifts.tried.fits c.shifts-test.false)
