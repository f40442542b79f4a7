-- What a sheet owns, at any element type R: the elements that its marks name, and of the others nothing.
use Rattle.std.specs.Prelude.{ℕ, ◌*◌, ◌^◌, Bool, true, false, List, [], ◌∷◌}
use base.Fraction.{full_share}
use base.Fml.{Fml, ftrue, fsep, flt}
use denote.RattleType.{RattleType}
use denote.RawPtr.{Ptr, lies_at, in_block, ◌+ₚ◌}
use Rattle.core.specs.Mem.Slots.Ownership.{bytes_of}

-- a marked element lies at p, whole; one that is not marked is another's
abbrev pub piece : (R : RattleType) → Bool → Ptr → R.Denot → Fml
piece R true p x = lies_at R full_share p x
piece R false p x = ftrue

-- the elements from p on, side by side
abbrev pub pieces : (R : RattleType) → Ptr → List R.Denot → List Bool → Fml
pieces R p [] ms = ftrue
pieces R p (x ∷ xs) [] = ftrue
pieces R p (x ∷ xs) (m ∷ ms) = fsep (piece R m p x) (pieces R (p +ₚ bytes_of R) xs ms)

-- n elements from p on, which take fewer than 2 ^ 63 bytes of one block
abbrev pub owned : (R : RattleType) → Ptr → ℕ → List R.Denot → List Bool → Fml
owned R p n xs ms = fsep (flt (n * bytes_of R) (2 ^ 63)) (in_block p (pieces R p xs ms))
