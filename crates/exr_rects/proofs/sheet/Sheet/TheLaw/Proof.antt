-- A `&` to a sheet lends the bound on its size and each element that it owns. Assumes `Logic`.
use mathlib.Core.Bool.{Bool, true, false}
use mathlib.Core.List.{List, [], ◌∷◌, ◌++◌}
use Prim.Native.Nat.{◌*◌, ◌^◌}
use seplogic.Ra.Ura.{Ura}
use base.Fml.{Lft, ftrue, flt, Incl-trans}
use types.Logic.{Logic}
use contract.BorrowLft.{meet_⊑_left}
use denote.RattleType.{RattleType, RowLaws}
use denote.Sharing.{ShrLaws, said}
use denote.SharingLaws.{nothing_shr_laws, said_shr_laws, beside_shr_laws}
use denote.RawPtr.{Ptr, block_ptr, null_ptr, in_block, ◌+ₚ◌}
use denote.Shares.{Shares, Shares-less}
use denote.Param.Laws.{Laws}
use denote.Param.Shared.{copy_shared}
use denote.Struct.Field.{RawPtr-field, usize-field}
use denote.Struct.Laws.{RawPtr-copy, usize-copy}
use denote.Struct.Lending.{lent_at_shr_laws, Lends, Lends-false, Lends-lies, Lends-said, Lends-nothing, Lends-both, of_Lends}
use Rattle.core.specs.Mem.Slots.Ownership.{bytes_of, slot_lent, slots_lent}
use Rattle.exr_rects.specs.Ownership.{piece, pieces}
use Rattle.exr_rects.specs.contracts.sheet.Sheet as C
use Rattle.exr_rects.proofs.sheet.Sheet.TheLaw.Statement.{statement}

module _ (R : RattleType) (L : RowLaws R) where
  piece_laws : (m : Bool) (p : Ptr) (x : R.Denot) → ShrLaws (slot_lent R m p x)
  piece_laws true p x = lent_at_shr_laws R L p x
  piece_laws false p x = nothing_shr_laws

  pieces_laws : (p : Ptr) (xs : List R.Denot) (ms : List Bool) → ShrLaws (slots_lent R p xs ms)
  pieces_laws p [] ms = nothing_shr_laws
  pieces_laws p (x ∷ xs) [] = nothing_shr_laws
  pieces_laws p (x ∷ xs) (m ∷ ms) = beside_shr_laws (slot_lent R m p x) (slots_lent R (p +ₚ bytes_of R) xs ms) (piece_laws m p x) (pieces_laws (p +ₚ bytes_of R) xs ms)

module _ {M : Type 1} {𝓤 : Ura M} (𝓛 : Logic 𝓤) (R : RattleType) (l : Lft) (s : Shares 𝓛 R l) where
  Lends-piece : (m : Bool) (p : Ptr) (x : R.Denot) → Lends 𝓛 (piece R m p x) (slot_lent R m p x) l
  Lends-piece true p x = Lends-lies 𝓛 R l p x (s x)
  Lends-piece false p x = Lends-nothing 𝓛 (piece R false p x) l

  Lends-pieces : (p : Ptr) (xs : List R.Denot) (ms : List Bool) → Lends 𝓛 (pieces R p xs ms) (slots_lent R p xs ms) l
  Lends-pieces p [] ms = Lends-nothing 𝓛 ftrue l
  Lends-pieces p (x ∷ xs) [] = Lends-nothing 𝓛 ftrue l
  Lends-pieces p (x ∷ xs) (m ∷ ms) =
      Lends-both 𝓛 (piece R m p x) (pieces R (p +ₚ bytes_of R) xs ms) (slot_lent R m p x) (slots_lent R (p +ₚ bytes_of R) xs ms) l (Lends-piece m p x) (Lends-pieces (p +ₚ bytes_of R) xs ms)

  Lends-sheet : (p : Ptr) (xs : List R.Denot) (ms : List Bool) → Lends 𝓛 (in_block p (pieces R p xs ms)) (slots_lent R p xs ms) l
  Lends-sheet (block_ptr b o) xs ms = Lends-pieces (block_ptr b o) xs ms
  Lends-sheet null_ptr xs ms = Lends-false 𝓛 (slots_lent R null_ptr xs ms) l

pub shares : (R : RattleType) (L : Laws R) → statement R L
shares R L = of_Lends (C.struct R) (C.the_codes R.Denot R.coded) (C.the_heap R) (C.the_lent R)
    (λ d p. let small = flt (d.len * bytes_of R) (2 ^ 63) in beside_shr_laws (said small) (slots_lent R d.at d.items d.mine) (said_shr_laws small tt) (pieces_laws R L.shr_laws d.at d.items d.mine))
    (copy_shared RawPtr-field RawPtr-copy, (copy_shared usize-field usize-copy, tt))
    (λ M 𝓤 𝓛 d p.
    let l = (C.the_row R).lives in
    let small = flt (d.len * bytes_of R) (2 ^ 63) in
    Lends-both 𝓛 small (in_block d.at (pieces R d.at d.items d.mine)) (said small) (slots_lent R d.at d.items d.mine) l (Lends-said 𝓛 small tt l)
    (Lends-sheet 𝓛 R l (Shares-less 𝓛 R R.lives l (Incl-trans (meet_⊑_left (R.lives ++ []) _) (meet_⊑_left R.lives [])) (L.shares 𝓛)) d.at d.items d.mine))
