use Rattle.std.proofs.Common.{ℕ, List, Result, Ok, Err, IfOk, Vec, Global, subst}
use Rattle.exr_base.specs.Refusal.{Gives}
use Rattle.exr_base.specs.declared.refusal.Refusal.{Refusal}
use Rattle.exr_rle.specs.declared.broken.RleBroken.{RleBroken}
use Rattle.exr_rle.specs.Unpacked.{rle_of, Unpacks}
use Rattle.exr_rle.proofs.Laws.{AreBytes, unpacks_ok, rle_of-spelling}
use Rattle.exr_rle.proofs.unpacking.unpack.Goals as goal

found_if_ok : (packed : List ℕ) (count : ℕ) → AreBytes packed → (r : Result (Vec ℕ Global) (Refusal RleBroken)) → Gives (λ (v : Vec ℕ Global). v.items) r (rle_of packed count) → IfOk r (λ v. Unpacks packed count v.items)
found_if_ok packed count are (Ok v) gives = unpacks_ok packed v.items count are gives
found_if_ok packed count are (Err e) gives = tt

pub returns-clause-found : goal.returns-clause-found
returns-clause-found c = found_if_ok c.args.packed.now c.args.raw (λ k. (c.type_inv.packed k).fits) c.unpack_exactly.result c.unpack_exactly.ensures

pub returns-clause-only : goal.returns-clause-only
returns-clause-only c bytes is counted =
    subst (λ defined. Gives (λ (v : Vec ℕ Global). v.items) c.unpack_exactly.result defined) (rle_of-spelling c.args.packed.now bytes c.args.raw is counted) c.unpack_exactly.ensures
