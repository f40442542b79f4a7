use Rattle.std.proofs.Common.{◌≡◌, List, ℕ, Result, Ok, Err, IfOk, Vec, Global, length, ap, ◌∙◌}
use Rattle.exr_base.specs.declared.refusal.NoMemory.{NoMemory}
use Rattle.exr_rle.specs.Unpacked.{rle_of}
use Rattle.exr_rle.specs.Packed.{rle_pack_of}
use Rattle.exr_rle.proofs.Laws.{AreBytes}
use Rattle.exr_rle.proofs.RoundTrip.{rle_of-rle_pack_of}
use Rattle.exr_rle.proofs.packing.pack.Goals as goal

restores_if_ok : (raw : List ℕ) → AreBytes raw → (r : Result (Vec ℕ Global) NoMemory) → IfOk r (λ v. v.items ≡ rle_pack_of raw) → IfOk r (λ v. rle_of v.items (length raw) ≡ Ok raw)
restores_if_ok raw are (Ok v) exact = ap (λ packed. rle_of packed (length raw)) exact ∙ rle_of-rle_pack_of raw are
restores_if_ok raw are (Err e) exact = tt

pub returns-clause-restores : goal.returns-clause-restores
returns-clause-restores c = restores_if_ok c.args.raw.now (λ k. (c.type_inv.raw k).fits) c.pack_exactly.result c.pack_exactly.ensures
