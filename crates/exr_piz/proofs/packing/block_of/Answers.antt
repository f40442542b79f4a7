use Rattle.std.proofs.Common.{◌≡◌, ◌<◌, ◌^◌, ℕ, List, Result, Ok, Err, IfOk, Vec, Global, length, subst, sym}
use Rattle.exr_base.specs.declared.refusal.NoMemory.{NoMemory}
use Rattle.exr_packing.specs.Packed.{pack_of}
use Rattle.exr_packing.proofs.Weighing.{greatest_small}
use Rattle.exr_piz.proofs.Sizes.{block_small}
use Rattle.exr_piz.proofs.packing.block_of.Goals as goal

small_if_ok : (words : List ℕ) → length (pack_of words) < 2 ^ 31 → (r : Result (Vec ℕ Global) NoMemory) → IfOk r (λ v. v.items ≡ pack_of words) → IfOk r (λ v. length v.items < 2 ^ 31)
small_if_ok words small (Ok v) exact = subst (λ (bytes : List ℕ). length bytes < 2 ^ 31) (sym exact) small
small_if_ok words small (Err e) exact = tt

pub returns-clause-small : goal.returns-clause-small
returns-clause-small c = small_if_ok c.args.words.now (block_small c.args.words.now c.requires.some c.requires.most (greatest_small c.args.words.now (λ k. (c.type_inv.words k).fits))) c.pack.result c.pack.ensures.exact
