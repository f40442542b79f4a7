use Rattle.std.proofs.Common.{◌≡◌, ℕ, List, Result, Ok, Err, IfOk, Vec, Global, subst}
use Rattle.exr_base.specs.Refusal.{Gives}
use Rattle.exr_base.specs.declared.refusal.Refusal.{Refusal}
use Rattle.exr_base.specs.declared.refusal.Refusal.TheVariants as refusal
use Rattle.exr_huffman.specs.declared.fault.HufFault.{HufFault}
use Rattle.exr_huffman.specs.Blocks.{huffman_words_of}
use Rattle.exr_huffman.specs.Joined.{BlockHolds}
use Rattle.exr_huffman.proofs.Held.{block_holds, block_only}
use Rattle.exr_huffman.proofs.block.unpack.Goals as goal

found_if_ok : (packed : List ℕ) (words : ℕ) (r : Result (Vec ℕ Global) (Refusal HufFault)) → BlockHolds packed words (huffman_words_of packed words) → Gives (λ (v : Vec ℕ Global). v.items) r (huffman_words_of packed words) → IfOk r (λ v. BlockHolds packed words (Ok v.items))
found_if_ok packed words (Ok v) held gives = subst (BlockHolds packed words) gives held
found_if_ok packed words (Err e) held gives = tt

fault_if_err : (packed : List ℕ) (words : ℕ) (fault : HufFault) (r : Result (Vec ℕ Global) (Refusal HufFault)) → r ≡ Err (refusal.Fault fault) → BlockHolds packed words (huffman_words_of packed words) → Gives (λ (v : Vec ℕ Global). v.items) r (huffman_words_of packed words) → BlockHolds packed words (Err fault)
fault_if_err packed words fault r is held gives =
    let told = subst (λ (a : Result (Vec ℕ Global) (Refusal HufFault)). Gives (λ (v : Vec ℕ Global). v.items) a (huffman_words_of packed words)) is gives in
    subst (BlockHolds packed words) told held

pub returns-clause-found : goal.returns-clause-found
returns-clause-found c = found_if_ok c.args.packed.now c.args.words c.unpack_exactly.result (block_holds c.args.packed.now c.args.words c.requires.some) c.unpack_exactly.ensures

pub returns-clause-faults : goal.returns-clause-faults
returns-clause-faults c fault is = fault_if_err c.args.packed.now c.args.words fault c.unpack_exactly.result is (block_holds c.args.packed.now c.args.words c.requires.some) c.unpack_exactly.ensures

pub returns-clause-only : goal.returns-clause-only
returns-clause-only c outcome held =
    subst (λ defined. Gives (λ (v : Vec ℕ Global). v.items) c.unpack_exactly.result defined) (block_only c.args.packed.now c.args.words c.requires.some outcome held) c.unpack_exactly.ensures
