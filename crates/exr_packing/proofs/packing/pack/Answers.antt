use Rattle.std.proofs.Common.{◌≡◌, ◌<◌, ◌≤◌, ◌^◌, List, ℕ, Result, Ok, Err, IfOk, Vec, Global, length, ap, ◌∙◌}
use Rattle.exr_base.specs.declared.refusal.NoMemory.{NoMemory}
use Rattle.exr_huffman.specs.Blocks.{huffman_words_of}
use Rattle.exr_packing.specs.Packed.{pack_of, greatest_of}
use Rattle.exr_packing.proofs.Weighing.{lengths_complete, greatest_small}
use Rattle.exr_packing.proofs.Restored.{restored}
use Rattle.exr_packing.proofs.packing.pack.Goals as goal

restores_if_ok : (words : List ℕ) → 0 < length words → length words ≤ 2 ^ 25 → greatest_of words ≤ 65535 → (r : Result (Vec ℕ Global) NoMemory) → IfOk r (λ v. v.items ≡ pack_of words) → IfOk r (λ v. huffman_words_of v.items (length words) ≡ Ok words)
restores_if_ok words some most small (Ok v) exact = ap (λ packed. huffman_words_of packed (length words)) exact ∙ restored words some most small
restores_if_ok words some most small (Err e) exact = tt

pub returns-clause-restores : goal.returns-clause-restores
returns-clause-restores c = restores_if_ok c.args.words.now c.requires.some c.requires.most (greatest_small c.args.words.now (λ k. (c.type_inv.words k).fits)) c.pack_exactly.result c.pack_exactly.ensures

pub returns-clause-short : goal.returns-clause-short
returns-clause-short c = (lengths_complete c.args.words.now c.requires.some c.requires.most).1
