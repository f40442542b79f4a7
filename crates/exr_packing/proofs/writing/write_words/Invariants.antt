use Rattle.std.proofs.Common.{◌≡◌, ◌+◌, ◌-◌, ◌*◌, ◌≤◌, ◌++◌, length, drop}
use Rattle.exr_encoder.specs.Writing.{written}
use Rattle.exr_huffman.specs.Joined.{tokens_bits}
use Rattle.exr_packing.specs.Packed.{packed_tokens}
use Rattle.exr_packing.specs.Costs.{cost_of}
use Rattle.exr_packing.proofs.writing.write_words.Given as goal

abbrev pub invariant-words : goal.invariant-words
invariant-words l = record {
  within : l.at ≤ length l.words;
  room : 8 * l.pen.at + l.pen.have + cost_of l.least l.encoder (drop l.at l.words) ≤ cost_of l.least l.encoder l.words;
  so_far : written l.pen.at l.pen.have l.pen.pending l.out ++ tokens_bits l.least l.encoder (packed_tokens l.least l.encoder (drop l.at l.words)) ≡ tokens_bits l.least l.encoder (packed_tokens l.least l.encoder l.words);
}

abbrev pub decreases-words : goal.decreases-words
decreases-words l = length l.words - l.at
