use Rattle.std.proofs.Common.{◌≡◌, ◌-◌, ◌≤◌, length, take}
use Rattle.exr_huffman.specs.Blocks.{data_bits}
use Rattle.exr_huffman.specs.Nexts.{data_rest}
use Rattle.exr_huffman.specs.Reading.{Progress}
use Rattle.exr_huffman.proofs.data.fill_words.Given as goal

abbrev pub invariant-tokens : goal.invariant-tokens
invariant-tokens l = record {
  bytes : l.window.bytes.now ≡ l.fn.window.bytes.now;
  within : l.window.at ≤ l.bits;
  fewer : l.count ≤ length l.words;
  so_far : Progress l.least l.decoder (length l.fn.words) (data_bits l.fn.window.bytes.now l.bits) (data_rest l.fn.window.bytes.now l.bits l.window.at) (take l.count l.words) l.before;
}

abbrev pub decreases-tokens : goal.decreases-tokens
decreases-tokens l = l.bits - l.window.at
