use Rattle.std.proofs.Common.{◌≡◌, ℕ, ◌+◌, ◌-◌, ◌≤◌, Bool, List, length, take, cond}
use Rattle.exr_huffman.specs.Nexts.{data_rest}
use Rattle.exr_huffman.specs.Reading.{HasRead}
use Rattle.exr_huffman.proofs.fronts.take_fronts.Given as goal

abbrev pub invariant-rounds : goal.invariant-rounds
invariant-rounds l = record {
  bytes : l.window.bytes.now ≡ l.fn.window.bytes.now;
  within : l.window.at ≤ l.bits;
  from : l.fn.window.at ≤ l.window.at;
  more : l.fn.count ≤ l.count;
  fewer : l.count ≤ length l.words;
  read : (wanted : ℕ) (all : List Bool) → length l.fn.words ≤ wanted → HasRead l.least l.decoder wanted all (data_rest l.fn.window.bytes.now l.bits l.fn.window.at) (take l.fn.count l.fn.words) → HasRead l.least l.decoder wanted all (data_rest l.window.bytes.now l.bits l.window.at) (take l.count l.words);
}

abbrev pub decreases-rounds : goal.decreases-rounds
decreases-rounds l = (l.bits - l.window.at) + cond l.going 1 0
