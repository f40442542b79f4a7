use Rattle.std.proofs.Common.{◌≡◌, ◌≤◌, Some, take, length}
use Rattle.exr_words.specs.Parts.{all_of}
use Rattle.exr_words.specs.Channels.{items_of, wanted_of}
use Rattle.exr_words.proofs.channels.channels.Given as goal

-- the channels of the items so far
abbrev pub invariant-loop-item : goal.invariant-loop-item
invariant-loop-item l = record {
  counts : length l.channels.items ≡ length l.yielded;
  few : length l.yielded ≤ 1024;
  so_far : all_of wanted_of (take (length l.yielded) (items_of l.text)) ≡ Some l.channels.items;
}
