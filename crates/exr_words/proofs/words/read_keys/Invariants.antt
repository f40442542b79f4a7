use Rattle.std.proofs.Common.{◌≡◌, ◌+◌}
use Rattle.exr_words.specs.Fields.{nothing}
use Rattle.exr_words.specs.Views.{fields_in}
use Rattle.exr_words.proofs.Reading.{rest}
use Rattle.exr_words.proofs.words.read_keys.Given as goal

-- reading on from here is reading all keys
abbrev pub invariant-loop-word : goal.invariant-loop-word
invariant-loop-word l = record {
  so_far : rest l.verb l.position (fields_in l.fields) l.keys l.word-index ≡ rest l.verb 1 nothing l.keys 0;
  counts : l.position ≡ l.word-index + 1;
}
