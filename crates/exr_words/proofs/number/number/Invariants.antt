use Rattle.std.proofs.Common.{◌≡◌, ◌<◌, ◌^◌, true, take}
use Rattle.std.specs.List.{list_all}
use Rattle.std.specs.Char.{is_ascii_digit}
use Rattle.exr_words.specs.Number.{written_by}
use Rattle.exr_words.proofs.number.number.Given as goal

-- the digits so far, and what they write
abbrev pub invariant-loop-digit : goal.invariant-loop-digit
invariant-loop-digit l = record {
  digits : list_all is_ascii_digit (take l.digit-index l.text) ≡ true;
  sum : l.sum ≡ written_by (take l.digit-index l.text);
  below : l.sum < 10 ^ l.digit-index;
}
