use Rattle.std.proofs.Common.{◌≡◌, All, ◌+◌, ◌≤◌, ◌^◌, [], length, sum_by, vec_len, reverse}
use Rattle.exr_judge.specs.Picture.{chunk_count_of, IsPicture}
use Rattle.exr_header.specs.Head.{parts_given}
use Rattle.exr_header.specs.Spells.{AreHeaders}
use Rattle.exr_header.proofs.given.parts_given.Given as goal

abbrev pub invariant-each : goal.invariant-each
invariant-each l = record {
  counted : l.chunks ≡ sum_by chunk_count_of l.parts.items;
  pictures : All IsPicture l.parts.items;
  headers : AreHeaders l.parts.items;
  few : l.chunks ≤ 2 ^ 20;
  many : length l.parts.items + length l.given.items ≤ 1024;
  so_far : parts_given l.flags l.parts.items (reverse l.given.items) ≡ parts_given l.flags [] l.fn.given.items;
}

abbrev pub decreases-each : goal.decreases-each
decreases-each l = vec_len l.given
