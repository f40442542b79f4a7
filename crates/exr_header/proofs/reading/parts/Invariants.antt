use Rattle.std.proofs.Common.{◌≡◌, All, ◌-◌, ◌≤◌, ◌^◌, [], length, sum_by}
use Rattle.exr_judge.specs.Picture.{chunk_count_of, IsPicture}
use Rattle.exr_header.specs.Head.{parts_at}
use Rattle.exr_header.proofs.reading.parts.Given as goal

abbrev pub invariant-loop-i : goal.invariant-loop-i
invariant-loop-i l = record {
  counted : l.chunks ≡ sum_by chunk_count_of l.parts.items;
  pictures : All IsPicture l.parts.items;
  few : l.chunks ≤ 2 ^ 20;
  many : length l.parts.items ≡ l._i;
  so_far : parts_at (1024 - l._i) l.word l.parts.items l.from ≡ parts_at 1024 l.word [] l.fn.from;
}
