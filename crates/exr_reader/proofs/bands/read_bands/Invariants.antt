use Rattle.std.proofs.Common.{◌≡◌, ◌≤◌, ◌-◌, ◌^◌, ◌-ℤ◌, ◌+ℤ◌, ◌≤ℤ◌, pos, nat_abs, IsTrue, None, length, vec_len}
use Rattle.exr_image.specs.Image.{HasRows}
use Rattle.exr_chunks.specs.Region.{header_at}
use Rattle.exr_stream.specs.Stream.{file_of, IsSameStream}
use Rattle.exr_reader.specs.Deep.{AreRead, AreCutAt, pixels_in}
use Rattle.exr_reader.proofs.bands.read_bands.Given as goal

-- the image has the lines above, which are those of the chunks before
abbrev pub invariant-rows : goal.invariant-rows
invariant-rows g l = record {
  many : vec_len l.image.channels ≡ length (header_at l.initial.stream.head.parts l.what.part).channels;
  image : IsTrue g.S.Source.means.tells → HasRows (pixels_in (file_of g.S.Source.means l.initial.stream) l.what.part) (header_at l.initial.stream.head.parts l.what.part).channels l.window
      (nat_abs (l.top -ℤ l.window.y0)) l.image;
  read : IsTrue g.S.Source.means.tells → AreRead (file_of g.S.Source.means l.initial.stream) l.what.part l.window l.what.chunks.now l.rank l.size;
  most : l.size ≤ 2 ^ 42;
  cut : AreCutAt (header_at l.initial.stream.head.parts l.what.part) l.window l.what.chunks.now l.rank (l.top);
  low : l.window.y0 ≤ℤ l.top;
  high : l.top ≤ℤ (l.window.y1 +ℤ pos 1);
  within : l.rank ≤ length l.what.chunks.now;
  same : IsSameStream g.S.Source.means l.initial.stream l.stream;
  later : g.S.Source.means.faults l.initial.stream.source ≤ g.S.Source.means.faults l.stream.source;
  rest : l.jobs.begun ≡ None;
}

abbrev pub decreases-rows : goal.decreases-rows
decreases-rows g l = length l.what.chunks.now - l.rank
