use Rattle.std.proofs.Common.{◌≡◌, ◌≤◌, ◌*◌, take, map}
use Rattle.std.specs.List.{sum_by}
use Rattle.exr_base.specs.Channel.{bytes_of}
use Rattle.exr_image.specs.Pieces.{ArePushed}
use Rattle.exr_image.proofs.planes.push_planes.Given as goal

abbrev pub invariant-loop-number : goal.invariant-loop-number
invariant-loop-number l = record {
  pushed : ArePushed l.channels l.chunks l.pieces (map (λ plane. plane.items) l.initial.planes) (map (λ plane. plane.items) l.planes) l.number;
  earlier : l.earlier ≡ sum_by (λ c. bytes_of c.kind) (take l.number l.channels);
  small : l.earlier ≤ 4 * l.number;
}
