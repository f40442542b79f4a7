use Rattle.std.proofs.Common.{◌≡◌, ◌++◌, ◌*◌, ◌≤◌, ◌^◌, map, drop}
use Rattle.exr_request.specs.Arranged.{plain_plane, plane_bytes, plane_for, behind, end_behind}
use Rattle.exr_request.proofs.arranged.planar.Given as goal

-- the planes so far, before those of the channels that are left
abbrev pub invariant-loop-channel : goal.invariant-loop-channel
invariant-loop-channel l = record {
  rest : map plain_plane l.planes.items ++ behind (plane_bytes l.window l.pad) (plane_for l.window l.pad l.fill) l.base (drop l.channel-index l.channels)
      ≡ behind (plane_bytes l.window l.pad) (plane_for l.window l.pad l.fill) 0 l.channels;
  ends : end_behind l.window l.base (behind (plane_bytes l.window l.pad) (plane_for l.window l.pad l.fill) l.base (drop l.channel-index l.channels))
      ≡ end_behind l.window 0 (behind (plane_bytes l.window l.pad) (plane_for l.window l.pad l.fill) 0 l.channels);
  small : l.base ≤ l.channel-index * 2 ^ 43;
}
