use Rattle.std.proofs.Common.{◌≡◌, ◌++◌, ◌*◌, ◌≤◌, take, drop}
use Rattle.std.specs.List.{sum_by}
use Rattle.exr_request.specs.Arranged.{kind_bytes, slice_for, behind}
use Rattle.exr_request.proofs.arranged.pixel_slices.Given as goal

-- the slices so far, before those of the channels that are left
abbrev pub invariant-loop-channel : goal.invariant-loop-channel
invariant-loop-channel l = record {
  rest : l.slices.items ++ behind kind_bytes (slice_for l.fill) l.at (drop l.channel-index l.channels)
      ≡ behind kind_bytes (slice_for l.fill) 0 l.channels;
  bytes : l.at ≡ sum_by kind_bytes (take l.channel-index l.channels);
  small : l.at ≤ l.channel-index * 4;
}
