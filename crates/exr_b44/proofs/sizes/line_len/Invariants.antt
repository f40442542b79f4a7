use Rattle.std.proofs.Common.{◌≡◌, ◌<◌, ◌≤◌, ◌*◌, ◌^◌, ℕ, take}
use Rattle.std.specs.List.{sum_by}
use Rattle.exr_base.specs.Channel.{channel_at}
use Rattle.exr_b44.specs.Sizes.{row_len_of}
use Rattle.exr_b44.proofs.sizes.line_len.Given as goal

abbrev pub invariant-loop-channel : goal.invariant-loop-channel
invariant-loop-channel l = record {
  so_far : l.line ≡ sum_by (row_len_of l.shape.region) (take l.channel-index l.shape.channels.now);
  small : l.line ≤ l.channel-index * 2 ^ 22;
  each : (c : ℕ) → c < l.channel-index → (channel_at l.shape.channels.now c).ys ≡ 1;
}
