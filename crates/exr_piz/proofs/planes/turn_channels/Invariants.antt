use Rattle.std.proofs.Common.{◌≡◌, ◌+◌, ◌++◌, length, take, drop, sum_by}
use Rattle.exr_piz.specs.Planes.{channel_words_of, channels_by}
use Rattle.exr_piz.specs.Turns.{turn_by}
use Rattle.exr_piz.proofs.planes.turn_channels.Given as goal

abbrev pub invariant-loop-channel : goal.invariant-loop-channel
invariant-loop-channel l = record {
  left : l.at + sum_by (channel_words_of l.region) (drop l.channel-index l.shape.channels.now) ≡ length l.words;
  so_far : take l.at l.words ++ channels_by (turn_by l.way l.max) l.region (drop l.channel-index l.shape.channels.now) (drop l.at l.words)
      ≡ channels_by (turn_by l.way l.max) l.region l.shape.channels.now l.initial.words;
}
