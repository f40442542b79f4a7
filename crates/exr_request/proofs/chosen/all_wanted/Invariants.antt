use Rattle.std.proofs.Common.{◌≡◌, take, map}
use Rattle.exr_request.specs.Chosen.{channel_wanted}
use Rattle.exr_request.proofs.chosen.all_wanted.Given as goal

abbrev pub invariant-loop-one : goal.invariant-loop-one
invariant-loop-one l = l.chosen.items ≡ map (channel_wanted l.channels) (take l.one-index l.wanted)
