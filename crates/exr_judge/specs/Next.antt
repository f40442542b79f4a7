-- What stands next in a channel list, as the code says it.
use Rattle.std.specs.Prelude.{ℕ, List, Option, Some, None}
use Rattle.exr_base.specs.declared.channel.Channel.{Channel}
use Rattle.exr_base.specs.Shape.{IsSampled}
use Rattle.exr_judge.specs.declared.channels.Next.{Next}
use Rattle.exr_judge.specs.declared.channels.Next.TheVariants as next

-- nothing, the end, or a channel with what stands behind it
abbrev pub next_of : Next → Option (Option (Channel × List ℕ))
next_of (next.Channel c behind) = Some (Some (c, behind.now))
next_of next.Closed = Some None
next_of next.Broken = None

abbrev pub NextIsSampled : Next → Type 0
NextIsSampled (next.Channel c behind) = IsSampled c
NextIsSampled next.Closed = Unit {0}
NextIsSampled next.Broken = Unit {0}
