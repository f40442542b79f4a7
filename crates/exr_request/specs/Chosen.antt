-- The channels that slices are made for (own).
use Rattle.std.specs.Prelude.{ℕ, List, [], ◌∷◌, map, position, Option, Some, None, unwrap_or}
use Rattle.exr_base.specs.declared.channel.Channel.{Channel}
use Rattle.exr_base.specs.declared.channel.Kind.TheVariants.{Half}
use Rattle.exr_asked.specs.declared.choices.Wanted.{Wanted}
use Rattle.exr_base.specs.Channel.{channel_at, is_named}

-- a channel that a part lacks: halves, one at each pixel
abbrev pub lacked : List ℕ → Channel
lacked name = record { name = name; kind = Half; linear = 0; xs = 1; ys = 1 }

-- the channel of a part by its place, or one that it lacks
abbrev pub found : List Channel → List ℕ → Option ℕ → Channel
found channels name None = lacked name
found channels name (Some place) = channel_at channels place

abbrev pub channel_named : List Channel → List ℕ → Channel
channel_named channels name = found channels name (position (is_named name) channels)

-- a channel that is wanted is the part's of its name, of the kind that is given
abbrev pub as_wanted : Wanted → Channel → Channel
as_wanted w c = record { name = w.name; kind = unwrap_or w.kind c.kind; linear = c.linear; xs = c.xs; ys = c.ys }

abbrev pub channel_wanted : List Channel → Wanted → Channel
channel_wanted channels w = as_wanted w (channel_named channels w.name)

-- the channels that are wanted, or all of the part
abbrev pub channels_chosen : List Channel → Option (List Wanted) → List Channel
channels_chosen channels None = channels
channels_chosen channels (Some wanted) = map (channel_wanted channels) wanted

-- the first of some channels, whose samplings are those of all that share lines or pixels
abbrev pub first_of : List Channel → Channel
first_of [] = lacked []
first_of (c ∷ channels) = c
