-- Kinds of samples, and the channels of a list.
use Rattle.std.specs.Prelude.{ℕ, Bool, List, [], slice_index_or, nat_eq}
use Rattle.std.specs.Cmp.Lexicographic.{pointwise}
use Rattle.exr_base.specs.declared.channel.Kind.{Kind}
use Rattle.exr_base.specs.declared.channel.Kind.TheVariants.{Uint, Half, Float}
use Rattle.exr_base.specs.declared.channel.Channel.{Channel}

-- the bytes of a sample
abbrev pub bytes_of : Kind → ℕ
bytes_of Uint = 4
bytes_of Half = 2
bytes_of Float = 4

-- the channel at a place. There is none after the last one: what stands there is in no part.
abbrev pub no_channel : Channel
no_channel = record { name = []; kind = Uint; linear = 0; xs = 0; ys = 0 }

abbrev pub channel_at : List Channel → ℕ → Channel
channel_at channels c = slice_index_or channels c no_channel

-- the channel has that name
abbrev pub is_named : List ℕ → Channel → Bool
is_named name c = pointwise nat_eq c.name name
