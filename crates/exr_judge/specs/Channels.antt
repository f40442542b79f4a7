-- Channel lists. File Layout, "Predefined Attribute Types" (chlist).
use Rattle.std.specs.Prelude.{◌==◌, ◌+◌, ◌-◌, ◌^◌, ◌&&◌, nat_lt, nat_le, ℕ, zero, suc, Bool, List, [], ◌∷◌, ◌++◌, length, take, drop, slice_index, slice_get, Option, Some, None, option_and_then, if◌then◌else◌}
use Rattle.std.specs.List.{position}
use Rattle.std.specs.Cmp.Lexicographic.{slice_cmp}
use Rattle.std.specs.Ordering.{nat_cmp, is_lt}
use Rattle.exr_base.specs.Name.{name_of}
use Rattle.exr_base.specs.declared.channel.Kind.{Kind}
use Rattle.exr_base.specs.declared.channel.Kind.TheVariants.{Uint, Half, Float}
use Rattle.exr_base.specs.declared.channel.Channel.{Channel}
use Rattle.exr_judge.specs.Words.{word_of}

infixl 10 ◌>>=◌
abbrev pub ◌>>=◌ : {A B : Type 0} → Option A → (A → Option B) → Option B
o >>= f = option_and_then f o

-- the kind of samples of a number
abbrev pub kind_numbered : ℕ → Option Kind
kind_numbered n = if n == 0 then Some Uint else (if n == 1 then Some Half else (if n == 2 then Some Float else None))

-- a sampling is an int of at least 1
abbrev pub is_sampling : ℕ → Bool
is_sampling n = nat_le 1 n && nat_lt n (2 ^ 31)

-- a channel of some name: sample type, pLinear, three bytes that are not judged, and the samplings
unfoldable pub channel_named : List ℕ → List ℕ → Option Channel
channel_named name fields =
    if nat_lt (length fields) 16 then None else (
    if is_sampling (word_of fields 8) && is_sampling (word_of fields 12) then (do
      kind ← kind_numbered (word_of fields 0)
      Some (record { name = name; kind = kind; linear = slice_index fields 4; xs = word_of fields 8; ys = word_of fields 12 }))
    else None)

-- a channel at the front, and what stands behind it
unfoldable pub channel_at : List ℕ → Option (Channel × List ℕ)
channel_at bytes = do
  ends ← position (λ b. b == 0) bytes
  name ← name_of (take ends bytes)
  channel ← channel_named name (drop (ends + 1) bytes)
  Some (channel, drop (ends + 17) bytes)

-- the name of the last of some channels, empty where there is none
abbrev pub name_in : Option Channel → List ℕ
name_in None = []
name_in (Some c) = c.name

abbrev pub last_name : List Channel → List ℕ
last_name cs = name_in (slice_get cs (length cs - 1))

-- a channel whose name is above another
abbrev pub above_only : List ℕ → Option (Channel × List ℕ) → Option (Option (Channel × List ℕ))
above_only above None = None
above_only above (Some next) = if is_lt (slice_cmp nat_cmp above next.0.name) then Some (Some next) else None

-- the zero byte that closes a list and ends it, or the next channel, whose name is above another
unfoldable pub next_channel : List ℕ → List ℕ → Option (Option (Channel × List ℕ))
next_channel above [] = None
next_channel above (zero ∷ rest) = if length rest == 0 then Some None else None
next_channel above (suc b ∷ rest) = above_only above (channel_at (suc b ∷ rest))

-- the channels before, where the list is closed, or what reading on gives
abbrev pub listed : (List Channel → List ℕ → Option (List Channel)) → List Channel → Option (Channel × List ℕ) → Option (List Channel)
listed reading_on before None = Some before
listed reading_on before (Some next) = reading_on (before ++ next.0 ∷ []) next.1

-- the channels of a list behind others, at most n more
unfoldable pub channels_from : ℕ → List Channel → List ℕ → Option (List Channel)
channels_from zero before bytes = None
channels_from (suc n) before bytes = do
  next ← next_channel (last_name before) bytes
  listed (channels_from n) before next

-- the channel list that a value is, or none; it has fewer channels than bytes
unfoldable pub channels_of : List ℕ → Option (List Channel)
channels_of value = channels_from (length value) [] value
