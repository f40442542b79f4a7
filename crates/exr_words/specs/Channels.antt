-- The channels that are asked for, as `NAME,NAME:KIND`.
use Rattle.std.specs.Prelude.{◌==◌, ℕ, nat_le, bytes_eq, List, codes, length, Option, Some, None, option_map, if◌then◌else◌}
use Rattle.std.specs.List.{slice_split}
use Rattle.exr_base.specs.declared.channel.Kind.{Kind}
use Rattle.exr_base.specs.declared.channel.Kind.TheVariants.{Uint, Half, Float}
use Rattle.exr_base.specs.Name.{name_of}
use Rattle.exr_asked.specs.declared.choices.Wanted.{Wanted}
use Rattle.exr_words.specs.Parts.{◌>>=◌, around, all_of}

-- the kind of a name
abbrev pub kind_of : List ℕ → Option Kind
kind_of name =
    if bytes_eq name (codes "uint") then Some Uint else (
    if bytes_eq name (codes "half") then Some Half else (
    if bytes_eq name (codes "float") then Some Float else None))

-- a name alone, or one with a kind after a colon, which has the code 58
abbrev pub wanted_from : List ℕ → Option (List ℕ × List ℕ) → Option Wanted
wanted_from item None = option_map (λ name. record { name = name; kind = None }) (name_of item)
wanted_from item (Some parts) = do
  kind ← kind_of parts.1
  name ← name_of parts.0
  Some (record { name = name; kind = Some kind })

abbrev pub wanted_of : List ℕ → Option Wanted
wanted_of item = wanted_from item (around 58 item)

-- the parts of a text between its commas, which have the code 44
abbrev pub items_of : List ℕ → List (List ℕ)
items_of text = slice_split (λ b. b == 44) text

-- 1 to 1,024 channels, separated by commas
abbrev pub channels_of : List ℕ → Option (List Wanted)
channels_of text = if nat_le (length (items_of text)) 1024 then all_of wanted_of (items_of text) else None
