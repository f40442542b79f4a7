-- The commands and the keys by their names, which command takes which key, and how often.
use Rattle.std.specs.Prelude.{ℕ, Bool, true, false, bytes_eq, List, codes, Option, Some, None, option_map, if◌then◌else◌}
use Rattle.exr_words.specs.declared.names.Verb.{Verb}
use Rattle.exr_words.specs.declared.names.Verb.TheVariants.{Header, Check, Extract}
use Rattle.exr_words.specs.declared.names.Key.{Key}
use Rattle.exr_words.specs.declared.names.Key.TheVariants as key
use Rattle.exr_words.specs.declared.names.Choice.{Choice}
use Rattle.exr_words.specs.declared.names.Choice.TheVariants.{Part, Window, Layout, Channels, Pad, Fill, Byte, Workers}

-- the command of a name
abbrev pub verb_of : List ℕ → Option Verb
verb_of name =
    if bytes_eq name (codes "header") then Some Header else (
    if bytes_eq name (codes "check") then Some Check else (
    if bytes_eq name (codes "extract") then Some Extract else None))

-- the key with a name that chooses samples
abbrev pub choice_of : List ℕ → Option Choice
choice_of name =
    if bytes_eq name (codes "part") then Some Part else (
    if bytes_eq name (codes "window") then Some Window else (
    if bytes_eq name (codes "layout") then Some Layout else (
    if bytes_eq name (codes "channels") then Some Channels else (
    if bytes_eq name (codes "pad") then Some Pad else (
    if bytes_eq name (codes "fill") then Some Fill else (
    if bytes_eq name (codes "byte") then Some Byte else (
    if bytes_eq name (codes "workers") then Some Workers else None)))))))

-- the key with a name
abbrev pub key_of : List ℕ → Option Key
key_of name =
    if bytes_eq name (codes "in") then Some key.In else (
    if bytes_eq name (codes "out") then Some key.Out else option_map key.Choice (choice_of name))

-- the keys of each command
abbrev pub takes : Verb → Key → Bool
takes Header key.In = true
takes Header key = false
takes Check key.In = true
takes Check (key.Choice Workers) = true
takes Check key = false
takes Extract key = true

-- those that it may have more than once
abbrev pub repeats : Verb → Key → Bool
repeats Header key = false
repeats Check key = false
repeats Extract key = false
