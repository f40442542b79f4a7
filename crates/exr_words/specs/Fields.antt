-- The values of the keys, each where its key was given.
use Rattle.std.specs.Prelude.{◌&&◌, ◌-◌, ◌^◌, ◌++◌, ◌||◌, ◌==◌, ℕ, Bool, List, [], ◌∷◌, length, Option, Some, None, option_map, is_none, is_some, if◌then◌else◌}
use Rattle.exr_asked.specs.Choices.{Choices, no_choices}
use Rattle.exr_words.specs.declared.names.Verb.{Verb}
use Rattle.exr_words.specs.declared.names.Key.{Key}
use Rattle.exr_words.specs.declared.names.Key.TheVariants as key
use Rattle.exr_words.specs.declared.names.Choice.{Choice}
use Rattle.exr_words.specs.declared.names.Choice.TheVariants.{Part, Window, Layout, Channels, Pad, Fill, Byte, Workers}
use Rattle.exr_words.specs.Names.{repeats}
use Rattle.exr_words.specs.Number.{number_within}
use Rattle.exr_words.specs.Window.{window_of}
use Rattle.exr_words.specs.Layout.{arrangement_of}
use Rattle.exr_words.specs.Channels.{channels_of}

-- the names of inputs in their order, the name of the output, and the choices
pub record Fields : Type 0 where
  pub inputs : List (List ℕ)
  pub output : Option (List ℕ)
  pub choices : Choices

-- before the first key
abbrev pub nothing : Fields
nothing = record { inputs = []; output = None; choices = no_choices }

-- a value goes where none was given before
abbrev pub placed : {A : Type 0} → Option A → Option A → Option (Option A)
placed before value = if is_none before && is_some value then Some value else None

-- a name goes after those before it, where the key may be repeated or none was given before
abbrev pub added : Bool → List (List ℕ) → List ℕ → Option (List (List ℕ))
added again names name = if again || length names == 0 then Some (names ++ name ∷ []) else None

-- the choices with one more value, where it is valid for the key and the key was not given before
abbrev pub chosen : Choice → List ℕ → Choices → Option Choices
chosen Part text c = option_map (λ v. record c { part = v }) (placed c.part (number_within 0 (2 ^ 32 - 1) text))
chosen Window text c = option_map (λ v. record c { window = v }) (placed c.window (window_of text))
chosen Layout text c = option_map (λ v. record c { layout = v }) (placed c.layout (arrangement_of text))
chosen Channels text c = option_map (λ v. record c { channels = v }) (placed c.channels (channels_of text))
chosen Pad text c = option_map (λ v. record c { pad = v }) (placed c.pad (number_within 0 65535 text))
chosen Fill text c = option_map (λ v. record c { fill = v }) (placed c.fill (number_within 0 (2 ^ 32 - 1) text))
chosen Byte text c = option_map (λ v. record c { byte = v }) (placed c.byte (number_within 0 255 text))
chosen Workers text c = option_map (λ v. record c { workers = v }) (placed c.workers (number_within 1 16 text))

-- the fields of a command with one more value
abbrev pub put : Verb → Key → List ℕ → Fields → Option Fields
put verb key.In text f = option_map (λ v. record f { inputs = v }) (added (repeats verb key.In) f.inputs text)
put verb key.Out text f = option_map (λ v. record f { output = v }) (placed f.output (Some text))
put verb (key.Choice choice) text f = option_map (λ v. record f { choices = v }) (chosen choice text f.choices)
