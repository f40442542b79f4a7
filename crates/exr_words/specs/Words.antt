-- The words of a command: its name, followed by keys with values, as in `extract in=NAME out=NAME part=NUMBER`. The keys
-- are in any order, each at most once.
use Rattle.std.specs.Prelude.{◌+◌, ◌&&◌, ℕ, nat_lt, length, map, String, string_bytes, List, [], ◌∷◌, Option, Some, None, option_map, option_and_then, ok_or, Result, Err, if◌then◌else◌}
use Rattle.std.specs.declared.alloc.Global.{Global}
use Rattle.exr_base.specs.Refusal.{◌>>=◌}
use Rattle.exr_words.specs.declared.order.WordFault.{WordFault}
use Rattle.exr_words.specs.declared.names.Verb.{Verb}
use Rattle.exr_words.specs.declared.names.Verb.TheVariants.{Header, Check, Extract}
use Rattle.exr_words.specs.Command.{Command, header, check, extract, some_names}
use Rattle.exr_words.specs.Names.{verb_of, key_of, takes}
use Rattle.exr_words.specs.Parts.{around}
use Rattle.exr_words.specs.Fields.{Fields, nothing, put}

-- the words as texts
abbrev pub texts_of : List (String Global) → List (List ℕ)
texts_of words = map string_bytes words

-- the fields after one more word, where the word is allowed: it is a key of the command, `=`, which has the code 61, and
-- a value that is not empty
abbrev pub fields_with : Verb → Fields → List ℕ → Option Fields
fields_with verb f word = option_and_then
    (λ parts. option_and_then
    (λ key. if takes verb key && nat_lt 0 (length parts.1) then put verb key parts.1 f else None)
    (key_of parts.0))
    (around 61 word)

-- what a command asks for with its fields, where it has all that it needs
abbrev pub command_with : Verb → Fields → Option Command
command_with Header f = option_map header (some_names f.inputs)
command_with Check f = option_map (λ inputs. check inputs f.choices.workers) (some_names f.inputs)
command_with Extract f = option_and_then
    (λ inputs. option_map (λ output. extract inputs output f.choices) f.output)
    (some_names f.inputs)

-- the fault at a place
abbrev pub fault_at : {A : Type 0} → ℕ → Result A WordFault
fault_at place = Err (record { position = place })

abbrev pub or_fault_at : {A : Type 0} → ℕ → Option A → Result A WordFault
or_fault_at place found = ok_or found (record { position = place })

-- the words from a position on: what they ask for, or the position of the first that is invalid; where a required key is
-- missing the position is that after the last word
unfoldable pub read_from : Verb → ℕ → Fields → List (List ℕ) → Result Command WordFault
read_from verb place f [] = or_fault_at place (command_with verb f)
read_from verb place f (word ∷ words) =
    or_fault_at place (fields_with verb f word) >>= λ more. read_from verb (place + 1) more words

abbrev pub read_behind : Option Verb → List (List ℕ) → Result Command WordFault
read_behind None words = fault_at 0
read_behind (Some verb) words = read_from verb 1 nothing words

-- what a command line asks for, or the place of its first word that is not allowed, counted from 0
abbrev pub command_of : List (List ℕ) → Result Command WordFault
command_of [] = fault_at 0
command_of (word ∷ words) = read_behind (verb_of word) words
