-- Reading the words one after the other, as a loop does.
use Rattle.std.proofs.Common.{◌≡◌, ◌+◌, ◌<◌, ◌≤◌, ℕ, List, ◌∷◌, length, get_or, drop, Result, Ok, Err, refl, sym, ap, ◌∙◌, add-one, drop-cons, String}
use Rattle.std.specs.Prelude.{string_bytes}
use Rattle.std.specs.declared.alloc.Global.{Global}
use Rattle.std.proofs.lemmas.List.{drop_all}
use Rattle.exr_base.specs.Refusal.{◌>>=◌, Refuses}
use Rattle.exr_base.specs.declared.refusal.Refusal.{Refusal}
use Rattle.exr_base.specs.declared.refusal.Refusal.TheVariants as refusal
use Rattle.exr_words.specs.declared.order.WordFault.{WordFault}
use Rattle.exr_words.specs.declared.names.Verb.{Verb}
use Rattle.exr_words.specs.Command.{Command}
use Rattle.exr_words.specs.Fields.{Fields}
use Rattle.exr_words.specs.Words.{texts_of, fields_with, read_from, command_with, or_fault_at}

-- what reading the words from an index on gives
abbrev pub rest : Verb → ℕ → Fields → List (String Global) → ℕ → Result Command WordFault
rest verb place f keys i = read_from verb place f (texts_of (drop i keys))

-- what the word at an index makes of the fields
abbrev pub at_word : Verb → ℕ → Fields → String Global → Result Fields WordFault
at_word verb place f word = or_fault_at place (fields_with verb f (string_bytes word))

first_left : (keys : List (String Global)) (i : ℕ) (word : String Global) → i < length keys → word ≡ get_or keys i word → texts_of (drop i keys) ≡ string_bytes word ∷ texts_of (drop (i + 1) keys)
first_left keys i word lt is =
    let e : drop i keys ≡ get_or keys i word ∷ drop (i + 1) keys = rw add-one (drop-cons keys i word lt) in
    ap texts_of e ∙ ap (λ w. string_bytes w ∷ texts_of (drop (i + 1) keys)) (sym is)

step : (verb : Verb) (place : ℕ) (f : Fields) (keys : List (String Global)) (i : ℕ) (word : String Global) (r : Result Fields WordFault) → i < length keys → word ≡ get_or keys i word → at_word verb place f word ≡ r
    → rest verb place f keys i ≡ (r >>= λ more. rest verb (place + 1) more keys (i + 1))
unfolding read_from
step verb place f keys i word r lt is e =
    ap (read_from verb place f) (first_left keys i word lt is) ∙ ap (λ r. r >>= λ more. rest verb (place + 1) more keys (i + 1)) e

-- a word that is allowed
pub goes_on : (verb : Verb) (place : ℕ) (f more : Fields) (keys : List (String Global)) (i : ℕ) (word : String Global) (total : Result Command WordFault) → i < length keys → word ≡ get_or keys i word → at_word verb place f word ≡ Ok more
    → rest verb place f keys i ≡ total → rest verb (place + 1) more keys (i + 1) ≡ total
goes_on verb place f more keys i word total lt is allowed so_far =
    sym (step verb place f keys i word (Ok more) lt is allowed) ∙ so_far

-- a word that is not
pub stops : (verb : Verb) (place : ℕ) (f : Fields) (keys : List (String Global)) (i : ℕ) (word : String Global) (total : Result Command WordFault) (e : Refusal WordFault) → i < length keys → word ≡ get_or keys i word → Refuses e (at_word verb place f word)
    → rest verb place f keys i ≡ total → Refuses e total
stops verb place f keys i word total (refusal.Fault fault) lt is refused so_far =
    sym so_far ∙ step verb place f keys i word (Err fault) lt is refused
stops verb place f keys i word total refusal.NoMemory lt is refused so_far = tt

-- the end of the words
pub ends : (verb : Verb) (place : ℕ) (f : Fields) (keys : List (String Global)) (i : ℕ) (total : Result Command WordFault) → length keys ≤ i → rest verb place f keys i ≡ total → or_fault_at place (command_with verb f) ≡ total
unfolding read_from
ends verb place f keys i total le so_far =
    let none_left : rest verb place f keys i ≡ or_fault_at place (command_with verb f) = rw (drop_all i keys le) refl in
    sym none_left ∙ so_far
