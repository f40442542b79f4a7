-- The values of an order keep to their limits, since each was tested at its word.
use Rattle.std.proofs.Common.{◌≡◌, ◌+◌, ◌-◌, ◌^◌, ◌<◌, ◌≤◌, ◌==◌, ◌&&◌, ℕ, suc, Bool, true, false, cond, nat_le, nat_lt, ℤ, pos, neg_ℤ, List, [], ◌∷◌, length, Option, Some, None, option_map, option_and_then, Result, Ok, Err, IfSome, IfOk, refl, sym, ap, ◌∙◌, subst, arith}
use Rattle.std.proofs.lemmas.Bool.Decides.{nat_tests}
use Rattle.std.proofs.lemmas.Int.{ints}
use Rattle.std.proofs.lemmas.Option.{MatchOption-at_some, option_and_then_some, same_Some}
use Rattle.std.proofs.lemmas.List.Splits.{length-slice_split}
use Rattle.std.specs.Prelude.{⊤}
use Rattle.exr_base.specs.Refusal.{◌>>=◌, Gives}
use Rattle.exr_base.specs.declared.refusal.Refusal.{Refusal}
use Rattle.exr_words.specs.declared.order.Order.{Order}
use Rattle.exr_asked.specs.declared.choices.Wanted.{Wanted}
use Rattle.exr_asked.specs.Choices.{Choices, IsNear, AreNear, AreWithin}
use Rattle.exr_words.specs.declared.order.WordFault.{WordFault}
use Rattle.exr_words.specs.declared.names.Verb.{Verb}
use Rattle.exr_words.specs.declared.names.Verb.TheVariants.{Header, Check, Extract}
use Rattle.exr_words.specs.declared.names.Key.{Key}
use Rattle.exr_words.specs.declared.names.Key.TheVariants as keys
use Rattle.exr_words.specs.declared.names.Choice.{Choice}
use Rattle.exr_words.specs.declared.names.Choice.TheVariants.{Part, Window, Layout, Channels, Pad, Fill, Byte, Workers}
use Rattle.exr_words.specs.Command.{Command, header, check, extract, some_names, command_in}
use Rattle.exr_words.specs.Names.{key_of, takes, repeats}
use Rattle.exr_words.specs.Number.{number_of, number_within}
use Rattle.exr_words.specs.Parts.{around, all_of}
use Rattle.exr_words.specs.Window.{coordinate_of, window_of}
use Rattle.exr_words.specs.Layout.{arrangement_of}
use Rattle.exr_words.specs.Channels.{items_of, wanted_of, channels_of}
use Rattle.exr_words.specs.Fields.{Fields, nothing, placed, added, chosen, put}
use Rattle.exr_words.specs.Words.{fields_with, command_with, or_fault_at, read_from}
use Rattle.exr_words.specs.Limits.{IsWithin}

-- ---- single values

if_kept : (b : Bool) (n : ℕ) (P : ℕ → Type 0) → (b ≡ true → P n) → IfSome (cond b (Some n) None) P
if_kept true n P h = h refl
if_kept false n P h = tt

in_range : (least most n : ℕ) → (nat_le least n && nat_le n most) ≡ true → (least ≤ n) × (n ≤ most)
in_range least most n h = (grind (arith, nat_tests), grind (arith, nat_tests))

range_of : (least most : ℕ) (o : Option ℕ) → IfSome (option_and_then (λ n. cond (nat_le least n && nat_le n most) (Some n) None) o) (λ n. (least ≤ n) × (n ≤ most))
range_of least most None = tt
range_of least most (Some n) =
    if_kept (nat_le least n && nat_le n most) n (λ n. (least ≤ n) × (n ≤ most)) (in_range least most n)

number_kept : (least most : ℕ) (text : List ℕ) → IfSome (number_within least most text) (λ n. (least ≤ n) × (n ≤ most))
number_kept least most text = range_of least most (number_of text)

most_kept : (o : Option ℕ) (least most : ℕ) → IfSome o (λ n. (least ≤ n) × (n ≤ most)) → IfSome o (λ n. n ≤ most)
most_kept None least most h = tt
most_kept (Some n) least most h = h.1

signed : (b : Bool) (o p : Option ℕ) → IfSome o (λ n. (0 ≤ n) × (n ≤ 2 ^ 30)) → IfSome p (λ n. (0 ≤ n) × (n ≤ 2 ^ 30)) → IfSome (cond b (option_map (λ n. neg_ℤ (pos n)) o) (option_map pos p)) IsNear
signed true None p h k = tt
signed true (Some n) p h k = record { least = omega (arith, ints); most = omega (arith, ints) }
signed false o None h k = tt
signed false o (Some n) h k = record { least = omega (arith, ints); most = omega (arith, ints) }

coordinate_near : (text : List ℕ) → IfSome (coordinate_of text) IsNear
coordinate_near [] = tt
coordinate_near (first ∷ digits) =
    signed (first == 45) (number_within 0 (2 ^ 30) digits) (number_within 0 (2 ^ 30) (first ∷ digits)) (number_kept 0 (2 ^ 30) digits) (number_kept 0 (2 ^ 30) (first ∷ digits))

near : (text : List ℕ) (z : ℤ) → coordinate_of text ≡ Some z → IsNear z
near text z e = MatchOption-at_some ⊤ IsNear z e (coordinate_near text)

bind_kept : {A B : Type 0} (o : Option A) (f : A → Option B) (P : B → Type 0) → ((x : A) → o ≡ Some x → IfSome (f x) P) → IfSome (option_and_then f o) P
bind_kept None f P h = tt
bind_kept (Some x) f P h = h x refl

window_near : (text : List ℕ) → IfSome (window_of text) AreNear
window_near text =
    bind_kept (around 44 text) _ AreNear (λ front e0. bind_kept (around 44 front.1) _ AreNear (λ middle e1. bind_kept (around 44 middle.1) _ AreNear (λ back e2.
    bind_kept (coordinate_of front.0) _ AreNear (λ x0 e3. bind_kept (coordinate_of middle.0) _ AreNear (λ y0 e4. bind_kept (coordinate_of back.0) _ AreNear (λ x1 e5. bind_kept (coordinate_of back.1) _ AreNear (λ y1 e6.
    record { x0 = near front.0 x0 e3; y0 = near middle.0 y0 e4; x1 = near back.0 x1 e5; y1 = near back.1 y1 e6 })))))))

longer : {B : Type 0} (a : Option B) (b : Option (List B)) (n : ℕ) (ys : List B) → ((ws : List B) → b ≡ Some ws → length ws ≡ n) → option_and_then (λ w. option_map (λ ws. w ∷ ws) b) a ≡ Some ys → length ys ≡ suc n
longer None b n ys h e = cc
longer (Some w) None n ys h e = cc
longer (Some w) (Some ws) n ys h e =
    let same : w ∷ ws ≡ ys = cc in
    sym (ap length same) ∙ ap suc (h ws refl)

length-all_of : {A B : Type 0} (read : A → Option B) (xs : List A) (ys : List B) → all_of read xs ≡ Some ys → length ys ≡ length xs
length-all_of read [] ys e =
    let none : [] ≡ ys = cc in
    sym (ap length none)
length-all_of read (x ∷ xs) ys e = longer (read x) (all_of read xs) (length xs) ys (length-all_of read xs) e

counted : (b : Bool) (o : Option (List Wanted)) (n : ℕ) → (b ≡ true → n ≤ 1024) → 0 < n → ((ys : List Wanted) → o ≡ Some ys → length ys ≡ n) → IfSome (cond b o None) (λ channels. (1 ≤ length channels) × (length channels ≤ 1024))
counted false o n few some count = tt
counted true None n few some count = tt
counted true (Some ys) n few some count =
    let e : length ys ≡ n = count ys refl in
    let k : n ≤ 1024 = few refl in
    (omega arith, omega arith)

channels_kept : (text : List ℕ) → IfSome (channels_of text) (λ channels. (1 ≤ length channels) × (length channels ≤ 1024))
channels_kept text =
    counted (nat_le (length (items_of text)) 1024) (all_of wanted_of (items_of text)) (length (items_of text)) (λ h. grind (arith, nat_tests))
    (omega (arith, length-slice_split (λ b. b == 44) text)) (length-all_of wanted_of (items_of text))

-- ---- fields

anything : {A : Type 0} (o : Option A) → IfSome o (λ _. Unit {0})
anything None = tt
anything (Some x) = tt

placed_kept : {A : Type 0} (P : A → Type 0) (before value : Option A) → IfSome value P → IfSome (placed before value) (λ v. IfSome v P)
placed_kept P None None h = tt
placed_kept P None (Some x) h = h
placed_kept P (Some b) None h = tt
placed_kept P (Some b) (Some x) h = tt

set_kept : {A : Type 0} (set : A → Choices) (o : Option A) (more : Choices) (P : A → Type 0) → option_map set o ≡ Some more → IfSome o P → ((v : A) → P v → AreWithin (set v)) → AreWithin more
set_kept set None more P e h keep = cc
set_kept set (Some v) more P e h keep = subst AreWithin (same_Some (set v) more e) (keep v h)

chosen_kept : (key : Choice) (text : List ℕ) (c more : Choices) → chosen key text c ≡ Some more → AreWithin c → AreWithin more
chosen_kept Part text c more e h = set_kept (λ v. record c { part = v }) (placed c.part (number_within 0 (2 ^ 32 - 1) text)) more (λ _. Unit {0}) e (anything (placed c.part (number_within 0 (2 ^ 32 - 1) text))) (λ v k. record { window = h.window; channels = h.channels; pad = h.pad; workers = h.workers })
chosen_kept Window text c more e h = set_kept (λ v. record c { window = v }) (placed c.window (window_of text)) more (λ v. IfSome v AreNear) e (placed_kept AreNear c.window (window_of text) (window_near text)) (λ v k. record { window = k; channels = h.channels; pad = h.pad; workers = h.workers })
chosen_kept Layout text c more e h = set_kept (λ v. record c { layout = v }) (placed c.layout (arrangement_of text)) more (λ _. Unit {0}) e (anything (placed c.layout (arrangement_of text))) (λ v k. record { window = h.window; channels = h.channels; pad = h.pad; workers = h.workers })
chosen_kept Channels text c more e h = set_kept (λ v. record c { channels = v }) (placed c.channels (channels_of text)) more (λ v. IfSome v (λ channels. (1 ≤ length channels) × (length channels ≤ 1024))) e (placed_kept (λ channels. (1 ≤ length channels) × (length channels ≤ 1024)) c.channels (channels_of text) (channels_kept text)) (λ v k. record { window = h.window; channels = k; pad = h.pad; workers = h.workers })
chosen_kept Pad text c more e h = set_kept (λ v. record c { pad = v }) (placed c.pad (number_within 0 65535 text)) more (λ v. IfSome v (λ n. n ≤ 65535)) e (placed_kept (λ n. n ≤ 65535) c.pad (number_within 0 65535 text) (most_kept (number_within 0 65535 text) 0 65535 (number_kept 0 65535 text))) (λ v k. record { window = h.window; channels = h.channels; pad = k; workers = h.workers })
chosen_kept Fill text c more e h = set_kept (λ v. record c { fill = v }) (placed c.fill (number_within 0 (2 ^ 32 - 1) text)) more (λ _. Unit {0}) e (anything (placed c.fill (number_within 0 (2 ^ 32 - 1) text))) (λ v k. record { window = h.window; channels = h.channels; pad = h.pad; workers = h.workers })
chosen_kept Byte text c more e h = set_kept (λ v. record c { byte = v }) (placed c.byte (number_within 0 255 text)) more (λ _. Unit {0}) e (anything (placed c.byte (number_within 0 255 text))) (λ v k. record { window = h.window; channels = h.channels; pad = h.pad; workers = h.workers })
chosen_kept Workers text c more e h = set_kept (λ v. record c { workers = v }) (placed c.workers (number_within 1 16 text)) more (λ v. IfSome v (λ n. (1 ≤ n) × (n ≤ 16))) e (placed_kept (λ n. (1 ≤ n) × (n ≤ 16)) c.workers (number_within 1 16 text) (number_kept 1 16 text)) (λ v k. record { window = h.window; channels = h.channels; pad = h.pad; workers = k })

-- a field that is none of the choices
same_choices : {A : Type 0} (set : A → Fields) (o : Option A) (c : Choices) (more : Fields) → ((v : A) → (set v).choices ≡ c) → option_map set o ≡ Some more → more.choices ≡ c
same_choices set None c more same e = cc
same_choices set (Some v) c more same e = ap (λ (m : Fields). m.choices) (sym (same_Some (set v) more e)) ∙ same v

with_choices : (f more : Fields) (o : Option Choices) → option_map (λ v. record f { choices = v }) o ≡ Some more → o ≡ Some more.choices
with_choices f more None e = cc
with_choices f more (Some c) e = ap (λ (m : Fields). Some m.choices) (same_Some (record f { choices = c }) more e)

put_kept : (verb : Verb) (key : Key) (text : List ℕ) (f more : Fields) → put verb key text f ≡ Some more → AreWithin f.choices → AreWithin more.choices
put_kept verb keys.In text f more e h = subst AreWithin (sym (same_choices (λ v. record f { inputs = v }) (added (repeats verb keys.In) f.inputs text) f.choices more (λ v. refl) e)) h
put_kept verb keys.Out text f more e h = subst AreWithin (sym (same_choices (λ v. record f { output = v }) (placed f.output (Some text)) f.choices more (λ v. refl) e)) h
put_kept verb (keys.Choice choice) text f more e h = chosen_kept choice text f.choices more.choices (with_choices f more (chosen choice text f.choices) e) h

at_true : (b : Bool) (o : Option Fields) (more : Fields) → cond b o None ≡ Some more → o ≡ Some more
at_true true o more e = e
at_true false o more e = cc

word_kept : (verb : Verb) (f more : Fields) (word : List ℕ) → fields_with verb f word ≡ Some more → AreWithin f.choices → AreWithin more.choices
word_kept verb f more word e h =
    option_and_then_some _ (around 61 word) more e (λ parts e0 e1. option_and_then_some _ (key_of parts.0) more e1 (λ key e2 e3.
    put_kept verb key parts.1 f more (at_true (takes verb key && nat_lt 0 (length parts.1)) (put verb key parts.1 f) more e3) h))

-- ---- commands

header_within : (o : Option (List (List ℕ))) (command : Command) → option_map header o ≡ Some command → IsWithin command
header_within None command e = cc
header_within (Some inputs) command e = subst IsWithin (same_Some (header inputs) command e) tt

check_within : (o : Option (List (List ℕ))) (workers : Option ℕ) (command : Command) → option_map (λ inputs. check inputs workers) o ≡ Some command → IfSome workers (λ n. (1 ≤ n) × (n ≤ 16)) → IsWithin command
check_within None workers command e h = cc
check_within (Some inputs) workers command e h = subst IsWithin (same_Some (check inputs workers) command e) h

extract_within : (o : Option (List ℕ)) (inputs : List (List ℕ)) (c : Choices) (command : Command) → option_map (λ output. extract inputs output c) o ≡ Some command → AreWithin c → IsWithin command
extract_within None inputs c command e h = cc
extract_within (Some output) inputs c command e h = subst IsWithin (same_Some (extract inputs output c) command e) h

command_within : (verb : Verb) (f : Fields) (command : Command) → command_with verb f ≡ Some command → AreWithin f.choices → IsWithin command
command_within Header f command e h = header_within (some_names f.inputs) command e
command_within Check f command e h = check_within (some_names f.inputs) f.choices.workers command e h.workers
command_within Extract f command e h =
    option_and_then_some _ (some_names f.inputs) command e (λ inputs e0 e1. extract_within f.output inputs f.choices command e1 h)

found : {A : Type 0} (place : ℕ) (o : Option A) (x : A) → or_fault_at place o ≡ Ok x → o ≡ Some x
found place None x e = cc
found place (Some y) x e = cc

went_on : (place : ℕ) (o : Option Fields) (rest : Fields → Result Command WordFault) (command : Command) → (or_fault_at place o >>= rest) ≡ Ok command → (more : Fields) × (o ≡ Some more) × (rest more ≡ Ok command)
went_on place None rest command e = cc
went_on place (Some more) rest command e = (more, refl, e)

read_within : (verb : Verb) (place : ℕ) (f : Fields) (words : List (List ℕ)) (command : Command) → read_from verb place f words ≡ Ok command → AreWithin f.choices → IsWithin command
unfolding read_from
read_within verb place f [] command e h = command_within verb f command (found place (command_with verb f) command e) h
read_within verb place f (word ∷ words) command e h =
    let on = went_on place (fields_with verb f word) (λ more. read_from verb (place + 1) more words) command e in
    read_within verb (place + 1) on.0 words command on.2 (word_kept verb f on.0 word on.1 h)

-- what was read behind a command
pub keys_within : (verb : Verb) (words : List (List ℕ)) (r : Result Order (Refusal WordFault)) → Gives command_in r (read_from verb 1 nothing words) → IfOk r (λ order. IsWithin (command_in order))
keys_within verb words (Ok order) e =
    read_within verb 1 nothing words (command_in order) e (record { window = tt; channels = tt; pad = tt; workers = tt })
keys_within verb words (Err refusal) e = tt
