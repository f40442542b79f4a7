-- The head of an input is the head of a longer one, unless the input ends too soon.
use Rattle.std.proofs.Common.{◌≡◌, ℕ, zero, suc, ◌^◌, ◌≤◌, true, false, cond, eqb, List, [], ◌∷◌, ◌++◌, length, get_or, Result, Ok, Err, refl, sym, ap, ◌⊎◌, inl, inr, ◌∙◌, length-append, arith}
use Rattle.std.proofs.lemmas.List.{nil_from_length}
use Rattle.std.specs.Prelude.{IfOk}
use Rattle.std.specs.Str.{bytes_eq}
use Rattle.exr_base.specs.Cursor.{Position}
use Rattle.exr_base.specs.Refusal.{◌>>=◌, Gives}
use Rattle.exr_base.specs.declared.refusal.Refusal.{Refusal}
use Rattle.exr_attributes.specs.declared.fault.HeaderFault.{HeaderFault}
use Rattle.exr_attributes.specs.declared.fault.HeaderFault.TheVariants.{BadMagic, BadVersion, Limit, Truncated}
use Rattle.exr_attributes.specs.declared.fault.Bound.TheVariants as bound
use Rattle.exr_attributes.specs.Reading.{bytes_at, number_at, header_at}
use Rattle.exr_attributes.proofs.Settled.{IsIn, longer, Settled, settled_then, settled_told, settled_if, bytes_settled, number_settled, header_settled}
use Rattle.exr_judge.specs.declared.header.Header.{Header}
use Rattle.exr_header.specs.Head.{Head, magic, is_version, has_bit, word_at, version_at, part_read, some_parts, ended_parts, last_at, parts_at, single_at, many_at, head_at, head_of}
use Rattle.exr_header.specs.Settled.{IsCutShort, IsSettled}

word_settled : (input : List ℕ) (p : Position) → IsIn input p → Settled input (word_at p) (λ rest. word_at (longer rest p))
unfolding word_at
word_settled input p i =
    settled_then input (number_at p) (λ rest. number_at (longer rest p)) (λ word. cond (is_version word.0) (Ok word) (Err (BadVersion word.0))) (number_settled input p i)
    (λ word j. settled_if input (is_version word.0) (Ok word) (Err (BadVersion word.0)) (λ rest. Ok (word.0, longer rest word.1)) (λ _. Err (BadVersion word.0)) (j, λ _. refl) (inr (λ _. refl)))

version_settled : (input : List ℕ) (p : Position) → IsIn input p → Settled input (version_at p) (λ rest. version_at (longer rest p))
unfolding version_at
version_settled input p i =
    settled_then input (bytes_at 4 p) (λ rest. bytes_at 4 (longer rest p)) (λ first. cond (bytes_eq first.0 magic) (word_at first.1) (Err BadMagic)) (bytes_settled 4 input p i)
    (λ first j. settled_if input (bytes_eq first.0 magic) (word_at first.1) (Err BadMagic) (λ rest. word_at (longer rest first.1)) (λ _. Err BadMagic) (word_settled input first.1 j) (inr (λ _. refl)))

last_settled : (before : List Header) (input : List ℕ) (p : Position) → IsIn input p → Settled input (last_at before p) (λ rest. last_at before (longer rest p))
unfolding last_at
last_settled before input p i =
    settled_then input (bytes_at 1 p) (λ rest. bytes_at 1 (longer rest p)) (λ byte. cond (eqb (get_or byte.0 0 0) 0) (Ok (before, byte.1)) (Err (Limit bound.Parts))) (bytes_settled 1 input p i)
    (λ byte j. settled_if input (eqb (get_or byte.0 0 0) 0) (Ok (before, byte.1)) (Err (Limit bound.Parts)) (λ rest. Ok (before, longer rest byte.1)) (λ _. Err (Limit bound.Parts)) (j, λ _. refl) (inr (λ _. refl)))

ended_settled : (before : List Header) (input : List ℕ) (p : Position) → IsIn input p → Settled input (ended_parts before p) (λ rest. ended_parts before (longer rest p))
ended_settled before input p i =
    settled_told input (some_parts before) (λ parts. Ok (parts, p)) (λ rest parts. Ok (parts, longer rest p)) (λ _. (i, λ _. refl))

parts_settled : (n word : ℕ) (before : List Header) (input : List ℕ) (p : Position) → IsIn input p → Settled input (parts_at n word before p) (λ rest. parts_at n word before (longer rest p))
unfolding parts_at
parts_settled zero word before input p i = last_settled before input p i
parts_settled (suc n) word before input p i =
    settled_then input (header_at p) (λ rest. header_at (longer rest p)) (λ entries. cond (eqb (length entries.0) 0) (ended_parts before entries.1) (part_read word before entries.0 >>= λ part. parts_at n word (before ++ part ∷ []) entries.1)) (header_settled input p i)
    (λ entries j. settled_if input (eqb (length entries.0) 0) (ended_parts before entries.1) (part_read word before entries.0 >>= λ part. parts_at n word (before ++ part ∷ []) entries.1) (λ rest. ended_parts before (longer rest entries.1)) (λ rest. part_read word before entries.0 >>= λ part. parts_at n word (before ++ part ∷ []) (longer rest entries.1))
    (ended_settled before input entries.1 j)
    (settled_told input (part_read word before entries.0) (λ part. parts_at n word (before ++ part ∷ []) entries.1) (λ rest part. parts_at n word (before ++ part ∷ []) (longer rest entries.1)) (λ part. parts_settled n word (before ++ part ∷ []) input entries.1 j)))

single_settled : (word : ℕ) (input : List ℕ) (p : Position) → IsIn input p → Settled input (single_at word p) (λ rest. single_at word (longer rest p))
unfolding single_at
single_settled word input p i =
    settled_then input (header_at p) (λ rest. header_at (longer rest p)) (λ entries. part_read word [] entries.0 >>= λ part. Ok (record { multi = false; parts = part ∷ [] }, entries.1)) (header_settled input p i)
    (λ entries j. settled_told input (part_read word [] entries.0) (λ part. Ok (record { multi = false; parts = part ∷ [] }, entries.1)) (λ rest part. Ok (record { multi = false; parts = part ∷ [] }, longer rest entries.1)) (λ _. (j, λ _. refl)))

many_settled : (word : ℕ) (input : List ℕ) (p : Position) → IsIn input p → Settled input (many_at word p) (λ rest. many_at word (longer rest p))
unfolding many_at
many_settled word input p i =
    settled_then input (parts_at 1024 word [] p) (λ rest. parts_at 1024 word [] (longer rest p)) (λ parts. Ok (record { multi = true; parts = parts.0 }, parts.1)) (parts_settled 1024 word [] input p i) (λ parts j. (j, λ _. refl))

head_settled : (input : List ℕ) (p : Position) → IsIn input p → Settled input (head_at p) (λ rest. head_at (longer rest p))
unfolding head_at
head_settled input p i =
    settled_then input (version_at p) (λ rest. version_at (longer rest p)) (λ word. cond (has_bit 4096 word.0) (many_at word.0 word.1) (single_at word.0 word.1)) (version_settled input p i)
    (λ word j. settled_if input (has_bit 4096 word.0) (many_at word.0 word.1) (single_at word.0 word.1) (λ rest. many_at word.0 (longer rest word.1)) (λ rest. single_at word.0 (longer rest word.1)) (many_settled word.0 input word.1 j) (single_settled word.0 input word.1 j))

-- ---- a head and how many bytes it fills

abbrev counted : Result (Head × Position) HeaderFault → Result (Head × ℕ) HeaderFault
counted r = r >>= λ head. Ok (head.0, head.1.at)

counted_settled : (input : List ℕ) (r : Result (Head × Position) HeaderFault) (there : List ℕ → Result (Head × Position) HeaderFault) → Settled input r there
    → ((length input ≤ 2 ^ 24) × (counted r ≡ Err (Truncated (length input)))) ⊎ ((rest : List ℕ) → counted (there rest) ≡ counted r)
counted_settled input (Ok x) there s = inr (λ rest. ap counted (s.1 rest))
counted_settled input (Err e) there (inl s) = inl (s.short, ap Err s.fault)
counted_settled input (Err e) there (inr same) = inr (λ rest. ap counted (same rest))

abbrev start : List ℕ → Position
start input = record { whole = input; at = 0 }

starts : (input : List ℕ) → IsIn input (start input)
starts input = record { same = refl; within = omega arith; front = omega arith }

-- the bytes are cut short, or what follows them changes nothing
pub is_settled : (bytes : List ℕ) → IsCutShort bytes ⊎ IsSettled bytes
unfolding head_of
is_settled bytes =
    elim (counted_settled bytes (head_at (start bytes)) (λ rest. head_at (longer rest (start bytes))) (head_settled bytes (start bytes) (starts bytes))) [
      | inl s ↦ inl (record { short = s.0; fault = s.1 })
      | inr same ↦ inr same
    ]

-- how many bytes an answer says that a head fills
length_in : Result (Head × ℕ) HeaderFault → ℕ
length_in (Ok x) = x.1
length_in (Err e) = 0

abbrev told : Head × ℕ → Result (Head × ℕ) HeaderFault
told x = Ok x

same_length : (x y : Head × ℕ) → told x ≡ told y → x.1 ≡ y.1
unfolding length_in
same_length x y e = ap length_in e

not_both : (r : Result (Head × ℕ) HeaderFault) (x : Head × ℕ) (e : HeaderFault) → r ≡ Ok x → r ≡ Err e → ⊥
not_both r x e p q = let both : told x ≡ Err e = sym p ∙ q in absurd cc

inside_at : (input : List ℕ) (r : Result (Head × Position) HeaderFault) (there : List ℕ → Result (Head × Position) HeaderFault) (x : Head × ℕ) → Settled input r there → counted r ≡ Ok x
    → (x.1 ≤ length input) × (x.1 ≤ 2 ^ 24)
inside_at input (Ok y) there x s e =
    let at : y.1.at ≡ x.1 = same_length (y.0, y.1.at) x e in
    (omega (arith, at, s.0.within), omega (arith, at, s.0.front))
inside_at input (Err d) there x s e = absurd cc

-- a head that was read lies within the bytes, and within its limit
is_inside : (bytes : List ℕ) (x : Head × ℕ) → head_of bytes ≡ Ok x → (x.1 ≤ length bytes) × (x.1 ≤ 2 ^ 24)
unfolding head_of
is_inside bytes x e =
    inside_at bytes (head_at (start bytes)) (λ rest. head_at (longer rest (start bytes))) x (head_settled bytes (start bytes) (starts bytes)) e

-- so does one that a call answered
pub gives_inside : {X : Type 0} (view : X → Head × ℕ) (bytes : List ℕ) (r : Result X (Refusal HeaderFault)) → Gives view r (head_of bytes) → IfOk r (λ x. ((view x).1 ≤ length bytes) × ((view x).1 ≤ 2 ^ 24))
gives_inside view bytes (Ok x) g = is_inside bytes (view x) g
gives_inside view bytes (Err e) g = tt
