-- What begins with a front of 12 bits, and how the reading goes on by it.
use Rattle.std.proofs.Common.{◌≡◌, ◌≢◌, ℕ, zero, suc, ◌+◌, ◌-◌, ◌*◌, ◌/◌, ◌%◌, ◌^◌, ◌<◌, ◌≤◌, Bool, List, [], ◌∷◌, ◌++◌, length, take, drop, get_or, set, replicate, Some, refl, sym, ap, ap₂, ◌∙◌, inl, inr, arith}
use Rattle.std.proofs.lemmas.Bool.{cases_eq}
use Rattle.std.proofs.lemmas.List.{length-drop, length-set, length-take-le, take-take, drop-drop, take-set-le, take_more_set, get_or-take}
use Rattle.std.proofs.lemmas.Nat.{shl-shr, shr-shr}
use Rattle.exr_base.specs.Bits.{number_of}
use Rattle.exr_codes.specs.Codes.{IsComplete}
use Rattle.exr_codes.specs.Windows.{IsWindow, IsCodeAt}
use Rattle.exr_codes.proofs.BitFronts.{number_of-take}
use Rattle.exr_codes.proofs.Intervals.{entry_at_found}
use Rattle.exr_codes.proofs.Rests.{window_skipped}
use Rattle.exr_huffman.specs.Tokens.{Token, word, more, token_at, words_from}
use Rattle.exr_huffman.specs.Reading.{last_from, Progress, HasRead}
use Rattle.exr_huffman.specs.Fronts.{BeginsFront, IsFront}
use Rattle.exr_huffman.specs.declared.fronts.Front.{Front}
use Rattle.exr_huffman.proofs.Progress.{goes_on_word}
use Rattle.exr_huffman.proofs.Rested.{token_word}

-- ---- the codes that begin a front

window_of_front : (bits : List Bool) (front window : ℕ) → window ≡ front * 2 ^ 52 → BeginsFront front bits → IsWindow 12 bits window
window_of_front bits front window is begins n le within =
    let size : length (take 12 bits) ≡ 12 = length-take-le 12 bits begins.0 in
    let value : number_of (take n bits) ≡ front / 2 ^ (12 - n) =
    ap number_of (sym (take-take n 12 bits le)) ∙ number_of-take n (take 12 bits) (omega (arith, size)) ∙ ap₂ (λ x k. x / 2 ^ (k - n)) begins.1 size in
    let shift : 64 - n ≡ 52 + (12 - n) = omega arith in
    let high : window / 2 ^ (64 - n) ≡ front / 2 ^ (12 - n) =
    ap₂ (λ x k. x / 2 ^ k) is shift ∙ sym (shr-shr (front * 2 ^ 52) 52 (12 - n)) ∙ ap (λ x. x / 2 ^ (12 - n)) (shl-shr front 52) in
    value ∙ sym high

module _ (least : ℕ) (lengths : List ℕ) (complete : IsComplete lengths) (run : ℕ) (size : length lengths ≡ run + 1) (front window k len : ℕ) (is : window ≡ front * 2 ^ 52) (found : IsCodeAt lengths window k len) where
  pub first_word : len ≤ 12 → k ≢ run → (bits : List Bool) → BeginsFront front bits → token_at least lengths bits ≡ Some (word (least + k), drop len bits)
  first_word short other bits begins =
      token_word least lengths bits k len run (entry_at_found lengths complete bits window k len found 12 (window_of_front bits front window is begins) short (omega (arith, begins.0))) found.is_len size other

  pub second_word : (j next : ℕ) → IsCodeAt lengths (window * 2 ^ len % 2 ^ 64) j next → len + next ≤ 12 → j ≢ run → (bits : List Bool) → BeginsFront front bits → token_at least lengths (drop len bits) ≡ Some (word (least + j), drop (len + next) bits)
  second_word j next second short other bits begins =
      let rest = drop len bits in
      let filled = window_skipped 12 len bits window (omega arith) (omega arith) (omega (arith, begins.0)) (window_of_front bits front window is begins) in
      let enough : next ≤ length rest = rw length-drop (omega (arith, begins.0)) in
      token_word least lengths rest j next run (entry_at_found lengths complete rest (window * 2 ^ len % 2 ^ 64) j next second (12 - len) filled (omega arith) enough) second.is_len size other
      ∙ ap (λ (to : List Bool). Some (word (least + j), to)) (drop-drop next len bits)

-- ---- reading by a front

module _ (least : ℕ) (lengths : List ℕ) (wanted : ℕ) (all : List Bool) where
  pub read_word : (rest : List Bool) (words : List ℕ) (w : ℕ) (behind : List Bool) → HasRead least lengths wanted all rest words → length words < wanted → token_at least lengths rest ≡ Some (word w, behind) → HasRead least lengths wanted all behind (words ++ w ∷ [])
  read_word rest words w behind read fewer token = record { before = w; so_far = goes_on_word least lengths wanted all rest words read.before w behind read.so_far fewer token }

  module _ (words : List ℕ) (count : ℕ) (room : count + 2 ≤ length words) (fits : length words ≤ wanted) (rest : List Bool) (read : HasRead least lengths wanted all rest (take count words)) where
    read_none : (a b : ℕ) → HasRead least lengths wanted all rest (take count (set (set words count a) (count + 1) b))
    read_none a b = rw (take-set-le count (set words count a) (count + 1) b (omega arith), take-set-le count words count a (omega arith)) read

    read_one : (a b : ℕ) (behind : List Bool) → token_at least lengths rest ≡ Some (word a, behind) → HasRead least lengths wanted all behind (take (count + 1) (set (set words count a) (count + 1) b))
    read_one a b behind token =
        rw (take-set-le (count + 1) (set words count a) (count + 1) b (omega arith), take_more_set words count a (omega arith)) (read_word rest (take count words) a behind read (omega (arith, length-take-le count words (omega arith))) token)

    read_two : (a b : ℕ) (middle behind : List Bool) → token_at least lengths rest ≡ Some (word a, middle) → token_at least lengths middle ≡ Some (word b, behind) → HasRead least lengths wanted all behind (take (count + 2) (set (set words count a) (count + 1) b))
    read_two a b middle behind first second =
        let once = set words count a in
        let size = length-set words count a in
        let twice : count + 2 ≡ (count + 1) + 1 = omega arith in
        let one : HasRead least lengths wanted all middle (take (count + 1) once) = rw (take_more_set words count a (omega arith)) (read_word rest (take count words) a middle read (omega (arith, length-take-le count words (omega arith))) first) in
        rw (twice, take_more_set once (count + 1) b (omega (arith, size))) (read_word middle (take (count + 1) once) b behind one (omega (arith, size, length-take-le (count + 1) once (omega (arith, size)))) second)

    pub front_read : (front : ℕ) (e : Front) → IsFront least lengths front e → BeginsFront front rest → HasRead least lengths wanted all (drop e.bits rest) (take (count + e.count) (set (set words count e.first) (count + 1) e.second))
    front_read front e is begins = elim (cases_eq e.count 0) [
      | inl none ↦
          let same : count + e.count ≡ count = omega arith in
          rw (same, is.none none) (read_none e.first e.second)
      | inr some ↦ elim (cases_eq e.count 1) [
        | inl one ↦ rw one (read_one e.first e.second (drop e.bits rest) (is.one rest begins one))
        | inr other ↦
            let both : e.count ≡ 2 = omega (arith, is.few) in
            let tokens = is.two rest begins both in
            rw both (read_two e.first e.second (drop is.len rest) (drop e.bits rest) tokens.0 tokens.1)
      ]
    ]

-- ---- the last word

past_copies : (n before : ℕ) (words : List ℕ) (other : ℕ) → get_or (before ∷ (replicate n before ++ words)) (length (replicate n before ++ words)) other ≡ get_or (before ∷ words) (length words) other
past_copies zero before words other = refl
past_copies (suc n) before words other = past_copies n before words other

last_of : (before : ℕ) (tokens : List Token) (other : ℕ) → get_or (before ∷ words_from before tokens) (length (words_from before tokens)) other ≡ last_from before tokens
unfolding words_from
last_of before [] other = refl
last_of before (word w ∷ tokens) other = last_of w tokens other
last_of before (more count ∷ tokens) other = past_copies count before (words_from before tokens) other ∙ last_of before tokens other

last_behind : (before : ℕ) (words : List ℕ) (other : ℕ) → 0 < length words → get_or (before ∷ words) (length words) other ≡ get_or words (length words - 1) other
last_behind before [] other some = absurd (omega arith)
last_behind before (w ∷ words) other some = let same : length (w ∷ words) - 1 ≡ length words = omega arith in rw same refl

last_read : (least : ℕ) (lengths : List ℕ) (wanted : ℕ) (all rest : List Bool) (words : List ℕ) (before other : ℕ) → Progress least lengths wanted all rest words before → 0 < length words → get_or words (length words - 1) other ≡ before
last_read least lengths wanted all rest words before other p some =
    sym (last_behind 0 words other some) ∙ ap (λ (ws : List ℕ). get_or (0 ∷ ws) (length ws) other) (sym p.spelled) ∙ last_of 0 p.done other ∙ p.last

-- the last word that was read is the one before what comes
pub last_at : (least : ℕ) (lengths : List ℕ) (wanted : ℕ) (all rest : List Bool) (words : List ℕ) (count before : ℕ) → Progress least lengths wanted all rest (take count words) before → 0 < count → count ≤ length words → get_or words (count - 1) 0 ≡ before
last_at least lengths wanted all rest words count before p some fits =
    let size = length-take-le count words fits in
    sym (get_or-take count words (count - 1) 0 (omega arith)) ∙ ap (λ n. get_or (take count words) (n - 1) 0) (sym size) ∙ last_read least lengths wanted all rest (take count words) before 0 p (omega (arith, size))
