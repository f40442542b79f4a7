-- The multiples of a sampling come again, and how many lie below a place.
use Rattle.std.proofs.Common.{◌≡◌, ◌≢◌, ℕ, zero, suc, ◌+◌, ◌-◌, ◌*◌, ◌/◌, ◌%◌, ◌<◌, ◌≤◌, min, max, ℤ, pos, negsuc, ◌+ℤ◌, nat_abs, Bool, true, false, cond, eqb, refl, sym, ap, ap₂, ◌∙◌, inl, inr, arith}
use Rattle.std.proofs.lemmas.Nat.{div-add-mod', div-mul-add, mod-mul-add, mod_below, mul-le, le-div}
use Rattle.std.proofs.lemmas.Int.{ints}
use Rattle.std.proofs.lemmas.Bool.{cases_lt}
use Rattle.std.proofs.lemmas.Bool.Decides.{nat_tests}
use Rattle.std.proofs.Math.Nat.{div-mul-le_self}
use Rattle.exr_base.specs.Sampling.{is_multiple, multiples_among}
use Rattle.exr_base.proofs.Multiples.{quotient_more}
use Rattle.exr_chunks.specs.RawBytes.{samples_in}

-- ---- what lies a multiple further on

pub more_whole : (s q n : ℕ) → 0 < s → (q * s + n) % s ≡ n % s
more_whole s q n some =
    let parts : q * s + n ≡ (q + n / s) * s + n % s = omega (arith, div-add-mod' n s) in
    ap (λ k. k % s) parts ∙ mod-mul-add (q + n / s) s (n % s) (mod_below n s some)

pub no_rest : (s q : ℕ) → 0 < s → (q * s) % s ≡ 0
no_rest s q some =
    let parts : q * s ≡ q * s + 0 = omega arith in
    ap (λ k. k % s) parts ∙ mod-mul-add q s 0 some

-- of two numbers whose sum is a multiple, both are multiples or none is
other_whole : (s q d n : ℕ) → 0 < s → d + n ≡ q * s → d % s ≡ 0 → n % s ≡ 0
other_whole s q d n some sum whole =
    let k : ℕ = d / s in
    let a : d ≡ k * s = omega (arith, div-add-mod' d s, whole) in
    elim (cases_lt q k) [
      | inl lt ↦
          let more : (q + 1) * s ≤ k * s = mul-le (q + 1) s k s (omega (arith, lt)) (omega arith) in
          absurd (omega (arith, more, a, sum, some))
      | inr le ↦
          let j : ℕ = q - k in
          let parts : q ≡ k + j = omega (arith, le) in
          let times : q * s ≡ (k + j) * s = ap (λ m. m * s) parts in
          let b : n ≡ j * s = omega (arith, a, sum, times) in
          ap (λ m. m % s) b ∙ no_rest s j some
    ]

same_tests : (s q d n : ℕ) → 0 < s → d + n ≡ q * s → eqb (d % s) 0 ≡ eqb (n % s) 0
same_tests s q d n some sum =
    let turned : n + d ≡ q * s = omega (arith, sum) in
    let P : Bool → Type 0 = λ b. eqb (d % s) 0 ≡ b → b ≡ eqb (n % s) 0 in
    (elim (eqb (d % s) 0) as P [
      | true ↦ λ here.
          let whole : d % s ≡ 0 = grind (arith, nat_tests) in
          let other = other_whole s q d n some sum whole in
          rw other refl
      | false ↦ λ here.
          let some_rest : d % s ≢ 0 = grind (arith, nat_tests) in
          let Q : Bool → Type 0 = λ b. eqb (n % s) 0 ≡ b → false ≡ b in
          (elim (eqb (n % s) 0) as Q [
            | true ↦ λ there.
                let whole : n % s ≡ 0 = grind (arith, nat_tests) in
                absurd (some_rest (other_whole s q n d some turned whole))
            | false ↦ λ there. refl
          ]) refl
    ]) refl

-- behind a multiple, what lies as far behind 0 is a multiple with it
pub again : (s : ℕ) (z : ℤ) (n : ℕ) → 0 < s → is_multiple s z ≡ true → is_multiple s (z +ℤ pos n) ≡ is_multiple s (pos n)
again s (pos a) n some multiple =
    let whole : a % s ≡ 0 = grind (arith, nat_tests) in
    let at : a + n ≡ a / s * s + n = omega (arith, div-add-mod' a s, whole) in
    ap (λ k. eqb (k % s) 0) at ∙ ap (λ k. eqb k 0) (more_whole s (a / s) n some)
again s (negsuc a) n some multiple =
    let whole : suc a % s ≡ 0 = grind (arith, nat_tests) in
    let at : suc a ≡ suc a / s * s = omega (arith, div-add-mod' (suc a) s, whole) in
    elim (cases_lt n (suc a)) [
      | inl low ↦
          let there : nat_abs (negsuc a +ℤ pos n) ≡ suc a - n = omega (arith, ints, low) in
          ap (λ k. eqb (k % s) 0) there ∙ same_tests s (suc a / s) (suc a - n) n some (omega (arith, low, at))
      | inr high ↦
          let there : nat_abs (negsuc a +ℤ pos n) ≡ n - suc a = omega (arith, ints, high) in
          let back : suc a / s * s + (n - suc a) ≡ n = omega (arith, high, at) in
          ap (λ k. eqb (k % s) 0) there ∙ ap (λ k. eqb k 0) (sym (more_whole s (suc a / s) (n - suc a) some) ∙ ap (λ k. k % s) back)
    ]

-- so there are as many among n places
pub as_many : (s : ℕ) (z : ℤ) (a n : ℕ) → 0 < s → is_multiple s z ≡ true → multiples_among s (z +ℤ pos a) n ≡ multiples_among s (pos a) n
unfolding multiples_among
as_many s z a zero some multiple = refl
as_many s z a (suc n) some multiple =
    let there : z +ℤ pos a +ℤ pos n ≡ z +ℤ pos (a + n) = omega (arith, ints) in
    let one : is_multiple s (z +ℤ pos a +ℤ pos n) ≡ is_multiple s (pos a +ℤ pos n) = ap (is_multiple s) there ∙ again s z (a + n) some multiple in
    ap₂ (λ k b. k + cond b 1 0) (as_many s z a n some multiple) one

-- ---- how many multiples lie below a place

unfoldable pub below : ℕ → ℕ → ℕ
below s t = (t + s - 1) / s

below_none : (s : ℕ) → 0 < s → below s 0 ≡ 0
unfolding below
below_none s some =
    let at : 0 + s - 1 ≡ 0 * s + (s - 1) = omega arith in
    ap (λ k. k / s) at ∙ div-mul-add 0 s (s - 1) (omega (arith, some))

-- behind a multiple there is one more, up to the next
pub below_next : (s line t : ℕ) → 0 < s → line % s ≡ 0 → line < t → t ≤ line + s → below s t ≡ line / s + 1
unfolding below
below_next s line t some whole low high =
    let at : t + s - 1 ≡ (line / s + 1) * s + (t - line - 1) = omega (arith, div-add-mod' line s, whole, low, some) in
    ap (λ k. k / s) at ∙ div-mul-add (line / s + 1) s (t - line - 1) (omega (arith, low, high))

pub below_here : (s line : ℕ) → 0 < s → line % s ≡ 0 → below s line ≡ line / s
unfolding below
below_here s line some whole =
    let at : line + s - 1 ≡ line / s * s + (s - 1) = omega (arith, div-add-mod' line s, whole, some) in
    ap (λ k. k / s) at ∙ div-mul-add (line / s) s (s - 1) (omega (arith, some))

pub below_le : (s t u : ℕ) → 0 < s → t ≤ u → below s t ≤ below s u
unfolding below
below_le s t u some le =
    le-div ((t + s - 1) / s) (u + s - 1) s some (omega (arith, div-mul-le_self (t + s - 1) s, le))

below_more : (s t : ℕ) → 0 < s → below s (suc t) ≡ below s t + cond (eqb (t % s) 0) 1 0
unfolding below
below_more s t some =
    let at : suc t + s - 1 ≡ t + s - 1 + 1 = omega (arith, some) in
    let there : t + s - 1 + 1 ≡ 1 * s + t = omega (arith, some) in
    ap (λ k. k / s) at ∙ quotient_more s (t + s - 1) some ∙ ap (λ k. (t + s - 1) / s + cond (eqb k 0) 1 0) (ap (λ k. k % s) there ∙ more_whole s 1 t some)

none_more : (n : ℕ) → n + 0 ≡ n
none_more n = omega arith

-- they count the multiples from one place to another
pub below_counts : (s a n : ℕ) → 0 < s → below s a + multiples_among s (pos a) n ≡ below s (a + n)
unfolding multiples_among
below_counts s a zero some =
    let none : a + 0 ≡ a = omega arith in
    none_more (below s a) ∙ ap (below s) (sym none)
below_counts s a (suc n) some =
    let so_far = below_counts s a n some in
    let more = below_more s (a + n) some in
    let at : a + suc n ≡ suc (a + n) = omega arith in
    omega (arith, so_far, ap (below s) at ∙ more)

-- ---- the multiples in a piece, counted up to a place

pub so_far : ℕ → ℕ → ℕ → ℕ → ℕ
so_far s rows place i = below s (max (i * rows) (min place (i * rows + rows))) - below s (i * rows)

pub so_far_none : (s rows i : ℕ) → so_far s rows 0 i ≡ 0
unfolding so_far
so_far_none s rows i =
    let at : max (i * rows) (min 0 (i * rows + rows)) ≡ i * rows = omega arith in
    nothing_left (ap (below s) at)
  where
    nothing_left : {m n : ℕ} → m ≡ n → m - n ≡ 0
    nothing_left e = omega (arith, e)

pub so_far_all : (s rows place i : ℕ) → 0 < s → i * rows + rows ≤ place → so_far s rows place i ≡ samples_in rows i s
unfolding so_far
so_far_all s rows place i some high =
    let at : max (i * rows) (min place (i * rows + rows)) ≡ i * rows + rows = omega (arith, high) in
    omega (arith, ap (below s) at, below_counts s (i * rows) rows some)

pub so_far_most : (s rows place i : ℕ) → 0 < s → so_far s rows place i ≤ samples_in rows i s
unfolding so_far
so_far_most s rows place i some =
    let at : max (i * rows) (min place (i * rows + rows)) ≤ i * rows + rows = omega arith in
    omega (arith, below_le s (max (i * rows) (min place (i * rows + rows))) (i * rows + rows) some at, below_counts s (i * rows) rows some)

-- the next multiple is one more of its own piece
pub so_far_here : (s rows line i : ℕ) → 0 < s → line % s ≡ 0 → i * rows ≤ line → line < i * rows + rows → so_far s rows (line + s) i ≡ so_far s rows line i + 1
unfolding so_far
so_far_here s rows line i some whole low high =
    let at : max (i * rows) (min line (i * rows + rows)) ≡ line = omega (arith, low, high) in
    let t : ℕ = max (i * rows) (min (line + s) (i * rows + rows)) in
    let next = below_next s line t some whole (omega (arith, low, high, some)) (omega (arith, low, high, some)) in
    omega (arith, ap (below s) at, below_here s line some whole, next, below_le s (i * rows) line some low)

-- and of no piece before or behind
pub so_far_before : (s rows line i : ℕ) → i * rows + rows ≤ line → so_far s rows (line + s) i ≡ so_far s rows line i
unfolding so_far
so_far_before s rows line i high =
    let at : max (i * rows) (min (line + s) (i * rows + rows)) ≡ max (i * rows) (min line (i * rows + rows)) = omega (arith, high) in
    ap (λ k. below s k - below s (i * rows)) at

pub so_far_behind : (s rows line i : ℕ) → 0 < s → line % s ≡ 0 → line < i * rows → so_far s rows (line + s) i ≡ so_far s rows line i
unfolding so_far
so_far_behind s rows line i some whole low =
    let a : ℕ = i * rows in
    let here : max a (min line (a + rows)) ≡ a = omega (arith, low) in
    let t : ℕ = max a (min (line + s) (a + rows)) in
    elim (cases_lt a (line + s)) [
      | inl lt ↦
          let first = below_next s line a some whole low (omega (arith, lt)) in
          let last = below_next s line t some whole (omega (arith, low)) (omega (arith, lt)) in
          omega (arith, ap (below s) here, first, last)
      | inr le ↦
          let there : t ≡ a = omega (arith, le) in
          omega (arith, ap (below s) here, ap (below s) there)
    ]
