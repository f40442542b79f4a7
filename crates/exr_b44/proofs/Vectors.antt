-- Vectors as lists of their lanes.
use Rattle.std.proofs.Common.{◌≡◌, ℕ, zero, suc, ◌+◌, ◌*◌, ◌/◌, ◌%◌, ◌<◌, List, [], ◌∷◌, length, get_or, Fits, w8, w16, refl, ap, ◌∙◌, arith}
use Rattle.std.proofs.lemmas.List.FromFn.{fill_by_all}
use lib.Lanes.{Each1, number_l, digits_l}
use Rattle.std.proofs.lemmas.Simd.{Each1-get_or}
use Rattle.exr_b44.specs.Cell.{bytes_of_halves}
use Rattle.exr_b44.specs.Lanes.{words_of}

-- a list of so many elements, written out
pub whole8 : (xs : List ℕ) → length xs ≡ 8
    → xs ≡ get_or xs 0 0 ∷ get_or xs 1 0 ∷ get_or xs 2 0 ∷ get_or xs 3 0 ∷ get_or xs 4 0 ∷ get_or xs 5 0 ∷ get_or xs 6 0 ∷ get_or xs 7 0 ∷ []
whole8 xs e = fill_by_all (λ k. get_or xs k 0) xs 8 0 e (λ k lt. refl)

pub whole16 : (xs : List ℕ) → length xs ≡ 16
    → xs ≡ get_or xs 0 0 ∷ get_or xs 1 0 ∷ get_or xs 2 0 ∷ get_or xs 3 0 ∷ get_or xs 4 0 ∷ get_or xs 5 0 ∷ get_or xs 6 0 ∷ get_or xs 7 0
    ∷ get_or xs 8 0 ∷ get_or xs 9 0 ∷ get_or xs 10 0 ∷ get_or xs 11 0 ∷ get_or xs 12 0 ∷ get_or xs 13 0 ∷ get_or xs 14 0 ∷ get_or xs 15 0 ∷ []
whole16 xs e = fill_by_all (λ k. get_or xs k 0) xs 16 0 e (λ k lt. refl)

-- equal lists of eight, lane by lane
pub eight : {a b c d e f g h a' b' c' d' e' f' g' h' : ℕ} → a ≡ a' → b ≡ b' → c ≡ c' → d ≡ d' → e ≡ e' → f ≡ f' → g ≡ g' → h ≡ h'
    → ◌≡◌ {A = List ℕ} (a ∷ b ∷ c ∷ d ∷ e ∷ f ∷ g ∷ h ∷ []) (a' ∷ b' ∷ c' ∷ d' ∷ e' ∷ f' ∷ g' ∷ h' ∷ [])
eight p q r s t u v w = λ i. p i ∷ q i ∷ r i ∷ s i ∷ t i ∷ u i ∷ v i ∷ w i ∷ []

first_word : (a b rest : ℕ) → a < 256 → b < 256 → (a + 256 * (b + 256 * rest)) % 65536 ≡ a + 256 * b
first_word a b rest p q = omega arith

later_words : (a b rest : ℕ) → a < 256 → b < 256 → (a + 256 * (b + 256 * rest)) / 65536 ≡ rest
later_words a b rest p q = omega arith

pub words-digits : (n : ℕ) (xs : List ℕ) → length xs ≡ n + n → Each1 (Fits w8) xs → digits_l 65536 n (number_l 256 xs) ≡ words_of xs
words-digits zero [] long fit = refl
words-digits zero (a ∷ xs) long fit = absurd (omega arith)
words-digits (suc n) [] long fit = absurd (omega arith)
words-digits (suc n) (a ∷ []) long fit = absurd (omega arith)
words-digits (suc n) (a ∷ b ∷ rest) long fit =
    let p = first_word a b (number_l 256 rest) fit.0.fits fit.1.0.fits in
    let q = later_words a b (number_l 256 rest) fit.0.fits fit.1.0.fits in
    (λ i. p i ∷ digits_l 65536 n (q i)) ∙ ap (λ l. (a + 256 * b) ∷ l) (words-digits n rest (omega arith) fit.1.1)

pub bytes-digits : (n : ℕ) (xs : List ℕ) → length xs ≡ n → Each1 (Fits w16) xs → digits_l 256 (n + n) (number_l 65536 xs) ≡ bytes_of_halves xs
bytes-digits zero [] long fit = refl
bytes-digits zero (a ∷ xs) long fit = absurd (omega arith)
bytes-digits (suc n) [] long fit = absurd (omega arith)
bytes-digits (suc n) (a ∷ rest) long fit =
    let small : a < 65536 = fit.0.fits in
    let count : suc n + suc n ≡ suc (suc (n + n)) = omega arith in
    let p : (a + 65536 * number_l 65536 rest) % 256 ≡ a % 256 = omega arith in
    let q : (a + 65536 * number_l 65536 rest) / 256 % 256 ≡ a / 256 = omega arith in
    let r : (a + 65536 * number_l 65536 rest) / 256 / 256 ≡ number_l 65536 rest = omega arith in
    ap (λ k. digits_l 256 k (number_l 65536 (a ∷ rest))) count
    ∙ (λ i. p i ∷ q i ∷ digits_l 256 (n + n) (r i)) ∙ ap (λ l. a % 256 ∷ a / 256 ∷ l) (bytes-digits n rest (omega arith) fit.1)

-- equal lists of sixteen
pub sixteen : {a b c d e f g h k l m n o p q r a' b' c' d' e' f' g' h' k' l' m' n' o' p' q' r' : ℕ}
    → a ≡ a' → b ≡ b' → c ≡ c' → d ≡ d' → e ≡ e' → f ≡ f' → g ≡ g' → h ≡ h' → k ≡ k' → l ≡ l' → m ≡ m' → n ≡ n' → o ≡ o' → p ≡ p' → q ≡ q' → r ≡ r'
    → ◌≡◌ {A = List ℕ} (a ∷ b ∷ c ∷ d ∷ e ∷ f ∷ g ∷ h ∷ k ∷ l ∷ m ∷ n ∷ o ∷ p ∷ q ∷ r ∷ []) (a' ∷ b' ∷ c' ∷ d' ∷ e' ∷ f' ∷ g' ∷ h' ∷ k' ∷ l' ∷ m' ∷ n' ∷ o' ∷ p' ∷ q' ∷ r' ∷ [])
sixteen a b c d e f g h k l m n o p q r = λ i. a i ∷ b i ∷ c i ∷ d i ∷ e i ∷ f i ∷ g i ∷ h i ∷ k i ∷ l i ∷ m i ∷ n i ∷ o i ∷ p i ∷ q i ∷ r i ∷ []

-- the lanes of a parameter are words
pub words_fit : (xs : List ℕ) (k : ℕ) → length xs ≡ 8 → Each1 (Fits w16) xs → k < 8 → get_or xs k 0 < 65536
words_fit xs k long fit inside = (Each1-get_or _ xs k 0 (omega arith) fit).fits
