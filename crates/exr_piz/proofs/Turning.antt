-- The planes of a channel turned one after the other, and the channels one after the other.
use Rattle.std.proofs.Common.{◌≡◌, ◌≢◌, ℕ, zero, suc, ℤ, ◌+◌, ◌^◌, ◌*◌, ◌/◌, ◌%◌, ◌<◌, ◌≤◌, inl, inr, List, [], ◌∷◌, ◌++◌, length, take, drop, get_or, refl, sym, ap, ◌∙◌, arith, append_assoc, append-nil}
use Rattle.std.specs.List.{sum_by}
use Rattle.std.proofs.Math.Nat.{div-add-mod, add-mul-mod_self_right, mod-eq_of_lt}
use Rattle.std.proofs.lemmas.Bool.{cases_eq}
use Rattle.std.proofs.lemmas.Nat.{mul-add-lt, div_below, mod_below}
use borrow.Rule.Slice.PartMut.{put_mid}
use Rattle.std.proofs.lemmas.List.{drop_more, drop_all, take_all, drop-drop, length-append, length-take, length-drop}
use Rattle.std.proofs.lemmas.Slice.{take-put_mid, drop-put_mid}
use Rattle.std.proofs.lemmas.List.FromFn.{fill_by_all, length-map-range_with_len}
use Rattle.std.proofs.lemmas.List.Sums.{sum_by-cons}
use Rattle.exr_base.specs.declared.shape.Box2i.{Box2i}
use Rattle.exr_base.specs.declared.channel.Channel.{Channel}
use Rattle.exr_base.specs.declared.channel.Kind.{Kind}
use Rattle.exr_base.specs.declared.channel.Kind.TheVariants.{Uint, Half, Float}
use Rattle.exr_base.specs.Channel.{bytes_of}
use Rattle.exr_base.specs.Sampling.{span_of, sample_count_of}
use Rattle.exr_base.proofs.Multiples.{multiples_le}
use Rattle.exr_base.specs.Shape.{channel_bytes_of}
use Rattle.exr_wavelet.specs.Level.{Matrix}
use Rattle.exr_wavelet.specs.Places.{words_of}
use Rattle.exr_piz.specs.Planes.{columns_of, lines_of, sample_words_of, channel_words_of, planes_by, channels_by}

-- ---- places

pub place_parts : (k nx step : ℕ) → k ≡ k % step + (k / step / nx * nx + k / step % nx) * step
place_parts k nx step =
    let q : k / step / nx * nx + k / step % nx ≡ k / step = omega (arith, div-add-mod (k / step) nx) in
    sym (ap (λ m. k % step + m * step) q ∙ omega (arith, div-add-mod k step))

pub place_plane : (p m step : ℕ) → p < step → (p + m * step) % step ≡ p
place_plane p m step few = add-mul-mod_self_right p m step ∙ mod-eq_of_lt few

pub place_within : (p x y nx ny step : ℕ) → p < step → x < nx → y < ny → p + (y * nx + x) * step < nx * ny * step
place_within p x y nx ny step few column line =
    let sample = mul-add-lt y nx x ny line column in
    let word = mul-add-lt (y * nx + x) step p (nx * ny) sample few in
    omega (arith, word)

some_side : (nx ny m : ℕ) → m < nx * ny → 0 < nx
some_side zero ny m below = absurd (omega (arith, below))
some_side (suc nx) ny m below = omega arith

pub record IsPlace (k nx ny step : ℕ) : Type 0 where
  pub column : k / step % nx < nx
  pub line : k / step / nx < ny

pub place_there : (k nx ny step : ℕ) → 1 ≤ step → k < nx * ny * step → IsPlace k nx ny step
place_there k nx ny step some within =
    let sample : k / step < nx * ny = div_below k step (nx * ny) some within in
    let wide = some_side nx ny (k / step) sample in
    let turned : k / step < ny * nx = omega (arith, sample) in
    record { column = mod_below (k / step) nx wide; line = div_below (k / step) nx ny wide turned }

-- ---- one plane after the other

-- the planes before one were turned, and the others stand as before
pub record AreTurned (turn : ℕ → ℕ → Matrix → Matrix) (old now : List ℕ) (nx ny step p : ℕ) : Type 0 where
  pub turned : (k : ℕ) → k < length now → k % step < p → get_or now k 0 ≡ turn nx ny (words_of old (k % step) nx step) (k / step % nx) (k / step / nx)
  pub others : (k : ℕ) → p ≤ k % step → get_or now k 0 ≡ get_or old k 0

same_plane : (old now : List ℕ) (nx step p : ℕ) → p < step → ((k : ℕ) → p ≤ k % step → get_or now k 0 ≡ get_or old k 0) → words_of now p nx step ≡ words_of old p nx step
same_plane old now nx step p few others = λ i x y. others (p + (y * nx + x) * step) (let e = place_plane p (y * nx + x) step few in omega arith) i

pub plane_more : (turn : ℕ → ℕ → Matrix → Matrix) (old now new : List ℕ) (nx ny step p : ℕ) → 1 ≤ step → p < step → length now ≡ nx * ny * step → length new ≡ length now → AreTurned turn old now nx ny step p
    → ((x y : ℕ) → x < nx → y < ny → get_or new (p + (y * nx + x) * step) 0 ≡ turn nx ny (words_of now p nx step) x y)
    → ((k : ℕ) → ((x y : ℕ) → x < nx → y < ny → k ≢ p + (y * nx + x) * step) → get_or new k 0 ≡ get_or now k 0)
    → AreTurned turn old new nx ny step (p + 1)
plane_more turn old now new nx ny step p some few size same before placed others = record { turned = by_plane; others = later }
  where
    by_plane : (k : ℕ) → k < length new → k % step < p + 1 → get_or new k 0 ≡ turn nx ny (words_of old (k % step) nx step) (k / step % nx) (k / step / nx)
    by_plane k within low = elim (cases_eq (k % step) p) [
      | inl here ↦
          let there = place_there k nx ny step some (omega arith) in
          let place : k ≡ p + (k / step / nx * nx + k / step % nx) * step = place_parts k nx step ∙ ap (λ q. q + (k / step / nx * nx + k / step % nx) * step) here in
          ap (λ j. get_or new j 0) place
          ∙ placed (k / step % nx) (k / step / nx) there.column there.line
          ∙ ap (λ (M : Matrix). turn nx ny M (k / step % nx) (k / step / nx)) (same_plane old now nx step p few before.others)
          ∙ ap (λ q. turn nx ny (words_of old q nx step) (k / step % nx) (k / step / nx)) (sym here)
      | inr other ↦
          others k (λ x y _ _ same. let e = ap (λ j. j % step) same ∙ place_plane p (y * nx + x) step few in absurd (other e))
          ∙ before.turned k (omega arith) (omega arith)
    ]

    later : (k : ℕ) → p + 1 ≤ k % step → get_or new k 0 ≡ get_or old k 0
    later k high = others k (λ x y _ _ same. let e = ap (λ j. j % step) same ∙ place_plane p (y * nx + x) step few in absurd (omega arith)) ∙ before.others k (omega arith)

pub planes_all : (turn : ℕ → ℕ → Matrix → Matrix) (old now : List ℕ) (nx ny step p : ℕ) → 1 ≤ step → step ≤ p → length now ≡ nx * ny * step → AreTurned turn old now nx ny step p → now ≡ planes_by turn nx ny step old
unfolding planes_by
planes_all turn old now nx ny step p some all size before =
    fill_by_all (λ k. turn nx ny (words_of old (k % step) nx step) (k / step % nx) (k / step / nx)) now (nx * ny * step) 0 size
    (λ k within. before.turned k (omega arith) (let e = mod_below k step some in omega arith))

pub length-planes_by : (turn : ℕ → ℕ → Matrix → Matrix) (nx ny step : ℕ) (words : List ℕ) → length (planes_by turn nx ny step words) ≡ nx * ny * step
unfolding planes_by
length-planes_by turn nx ny step words = length-map-range_with_len (λ k. turn nx ny (words_of words (k % step) nx step) (k / step % nx) (k / step / nx)) 0 (nx * ny * step)

-- ---- one channel after the other

even_kind : (kind : Kind) → bytes_of kind ≡ 2 * (bytes_of kind / 2)
even_kind Uint = refl
even_kind Half = refl
even_kind Float = refl

pub channel_words_twice : (region : Box2i) (c : Channel) → 2 * channel_words_of region c ≡ channel_bytes_of region c
channel_words_twice region c =
    let n = columns_of region c * lines_of region c in
    (let e : 2 * (n * (bytes_of c.kind / 2)) ≡ n * (2 * (bytes_of c.kind / 2)) = omega arith in e) ∙ ap (λ b. n * b) (sym (even_kind c.kind))

pub words_twice : (region : Box2i) (cs : List Channel) → 2 * sum_by (channel_words_of region) cs ≡ sum_by (channel_bytes_of region) cs
words_twice region [] = refl
words_twice region (c ∷ cs) =
    let words = sum_by-cons (channel_words_of region) c cs in
    let bytes = sum_by-cons (channel_bytes_of region) c cs in
    let first = channel_words_twice region c in
    let others = words_twice region cs in
    omega (arith, words, bytes, first, others)

pub channels_by-none : (turn : ℕ → ℕ → Matrix → Matrix) (region : Box2i) (words : List ℕ) → channels_by turn region [] words ≡ []
unfolding channels_by
channels_by-none turn region words = refl

pub channels_by-cons : (turn : ℕ → ℕ → Matrix → Matrix) (region : Box2i) (c : Channel) (cs : List Channel) (words : List ℕ) → channels_by turn region (c ∷ cs) words
    ≡ planes_by turn (columns_of region c) (lines_of region c) (sample_words_of c) (take (channel_words_of region c) words) ++ channels_by turn region cs (drop (channel_words_of region c) words)
unfolding channels_by
channels_by-cons turn region c cs words = refl

-- the channels before one were turned, the others still stand as they were
pub record AreChannelsTurned (turn : ℕ → ℕ → Matrix → Matrix) (region : Box2i) (channels : List Channel) (old now : List ℕ) (i at : ℕ) : Type 0 where
  pub left : at + sum_by (channel_words_of region) (drop i channels) ≡ length now
  pub so_far : take at now ++ channels_by turn region (drop i channels) (drop at now) ≡ channels_by turn region channels old

-- a channel of which there are words
pub channel_fits : (region : Box2i) (channels : List Channel) (c : Channel) (i at total : ℕ) → i < length channels → c ≡ get_or channels i c → at + sum_by (channel_words_of region) (drop i channels) ≡ total
    → (drop i channels ≡ c ∷ drop (i + 1) channels) × (at + channel_words_of region c + sum_by (channel_words_of region) (drop (i + 1) channels) ≡ total)
channel_fits region channels c i at total within is left =
    let split : drop i channels ≡ c ∷ drop (i + 1) channels = drop_more channels i c within ∙ ap (λ (x : Channel). x ∷ drop (i + 1) channels) (sym is) in
    let words = ap (sum_by (channel_words_of region)) split ∙ sum_by-cons (channel_words_of region) c (drop (i + 1) channels) in
    (split, omega arith)

length_mid : (a k : ℕ) (xs ys : List ℕ) → a + k ≤ length xs → length ys ≡ k → length (put_mid a k xs ys) ≡ length xs
length_mid a k xs ys within size = simp (length-append, length-take, length-drop) (omega arith)

pub channel_more : (turn : ℕ → ℕ → Matrix → Matrix) (region : Box2i) (channels : List Channel) (old now part : List ℕ) (c : Channel) (i at size k : ℕ) → i < length channels → c ≡ get_or channels i c
    → AreChannelsTurned turn region channels old now i at → size ≡ channel_words_of region c → k ≡ size
    → part ≡ planes_by turn (columns_of region c) (lines_of region c) (sample_words_of c) (take size (drop at now))
    → AreChannelsTurned turn region channels old (put_mid at k now part) (i + 1) (at + size)
channel_more turn region channels old now part c i at size k within is before sized gap turned =
    let fits = channel_fits region channels c i at (length now) within is before.left in
    let long : length part ≡ size = ap length turned ∙ length-planes_by turn (columns_of region c) (lines_of region c) (sample_words_of c) (take size (drop at now)) ∙ sym sized in
    let others = channels_by turn region (drop (i + 1) channels) in
    let front : take (at + size) (put_mid at k now part) ≡ take at now ++ part = take-put_mid at k now part (at + size) (omega arith) (omega arith) in
    let back : drop (at + size) (put_mid at k now part) ≡ drop (at + size) now = drop-put_mid at k now part (at + size) (omega arith) (omega arith) (omega arith) in
    let rest : drop size (drop at now) ≡ drop (at + size) now = drop-drop size at now in
    let here : channels_by turn region (drop i channels) (drop at now) ≡ part ++ others (drop (at + size) now) =
    ap (λ (cs : List Channel). channels_by turn region cs (drop at now)) fits.0
    ∙ channels_by-cons turn region c (drop (i + 1) channels) (drop at now)
    ∙ ap (λ n. planes_by turn (columns_of region c) (lines_of region c) (sample_words_of c) (take n (drop at now)) ++ others (drop n (drop at now))) (sym sized)
    ∙ ap (λ (ws : List ℕ). ws ++ others (drop size (drop at now))) (sym turned)
    ∙ ap (λ (ws : List ℕ). part ++ others ws) rest in
    record {
      left = let same = length_mid at k now part (omega arith) (omega arith) in omega arith;
      so_far =
          ap (λ (ws : List ℕ). ws ++ others (drop (at + size) (put_mid at k now part))) front
          ∙ ap (λ (ws : List ℕ). (take at now ++ part) ++ others ws) back
          ∙ append_assoc (take at now) part (others (drop (at + size) now))
          ∙ ap (λ (ws : List ℕ). take at now ++ ws) (sym here)
          ∙ before.so_far;
    }

pub channels_all : (turn : ℕ → ℕ → Matrix → Matrix) (region : Box2i) (channels : List Channel) (old now : List ℕ) (i at : ℕ) → length channels ≤ i → AreChannelsTurned turn region channels old now i at → now ≡ channels_by turn region channels old
channels_all turn region channels old now i at all done =
    let none : drop i channels ≡ [] = drop_all i channels all in
    let whole : length now ≤ at = let e = ap (sum_by (channel_words_of region)) none in omega (arith, done.left) in
    sym (append-nil now) ∙ ap (λ (ws : List ℕ). ws ++ []) (sym (take_all at now whole))
    ∙ ap (λ (ws : List ℕ). take at now ++ ws) (sym (ap (λ (cs : List Channel). channels_by turn region cs (drop at now)) none ∙ channels_by-none turn region (drop at now)))
    ∙ done.so_far

-- ---- sizes as the code holds them

pub side_small : (s : ℕ) (from to : ℤ) (a : ℕ) → span_of from to ≤ 2 ^ 20 → a ≡ sample_count_of s from to → a ≤ 2 ^ 20
side_small s from to a few is = let m = multiples_le s from (span_of from to) in omega arith

pub size_is : (a b w a' b' w' : ℕ) → a ≡ a' → b ≡ b' → w ≡ w' → a * b * w ≡ a' * b' * w'
size_is a b w a' b' w' p q r = ap (λ n. n * b * w) p ∙ ap (λ n. a' * n * w) q ∙ ap (λ n. a' * b' * n) r

pub planes_as : (turn : ℕ → ℕ → Matrix → Matrix) (a b w a' b' w' n n' at : ℕ) (words part : List ℕ) → a ≡ a' → b ≡ b' → w ≡ w' → n ≡ n' → part ≡ planes_by turn a b w (take n (drop at words)) → part ≡ planes_by turn a' b' w' (take n' (drop at words))
planes_as turn a b w a' b' w' n n' at words part p q r s is =
    is ∙ ap (λ k. planes_by turn k b w (take n (drop at words))) p ∙ ap (λ k. planes_by turn a' k w (take n (drop at words))) q
    ∙ ap (λ k. planes_by turn a' b' k (take n (drop at words))) r ∙ ap (λ k. planes_by turn a' b' w' (take k (drop at words))) s
