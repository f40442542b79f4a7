-- All levels: as far as they are done, and undone.
use Rattle.std.proofs.Common.{◌≡◌, ◌≢◌, ℕ, zero, suc, ◌+◌, ◌-◌, ◌*◌, ◌/◌, ◌^◌, ◌<◌, ◌≤◌, Bool, true, false, cond, ltb, leb, min, List, get_or, refl, sym, ap, subst, ◌∙◌, arith}
use Rattle.std.proofs.lemmas.Bool.{le-leb, lt-leb}
use Rattle.std.proofs.Math.Nat.{two-pow-succ}
use Rattle.exr_wavelet.specs.declared.level.Grid.{Grid}
use Rattle.exr_wavelet.specs.declared.pair.Way.TheVariants.{Encode, Decode}
use Rattle.exr_wavelet.specs.Level.{Matrix, wave_level_of, unwave_level_of}
use Rattle.exr_wavelet.specs.Wave.{wave_below, unwave_below, wave_of, unwave_of}
use Rattle.exr_wavelet.specs.Places.{place_of, matrix_of, Becomes}
use Rattle.exr_wavelet.proofs.Inverse.{bound_of}
use Rattle.exr_wavelet.proofs.Placing.{becomes_then, becomes_as}
use Rattle.exr_wavelet.proofs.LevelLaws.{Agrees, level_agrees, BoundedAt, level_bounded, level_undone}

pub pow_suc : (n : ℕ) → 2 ^ suc n ≡ 2 * 2 ^ n
pow_suc n = two-pow-succ n ∙ omega arith

pub pow_some : (n : ℕ) → 1 ≤ 2 ^ n
pow_some zero = omega arith
pow_some (suc n) = let some = pow_some n in let twice = pow_suc n in omega arith

pub pow_above : (n : ℕ) → n < 2 ^ n
pow_above zero = omega arith
pow_above (suc n) = let above = pow_above n in let twice = pow_suc n in omega arith

pow_more : (n d : ℕ) → 2 ^ n ≤ 2 ^ (d + n)
pow_more n zero = let same : 2 ^ (0 + n) ≡ 2 ^ n = ap (λ k. 2 ^ k) (omega arith) in omega arith
pow_more n (suc d) = let more = pow_more n d in let twice = pow_suc (d + n) in let same : 2 ^ (suc d + n) ≡ 2 ^ suc (d + n) = ap (λ k. 2 ^ k) (omega arith) in omega arith

-- one level more, where it is there
pub wave_step : (max nx ny n : ℕ) (M : Matrix) → 2 * 2 ^ n ≤ min nx ny → wave_below max nx ny (suc n) M ≡ wave_level_of max nx ny (2 ^ n) (wave_below max nx ny n M)
unfolding wave_below
wave_step max nx ny n M fits = ap (λ t. cond t (wave_level_of max nx ny (2 ^ n) (wave_below max nx ny n M)) (wave_below max nx ny n M)) (le-leb (2 * 2 ^ n) (min nx ny) fits)

pub unwave_step : (max nx ny n : ℕ) (M : Matrix) → 2 * 2 ^ n ≤ min nx ny → unwave_below max nx ny (suc n) M ≡ unwave_below max nx ny n (unwave_level_of max nx ny (2 ^ n) M)
unfolding unwave_below
unwave_step max nx ny n M fits = ap (λ t. unwave_below max nx ny n (cond t (unwave_level_of max nx ny (2 ^ n) M) M)) (le-leb (2 * 2 ^ n) (min nx ny) fits)

-- no level more
wave_skip : (max nx ny n d : ℕ) (M : Matrix) → min nx ny < 2 * 2 ^ n → (k : ℕ) → k ≡ d + n → wave_below max nx ny k M ≡ wave_below max nx ny n M
unfolding wave_below
wave_skip max nx ny n zero M over k is = let same : k ≡ n = omega arith in ap (λ k. wave_below max nx ny k M) same
wave_skip max nx ny n (suc d) M over k is =
    let more = pow_more n d in
    let next : k ≡ suc (d + n) = omega arith in
    ap (λ k. wave_below max nx ny k M) next
    ∙ ap (λ t. cond t (wave_level_of max nx ny (2 ^ (d + n)) (wave_below max nx ny (d + n) M)) (wave_below max nx ny (d + n) M)) (lt-leb (2 * 2 ^ (d + n)) (min nx ny) (omega arith))
    ∙ wave_skip max nx ny n d M over (d + n) refl

pub wave_all : (max nx ny n : ℕ) (M : Matrix) → n ≤ min nx ny → min nx ny < 2 * 2 ^ n → wave_below max nx ny n M ≡ wave_of max nx ny M
wave_all max nx ny n M few over = sym (wave_skip max nx ny n (min nx ny - n) M over (min nx ny) (omega arith))

unwave_skip : (max nx ny n d : ℕ) (M : Matrix) → min nx ny < 2 * 2 ^ n → (k : ℕ) → k ≡ d + n → unwave_below max nx ny k M ≡ unwave_below max nx ny n M
unfolding unwave_below
unwave_skip max nx ny n zero M over k is = let same : k ≡ n = omega arith in ap (λ k. unwave_below max nx ny k M) same
unwave_skip max nx ny n (suc d) M over k is =
    let more = pow_more n d in
    let next : k ≡ suc (d + n) = omega arith in
    ap (λ k. unwave_below max nx ny k M) next
    ∙ ap (λ t. unwave_below max nx ny (d + n) (cond t (unwave_level_of max nx ny (2 ^ (d + n)) M) M)) (lt-leb (2 * 2 ^ (d + n)) (min nx ny) (omega arith))
    ∙ unwave_skip max nx ny n d M over (d + n) refl

pub unwave_all : (max nx ny n : ℕ) (M : Matrix) → n ≤ min nx ny → min nx ny < 2 * 2 ^ n → unwave_below max nx ny n M ≡ unwave_of max nx ny M
unwave_all max nx ny n M few over = sym (unwave_skip max nx ny n (min nx ny - n) M over (min nx ny) (omega arith))

-- words that agree are undone alike
pub unwave_agrees : (max nx ny n : ℕ) (M N : Matrix) → Agrees nx ny M N → Agrees nx ny (unwave_below max nx ny n M) (unwave_below max nx ny n N)
unfolding unwave_below
unwave_agrees max nx ny zero M N agree = agree
unwave_agrees max nx ny (suc n) M N agree = by_level (leb (2 * 2 ^ n) (min nx ny)) (unwave_agrees max nx ny n)
  where
    by_level : (t : Bool) → ((M N : Matrix) → Agrees nx ny M N → Agrees nx ny (unwave_below max nx ny n M) (unwave_below max nx ny n N))
        → Agrees nx ny (unwave_below max nx ny n (cond t (unwave_level_of max nx ny (2 ^ n) M) M)) (unwave_below max nx ny n (cond t (unwave_level_of max nx ny (2 ^ n) N) N))
    by_level true below = below _ _ (level_agrees Decode max nx ny (2 ^ n) M N (pow_some n) agree)
    by_level false below = below M N agree

-- ---- the inverse

bounded_coarser : (p max nx ny : ℕ) (W : Matrix) → BoundedAt p max nx ny W → BoundedAt (2 * p) max nx ny W
unfolding BoundedAt
bounded_coarser p max nx ny W bounded i j i_in j_in =
    let x : i * (2 * p) ≡ 2 * i * p = omega arith in
    let y : j * (2 * p) ≡ 2 * j * p = omega arith in
    subst (λ v. v < bound_of max) (λ t. W (sym x t) (sym y t)) (bounded (2 * i) (2 * j) (omega arith) (omega arith))

wave_bounded : (max nx ny n : ℕ) (M : Matrix) → BoundedAt 1 max nx ny M → BoundedAt (2 ^ n) max nx ny (wave_below max nx ny n M)
unfolding wave_below
wave_bounded max nx ny zero M bounded = bounded
wave_bounded max nx ny (suc n) M bounded = by_level (leb (2 * 2 ^ n) (min nx ny)) (wave_bounded max nx ny n M bounded)
  where
    by_level : (t : Bool) → BoundedAt (2 ^ n) max nx ny (wave_below max nx ny n M)
        → BoundedAt (2 ^ suc n) max nx ny (cond t (wave_level_of max nx ny (2 ^ n) (wave_below max nx ny n M)) (wave_below max nx ny n M))
    by_level true before = subst (λ q. BoundedAt q max nx ny (wave_level_of max nx ny (2 ^ n) (wave_below max nx ny n M))) (sym (pow_suc n)) (level_bounded max nx ny (2 ^ n) (wave_below max nx ny n M) (pow_some n) before)
    by_level false before = subst (λ q. BoundedAt q max nx ny (wave_below max nx ny n M)) (sym (pow_suc n)) (bounded_coarser (2 ^ n) max nx ny (wave_below max nx ny n M) before)

unwave_wave : (max nx ny n : ℕ) (M N : Matrix) → BoundedAt 1 max nx ny M → Agrees nx ny N (wave_below max nx ny n M) → Agrees nx ny (unwave_below max nx ny n N) M
unfolding wave_below unwave_below
unwave_wave max nx ny zero M N bounded agree = agree
unwave_wave max nx ny (suc n) M N bounded agree =
    by_level (leb (2 * 2 ^ n) (min nx ny)) agree (λ R same. unwave_wave max nx ny n M R bounded same) (wave_bounded max nx ny n M bounded)
  where
    by_level : (t : Bool) → Agrees nx ny N (cond t (wave_level_of max nx ny (2 ^ n) (wave_below max nx ny n M)) (wave_below max nx ny n M))
        → ((R : Matrix) → Agrees nx ny R (wave_below max nx ny n M) → Agrees nx ny (unwave_below max nx ny n R) M) → BoundedAt (2 ^ n) max nx ny (wave_below max nx ny n M)
        → Agrees nx ny (unwave_below max nx ny n (cond t (unwave_level_of max nx ny (2 ^ n) N) N)) M
    by_level true agree below before =
        below _ (λ x y x_in y_in. level_agrees Decode max nx ny (2 ^ n) N (wave_level_of max nx ny (2 ^ n) (wave_below max nx ny n M)) (pow_some n) agree x y x_in y_in
        ∙ level_undone max nx ny (2 ^ n) (wave_below max nx ny n M) (pow_some n) before x y x_in y_in)
    by_level false agree below before = below N agree

bounded_by_max : (max nx ny : ℕ) (M : Matrix) → max < 65536 → ((x y : ℕ) → x < nx → y < ny → M x y ≤ max) → BoundedAt 1 max nx ny M
unfolding BoundedAt
bounded_by_max max nx ny M small most i j i_in j_in = by_max (ltb max 16384) (most (i * 1) (j * 1) i_in j_in)
  where
    by_max : (t : Bool) → M (i * 1) (j * 1) ≤ max → M (i * 1) (j * 1) < cond t (max + 1) 65536
    by_max true le = omega arith
    by_max false le = omega arith

pub unwave_of-wave_of : (max nx ny : ℕ) (M N : Matrix) → max < 65536 → ((x y : ℕ) → x < nx → y < ny → M x y ≤ max) → Agrees nx ny N (wave_of max nx ny M) → Agrees nx ny (unwave_of max nx ny N) M
unwave_of-wave_of max nx ny M N small most agree = unwave_wave max nx ny (min nx ny) M N (bounded_by_max max nx ny M small most) agree

-- ---- as far as a loop has come

pub record IsStep (side p levels : ℕ) : Type 0 where
  pub is : p ≡ 2 ^ levels
  pub few : levels ≤ side
  pub fits : 1 < p → p ≤ side

pub record Encoded (old new : List ℕ) (g : Grid) (max p : ℕ) : Type 0 where
  pub levels : ℕ
  pub step : IsStep (min g.nx g.ny) p levels
  pub becomes : Becomes old new g (wave_below max g.nx g.ny levels (matrix_of old g))

pub record Reached (side p : ℕ) : Type 0 where
  pub levels : ℕ
  pub step : IsStep side p levels

pub record Decoding (old new : List ℕ) (g : Grid) (max p : ℕ) : Type 0 where
  pub levels : ℕ
  pub step : IsStep (min g.nx g.ny) p levels
  pub rest : Agrees g.nx g.ny (unwave_below max g.nx g.ny levels (matrix_of new g)) (unwave_of max g.nx g.ny (matrix_of old g))
  pub others : (k : ℕ) → ((x y : ℕ) → x < g.nx → y < g.ny → k ≢ place_of g x y) → get_or new k 0 ≡ get_or old k 0

pub step_some : (side p levels : ℕ) → IsStep side p levels → 1 ≤ p
step_some side p levels step = let some = pow_some levels in omega (arith, step.is)

pub step_twice : (side p levels : ℕ) → IsStep side p levels → 2 * p ≤ side → IsStep side (p * 2) (suc levels)
step_twice side p levels step fits =
    let twice = pow_suc levels in
    let above = pow_above levels in
    record { is = omega (arith, step.is); few = omega (arith, step.is); fits = λ _. omega arith }

-- ---- one turn of either loop

pub encoded_none : (words : List ℕ) (g : Grid) (max : ℕ) → Encoded words words g max 1
unfolding wave_below
encoded_none words g max = record { levels = 0; step = record { is = refl; few = omega arith; fits = λ lt. absurd (omega arith) }; becomes = record { placed = λ x y x_in y_in. refl; others = λ k off. refl } }

pub encoded_more : (old mid new : List ℕ) (g : Grid) (max p : ℕ) → 2 * p ≤ min g.nx g.ny → Encoded old mid g max p → Becomes mid new g (wave_level_of max g.nx g.ny p (matrix_of mid g)) → Encoded old new g max (p * 2)
encoded_more old mid new g max p fits before level =
    let n = before.levels in
    let W = wave_below max g.nx g.ny n (matrix_of old g) in
    let fits' : 2 * 2 ^ n ≤ min g.nx g.ny = subst (λ q. 2 * q ≤ min g.nx g.ny) before.step.is fits in
    record {
      levels = suc n;
      step = step_twice (min g.nx g.ny) p n before.step fits;
      becomes = becomes_then old mid new g W (wave_level_of max g.nx g.ny p (matrix_of mid g)) _ before.becomes level
          (λ x y x_in y_in. level_agrees Encode max g.nx g.ny p (matrix_of mid g) W (step_some (min g.nx g.ny) p n before.step) before.becomes.placed x y x_in y_in
          ∙ ap (λ q. wave_level_of max g.nx g.ny q W x y) before.step.is
          ∙ (λ i. sym (wave_step max g.nx g.ny n (matrix_of old g) fits') i x y));
    }

pub encoded_all : (old new : List ℕ) (g : Grid) (max p : ℕ) → min g.nx g.ny < 2 * p → Encoded old new g max p → Becomes old new g (wave_of max g.nx g.ny (matrix_of old g))
encoded_all old new g max p over before =
    let over' : min g.nx g.ny < 2 * 2 ^ before.levels = subst (λ q. min g.nx g.ny < 2 * q) before.step.is over in
    becomes_as old new g (wave_below max g.nx g.ny before.levels (matrix_of old g)) _ before.becomes
    (λ x y x_in y_in. (λ i. wave_all max g.nx g.ny before.levels (matrix_of old g) before.step.few over' i x y))

pub reached_none : (side : ℕ) → Reached side 1
reached_none side = record { levels = 0; step = record { is = refl; few = omega arith; fits = λ lt. absurd (omega arith) } }

pub reached_more : (side p : ℕ) → 2 * p ≤ side → Reached side p → Reached side (p * 2)
reached_more side p fits before = record { levels = suc before.levels; step = step_twice side p before.levels before.step fits }

pub decoding_none : (words : List ℕ) (g : Grid) (max p : ℕ) → min g.nx g.ny < 2 * p → Reached (min g.nx g.ny) p → Decoding words words g max p
decoding_none words g max p over reached =
    let over' : min g.nx g.ny < 2 * 2 ^ reached.levels = subst (λ q. min g.nx g.ny < 2 * q) reached.step.is over in
    record {
      levels = reached.levels;
      step = reached.step;
      rest = λ x y x_in y_in. (λ i. unwave_all max g.nx g.ny reached.levels (matrix_of words g) reached.step.few over' i x y);
      others = λ k off. refl;
    }

pub decoding_more : (old mid new : List ℕ) (g : Grid) (max p q : ℕ) → 1 < p → q ≡ p / 2 → Decoding old mid g max p → Becomes mid new g (unwave_level_of max g.nx g.ny q (matrix_of mid g)) → Decoding old new g max q
decoding_more old mid new g max p q some half before level = by_levels before.levels before.step before.rest
  where
    by_levels : (n : ℕ) → IsStep (min g.nx g.ny) p n → Agrees g.nx g.ny (unwave_below max g.nx g.ny n (matrix_of mid g)) (unwave_of max g.nx g.ny (matrix_of old g)) → Decoding old new g max q
    by_levels zero step rest = absurd (let one : 2 ^ 0 ≡ 1 = refl in omega (arith, step.is))
    by_levels (suc n) step rest =
        let twice = pow_suc n in
        let is : q ≡ 2 ^ n = omega (arith, step.is) in
        let fits : 2 * 2 ^ n ≤ min g.nx g.ny = let f = step.fits some in omega (arith, step.is) in
        record {
          levels = n;
          step = record { is = is; few = let f = step.few in omega arith; fits = λ _. omega arith };
          rest = λ x y x_in y_in.
              unwave_agrees max g.nx g.ny n (matrix_of new g) (unwave_level_of max g.nx g.ny (2 ^ n) (matrix_of mid g)) (λ a b a_in b_in. level.placed a b a_in b_in ∙ ap (λ r. unwave_level_of max g.nx g.ny r (matrix_of mid g) a b) is) x y x_in y_in
              ∙ (λ i. sym (unwave_step max g.nx g.ny n (matrix_of mid g) fits) i x y)
              ∙ rest x y x_in y_in;
          others = λ k off. level.others k off ∙ before.others k off;
        }

pub decoding_all : (old new : List ℕ) (g : Grid) (max p : ℕ) → p ≤ 1 → Decoding old new g max p → Becomes old new g (unwave_of max g.nx g.ny (matrix_of old g))
unfolding unwave_below
decoding_all old new g max p one before = by_levels before.levels before.step before.rest
  where
    by_levels : (n : ℕ) → IsStep (min g.nx g.ny) p n → Agrees g.nx g.ny (unwave_below max g.nx g.ny n (matrix_of new g)) (unwave_of max g.nx g.ny (matrix_of old g)) → Becomes old new g (unwave_of max g.nx g.ny (matrix_of old g))
    by_levels zero step rest = record { placed = rest; others = before.others }
    by_levels (suc n) step rest = absurd (let twice = pow_suc n in let some = pow_some n in omega (arith, step.is))
