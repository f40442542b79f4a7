-- Marks of values, as bits and as ranks.
use Rattle.std.proofs.Common.{◌≡◌, ℕ, zero, suc, ◌+◌, ◌*◌, ◌%◌, ◌^◌, ◌<◌, ◌≤◌, Bool, ◌||◌, cond, eqb, List, [], ◌∷◌, ◌++◌, length, get_or, refl, sym, ap, ◌∙◌, arith}
use Rattle.std.proofs.Math.Nat.{mod-eq_of_lt}
use Rattle.std.proofs.lemmas.Bool.{ne_eqb}
use Rattle.exr_piz.specs.Values.{passing_below, number_with}
use Rattle.exr_piz.specs.Marks.{is_counted}
use Rattle.exr_piz.proofs.Passing.{passing-none, passing-yes, length-passing-more}
use Rattle.exr_piz.proofs.Numbers.{number_with-more}

-- a mark as a bit of a byte
shifted : (mark i : ℕ) → mark ≤ 1 → 2 ^ i < 256 → mark * 2 ^ i % 256 ≡ cond (eqb mark 1) (2 ^ i) 0
shifted zero i most small = ap (λ k. k % 256) (let e : zero * 2 ^ i ≡ 0 = omega arith in e)
shifted (suc zero) i most small = ap (λ k. k % 256) (let e : suc zero * 2 ^ i ≡ 2 ^ i = omega arith in e) ∙ mod-eq_of_lt small
shifted (suc (suc mark)) i most small = absurd (omega arith)

-- one bit more
pub bit_more : (test : ℕ → Bool) (byte mark i : ℕ) → mark ≤ 1 → i < 8 → 2 ^ i < 256 → eqb mark 1 ≡ test i → byte ≡ number_with test i → byte + mark * 2 ^ i % 256 ≡ number_with test (i + 1)
bit_more test byte mark i most before small is so_far =
    ap (λ k. byte + k) (shifted mark i most small ∙ ap (λ (b : Bool). cond b (2 ^ i) 0) is) ∙ ap (λ k. k + cond (test i) (2 ^ i) 0) so_far ∙ sym (number_with-more test i)

-- one value more
as_number : (mark : ℕ) → mark ≤ 1 → cond (eqb mark 1) 1 0 ≡ mark
as_number zero most = refl
as_number (suc zero) most = refl
as_number (suc (suc mark)) most = absurd (omega arith)

pub counted_more : (marks : List ℕ) (v : ℕ) → 1 ≤ v → get_or marks v 0 ≤ 1 → length (passing_below (is_counted marks) (v + 1)) ≡ length (passing_below (is_counted marks) v) + get_or marks v 0
counted_more marks v some most =
    length-passing-more (is_counted marks) v
    ∙ ap (λ (b : Bool). length (passing_below (is_counted marks) v) + cond (b || eqb (get_or marks v 0) 1) 1 0) (ne_eqb v 0 (λ e. absurd (omega arith)))
    ∙ ap (λ k. length (passing_below (is_counted marks) v) + k) (as_number (get_or marks v 0) most)

pub counted_first : (marks : List ℕ) → length (passing_below (is_counted marks) 1) ≡ 1
counted_first marks = ap length (passing-yes (is_counted marks) 0 refl ∙ ap (λ (vs : List ℕ). vs ++ 0 ∷ []) (passing-none (is_counted marks)))
