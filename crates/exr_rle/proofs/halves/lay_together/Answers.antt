use Rattle.std.proofs.Common.{◌≡◌, ℕ, ◌+◌, ◌-◌, ◌*◌, ◌/◌, ◌%◌, ◌≤◌, inl, inr, cond, eqb, List, length, get_or, ap, ◌∙◌, arith}
use Rattle.std.proofs.lemmas.Bool.{cases_lt}
use Rattle.exr_rle.proofs.halves.lay_together.Goals as goal

-- a byte that is counted from a place on
counted_on : (halves : List ℕ) (at odd j : ℕ) → odd ≡ (length halves + 1) / 2 + at → 2 * at ≤ j
    → cond (eqb ((j - 2 * at) % 2) 0) (get_or halves (at + (j - 2 * at) / 2) 0) (get_or halves (odd + (j - 2 * at) / 2) 0) ≡ cond (eqb (j % 2) 0) (get_or halves (j / 2) 0) (get_or halves ((length halves + 1) / 2 + j / 2) 0)
counted_on halves at odd j is le =
    let a : (j - 2 * at) % 2 ≡ j % 2 = omega arith in
    let b : at + (j - 2 * at) / 2 ≡ j / 2 = omega arith in
    let c : odd + (j - 2 * at) / 2 ≡ (length halves + 1) / 2 + j / 2 = omega arith in
    λ i. cond (eqb (a i) 0) (get_or halves (b i) 0) (get_or halves (c i) 0)

pub sixteens-preserved : goal.sixteens-preserved
sixteens-preserved c =
    let halves = c.args.halves.now in
    let at = c.sixteens.at in
    record {
      within = omega arith;
      laid = λ j lt. elim (cases_lt j (2 * at)) [
        | inl earlier ↦ c.put_sixteen.ensures.others j earlier ∙ c.sixteens.invariant.laid j earlier
        | inr here ↦
            let same : j ≡ 2 * at + (j - 2 * at) = omega arith in
            ap (λ i. get_or c.put_sixteen.new.raw i 0) same ∙ c.put_sixteen.ensures.put (j - 2 * at) (omega arith) ∙ counted_on halves at _ j (omega arith) here
      ];
    }
