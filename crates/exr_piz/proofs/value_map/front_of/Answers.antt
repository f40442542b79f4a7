use Rattle.std.proofs.Common.{◌≡◌, ◌<◌, length, get_or, inl, inr, List, ℕ, Result, Ok, Err, IfOk, Vec, Global, sym, ◌∙◌, arith}
use Rattle.std.proofs.lemmas.Bool.{cases_lt}
use Rattle.exr_base.specs.declared.refusal.NoMemory.{NoMemory}
use Rattle.exr_piz.specs.Values.{map_byte}
use Rattle.exr_piz.specs.Marks.{IsMapOf}
use Rattle.exr_piz.proofs.Mapping.{front_none, front_some}
use Rattle.exr_piz.proofs.value_map.front_of.Goals as goal

along : (r : Result (Vec ℕ Global) NoMemory) (a b : List ℕ) → a ≡ b → IfOk r (λ front. front.items ≡ a) → IfOk r (λ front. front.items ≡ b)
along (Ok v) a b same is = is ∙ same
along (Err e) a b same is = tt

pub returns-then-first-end : goal.returns-then-first-end
returns-then-first-end c = λ words is.
    let part = c.used_part-first.ensures in
    along c.joined.result _ _ (sym (front_none words (λ b. elim (cases_lt b c.used_part-first.result.0) [
      | inl low ↦ sym (is.bytes_are b (omega arith)) ∙ part.before b low
      | inr past ↦ zero_at words c.args.bytes.now b is (part.behind b (omega arith))
    ]))) c.joined.ensures
  where
    zero_at : (words bytes : List ℕ) (b : ℕ) → IsMapOf words bytes → get_or bytes b 0 ≡ 0 → map_byte words b ≡ 0
    zero_at words bytes b is zero = elim (cases_lt b (length bytes)) [
      | inl here ↦ sym (is.bytes_are b here) ∙ zero
      | inr there ↦ is.zeros b there
    ]

pub returns : goal.returns
returns c = λ words is.
    let part = c.used_part-first.ensures in
    let some : c.used_part-first.result.0 < c.used_part-first.result.1 = omega arith in
    along c.joined-2.result _ _ (sym (front_some words c.args.bytes.now c.used_part-first.result.0 c.used_part-first.result.1 is some part.within c.requires.few part.before (part.first some) part.behind (part.last some))) c.joined-2.ensures
