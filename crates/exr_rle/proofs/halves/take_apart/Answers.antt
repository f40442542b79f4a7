use Rattle.std.proofs.Common.{◌+◌, ◌-◌, ◌*◌, ◌/◌, inl, inr, length, get_or, set, refl, ap, ◌∙◌, arith}
use Rattle.std.proofs.lemmas.Bool.{cases_lt}
use Rattle.std.proofs.lemmas.List.{get_or-set_same, get_or-set_other, length-set}
use Rattle.exr_rle.proofs.Places.{halves_apart}
use Rattle.exr_rle.proofs.halves.take_apart.Goals as goal

pub sixteens-preserved : goal.sixteens-preserved
sixteens-preserved c =
    let raw = c.args.raw.now in
    let at = c.sixteens.at in
    let middle = length raw - length raw / 2 in
    let new = c.take_sixteen.new.into in
    record {
      within = omega arith;
      evens = λ k lt. elim (cases_lt k at) [
        | inl earlier ↦ c.take_sixteen.ensures.others k (inl earlier) (inl (omega arith)) ∙ c.sixteens.invariant.evens k earlier
        | inr here ↦ ap (λ i. get_or new i 0) (omega arith) ∙ c.take_sixteen.ensures.evens (k - at) (omega arith) ∙ ap (λ i. get_or raw i 0) (omega arith)
      ];
      odds = λ k lt. elim (cases_lt k at) [
        | inl earlier ↦ c.take_sixteen.ensures.others (middle + k) (inr (omega arith)) (inl (omega arith)) ∙ c.sixteens.invariant.odds k earlier
        | inr here ↦ ap (λ i. get_or new i 0) (omega arith) ∙ c.take_sixteen.ensures.odds (k - at) (omega arith) ∙ ap (λ i. get_or raw i 0) (omega arith)
      ];
    }

pub returns-then-pairs-middle : goal.returns-then-pairs-middle
returns-then-pairs-middle c =
    let raw = c.args.raw.now in
    let pairs = length raw / 2 in
    let last = get_or raw (2 * pairs) 0 in
    let l = c.loop-k in
    let into = set l.into pairs last in
    halves_apart raw into pairs (length raw - pairs) (omega (arith, length-set l.into pairs last)) refl refl
    (λ k lt. elim (cases_lt k pairs) [
      | inl earlier ↦ get_or-set_other l.into pairs k last 0 (omega arith) ∙ l.invariant.evens k (omega arith)
      | inr here ↦ ap (λ i. get_or into i 0) (omega arith) ∙ get_or-set_same l.into pairs last 0 (omega arith) ∙ ap (λ i. get_or raw i 0) (omega arith)
    ])
    (λ k lt. get_or-set_other l.into pairs (length raw - pairs + k) last 0 (omega arith) ∙ l.invariant.odds k (omega arith))

pub returns-else-pairs-middle : goal.returns-else-pairs-middle
returns-else-pairs-middle c =
    let raw = c.args.raw.now in
    let pairs = length raw / 2 in
    halves_apart raw c.loop-k.into pairs (length raw - pairs) (omega arith) refl refl
    (λ k lt. c.loop-k.invariant.evens k (omega arith)) (λ k lt. c.loop-k.invariant.odds k (omega arith))
