use Rattle.std.proofs.Common.{◌-◌, inl, inr, arith}
use Rattle.std.proofs.lemmas.Bool.{cases_lt}
use Rattle.exr_piz.proofs.value_map.used_part.Goals as goal

pub returns-clause-ordered : goal.returns-clause-ordered
returns-clause-ordered c =
    let end = c.without_zeros_behind-end.result in
    let first = c.zeros_in_front.result in
    elim (cases_lt first end) [
      | inl before ↦ omega arith
      | inr past ↦ absurd (c.without_zeros_behind-end.ensures.other (end - 1) (omega arith) (c.zeros_in_front.ensures.zeros (end - 1) (omega arith)))
    ]
