use Rattle.std.proofs.Common.{◌≡◌, ◌+◌, ◌≤◌, length, get_or, set, inl, inr, sym, ap, ◌∙◌, arith, get_or-set_same, get_or-set_other}
use Rattle.std.proofs.lemmas.Bool.{cases_eq}
use Rattle.std.proofs.lemmas.List.{length-set}
use Rattle.exr_piz.specs.Values.{passing_below}
use Rattle.exr_piz.specs.Marks.{is_counted}
use Rattle.exr_piz.proofs.Passing.{passing-none}
use Rattle.exr_piz.proofs.Marking.{counted_first, counted_more}
use Rattle.exr_piz.proofs.marks.put_ranks.Goals as goal

pub loop-v-init : goal.loop-v-init
loop-v-init c =
    let marks = c.args.marks.now in
    record {
      some = omega arith;
      few = omega arith;
      count = sym (counted_first marks);
      ranks = λ u low.
          let zero : u ≡ 0 = omega arith in
          ap (λ k. get_or (set c.args.ranks.now 0 0) k 0) zero ∙ get_or-set_same c.args.ranks.now 0 0 0 (omega arith)
          ∙ sym (ap (λ k. length (passing_below (is_counted marks) k)) zero ∙ ap length (passing-none (is_counted marks)));
    }

pub loop-v-preserved : goal.loop-v-preserved
loop-v-preserved c =
    let marks = c.args.marks.now in
    let l = c.loop-v in
    let most = c.requires.marks l.v in
    let some : 1 ≤ l.v = omega arith in
    record {
      some = omega arith;
      few = omega arith;
      count = ap (λ k. k + get_or marks l.v 0) l.invariant.count ∙ sym (counted_more marks l.v some most);
      ranks = λ u low. elim (cases_eq u l.v) [
        | inl here ↦ ap (λ k. get_or (set l.ranks l.v l.below) k 0) here ∙ get_or-set_same l.ranks l.v l.below 0 (omega (arith, l.auto.ranks, length-set c.args.ranks.now 0 0)) ∙ l.invariant.count ∙ sym (ap (λ k. length (passing_below (is_counted marks) k)) here)
        | inr other ↦ get_or-set_other l.ranks l.v u l.below 0 other ∙ l.invariant.ranks u (omega arith)
      ];
    }
