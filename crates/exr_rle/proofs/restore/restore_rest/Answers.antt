use Rattle.std.proofs.Common.{◌≡◌, ◌+◌, ◌-◌, ◌%◌, ◌<◌, inl, inr, length, get_or, set, drop, sym, ap, ◌∙◌, arith}
use Rattle.std.proofs.lemmas.Bool.{cases_lt}
use Rattle.std.proofs.lemmas.List.{get_or-set_same, get_or-set_other, get_or-drop, length-drop}
use Rattle.exr_rle.specs.Unpacked.{restored_after}
use Rattle.exr_rle.proofs.Sixteen.{restored_more}
use Rattle.exr_rle.proofs.restore.restore_rest.Goals as goal

pub loop-at-preserved : goal.loop-at-preserved
loop-at-preserved c =
    let l = c.loop-at in
    let from = c.args.from in
    let old = drop from c.args.bytes.now in
    let byte = get_or l.bytes l.at 0 in
    let next = ((l.before + byte) % 256 + 128) % 256 in
    let there : l.at < length l.bytes = omega arith in
    let same : byte ≡ get_or old (l.at - from) 0 = l.invariant.later l.at (omega arith) ∙ ap (λ k. get_or c.args.bytes.now k 0) (omega arith) ∙ sym (get_or-drop from c.args.bytes.now (l.at - from) 0) in
    let step : next ≡ restored_after c.args.before old (l.at - from + 1) = omega (arith, l.invariant.before, same, restored_more c.args.before old (l.at - from) (omega (arith, length-drop from c.args.bytes.now))) in
    record {
      before = step ∙ ap (restored_after c.args.before old) (omega arith);
      restored = λ k lt. elim (cases_lt (from + k) l.at) [
        | inl earlier ↦ get_or-set_other l.bytes l.at (from + k) next 0 (omega arith) ∙ l.invariant.restored k earlier
        | inr here ↦ ap (λ i. get_or (set l.bytes l.at next) i 0) (omega arith) ∙ get_or-set_same l.bytes l.at next 0 there ∙ step ∙ ap (restored_after c.args.before old) (omega arith)
      ];
      others = λ k lt. get_or-set_other l.bytes l.at k next 0 (omega arith) ∙ l.invariant.others k lt;
      later = λ k le. get_or-set_other l.bytes l.at k next 0 (omega arith) ∙ l.invariant.later k (omega arith);
    }
