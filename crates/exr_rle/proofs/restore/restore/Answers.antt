use Rattle.std.proofs.Common.{◌≡◌, ℕ, ◌+◌, ◌-◌, inl, inr, get_or, drop, replicate, ap, ◌∙◌, arith}
use Rattle.std.proofs.lemmas.Bool.{cases_lt}
use Rattle.exr_rle.specs.Unpacked.{restored_after}
use Rattle.exr_rle.proofs.Sixteen.{same_rest, restored_on, restored_first}
use Rattle.exr_rle.proofs.restore.restore.Goals as goal

pub sixteens-preserved : goal.sixteens-preserved
sixteens-preserved c =
    let old = c.args.bytes.now in
    let l = c.sixteens in
    let new = c.restore_sixteen-before.new.bytes in
    let carried = restored_after 128 old l.at in
    let first : get_or l.before 0 0 ≡ carried = ap (λ lanes. get_or lanes 0 0) l.invariant.lanes in
    let rest : drop l.at l.bytes ≡ drop l.at old = same_rest l.bytes old l.at (omega arith) l.invariant.later in
    let on = λ (n : ℕ). ap (λ b. restored_after b (drop l.at l.bytes) n) first ∙ ap (λ r. restored_after carried r n) rest ∙ restored_on 128 old l.at n in
    record {
      within = omega arith;
      lanes = c.restore_sixteen-before.ensures.carried ∙ ap (replicate 16) (on 16);
      restored = λ k lt. elim (cases_lt k l.at) [
        | inl earlier ↦ c.restore_sixteen-before.ensures.others k (inl earlier) ∙ l.invariant.restored k earlier
        | inr here ↦
            ap (λ i. get_or new i 0) (omega arith) ∙ c.restore_sixteen-before.ensures.restored (k - l.at) (omega arith) ∙ on (k - l.at + 1)
            ∙ ap (restored_after 128 old) (omega arith) ∙ restored_first old k
      ];
      later = λ k le. c.restore_sixteen-before.ensures.others k (inr le) ∙ l.invariant.later k (omega arith);
    }

pub returns : goal.returns
returns c k inside =
    let old = c.args.bytes.now in
    let l = c.sixteens in
    let new = c.restore_rest.new.bytes in
    let carried = restored_after 128 old l.at in
    let before : c.index.result.now ≡ carried = c.index.ensures ∙ ap (λ lanes. get_or lanes 15 c.index.result.now) l.invariant.lanes in
    let rest : drop l.at l.bytes ≡ drop l.at old = same_rest l.bytes old l.at (omega arith) l.invariant.later in
    let on = λ (n : ℕ). ap (λ b. restored_after b (drop l.at l.bytes) n) before ∙ ap (λ r. restored_after carried r n) rest ∙ restored_on 128 old l.at n in
    elim (cases_lt k l.at) [
      | inl earlier ↦ c.restore_rest.ensures.others k earlier ∙ l.invariant.restored k earlier
      | inr here ↦
          ap (λ i. get_or new i 0) (omega arith) ∙ c.restore_rest.ensures.restored (k - l.at) (omega arith) ∙ on (k - l.at + 1)
          ∙ ap (restored_after 128 old) (omega arith) ∙ restored_first old k
    ]
