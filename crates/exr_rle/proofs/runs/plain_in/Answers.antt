use Rattle.std.proofs.Common.{eqb, sym, ap, ◌∙◌, arith, w8}
use lib.Count.{count_trailing_zeros}
use Rattle.std.proofs.lemmas.Simd.{bitmask_splat, leading_from_mask_l, trailing_mask_l}
use Rattle.exr_rle.proofs.Finding.{far_in, length-far_in, finds_run}
use Rattle.exr_rle.proofs.runs.plain_in.Goals as goal

pub returns-then-runs-eq0 : goal.returns-then-runs-eq0
returns-then-runs-eq0 c =
    let far = far_in c.args.bytes.now c.args.at in
    let long = length-far_in c.args.bytes.now c.args.at c.requires in
    let hits = bitmask_splat w8 eqb far 16 0 long (omega arith) in
    let found = finds_run c.args.bytes.now c.args.at 16 c.requires (sym (leading_from_mask_l (λ x. eqb x 0) far (sym hits ∙ c.if-runs-eq0.true) ∙ long)) in
    record { within = found.within; plain = found.plain; run = found.run }

pub returns-else-runs-eq0 : goal.returns-else-runs-eq0
returns-else-runs-eq0 c =
    let far = far_in c.args.bytes.now c.args.at in
    let long = length-far_in c.args.bytes.now c.args.at c.requires in
    let hits = bitmask_splat w8 eqb far 16 0 long (omega arith) in
    let found = finds_run c.args.bytes.now c.args.at _ c.requires (ap (count_trailing_zeros 64) hits ∙ trailing_mask_l (λ x. eqb x 0) 64 far (omega arith) (omega arith)) in
    record { within = found.within; plain = found.plain; run = found.run }
