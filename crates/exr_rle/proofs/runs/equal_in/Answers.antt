use Rattle.std.proofs.Common.{ℕ, Bool, not, eqb, sym, ap, ◌∙◌, arith, w8}
use lib.Count.{count_trailing_zeros}
use lib.Lanes.{chunk}
use Rattle.std.proofs.lemmas.Simd.{length-chunk, bitmask_splat, leading_from_mask_l, trailing_mask_l}
use Rattle.exr_rle.proofs.Finding.{finds_other}
use Rattle.exr_rle.proofs.runs.equal_in.Goals as goal

abbrev is_other : ℕ → ℕ → Bool
is_other a b = not (eqb a b)

pub returns-then-others-eq0 : goal.returns-then-others-eq0
returns-then-others-eq0 c =
    let v = chunk c.args.at 16 c.args.bytes.now in
    let byte = c.args.byte in
    let long = length-chunk c.args.at 16 c.args.bytes.now c.requires in
    let hits = bitmask_splat w8 is_other v 16 byte long (omega arith) in
    let found = finds_other c.args.bytes.now c.args.at byte 16 c.requires (sym (leading_from_mask_l (λ x. not (eqb x byte)) v (sym hits ∙ c.if-others-eq0.true) ∙ long)) in
    record { within = found.within; equal = found.equal; other = found.other }

pub returns-else-others-eq0 : goal.returns-else-others-eq0
returns-else-others-eq0 c =
    let v = chunk c.args.at 16 c.args.bytes.now in
    let byte = c.args.byte in
    let long = length-chunk c.args.at 16 c.args.bytes.now c.requires in
    let hits = bitmask_splat w8 is_other v 16 byte long (omega arith) in
    let found = finds_other c.args.bytes.now c.args.at byte _ c.requires (ap (count_trailing_zeros 64) hits ∙ trailing_mask_l (λ x. not (eqb x byte)) 64 v (omega arith) (omega arith)) in
    record { within = found.within; equal = found.equal; other = found.other }
