use Rattle.std.proofs.Common.{◌+◌, ◌*◌, ◌^◌, get_or, sym, ap, ◌∙◌, arith}
use Rattle.std.proofs.lemmas.Nat.{mul-le}
use Rattle.exr_packing.proofs.Weighing.{cost_none, cost_more}
use Rattle.exr_packing.proofs.plan.cost.Goals as goal

pub loop-entry-init : goal.loop-entry-init
loop-entry-init c = record { so_far = sym (cost_none c.args.weights.now c.args.lengths.now); fits = omega arith }

pub loop-entry-preserved : goal.loop-entry-preserved
loop-entry-preserved c =
    let weights = c.args.weights.now in
    let lengths = c.args.lengths.now in
    let k = c.loop-entry.entry in
    let known = c.loop-entry.invariant in
    let most = mul-le (get_or weights k 0) (get_or lengths k 0) (2 ^ 32) (2 ^ 8) (omega (arith, (c.type_inv.weights k).fits)) (omega (arith, (c.type_inv.lengths k).fits)) in
    record {
      so_far = ap (λ n. n + get_or weights k 0 * get_or lengths k 0) known.so_far ∙ sym (cost_more weights lengths k);
      fits = omega (arith, known.fits, most);
    }
