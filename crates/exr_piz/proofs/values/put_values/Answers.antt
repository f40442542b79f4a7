use Rattle.std.proofs.Common.{◌≡◌, ◌-◌, ◌/◌, ◌%◌, ◌^◌, bit_and, get_or, sym, ◌∙◌, arith}
use Rattle.std.proofs.lemmas.List.{take_more_set, length-set}
use Rattle.std.proofs.lemmas.Grind.{common_steps}
use Rattle.exr_piz.proofs.Reading.{zero_first, value_more, values_all}
use Rattle.exr_piz.proofs.values.put_values.Goals as goal

pub loop-v-init : goal.loop-v-init
loop-v-init c =
    let start = c.max-v.ensures in
    record {
      some = omega arith;
      from = omega arith;
      high = omega arith;
      few = omega arith;
      so_far = take_more_set c.args.values.now 0 0 (omega arith) ∙ sym (zero_first c.args.first c.args.map.now c.max-v.result (omega arith) (λ more. omega arith));
    }

pub loop-v-preserved : goal.loop-v-preserved
loop-v-preserved c =
    let l = c.loop-v in
    let byte = get_or c.args.map.now (l.v / 8 - c.args.first) 0 in
    let bit : bit_and (byte / 2 ^ (l.v % 8)) 1 ≡ byte / 2 ^ (l.v % 8) % 2 = grind (arith, common_steps) in
    record {
      some = omega arith;
      from = omega arith;
      high = omega arith;
      few = omega arith;
      so_far = value_more c.args.first c.args.map.now l.values l.count l.v (bit_and (byte / 2 ^ (l.v % 8)) 1) l.invariant.some l.invariant.from (omega (arith, l.auto.values, length-set c.args.values.now 0 0)) bit l.invariant.so_far;
    }

pub returns : goal.returns
returns c = c.loop-v.invariant.so_far ∙ values_all c.args.first c.args.map.now c.loop-v.v c.loop-v.invariant.some c.loop-v.invariant.high (omega arith)
