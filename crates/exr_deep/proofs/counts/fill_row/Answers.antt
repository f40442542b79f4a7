use Rattle.std.proofs.Common.{◌≡◌, ℤ, ◌+◌, ◌*◌, take, pos, nat_abs, ◌-ℤ◌, ◌≤ℤ◌, w32, to_z, of_z, refl, sym, ap, ◌∙◌, rules, arith}
use Rattle.std.specs.List.{sum}
use mir.Val.{SFits}
use Rattle.std.proofs.lemmas.Int.{ints, to_z-of_z}
use Rattle.exr_deep.proofs.Rows.{IsInRow}
use Rattle.exr_deep.proofs.Reading.{falls_here, counted_more, entry_before_next, samples_more}
use Rattle.exr_deep.proofs.counts.fill_row.Goals as goal

pub returns-then-entry-before-clause-counted : goal.returns-then-entry-before-clause-counted
returns-then-entry-before-clause-counted c =
    let l = c.loop-pixel in
    let first = c.args.row * c.args.width in
    record {
      rise = l.invariant.counted.rise;
      falls = falls_here c.args.width first l.pixel c.args.table.now c.entry-entry.result (to_z w32 l.before-bits) (record { row = c.args.row; begins = refl; from = omega arith; below = omega arith })
          c.entry-entry.ensures l.invariant.before (omega (arith, ints));
    }

pub loop-pixel-preserved : goal.loop-pixel-preserved
loop-pixel-preserved c =
    let l = c.loop-pixel in
    let first = c.args.row * c.args.width in
    let entry = c.entry-entry.result in
    let count = nat_abs (to_z w32 (of_z w32 (to_z w32 (of_z w32 entry) -ℤ to_z w32 l.before-bits))) in
    let fits : SFits w32 entry = search rules in
    let same : to_z w32 (of_z w32 entry) ≡ entry = to_z-of_z w32 entry fits in
    let before = to_z w32 l.before-bits in
    let le : before ≤ℤ entry = omega (arith, ints) in
    let more : nat_abs entry ≡ nat_abs before + count = omega (arith, ints) in
    let by : pos count ≡ entry -ℤ before = omega (arith, ints) in
    let is : IsInRow c.args.width first l.pixel = record { row = c.args.row; begins = refl; from = omega arith; below = omega arith } in
    record {
      counted = counted_more c.args.width first l.pixel c.args.table.now l.counts entry before count is (omega arith) c.entry-entry.ensures l.invariant.before le by l.invariant.counted;
      before = same ∙ entry_before_next first l.pixel c.args.table.now entry (omega arith) c.entry-entry.ensures;
      rising = omega (arith, ints);
      samples = samples_more l.counts l.pixel count (nat_abs before) (sum (take first c.args.counts.now)) (nat_abs entry) (omega arith) l.invariant.samples more ∙ ap (λ (z : ℤ). sum (take first c.args.counts.now) + nat_abs z) (sym same);
    }
