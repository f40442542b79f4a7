use Rattle.std.proofs.Common.{◌≡◌, ◌+◌, ◌-◌, ◌*◌, ◌≤◌, length, take, drop, sym, ap, ◌∙◌, arith}
use Rattle.std.proofs.Math.Nat.{mul-le-mul_right}
use Rattle.std.proofs.lemmas.List.{drop-drop, length-take-le, length-drop}
use Rattle.exr_b44.proofs.Rows.{rows_more}
use Rattle.exr_b44.proofs.channel.copy_samples.Goals as goal

pub loop-y-preserved : goal.loop-y-preserved
loop-y-preserved c =
    let packed = c.args.packed.now in
    let from = c.args.from in
    let wide = c.args.wide in
    let s = c.args.stripe in
    let l = c.loop-y in
    let at = from + l.y * wide in
    let to = l.y * s.line + s.first in
    let count : (to + wide) - to ≡ wide = omega arith in
    let read : (at + wide) - at ≡ wide = omega arith in
    let lines : (l.y + 1) * s.line ≤ c.args.rows * s.line = mul-le-mul_right s.line (omega arith) in
    let rows : (l.y + 1) * wide ≤ c.args.rows * wide = mul-le-mul_right wide (omega arith) in
    let there : wide ≤ length (drop (l.y * wide) (drop from packed)) = omega (arith, length-drop (l.y * wide) (drop from packed), length-drop from packed, c.if-packed-from.false) in
    let is : c.copy_from_slice.new.self ≡ take wide (drop (l.y * wide) (drop from packed)) =
    c.copy_from_slice.ensures.after ∙ ap (λ n. take n (drop at packed)) read ∙ ap (take wide) (sym (drop-drop (l.y * wide) from packed)) in
    let long : length c.copy_from_slice.new.self ≡ wide = ap length is ∙ length-take-le wide (drop (l.y * wide) (drop from packed)) there in
    rw count
    (rows_more (drop from packed) c.args.lines.now l.lines c.copy_from_slice.new.self s.line s.first wide l.y (omega (arith, l.auto.lines, c.requires.room)) c.requires.fits long is l.invariant)
