use Rattle.std.proofs.Common.{◌≡◌, ◌+◌, ◌-◌, ◌*◌, take, drop, ap, ◌∙◌, arith}
use Rattle.exr_b44.proofs.Rows.{line_put}
use Rattle.exr_b44.proofs.unpacking.put_line.Goals as goal

pub returns : goal.returns
returns c =
    let cell = c.args.cell.now in
    let to = c.args.y * c.args.wide + c.args.from in
    let count : (to + c.args.size) - to ≡ c.args.size = omega arith in
    let read : (8 * c.args.y + c.args.size) - 8 * c.args.y ≡ c.args.size = omega arith in
    rw count
    (line_put cell c.args.lines.now c.copy_from_slice.new.self c.args.wide c.args.from c.args.size c.args.y c.requires.there c.requires.room c.requires.inside
    (c.copy_from_slice.ensures.after ∙ ap (λ n. take n (drop (8 * c.args.y) cell)) read))
