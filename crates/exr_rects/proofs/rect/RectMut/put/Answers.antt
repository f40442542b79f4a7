use Rattle.std.proofs.Common.{◌≡◌, ℕ, ◌+◌, ◌*◌, true, subst, arith}
use Rattle.exr_rects.specs.Marks.{marked}
use Rattle.exr_rects.proofs.rect.RectMut.put.Goals as goal

pub run_mut-requires : goal.run_mut-requires
run_mut-requires c =
    let r = c.args.self.now in let row = c.args.row in let col = c.args.col in let asked = c.requires in
    let end = r.lies row asked.0 in let within = asked.1 in (
      omega arith,
      λ k lt. subst (λ (j : ℕ). marked r.sheet.mine j ≡ true) {x = r.from + (row * r.pitch + (col + k))} (omega arith) (r.inside row (col + k) asked.0 (omega arith)),
    )
