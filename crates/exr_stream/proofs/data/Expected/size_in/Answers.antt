-- The size is the number in four bytes.
use Rattle.std.proofs.Common.{sym, ap, ◌∙◌}
use Rattle.exr_block.specs.Sizes.{is_size}
use Rattle.exr_stream.proofs.Whole.{size_right, size_wrong, size_not}
use Rattle.exr_stream.proofs.data.Expected.size_in.Goals as goal

pub returns-then-not-is_size-clause-exact : goal.returns-then-not-is_size-clause-exact
returns-then-not-is_size-clause-exact c =
    let s = c.args.self.now in
    size_wrong s.fields.items c.in-Ok.four.now s.method s.raw c.number-size.result c.args.bytes.now c.in-Ok.ensures.exact c.number-size.ensures c.in-Ok.ensures.size
    (ap (is_size s.method s.raw) (sym c.from.ensures) ∙ sym c.is_size.ensures ∙ c.if-not-is_size.true)

pub returns-else-not-is_size-clause-exact : goal.returns-else-not-is_size-clause-exact
returns-else-not-is_size-clause-exact c =
    let s = c.args.self.now in
    size_right s.fields.items c.in-Ok.four.now s.method s.raw c.number-size.result c.args.bytes.now c.in-Ok.ensures.exact c.number-size.ensures c.in-Ok.ensures.size
    (ap (is_size s.method s.raw) (sym c.from.ensures) ∙ sym c.is_size.ensures ∙ c.if-not-is_size.false)

pub returns-in-Err-clause-exact : goal.returns-in-Err-clause-exact
returns-in-Err-clause-exact c =
    let s = c.args.self.now in
    sym (size_not s.fields.items s.method s.raw c.args.bytes.now c.in-Err.fault c.in-Err.ensures.exact)
