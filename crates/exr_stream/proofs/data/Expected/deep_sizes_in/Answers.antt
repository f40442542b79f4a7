-- The sizes are the numbers in 24 bytes.
use Rattle.std.proofs.Common.{sym, ◌∙◌}
use Rattle.exr_stream.proofs.Whole.{sizes_right, sizes_wrong, sizes_not}
use Rattle.exr_stream.proofs.data.Expected.deep_sizes_in.Goals as goal

pub returns-then-not-are_sizes-clause-exact : goal.returns-then-not-are_sizes-clause-exact
returns-then-not-are_sizes-clause-exact c =
    let s = c.args.self.now in
    sizes_wrong s.fields.items c.in-Ok.found.now s.method s.raw c.three_sizes-sizes.result c.args.bytes.now c.in-Ok.ensures.exact c.three_sizes-sizes.ensures
    (sym c.are_sizes.ensures ∙ c.if-not-are_sizes.true)

pub returns-else-not-are_sizes-clause-exact : goal.returns-else-not-are_sizes-clause-exact
returns-else-not-are_sizes-clause-exact c =
    let s = c.args.self.now in
    sizes_right s.fields.items c.in-Ok.found.now s.method s.raw c.three_sizes-sizes.result c.args.bytes.now c.in-Ok.ensures.exact c.three_sizes-sizes.ensures
    (sym c.are_sizes.ensures ∙ c.if-not-are_sizes.false)

pub returns-in-Err-clause-exact : goal.returns-in-Err-clause-exact
returns-in-Err-clause-exact c =
    let s = c.args.self.now in
    sym (sizes_not s.fields.items s.method s.raw c.args.bytes.now c.in-Err.fault c.in-Err.ensures.exact)
