-- What was read stands at the front of the buffer.
use Rattle.std.proofs.Common.{length, ap, sym, ◌∙◌, arith}
use Rattle.exr_stream.proofs.Filled.{filled}
use Rattle.exr_stream.proofs.fetch.fill.Goals as goal

pub returns-in-Ok-clause-bytes : goal.returns-in-Ok-clause-bytes
returns-in-Ok-clause-bytes g c = λ told.
    let size = ap length c.as_mut_slice.ensures.value ∙ c.in_ok-size_to.ensures in
    filled _ _ _ _ c.args.at c.args.size c.in-Ok.count _ (c.in-Ok.ensures.bytes told) size (sym c.as_mut_slice.ensures.len ∙ size)

pub returns-in-Ok-clause-few : goal.returns-in-Ok-clause-few
returns-in-Ok-clause-few g c =
    let size = ap length c.as_mut_slice.ensures.value ∙ c.in_ok-size_to.ensures in
    omega (arith, c.in-Ok.ensures.bound, size)
