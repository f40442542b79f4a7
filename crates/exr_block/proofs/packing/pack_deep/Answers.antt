-- What is stored has sizes that it may have, and unpacks to the content.
use Rattle.std.proofs.Common.{IsTrue, ◌*◌, sym, subst}
use Rattle.std.proofs.lemmas.Result.{IfOk-weaker}
use Rattle.exr_deep.specs.Body.{DeepBody, body_of, content_of}
use Rattle.exr_deep.specs.Deep.{pixels_of}
use Rattle.exr_block.specs.Sizes.{are_sizes, sizes_of}
use Rattle.exr_block.proofs.Counted.{counted_fits, counted_kept}
use Rattle.exr_block.proofs.packing.pack_deep.Goals as goal

pub returns-clause-fits : goal.returns-clause-fits
returns-clause-fits c =
    let shape = c.args.shape.now in
    IfOk-weaker c.pack_deep.result _ _
    (λ packed is. subst (λ (b : DeepBody). IsTrue (are_sizes c.args.method (4 * pixels_of shape.region) (sizes_of b))) (sym is) (counted_fits c.args.method shape.channels.now shape.region (content_of c.args.block.now) c.requires.fits))
    c.pack_deep.ensures.exact

pub returns-clause-kept : goal.returns-clause-kept
returns-clause-kept c =
    let shape = c.args.shape.now in
    IfOk-weaker c.pack_deep.result _ _
    (λ packed is. counted_kept c.args.method shape.channels.now shape.region (body_of packed) (content_of c.args.block.now) c.requires.method is)
    c.pack_deep.ensures.restores
