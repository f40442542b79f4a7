-- What is stored has a size that it may have, and unpacks to what is kept.
use Rattle.std.proofs.Common.{ℕ, Vec, Global}
use Rattle.std.proofs.lemmas.Result.{IfOk-weaker}
use Rattle.exr_base.specs.Shape.{raw_size_of}
use Rattle.exr_block.proofs.Stored.{stored_fits, flat_kept}
use Rattle.exr_block.proofs.packing.pack_flat.Goals as goal

pub returns-clause-fits : goal.returns-clause-fits
returns-clause-fits c =
    let shape = c.args.shape.now in
    IfOk-weaker c.pack_data.result _ _
    (λ stored is. stored_fits c.args.method shape.channels.now shape.region c.args.raw.now stored.items (raw_size_of shape.channels.now shape.region) c.requires.raw is)
    c.pack_data.ensures.exact

pub returns-clause-kept : goal.returns-clause-kept
returns-clause-kept c =
    let shape = c.args.shape.now in
    flat_kept (λ (v : Vec ℕ Global). v.items) c.args.method shape.channels.now shape.region c.args.raw.now c.pack_data.result c.requires.raw c.pack_data.ensures.exact c.pack_data.ensures.restores
