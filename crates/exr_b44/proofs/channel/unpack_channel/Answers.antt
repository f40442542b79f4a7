use Rattle.std.proofs.Common.{drop, ap}
use Rattle.exr_base.specs.Channel.{bytes_of}
use Rattle.exr_b44.specs.Block.{unpacked}
use Rattle.exr_b44.proofs.Stripes.{copied}
use Rattle.exr_b44.proofs.channel.unpack_channel.Goals as goal

pub returns-in-Uint-clause-rows : goal.returns-in-Uint-clause-rows
returns-in-Uint-clause-rows c =
    let z = drop c.args.from c.args.packed.now in
    let n = c.args.counts in
    copied c.copy_samples.result c.args.kind n.columns n.rows c.args.stripe.line c.args.stripe.first z c.args.lines.now c.copy_samples.new.lines
    (ap (λ k. unpacked k n.columns n.rows z) c.in-Uint.is) (ap bytes_of c.in-Uint.is) c.copy_samples.ensures.rows

pub returns-in-Float-clause-rows : goal.returns-in-Float-clause-rows
returns-in-Float-clause-rows c =
    let z = drop c.args.from c.args.packed.now in
    let n = c.args.counts in
    copied c.copy_samples-in-Float.result c.args.kind n.columns n.rows c.args.stripe.line c.args.stripe.first z c.args.lines.now c.copy_samples-in-Float.new.lines
    (ap (λ k. unpacked k n.columns n.rows z) c.in-Float.is) (ap bytes_of c.in-Float.is) c.copy_samples-in-Float.ensures.rows
