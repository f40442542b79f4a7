use Rattle.exr_chunks.proofs.Listed.{next_few, step}
use Rattle.exr_chunks.proofs.geometry.geometry_of.Goals as goal

pub new-requires-clause-few : goal.new-requires-clause-few
new-requires-clause-few c =
    next_few c.loop-header.parts.items c.loop-header.total c.args.headers.now c.loop-header.header-index c.header-item.result c.loop-header.invariant.parts c.loop-header.invariant.views c.loop-header-test.true c.header-item.is c.requires.few

pub loop-header-preserved : goal.loop-header-preserved
loop-header-preserved c =
    let more = step c.loop-header.parts.items c.push.new.self.items c.loop-header.total c.args.headers.now c.loop-header.header-index c.in_ok-part.part c.header-item.result c.loop-header.invariant.parts c.loop-header.invariant.views c.loop-header-test.true c.header-item.is c.requires.short c.in_ok-part.ensures.part c.in_ok-part.ensures.header c.in_ok-part.ensures.first c.in_ok-push.ensures.items in
    record { views = more.views; parts = more.parts }
