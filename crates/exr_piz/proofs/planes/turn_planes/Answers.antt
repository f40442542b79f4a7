use Rattle.std.proofs.Common.{arith}
use Rattle.exr_piz.specs.Turns.{turn_by}
use Rattle.exr_piz.proofs.Turning.{place_within, plane_more, planes_all}
use Rattle.exr_piz.proofs.planes.turn_planes.Goals as goal

pub turn_plane-requires-clause-within : goal.turn_plane-requires-clause-within
turn_plane-requires-clause-within c = λ x y column line.
    omega (arith, place_within c.loop-plane.plane x y c.args.nx c.args.ny c.args.step c.loop-plane-test.true column line, c.requires.size, c.loop-plane.auto.words)

pub loop-plane-preserved : goal.loop-plane-preserved
loop-plane-preserved c =
    let a = c.args in
    let l = c.loop-plane in
    let more = plane_more (turn_by a.way a.max) a.words.now l.words c.turn_plane.new.words a.nx a.ny a.step l.plane c.requires.spread c.loop-plane-test.true
    (omega (arith, c.requires.size, l.auto.words)) (omega (arith, c.turn_plane.auto.words))
    (record { turned = l.invariant.turned; others = l.invariant.others }) c.turn_plane.ensures.placed c.turn_plane.ensures.others in
    record { turned = more.turned; others = more.others }

pub returns : goal.returns
returns c =
    let a = c.args in
    let l = c.loop-plane in
    planes_all (turn_by a.way a.max) a.words.now l.words a.nx a.ny a.step l.plane c.requires.spread c.loop-plane-test.false (omega (arith, c.requires.size, l.auto.words))
    (record { turned = l.invariant.turned; others = l.invariant.others })
