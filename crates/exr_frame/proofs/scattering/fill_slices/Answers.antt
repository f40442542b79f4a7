use Rattle.std.proofs.Common.{rules, sym, subst, ◌<◌, ◌+◌, ℕ, List, length}
use Rattle.exr_base.specs.Shape.{height_of}
use Rattle.exr_layout.specs.Place.{placements_of, place_of}
use Rattle.exr_frame.specs.Buffer.{IsCopied}
use Rattle.exr_frame.specs.Rows.{IsOfFills, filled_byte}
use Rattle.exr_frame.proofs.Lined.{none_there, some_there, fills_more, fills_passed, lines_cover}
use Rattle.exr_frame.proofs.scattering.fill_slices.Goals as goal
use Rattle.exr_frame.proofs.scattering.fill_slices.Goals.{then-is_none, else-is_none}

pub loop-number-preserved : goal.loop-number-preserved
loop-number-preserved c =
    let lt : c.loop-number.number < length c.args.plan.now.channels = search rules in
    elim c.if-is_none.branch [
      | then-is_none w ↦ subst (λ (l : List ℕ). IsCopied (IsOfFills c.args.layout.now.window (placements_of c.args.layout.now.planes) c.args.region c.args.plan.now.channels (c.loop-number.number + 1)) (place_of c.args.layout.now.window (placements_of c.args.layout.now.planes)) (filled_byte (placements_of c.args.layout.now.planes)) c.args.into.now l) (sym w.into-is) (
          fills_more c.args.layout.now c.args.region c.args.plan.now.channels c.loop-number.number (height_of c.args.region) (filled_byte (placements_of c.args.layout.now.planes)) c.args.into.now c.loop-number.into w.fill_slice.new.into c.requires.valid (none_there c.args.plan.now.channels c.loop-number.number c.channel.result c.channel.ensures w.if-is_none.ensures) (lines_cover c.args.layout.now c.args.region) c.loop-number.invariant w.fill_slice.ensures)
      | else-is_none w ↦ subst (λ (l : List ℕ). IsCopied (IsOfFills c.args.layout.now.window (placements_of c.args.layout.now.planes) c.args.region c.args.plan.now.channels (c.loop-number.number + 1)) (place_of c.args.layout.now.window (placements_of c.args.layout.now.planes)) (filled_byte (placements_of c.args.layout.now.planes)) c.args.into.now l) (sym w.into-is) (let there = some_there c.args.plan.now.channels c.loop-number.number c.channel.result c.channel.ensures w.if-is_none.ensures in
          fills_passed c.args.layout.now c.args.region c.args.plan.now.channels c.loop-number.number there.0 (filled_byte (placements_of c.args.layout.now.planes)) c.args.into.now c.loop-number.into there.1 c.loop-number.invariant)
    ]
