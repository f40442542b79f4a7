use Rattle.std.proofs.Common.{subst, ◌<◌, List, length}
use Rattle.exr_layout.specs.declared.placement.Placement.{Placement}
use Rattle.exr_layout.specs.Place.{placements_of}
use Rattle.exr_frame.proofs.Rowed.{placed}
use Rattle.exr_frame.proofs.Strips.{columns_sampled}
use Rattle.exr_frame.proofs.rows.has_line.Goals as goal

pub is_multiple-requires : goal.is_multiple-requires
is_multiple-requires c =
    let is = placed c.args.plan.now.placements c.args.layout.now.planes c.args.number c.placement.result.now c.requires.plan c.placement.ensures in
    let lt : c.args.number < length (placements_of c.args.layout.now.planes) = subst (λ (l : List Placement). c.args.number < length l) c.requires.plan c.requires.slice in
    (columns_sampled c.args.layout.now c.args.number c.placement.result.now c.window-window.ensures.valid lt is).rows
