use Rattle.exr_layout.specs.Place.{placements_of, place_of}
use Rattle.exr_frame.specs.Buffer.{IsCopied}
use Rattle.exr_frame.specs.Rows.{IsOfFills, filled_byte}
use Rattle.exr_frame.proofs.scattering.fill_slices.Given as goal

abbrev pub invariant-loop-number : goal.invariant-loop-number
invariant-loop-number l = IsCopied (IsOfFills l.layout.window (placements_of l.layout.planes) l.region l.plan.channels l.number) (place_of l.layout.window (placements_of l.layout.planes))
    (filled_byte (placements_of l.layout.planes)) l.initial.into l.into
