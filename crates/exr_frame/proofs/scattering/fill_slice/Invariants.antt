use Rattle.exr_layout.specs.Place.{placements_of, place_of}
use Rattle.exr_frame.specs.Buffer.{IsCopied}
use Rattle.exr_frame.specs.Rows.{IsOfSlice, filled_byte}
use Rattle.exr_frame.proofs.scattering.fill_slice.Given as goal

abbrev pub invariant-loop-line : goal.invariant-loop-line
invariant-loop-line l = IsCopied (IsOfSlice l.layout.window (placements_of l.layout.planes) l.region l.number l.line) (place_of l.layout.window (placements_of l.layout.planes))
    (filled_byte (placements_of l.layout.planes)) l.initial.into l.into
