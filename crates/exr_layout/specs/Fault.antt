-- The numbers of faults (own).
use Rattle.std.specs.Prelude.{ℕ}
use Rattle.exr_layout.specs.declared.fault.LayoutFault.{LayoutFault}
use Rattle.exr_layout.specs.declared.fault.LayoutFault.TheVariants.{Empty, Huge, TwiceChannel, ZeroSampling, Overlap, ShortStride, OutOfBuffer}
use Rattle.exr_layout.specs.declared.fault.MatchFault.{MatchFault}
use Rattle.exr_layout.specs.declared.fault.MatchFault.TheVariants.{WindowOutside, KindDiffers, SamplingDiffers}

abbrev pub layout_number_of : LayoutFault → ℕ
layout_number_of (Empty plane) = 1
layout_number_of (Huge plane) = 2
layout_number_of (TwiceChannel first second) = 3
layout_number_of (ZeroSampling slice) = 4
layout_number_of (Overlap first second) = 5
layout_number_of (ShortStride slice) = 6
layout_number_of (OutOfBuffer slice) = 7

abbrev pub match_number_of : MatchFault → ℕ
match_number_of WindowOutside = 1
match_number_of (KindDiffers slice) = 2
match_number_of (SamplingDiffers slice) = 3
