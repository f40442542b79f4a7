use Rattle.std.proofs.Common.{refl, ◌∙◌}
use Rattle.exr_packing.specs.Packed.{head_of}
use Rattle.exr_packing.proofs.packing.put_head.Goals as goal

pub returns : goal.returns
unfolding head_of
returns c = c.copy_from_slice.ensures.after ∙ rw (c.to_le_bytes-a.ensures, c.to_le_bytes-b.ensures, c.to_le_bytes-c.ensures, c.to_le_bytes-d.ensures) refl
