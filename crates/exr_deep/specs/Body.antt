-- What a deep chunk holds, packed and raw, as lists and numbers.
use Rattle.std.specs.Prelude.{ℕ, List}
use Rattle.exr_deep.specs.declared.block.DeepBlock.{DeepBlock}
use Rattle.exr_deep.specs.declared.block.DeepPacked.{DeepPacked}

-- of each pixel of a region how many samples it has; and the samples
pub record DeepContent : Type 0 where
  pub counts : List ℕ
  pub samples : List ℕ

-- the sample count table and the samples as they are stored, and the size of the samples unpacked
pub record DeepBody : Type 0 where
  pub table : List ℕ
  pub samples : List ℕ
  pub unpacked : ℕ

abbrev pub content_of : DeepBlock → DeepContent
content_of block = record { counts = block.counts.items; samples = block.samples.items }

abbrev pub body_of : DeepPacked → DeepBody
body_of packed = record { table = packed.table.items; samples = packed.samples.items; unpacked = packed.unpacked }
