-- A block's parts as the code holds them.
use Rattle.exr_huffman.specs.Blocks.{Block}
use Rattle.exr_huffman.specs.declared.block.Parts.{Parts}

-- the parts seen as the block (own)
abbrev pub block_of_parts : Parts → Block
block_of_parts parts = record { least = parts.least; greatest = parts.greatest; table = parts.table.now; bits = parts.bits; behind = parts.behind.now }
