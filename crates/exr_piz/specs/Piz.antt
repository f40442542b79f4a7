-- The raw data that packed data stands for, and the packed data that the writer makes of raw data.
use Rattle.std.specs.Prelude.{ℕ, ◌-◌, ◌/◌, List, ◌++◌, length, map, slice_index, Result, Ok, Err}
use Rattle.std.specs.Int.{w32, to_le_bytes}
use Rattle.exr_base.specs.declared.shape.Box2i.{Box2i}
use Rattle.exr_base.specs.declared.channel.Channel.{Channel}
use Rattle.exr_base.specs.Refusal.{◌>>=◌}
use Rattle.exr_base.specs.Shape.{raw_size_of}
use Rattle.exr_huffman.specs.declared.fault.HufFault.{HufFault}
use Rattle.exr_huffman.specs.Blocks.{huffman_words_of}
use Rattle.exr_packing.specs.Packed.{pack_of}
use Rattle.exr_planar.specs.Planar.{planar_of, raw_from_planar}
use Rattle.exr_wavelet.specs.Wave.{wave_of, unwave_of}
use Rattle.exr_piz.specs.declared.fault.PizFault.{PizFault}
use Rattle.exr_piz.specs.declared.fault.PizFault.TheVariants.{Huffman}
use Rattle.exr_piz.specs.Stored.{parts_of}
use Rattle.exr_piz.specs.Values.{values_of, map_front_of, rank_of, greatest_rank_of}
use Rattle.exr_piz.specs.Words.{words_from, bytes_from}
use Rattle.exr_piz.specs.Planes.{channels_by}

-- the words of a Huffman block, or its fault
abbrev pub or_huffman : Result (List ℕ) HufFault → Result (List ℕ) PizFault
or_huffman (Ok words) = Ok words
or_huffman (Err fault) = Err (Huffman fault)

-- the raw data of the words of a block: each plane's wavelet undone, each rank replaced by its value, or by 0 where it
-- is above the greatest, and the samples line by line
unfoldable pub restored_from : List Channel → Box2i → List ℕ → List ℕ → List ℕ
restored_from channels region values words =
    raw_from_planar channels region (bytes_from (map (slice_index values) (channels_by (unwave_of (length values - 1)) region channels words)))

-- the raw data that packed data stands for, or the first thing that is wrong with it
unfoldable pub piz_of : List Channel → Box2i → List ℕ → Result (List ℕ) PizFault
piz_of channels region packed = do
  parts ← parts_of packed
  words ← or_huffman (huffman_words_of parts.block (raw_size_of channels region / 2))
  Ok (restored_from channels region (values_of parts.first parts.map) words)

-- the Huffman block of words: their ranks, each plane through the wavelet
unfoldable pub block_of : List Channel → Box2i → List ℕ → List ℕ
block_of channels region words = pack_of (channels_by (wave_of (greatest_rank_of words)) region channels (map (rank_of words) words))

-- the packed data of words: the value map, the length of the Huffman block, and the block
unfoldable pub packed_words_of : List Channel → Box2i → List ℕ → List ℕ
packed_words_of channels region words = map_front_of words ++ to_le_bytes w32 (length (block_of channels region words)) ++ block_of channels region words

-- the packed data of raw data
unfoldable pub piz_pack_of : List Channel → Box2i → List ℕ → List ℕ
piz_pack_of channels region raw = packed_words_of channels region (words_from (planar_of channels region raw))
