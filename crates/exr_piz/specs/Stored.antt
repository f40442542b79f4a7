-- How packed data is stored: the least and the greatest index of a byte of the value map that is not zero, the bytes
-- from one to the other, the length of the Huffman block, and the block.
use Rattle.std.specs.Prelude.{ℕ, ◌+◌, ◌-◌, ◌^◌, ◌||◌, nat_lt, nat_le, if◌then◌else◌, List, length, take, drop, Result, Ok, Err}
use Rattle.std.specs.Int.{w16, w32, from_le_bytes}
use Rattle.exr_piz.specs.declared.fault.PizFault.{PizFault}
use Rattle.exr_piz.specs.declared.fault.PizFault.TheVariants.{Short, BadMap}

-- the parts of packed data: where the map's bytes begin, those bytes, and the Huffman block
pub record Parts : Type 0 where
  pub first : ℕ
  pub map : List ℕ
  pub block : List ℕ

abbrev pub first_of : List ℕ → ℕ
first_of packed = from_le_bytes w16 (take 2 packed)

abbrev pub last_of : List ℕ → ℕ
last_of packed = from_le_bytes w16 (take 2 (drop 2 packed))

-- the number of the map's bytes; none where the least index is above the greatest
abbrev pub map_size_of : List ℕ → ℕ
map_size_of packed = last_of packed + 1 - first_of packed

-- the length of the block, which is stored with a sign: from 2 ^ 31 on it is negative
abbrev pub block_size_of : List ℕ → ℕ
block_size_of packed = from_le_bytes w32 (take 4 (drop (4 + map_size_of packed) packed))

-- the parts, or the first thing that is wrong; bytes after the block are not looked at
unfoldable pub parts_of : List ℕ → Result Parts PizFault
parts_of packed =
    if nat_lt (length packed) 4 then Err Short else (
    if nat_lt 8191 (first_of packed) || nat_lt 8191 (last_of packed) then Err BadMap else (
    if nat_lt (length packed) (8 + map_size_of packed) then Err Short else (
    if nat_le (2 ^ 31) (block_size_of packed) || nat_lt (length packed - (8 + map_size_of packed)) (block_size_of packed) then Err Short else
    Ok (record {
      first = first_of packed;
      map = take (map_size_of packed) (drop 4 packed);
      block = take (block_size_of packed) (drop (8 + map_size_of packed) packed);
    }))))
