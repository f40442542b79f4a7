-- Worked values: the cells of sixteen halves that are 1, and of fifteen and one that is a little greater.
use Rattle.std.proofs.Common.{◌≡◌, [], ◌∷◌, ◌++◌, replicate, true, false, refl}
use Rattle.exr_b44.specs.Cell.{below_of, depths_of, differences_of, all_fit, shift_of, cell_of, uncell_of}

packed_ones : cell_of (replicate 16 0x3c00) false ≡ 0xbc ∷ 0x00 ∷ 0x02 ∷ 0x08 ∷ 0x20 ∷ 0x82 ∷ 0x08 ∷ 0x20 ∷ 0x82 ∷ 0x08 ∷ 0x20 ∷ 0x82 ∷ 0x08 ∷ 0x20 ∷ []
unfolding below_of depths_of differences_of all_fit shift_of cell_of
packed_ones = refl

flat_ones : cell_of (replicate 16 0x3c00) true ≡ 0xbc ∷ 0x00 ∷ 0xfc ∷ []
unfolding below_of depths_of differences_of all_fit shift_of cell_of
flat_ones = refl

read_ones : uncell_of (0xbc ∷ 0x00 ∷ 0x02 ∷ 0x08 ∷ 0x20 ∷ 0x82 ∷ 0x08 ∷ 0x20 ∷ 0x82 ∷ 0x08 ∷ 0x20 ∷ 0x82 ∷ 0x08 ∷ 0x20 ∷ []) ≡ replicate 16 0x3c00
unfolding uncell_of
read_ones = refl

read_flat : uncell_of (0xbc ∷ 0x00 ∷ 0xfc ∷ []) ≡ replicate 16 0x3c00
unfolding uncell_of
read_flat = refl

packed_last : cell_of (replicate 15 0x3c00 ++ 0x3c21 ∷ []) true ≡ 0xbc ∷ 0x01 ∷ 0x06 ∷ 0x08 ∷ 0x20 ∷ 0x82 ∷ 0x08 ∷ 0x20 ∷ 0x82 ∷ 0x08 ∷ 0x20 ∷ 0x82 ∷ 0x08 ∷ 0x30 ∷ []
unfolding below_of depths_of differences_of all_fit shift_of cell_of
packed_last = refl

read_last : uncell_of (0xbc ∷ 0x01 ∷ 0x06 ∷ 0x08 ∷ 0x20 ∷ 0x82 ∷ 0x08 ∷ 0x20 ∷ 0x82 ∷ 0x08 ∷ 0x20 ∷ 0x82 ∷ 0x08 ∷ 0x30 ∷ []) ≡ replicate 15 0x3c01 ++ 0x3c21 ∷ []
unfolding uncell_of
read_last = refl
