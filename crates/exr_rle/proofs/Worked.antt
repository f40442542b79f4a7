-- The definitions at worked values.
use Rattle.std.specs.Prelude.{◌≡◌, [], ◌∷◌, Ok, Err, refl}
use Rattle.exr_rle.specs.Unpacked.{rle_of, bytes_spelled, broken}
use Rattle.exr_rle.specs.Packed.{rle_pack_of, tokens_within}

pub run_of_three : rle_of (2 ∷ 5 ∷ []) 3 ≡ Ok (5 ∷ 15 ∷ 138 ∷ [])
unfolding rle_of bytes_spelled
run_of_three = refl

pub half_a_run : rle_of (2 ∷ []) 3 ≡ Err broken
unfolding rle_of bytes_spelled
half_a_run = refl

pub three_for_two : rle_of (2 ∷ 5 ∷ []) 2 ≡ Err broken
unfolding rle_of bytes_spelled
three_for_two = refl

pub four_halves : rle_pack_of (0 ∷ 60 ∷ 0 ∷ 60 ∷ 0 ∷ 60 ∷ 0 ∷ 60 ∷ []) ≡ 255 ∷ 0 ∷ 2 ∷ 128 ∷ 255 ∷ 188 ∷ 2 ∷ 128 ∷ []
unfolding rle_pack_of tokens_within
four_halves = refl

pub four_halves_back : rle_of (255 ∷ 0 ∷ 2 ∷ 128 ∷ 255 ∷ 188 ∷ 2 ∷ 128 ∷ []) 8 ≡ Ok (0 ∷ 60 ∷ 0 ∷ 60 ∷ 0 ∷ 60 ∷ 0 ∷ 60 ∷ [])
unfolding rle_of bytes_spelled
four_halves_back = refl
