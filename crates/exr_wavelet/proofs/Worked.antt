-- The definitions at worked values.
use Rattle.std.specs.Prelude.{◌≡◌, ◌+◌, ◌*◌, refl}
use Rattle.exr_wavelet.specs.Pair.{pair_of, back_of}
use Rattle.exr_wavelet.specs.Level.{Matrix}
use Rattle.exr_wavelet.specs.Wave.{wave_of, wave_below}

abbrev pub one_to_four : Matrix
one_to_four x y = 1 + x + 2 * y

pub first_of_one_to_four : wave_of 4 2 2 one_to_four 0 0 ≡ 2
unfolding wave_below
first_of_one_to_four = refl

pub right_of_one_to_four : wave_of 4 2 2 one_to_four 1 0 ≡ 65535
unfolding wave_below
right_of_one_to_four = refl

pub below_of_one_to_four : wave_of 4 2 2 one_to_four 0 1 ≡ 65534
unfolding wave_below
below_of_one_to_four = refl

pub small_pair : pair_of 16383 0 1 ≡ (0, 65535)
small_pair = refl

pub wrapped_pair : pair_of 16384 0 1 ≡ (16384, 32767)
wrapped_pair = refl

pub small_pair_back : back_of 16383 0 65535 ≡ (0, 1)
small_pair_back = refl

pub wrapped_pair_back : back_of 16384 16384 32767 ≡ (0, 1)
wrapped_pair_back = refl
