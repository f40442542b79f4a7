-- All levels of the wavelet: one for each step 1, 2, 4 and so on of which twice fits both sides.
use Rattle.std.specs.Prelude.{ℕ, zero, suc, ◌*◌, ◌^◌, min, nat_le, if◌then◌else◌}
use Rattle.exr_wavelet.specs.Level.{Matrix, wave_level_of, unwave_level_of}

-- the levels for the steps below 2 ^ n, from the least up
unfoldable pub wave_below : ℕ → ℕ → ℕ → ℕ → Matrix → Matrix
wave_below max nx ny zero M = M
wave_below max nx ny (suc n) M = let before = wave_below max nx ny n M in
    if nat_le (2 * 2 ^ n) (min nx ny) then wave_level_of max nx ny (2 ^ n) before else before

-- the same levels undone, from the greatest down
unfoldable pub unwave_below : ℕ → ℕ → ℕ → ℕ → Matrix → Matrix
unwave_below max nx ny zero M = M
unwave_below max nx ny (suc n) M =
    unwave_below max nx ny n (if nat_le (2 * 2 ^ n) (min nx ny) then unwave_level_of max nx ny (2 ^ n) M else M)

-- all levels: 2 ^ n passes the lesser side where n does
abbrev pub wave_of : ℕ → ℕ → ℕ → Matrix → Matrix
wave_of max nx ny M = wave_below max nx ny (min nx ny) M

abbrev pub unwave_of : ℕ → ℕ → ℕ → Matrix → Matrix
unwave_of max nx ny M = unwave_below max nx ny (min nx ny) M
