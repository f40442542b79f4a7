-- The wavelet by the way that is gone.
use Rattle.std.specs.Prelude.{ℕ}
use Rattle.exr_wavelet.specs.Level.{Matrix}
use Rattle.exr_wavelet.specs.Wave.{wave_of, unwave_of}
use Rattle.exr_piz.specs.declared.planes.Way.{Way}
use Rattle.exr_piz.specs.declared.planes.Way.TheVariants.{Encode, Decode}

abbrev pub turn_by : Way → ℕ → ℕ → ℕ → Matrix → Matrix
turn_by Encode max nx ny M = wave_of max nx ny M
turn_by Decode max nx ny M = unwave_of max nx ny M
