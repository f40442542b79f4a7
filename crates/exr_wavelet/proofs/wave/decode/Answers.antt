use Rattle.std.proofs.Common.{◌∙◌}
use Rattle.exr_wavelet.specs.Places.{words_of}
use Rattle.exr_wavelet.proofs.Waves.{unwave_of-wave_of}
use Rattle.exr_wavelet.proofs.wave.decode.Goals as goal

pub returns-clause-restores : goal.returns-clause-restores
returns-clause-restores c M most encoded x y x_in y_in =
    c.decode_levels.ensures.placed x y x_in y_in ∙ unwave_of-wave_of c.args.max c.args.nx c.args.ny M (words_of c.args.words.now c.args.first c.args.nx c.args.step) c.ranges.max.fits most encoded x y x_in y_in
