-- The words have as many bytes as the raw data.
use Rattle.std.proofs.Common.{ℕ, get_or, map, arith}
use Rattle.std.proofs.lemmas.List.{length-map}
use Rattle.exr_piz.proofs.Spelling.{length-bytes_from}
use Rattle.exr_piz.proofs.unpacking.restore.Goals as goal

pub put_raw_from-requires-clause-planar : goal.put_raw_from-requires-clause-planar
put_raw_from-requires-clause-planar c =
    let value = λ (r : ℕ). get_or c.args.values.now r 0 in
    let words = c.turn_channels.new.words in
    omega (arith, length-bytes_from (map value words), length-map words value, c.turn_channels.auto.words, c.requires.size)
