use Rattle.std.proofs.Common.{List, ℕ, Ok, length, ap, ◌∙◌, arith}
use Rattle.exr_planar.specs.Planar.{raw_from_planar}
use Rattle.exr_piz.specs.Words.{bytes_from}
use Rattle.exr_piz.proofs.packing.pack.Goals as goal

pub pack_words-requires-clause-size : goal.pack_words-requires-clause-size
pack_words-requires-clause-size c = omega (arith, c.in_ok-words.ensures.size, ap length c.as_mut_slice.ensures.value)

pub pack_words-requires-clause-some : goal.pack_words-requires-clause-some
pack_words-requires-clause-some c = omega (arith, c.requires.some, c.in_ok-words.ensures.size, ap length c.as_mut_slice.ensures.value)

pub returns-clause-restores : goal.returns-clause-restores
returns-clause-restores c =
    let channels = c.args.shape.now.channels.now in
    let region = c.args.shape.now.region in
    c.in_ok-pack_words.ensures.restores
    ∙ ap (λ (words : List ℕ). Ok (raw_from_planar channels region (bytes_from words))) c.as_mut_slice.ensures.value
    ∙ ap (λ (raw : List ℕ). Ok raw) c.in_ok-words.ensures.restores
