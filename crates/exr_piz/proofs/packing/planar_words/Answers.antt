use Rattle.std.proofs.Common.{length, drop, ◌++◌, arith}
use Rattle.std.proofs.lemmas.List.{length-append, length-take}
use Rattle.exr_piz.proofs.Repacked.{words_even}
use Rattle.exr_piz.proofs.packing.planar_words.Goals as goal

pub put_planar_words-requires-clause-words : goal.put_planar_words-requires-clause-words
put_planar_words-requires-clause-words c = omega (arith, words_even c.args.shape.now.channels.now c.args.shape.now.region c.args.raw.now c.requires.size, c.as_mut_slice-slice.ensures.len, c.in_ok-words.ensures.len)

pub returns-clause-size : goal.returns-clause-size
returns-clause-size c =
    let words = c.in_ok-words.words in
    let new = c.put_planar_words.new.words in
    let rest = drop (length new) words.items in
    omega (arith, length-take words.len (new ++ rest), length-append new rest, c.put_planar_words.auto.words, c.as_mut_slice-slice.ensures.len, c.in_ok-words.ensures.len, words_even c.args.shape.now.channels.now c.args.shape.now.region c.args.raw.now c.requires.size)
