use Rattle.std.proofs.Common.{◌≡◌, ◌+◌, ◌≤◌, take, drop, Some, arith}
use Rattle.std.proofs.lemmas.List.{length-take-le, take_more_set}
use Rattle.exr_huffman.specs.Tokens.{word, token_at}
use Rattle.exr_huffman.specs.Nexts.{data_rest}
use Rattle.exr_huffman.proofs.Rested.{found_whole, token_word, data_rest-skip}
use Rattle.exr_huffman.proofs.ByFronts.{read_word}
use Rattle.exr_huffman.proofs.rounds.take_code.Goals as goal

pub returns-clause-read : goal.returns-clause-read
returns-clause-read c wanted all fits read =
    let a = c.args in
    let w = a.window.now in
    let lengths = a.decoder.now in
    let found = c.find-found.result in
    let is = c.find-found.ensures in
    let rest = data_rest w.bytes.now a.bits w.at in
    let short : found.len ≤ 20 = omega (arith, c.if-found-gt20.false) in
    let entry = found_whole lengths w.bytes.now a.bits w.at w.have w.window found.entry found.len c.requires.complete c.requires.there w.filled is (omega (arith, short, c.requires.have)) (omega (arith, short, c.requires.within)) in
    let token : token_at a.least lengths rest ≡ Some (word (a.least + found.entry), drop found.len rest) = token_word a.least lengths rest found.entry found.len a.run entry is.is_len c.requires.run c.if-found-run.false in
    let size = length-take-le a.count a.words.now (omega (arith, c.requires.room)) in
    rw (c.skip.ensures.bytes, c.skip.ensures.at, data_rest-skip w.bytes.now a.bits w.at found.len, take_more_set a.words.now a.count (a.least + found.entry) c.requires.room) (read_word a.least lengths wanted all rest (take a.count a.words.now) (a.least + found.entry) (drop found.len rest) read (omega (arith, size, c.requires.room, fits)) token)
