use Rattle.std.proofs.Common.{◌/◌, ◌^◌, ◌≤◌, length, get_or, arith}
use Rattle.exr_huffman.specs.Nexts.{data_rest}
use Rattle.exr_huffman.specs.Fronts.{BeginsFront}
use Rattle.exr_huffman.specs.declared.fronts.Front.{Front}
use Rattle.exr_huffman.proofs.Rested.{window_of_data, length-data_rest, data_rest-skip}
use Rattle.exr_huffman.proofs.ByFronts.{front_read}
use Rattle.exr_huffman.proofs.fronts.take_front.Goals as goal

pub returns-clause-read : goal.returns-clause-read
returns-clause-read c wanted all fits read =
    let a = c.args in
    let w = a.window.now in
    let none : Front = record { first = 0; second = 0; bits = 0; count = 0 } in
    let front = w.window / 2 ^ 52 in
    let e = get_or a.fronts.now front none in
    let is = c.requires.fronts front none (omega (arith, c.requires.size)) in
    let rest = data_rest w.bytes.now a.bits w.at in
    let enough : 12 ≤ length rest = rw (length-data_rest w.bytes.now a.bits w.at c.requires.there) (omega (arith, c.requires.within)) in
    let begins : BeginsFront front rest = (enough, window_of_data w.bytes.now a.bits w.at w.have w.window c.requires.there w.filled 12 c.requires.have enough) in
    rw (c.skip.ensures.bytes, c.skip.ensures.at, data_rest-skip w.bytes.now a.bits w.at e.bits) (front_read a.least a.decoder.now wanted all a.words.now a.count c.requires.room fits rest read front e is begins)
