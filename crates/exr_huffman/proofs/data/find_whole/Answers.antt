use Rattle.std.proofs.Common.{◌*◌, ◌≤◌, length}
use Rattle.exr_huffman.proofs.Rested.{found_whole, found_cut}
use Rattle.exr_huffman.proofs.data.find_whole.Goals as goal

pub returns-then-found-bits-clause-value : goal.returns-then-found-bits-clause-value
returns-then-found-bits-clause-value c =
    let w = c.find-found.new.window in
    let f = c.find-found.result in
    let told = c.find-found.ensures in
    let there : c.args.bits ≤ 8 * length w.bytes.now = rw told.bytes c.requires.there in
    rw (← told.bytes, ← told.at) (found_cut c.args.decoder.now w.bytes.now c.args.bits w.at w.have w.window f.entry f.len c.requires.complete there w.filled told.found told.have c.if-found-bits.true)

pub returns-clause-value : goal.returns-clause-value
returns-clause-value c =
    let w = c.find-found.new.window in
    let f = c.find-found.result in
    let told = c.find-found.ensures in
    let there : c.args.bits ≤ 8 * length w.bytes.now = rw told.bytes c.requires.there in
    rw (← told.bytes, ← told.at) (found_whole c.args.decoder.now w.bytes.now c.args.bits w.at w.have w.window f.entry f.len c.requires.complete there w.filled told.found told.have c.if-found-bits.false)
