use Rattle.std.proofs.Common.{◌≡◌, ◌+◌, ◌-◌, ◌<◌, ◌≤◌, length, take, drop, sym, ap, ◌∙◌, arith}
use Rattle.exr_base.specs.Bits.{number_of}
use Rattle.exr_huffman.specs.Nexts.{data_rest}
use Rattle.exr_huffman.proofs.Rested.{token_none, token_word, token_cut, token_more, length-data_rest, data_rest-skip, front_of_rest}
use Rattle.exr_huffman.proofs.data.next_token.Goals as goal

pub returns-in_default-clause-token : goal.returns-in_default-clause-token
returns-in_default-clause-token c =
    let w = c.args.window.now in
    token_none c.args.least c.args.decoder.now (data_rest w.bytes.now c.args.bits w.at) c.in_default.ensures.value

pub returns-then-found-run-clause-token : goal.returns-then-found-run-clause-token
returns-then-found-run-clause-token c =
    let w = c.args.window.now in
    let f = c.in-Some.found in
    rw (c.skip.ensures.at, c.in-Some.ensures.at, data_rest-skip w.bytes.now c.args.bits w.at f.len) (token_word c.args.least c.args.decoder.now (data_rest w.bytes.now c.args.bits w.at) f.entry f.len c.args.run c.in-Some.ensures.value c.in-Some.ensures.len c.requires.run c.if-found-run.true)

pub returns-then-bits-window-lt8-clause-token : goal.returns-then-bits-window-lt8-clause-token
returns-then-bits-window-lt8-clause-token c =
    let w = c.args.window.now in
    let f = c.in-Some.found in
    let left : length (drop f.len (data_rest w.bytes.now c.args.bits w.at)) < 8 = rw (← data_rest-skip w.bytes.now c.args.bits w.at f.len, length-data_rest w.bytes.now c.args.bits (w.at + f.len) c.requires.there) (omega (arith, c.if-bits-window-lt8.true, c.skip.ensures.at, c.in-Some.ensures.at)) in
    token_cut c.args.least c.args.decoder.now (data_rest w.bytes.now c.args.bits w.at) f.entry f.len c.args.run c.in-Some.ensures.value c.in-Some.ensures.len c.requires.run c.if-found-run.false left

pub returns-clause-token : goal.returns-clause-token
returns-clause-token c =
    let w = c.args.window.now in
    let v = c.skip.new.self in
    let f = c.in-Some.found in
    let bits = c.args.bits in
    let there = c.requires.there in
    let at : v.at ≡ w.at + f.len = omega (arith, c.skip.ensures.at, c.in-Some.ensures.at) in
    let rest = drop f.len (data_rest w.bytes.now bits w.at) in
    let behind : data_rest w.bytes.now bits v.at ≡ rest = rw at (data_rest-skip w.bytes.now bits w.at f.len) in
    let size : length (data_rest w.bytes.now bits v.at) ≡ bits - v.at = length-data_rest w.bytes.now bits v.at there in
    let whole : 8 ≤ length (data_rest w.bytes.now bits v.at) = rw size (omega (arith, c.if-bits-window-lt8.false)) in
    let enough : 8 ≤ length rest = rw (← behind) whole in
    let front = front_of_rest w.bytes.now bits v.at 8 there whole in
    let bytes = c.skip.ensures.bytes ∙ c.in-Some.ensures.bytes in
    let told = rw bytes at c.take_count.ensures.value in
    let count : number_of (take 8 rest) ≡ c.take_count.result = ap number_of (ap (take 8) (sym behind) ∙ front) ∙ sym told in
    let end : data_rest w.bytes.now bits c.take_count.new.window.at ≡ drop 8 rest = rw c.take_count.ensures.at (data_rest-skip w.bytes.now bits v.at 8 ∙ ap (drop 8) behind) in
    rw (end, ← count) (token_more c.args.least c.args.decoder.now (data_rest w.bytes.now bits w.at) f.entry f.len c.args.run c.in-Some.ensures.value c.in-Some.ensures.len c.requires.run c.if-found-run.false enough)
