use Rattle.std.proofs.Common.{◌≡◌, ◌+◌, ◌<◌, length, take, set, List, ℕ, Ok, refl, ◌∙◌, subst, arith}
use Rattle.std.proofs.lemmas.List.{take_all, length-take-le, take_more_set, length-set}
use Rattle.exr_huffman.specs.Blocks.{data_bits, data_words_of}
use Rattle.exr_huffman.specs.Nexts.{data_rest}
use Rattle.exr_huffman.specs.Reading.{Progress, HasRead}
use Rattle.exr_huffman.proofs.ByFronts.{last_at}
use Rattle.exr_huffman.proofs.Rested.{length-data_rest}
use Rattle.exr_huffman.proofs.Progress.{begun, goes_on_word, goes_on_run, ends_few, ends_ok, ends_many, run_passes, token_at_none}
use Rattle.exr_huffman.proofs.data.fill_words.Goals as goal

pub tokens-init : goal.tokens-init
tokens-init c = record {
  bytes = refl;
  within = omega arith;
  fewer = omega arith;
  so_far = rw c.requires.front (begun c.args.least c.args.decoder.now (length c.args.words.now) (data_bits c.args.window.now.bytes.now c.args.bits) c.requires.some);
}

pub returns-then-count-words : goal.returns-then-count-words
returns-then-count-words c =
    let a = c.args in
    let bytes = a.window.now.bytes.now in
    let l = c.tokens in
    let left = length-data_rest bytes a.bits l.window.at c.requires.there in
    let size = length-take-le l.count l.words (omega arith) in
    ends_many a.least a.decoder.now (length a.words.now) (data_bits bytes a.bits) (data_rest bytes a.bits l.window.at) (take l.count l.words) l.before l.invariant.so_far c.requires.word_first (rw left (omega (arith, c.tokens-test.true))) (omega (arith, size, l.auto.words))

pub tokens-preserved-in-Word : goal.tokens-preserved-in-Word
tokens-preserved-in-Word c =
    let a = c.args in
    let bytes = a.window.now.bytes.now in
    let all = data_bits bytes a.bits in
    let wanted = length a.words.now in
    let l = c.tokens in
    let w = c.in-Word.word in
    let taken = c.take_words-count in
    let size = length-take-le l.count l.words l.invariant.fewer in
    let inside : l.count < length l.words = omega (arith, l.invariant.fewer, c.if-count-words.false) in
    let token = rw l.invariant.bytes at c.in-Word.ensures.token in
    let same = c.in-Word.ensures.bytes ∙ l.invariant.bytes in
    let word_read : HasRead a.least a.decoder.now wanted all (data_rest bytes a.bits c.next_token.new.window.at) (take (l.count + 1) (set l.words l.count w)) = rw (take_more_set l.words l.count w inside) (record { before = w; so_far = goes_on_word a.least a.decoder.now wanted all (data_rest bytes a.bits l.window.at) (take l.count l.words) l.before w (data_rest bytes a.bits c.next_token.new.window.at) l.invariant.so_far (omega (arith, size, l.auto.words)) token }) in
    let read = taken.ensures.read wanted all (omega (arith, length-set l.words l.count w, l.auto.words)) (rw same word_read) in
    let end = taken.ensures.bytes ∙ same in
    let so_far = subst (λ (bs : List ℕ). Progress a.least a.decoder.now wanted all (data_rest bs a.bits taken.new.window.at) (take taken.result taken.new.words) read.before) end read.so_far in
    record {
      bytes = end;
      within = taken.ensures.within;
      fewer = taken.ensures.room;
      so_far = rw (last_at a.least a.decoder.now wanted all (data_rest bytes a.bits taken.new.window.at) taken.new.words taken.result read.before so_far (omega (arith, taken.ensures.more)) taken.ensures.room) so_far;
    }

pub returns-then-more-words : goal.returns-then-more-words
returns-then-more-words c =
    let a = c.args in
    let bytes = a.window.now.bytes.now in
    let l = c.tokens in
    let size = length-take-le l.count l.words l.invariant.fewer in
    let token = rw l.invariant.bytes at c.in-More.ensures.token in
    run_passes a.least a.decoder.now (length a.words.now) (data_bits bytes a.bits) (data_rest bytes a.bits l.window.at) (take l.count l.words) l.before l.invariant.so_far c.requires.word_first c.in-More.more (data_rest bytes a.bits c.next_token.new.window.at) token (omega (arith, size, l.auto.words, c.if-more-words.true))

pub tokens-preserved : goal.tokens-preserved
tokens-preserved c =
    let a = c.args in
    let bytes = a.window.now.bytes.now in
    let l = c.tokens in
    let rest = data_rest bytes a.bits l.window.at in
    let size = length-take-le l.count l.words l.invariant.fewer in
    let token = rw l.invariant.bytes at c.in-More.ensures.token in
    record {
      bytes = c.in-More.ensures.bytes ∙ l.invariant.bytes;
      within = c.in-More.ensures.within;
      fewer = omega (arith, c.put_copies.auto.words, c.if-more-words.false);
      so_far = rw c.put_copies.ensures (goes_on_run a.least a.decoder.now (length a.words.now) (data_bits bytes a.bits) rest (take l.count l.words) l.before c.in-More.more (data_rest bytes a.bits c.next_token.new.window.at) l.invariant.so_far (omega (arith, size, l.auto.words, l.invariant.fewer, c.if-count-words.false)) token);
    }

pub returns-in-Cut : goal.returns-in-Cut
returns-in-Cut c =
    let a = c.args in
    let bytes = a.window.now.bytes.now in
    let l = c.tokens in
    let size = length-take-le l.count l.words l.invariant.fewer in
    let token = rw l.invariant.bytes at c.in-Cut.ensures.token in
    ends_few a.least a.decoder.now (length a.words.now) (data_bits bytes a.bits) (data_rest bytes a.bits l.window.at) (take l.count l.words) l.before l.invariant.so_far c.requires.word_first token (omega (arith, size, l.auto.words, l.invariant.fewer, c.if-count-words.false))

pub returns-then-count-words-2 : goal.returns-then-count-words-2
returns-then-count-words-2 c =
    let a = c.args in
    let bytes = a.window.now.bytes.now in
    let l = c.tokens in
    let rest = data_rest bytes a.bits l.window.at in
    let left = length-data_rest bytes a.bits l.window.at c.requires.there in
    let none : length rest ≡ 0 = rw left (omega (arith, c.tokens-test.false)) in
    let size = length-take-le l.count l.words l.invariant.fewer in
    ends_few a.least a.decoder.now (length a.words.now) (data_bits bytes a.bits) rest (take l.count l.words) l.before l.invariant.so_far c.requires.word_first (token_at_none a.least a.decoder.now rest none) (omega (arith, size, l.auto.words, c.if-count-words-2.true))

pub returns : goal.returns
returns c =
    let a = c.args in
    let bytes = a.window.now.bytes.now in
    let l = c.tokens in
    let rest = data_rest bytes a.bits l.window.at in
    let left = length-data_rest bytes a.bits l.window.at c.requires.there in
    let none : length rest ≡ 0 = rw left (omega (arith, c.tokens-test.false)) in
    let size = length-take-le l.count l.words l.invariant.fewer in
    let all : take l.count l.words ≡ l.words = take_all l.count l.words c.if-count-words-2.false in
    subst (λ (ws : List ℕ). data_words_of a.least a.decoder.now (length a.words.now) (data_bits bytes a.bits) ≡ Ok ws) all (ends_ok a.least a.decoder.now (length a.words.now) (data_bits bytes a.bits) rest (take l.count l.words) l.before l.invariant.so_far c.requires.word_first (token_at_none a.least a.decoder.now rest none) none (omega (arith, size, l.auto.words, l.invariant.fewer, c.if-count-words-2.false)))
