use Rattle.std.proofs.Common.{◌≡◌, ℕ, ◌+◌, ◌≤◌, ◌++◌, List, Bool, [], length, take, drop, get_or, sym, ap, ◌∙◌, arith, append_assoc, append-nil}
use Rattle.std.proofs.lemmas.List.{drop_all}
use Rattle.exr_base.specs.Bits.{bytes_of}
use Rattle.exr_encoder.specs.Writing.{written}
use Rattle.exr_encoder.proofs.Pens.{written_nothing, length-written}
use Rattle.exr_huffman.specs.Joined.{tokens_bits}
use Rattle.exr_packing.specs.Packed.{run_tokens, packed_tokens}
use Rattle.exr_packing.proofs.Runs.{cost_step, step_within, packed_step, packed-nothing, tokens_bits-append}
use Rattle.exr_packing.proofs.writing.write_words.Goals as goal

pub words-init : goal.words-init
words-init c =
    let all = tokens_bits c.args.least c.args.encoder.now (packed_tokens c.args.least c.args.encoder.now c.args.words.now) in
    let pen = c.new-pen.result in
    record {
      within = omega arith;
      room = omega (arith, c.new-pen.ensures.at, c.new-pen.ensures.have);
      so_far = ap (λ (front : List Bool). front ++ all) (written_nothing pen.at pen.have pen.pending c.args.out.now c.new-pen.ensures.at c.new-pen.ensures.have);
    }

pub put_words-requires-clause-few : goal.put_words-requires-clause-few
put_words-requires-clause-few c = omega (arith, step_within c.args.words.now c.words.at c.repeats_after-count.result c.words-test.true c.repeats_after-count.ensures.many c.repeats_after-count.ensures.few)

pub put_words-requires-clause-room : goal.put_words-requires-clause-room
put_words-requires-clause-room c =
    omega (arith, c.words.invariant.room, c.requires.room, c.words.auto.out, cost_step c.args.least c.args.encoder.now c.args.words.now c.words.at c.repeats_after-count.result c.words-test.true c.repeats_after-count.ensures.many c.repeats_after-count.ensures.few)

pub overflow_add-at : goal.overflow_add-at
overflow_add-at c = omega (arith, step_within c.args.words.now c.words.at c.repeats_after-count.result c.words-test.true c.repeats_after-count.ensures.many c.repeats_after-count.ensures.few)

pub overflow_add-at-in-words : goal.overflow_add-at-in-words
overflow_add-at-in-words c = omega (arith, step_within c.args.words.now c.words.at c.repeats_after-count.result c.words-test.true c.repeats_after-count.ensures.many c.repeats_after-count.ensures.few, c.words.auto.at-fits)

pub words-preserved : goal.words-preserved
words-preserved c =
    let a = c.args in
    let lengths = a.encoder.now in
    let words = a.words.now in
    let l = c.words in
    let count = c.repeats_after-count.result in
    let many = c.repeats_after-count.ensures.many in
    let few = c.repeats_after-count.ensures.few in
    let within = c.words-test.true in
    let w = get_or words l.at 0 in
    let before = written l.pen.at l.pen.have l.pen.pending l.out in
    let tokens = run_tokens a.least lengths w count in
    let others = packed_tokens a.least lengths (drop (l.at + (count + 1)) words) in
    let later = tokens_bits a.least lengths others in
    record {
      within = (step_within words l.at count within many few).0;
      room = omega (arith, c.put_words.ensures.on, l.invariant.room, cost_step a.least lengths words l.at count within many few);
      so_far =
          ap (λ (front : List Bool). front ++ later) c.put_words.ensures.bits
          ∙ append_assoc before (tokens_bits a.least lengths tokens) later
          ∙ ap (λ (back : List Bool). before ++ back) (sym (ap (tokens_bits a.least lengths) (packed_step a.least lengths words l.at count within many few) ∙ tokens_bits-append a.least lengths tokens others))
          ∙ l.invariant.so_far;
    }

pub overflow_mul-bits : goal.overflow_mul-bits
overflow_mul-bits c = omega (arith, c.words.invariant.room, c.requires.small)

pub overflow_add-bits : goal.overflow_add-bits
overflow_add-bits c = omega (arith, c.words.invariant.room, c.requires.small)

-- all words are written
all_written : (least : ℕ) (lengths words : List ℕ) (at : ℕ) (front : List Bool) → length words ≤ at → front ++ tokens_bits least lengths (packed_tokens least lengths (drop at words)) ≡ tokens_bits least lengths (packed_tokens least lengths words)
    → front ≡ tokens_bits least lengths (packed_tokens least lengths words)
all_written least lengths words at front past so_far =
    let none : tokens_bits least lengths (packed_tokens least lengths (drop at words)) ≡ [] = ap (λ (ws : List ℕ). tokens_bits least lengths (packed_tokens least lengths ws)) (drop_all at words past) ∙ ap (tokens_bits least lengths) (packed-nothing least lengths) in
    sym (append-nil front) ∙ ap (λ (back : List Bool). front ++ back) (sym none) ∙ so_far

pub returns-clause-bits : goal.returns-clause-bits
returns-clause-bits c =
    let l = c.words in
    let whole = all_written c.args.least c.args.encoder.now c.args.words.now l.at (written l.pen.at l.pen.have l.pen.pending l.out) c.words-test.false l.invariant.so_far in
    sym (length-written l.pen.at l.pen.have l.pen.pending l.out (omega (arith, l.invariant.room, c.requires.room, l.auto.out))) ∙ ap length whole

pub returns-clause-bytes : goal.returns-clause-bytes
returns-clause-bytes c =
    let l = c.words in
    let whole = all_written c.args.least c.args.encoder.now c.args.words.now l.at (written l.pen.at l.pen.have l.pen.pending l.out) c.words-test.false l.invariant.so_far in
    ap (λ n. take n c.finish.new.out) (sym c.finish.ensures.size) ∙ c.finish.ensures.bytes ∙ ap bytes_of whole
