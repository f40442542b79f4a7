use Rattle.std.proofs.Common.{◌+◌, ◌-◌, ◌++◌, List, Bool, sym, ap, ap₂, ◌∙◌}
use Rattle.exr_base.specs.Bits.{bits_of}
use Rattle.exr_encoder.specs.Writing.{written, times_bits}
use Rattle.exr_huffman.specs.Tokens.{run_entry}
use Rattle.exr_packing.proofs.Runs.{code_bits, code_fits, three_behind, written_alone, written_as_run, written_as_words}
use Rattle.exr_packing.proofs.writing.put_words.Goals as goal

pub put-requires-clause-fits : goal.put-requires-clause-fits
put-requires-clause-fits c = code_fits c.args.encoder.now (c.args.word - c.args.least) c.code-code.result.len c.code-code.result.number c.requires.complete c.requires.coded c.code-code.ensures.len c.code-code.ensures.number

pub put-requires-then-code-run-clause-fits : goal.put-requires-then-code-run-clause-fits
put-requires-then-code-run-clause-fits c = code_fits c.args.encoder.now (c.args.word - c.args.least) c.code-code.result.len c.code-code.result.number c.requires.complete c.requires.coded c.code-code.ensures.len c.code-code.ensures.number

pub put-requires-then-code-run-2-clause-fits : goal.put-requires-then-code-run-2-clause-fits
put-requires-then-code-run-2-clause-fits c = code_fits c.args.encoder.now (run_entry c.args.encoder.now) c.last_code-run.result.len c.last_code-run.result.number c.requires.complete c.requires.run c.last_code-run.ensures.len c.last_code-run.ensures.number

pub put_times-requires-clause-fits : goal.put_times-requires-clause-fits
put_times-requires-clause-fits c = code_fits c.args.encoder.now (c.args.word - c.args.least) c.code-code.result.len c.code-code.result.number c.requires.complete c.requires.coded c.code-code.ensures.len c.code-code.ensures.number

pub returns-then-count-eq0-clause-bits : goal.returns-then-count-eq0-clause-bits
returns-then-count-eq0-clause-bits c =
    let lengths = c.args.encoder.now in
    let pen = c.args.pen.now in
    let before = written pen.at pen.have pen.pending c.args.out.now in
    let code = c.code-code in
    let code_is = code_bits lengths (c.args.word - c.args.least) code.result.len code.result.number code.ensures.len code.ensures.number in
    c.put.ensures.bits ∙ ap (λ (back : List Bool). before ++ back) (code_is ∙ sym (written_alone c.args.least lengths c.args.word c.args.count c.if-count-eq0.true))

pub returns-then-code-run-clause-bits : goal.returns-then-code-run-clause-bits
returns-then-code-run-clause-bits c =
    let lengths = c.args.encoder.now in
    let k = c.args.word - c.args.least in
    let pen = c.args.pen.now in
    let before = written pen.at pen.have pen.pending c.args.out.now in
    let code = c.code-code in
    let run = c.last_code-run in
    let a = bits_of code.result.len code.result.number in
    let b = bits_of run.result.len run.result.number in
    let count = bits_of 8 c.args.count in
    let code_is = code_bits lengths k code.result.len code.result.number code.ensures.len code.ensures.number in
    let run_is = code_bits lengths (run_entry lengths) run.result.len run.result.number run.ensures.len run.ensures.number in
    let fewer = rw (code.ensures.len, run.ensures.len) at c.if-code-run.true in
    c.put-then-code-run-3.ensures.bits
    ∙ ap (λ (front : List Bool). front ++ count) (c.put-then-code-run-2.ensures.bits ∙ ap (λ (front : List Bool). front ++ b) c.put-then-code-run.ensures.bits)
    ∙ three_behind before a b count
    ∙ ap (λ (back : List Bool). before ++ back) (ap₂ (λ (x y : List Bool). x ++ y ++ count) code_is run_is ∙ sym (written_as_run c.args.least lengths c.args.word c.args.count fewer))

pub returns-else-code-run-clause-bits : goal.returns-else-code-run-clause-bits
returns-else-code-run-clause-bits c =
    let lengths = c.args.encoder.now in
    let k = c.args.word - c.args.least in
    let pen = c.args.pen.now in
    let before = written pen.at pen.have pen.pending c.args.out.now in
    let code = c.code-code in
    let code_is = code_bits lengths k code.result.len code.result.number code.ensures.len code.ensures.number in
    let more_bits = rw (code.ensures.len, c.last_code-run.ensures.len) at c.if-code-run.false in
    c.put_times.ensures.bits
    ∙ ap (λ (back : List Bool). before ++ back) (ap (times_bits (c.args.count + 1)) code_is ∙ sym (written_as_words c.args.least lengths c.args.word c.args.count more_bits))
