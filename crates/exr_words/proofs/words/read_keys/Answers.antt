-- Each word was read as the definition reads it.
use Rattle.std.proofs.Common.{◌≡◌, ℕ, List, Ok, subst, arith}
use Rattle.std.proofs.lemmas.Result.{err_from_is_err_and}
use Rattle.exr_base.specs.Refusal.{Gives, Refuses}
use Rattle.exr_words.specs.Command.{command_in}
use Rattle.exr_words.specs.Fields.{nothing}
use Rattle.exr_words.specs.Words.{fields_with, or_fault_at}
use Rattle.exr_words.specs.Views.{fields_in}
use Rattle.exr_words.proofs.Reading.{rest, goes_on, stops, ends}
use Rattle.exr_words.proofs.words.read_keys.Goals as goal

pub returns-in_err-read_word : goal.returns-in_err-read_word
returns-in_err-read_word c =
    let p = err_from_is_err_and c.from_residual.result c.from_residual.ensures.1 in
    let refused = subst (λ (word : List ℕ). Refuses c.in_err-read_word.field-0.0 (or_fault_at c.loop-word.position (fields_with c.args.verb (fields_in c.loop-word.fields) word))) c.as_str.ensures.value c.in_err-read_word.ensures in
    rw (p.1, p.2) (stops c.args.verb c.loop-word.position (fields_in c.loop-word.fields) c.args.keys.now c.loop-word.word-index c.word-item.result (rest c.args.verb 1 nothing c.args.keys.now 0) c.in_err-read_word.field-0.0
    c.loop-word-test.true c.word-item.is refused c.loop-word.invariant.so_far)

pub loop-word-preserved : goal.loop-word-preserved
loop-word-preserved c =
    let allowed = subst (λ (word : List ℕ). or_fault_at c.loop-word.position (fields_with c.args.verb (fields_in c.loop-word.fields) word) ≡ Ok (fields_in c.read_word.new.fields)) c.as_str.ensures.value c.in_ok-read_word.ensures in
    record {
      counts = omega arith;
      so_far =
          goes_on c.args.verb c.loop-word.position (fields_in c.loop-word.fields) (fields_in c.read_word.new.fields) c.args.keys.now c.loop-word.word-index c.word-item.result (rest c.args.verb 1 nothing c.args.keys.now 0)
          c.loop-word-test.true c.word-item.is allowed c.loop-word.invariant.so_far;
    }

pub returns : goal.returns
returns c =
    subst (Gives command_in c.finished.result) (ends c.args.verb c.loop-word.position (fields_in c.loop-word.fields) c.args.keys.now c.loop-word.word-index (rest c.args.verb 1 nothing c.args.keys.now 0) c.loop-word-test.false c.loop-word.invariant.so_far) c.finished.ensures
