use Rattle.std.proofs.Common.{◌≡◌, ℕ, ◌+◌, ◌-◌, inl, inr, true, false, [], ◌∷◌, ◌++◌, get_or, take, drop, min, sym, ap, ◌∙◌, arith}
use Rattle.std.proofs.lemmas.Bool.{cases_lt, false≢true}
use Rattle.std.proofs.lemmas.List.{length-set, length-drop, drop-drop, take_more_set, append_assoc, append-nil}
use Rattle.exr_rle.specs.Token.{spelling_of}
use Rattle.exr_rle.specs.Packed.{begins_three, run_len, plain_len, tokens_of}
use Rattle.exr_rle.proofs.Puts.{take_two_sets}
use Rattle.exr_rle.proofs.Writer.{spelling-run, spelling-literal, spelling-end, run_len-three, run_len-le, plain_len-le-length, plain_len_stops}
use Rattle.exr_rle.proofs.packing.write_tokens.Goals as goal

pub tokens-preserved-then-is_run : goal.tokens-preserved-then-is_run
tokens-preserved-then-is_run c =
    let bytes = c.args.bytes.now in
    let l = c.tokens in
    let rest = drop l.at bytes in
    let count = c.run_at-count.result in
    let is : begins_three rest ≡ true = sym c.is_run.ensures ∙ c.if-is_run.true in
    let three = run_len-three rest is in
    let le = run_len-le rest in
    let long = length-drop l.at bytes in
    let counted : count ≡ run_len rest = c.run_at-count.ensures in
    let front = take l.to l.into in
    let byte = get_or bytes l.at 0 in
    let later = λ (n : ℕ). spelling_of (tokens_of (drop (l.at + n) bytes)) in
    record {
      within = omega arith;
      room = omega arith;
      tight = λ lt plain. omega arith;
      spelled =
          ap (λ written. written ++ later count) (take_two_sets l.into l.to (count - 1) byte (omega arith))
          ∙ append_assoc front ((count - 1) ∷ byte ∷ []) (later count)
          ∙ ap (λ n. front ++ ((n - 1) ∷ byte ∷ later n)) counted
          ∙ ap (λ bytes. front ++ bytes) (sym (spelling-run bytes l.at c.tokens-test.true is))
          ∙ l.invariant.spelled;
    }

pub put_copy-requires-clause-room : goal.put_copy-requires-clause-room
put_copy-requires-clause-room c =
    let bytes = c.args.bytes.now in
    let l = c.tokens in
    let plain : begins_three (drop l.at bytes) ≡ false = sym c.is_run.ensures ∙ c.if-is_run.false in
    let tight = l.invariant.tight c.tokens-test.true plain in
    let le = plain_len-le-length (drop l.at bytes) in
    omega (arith, c.literal_at-count.ensures, length-drop l.at bytes, length-set l.into l.to (256 - c.literal_at-count.result))

pub put_copy-requires-clause-there : goal.put_copy-requires-clause-there
put_copy-requires-clause-there c =
    let bytes = c.args.bytes.now in
    let le = plain_len-le-length (drop c.tokens.at bytes) in
    omega (arith, c.literal_at-count.ensures, length-drop c.tokens.at bytes)

pub tokens-preserved : goal.tokens-preserved
tokens-preserved c =
    let bytes = c.args.bytes.now in
    let l = c.tokens in
    let rest = drop l.at bytes in
    let count = c.literal_at-count.result in
    let plain : begins_three rest ≡ false = sym c.is_run.ensures ∙ c.if-is_run.false in
    let tight = l.invariant.tight c.tokens-test.true plain in
    let le = plain_len-le-length rest in
    let long = length-drop l.at bytes in
    let counted : count ≡ min 127 (plain_len rest) = c.literal_at-count.ensures in
    let front = take l.to l.into in
    let later = λ (n : ℕ). spelling_of (tokens_of (drop (l.at + n) bytes)) in
    let next : l.to + (count + 1) ≡ l.to + 1 + count = omega arith in
    record {
      within = omega arith;
      room = omega arith;
      tight = λ lt no_run. elim (cases_lt (plain_len rest) 127) [
        | inl few ↦ absurd (
            let same : count ≡ plain_len rest = omega arith in
            let stops = plain_len_stops rest (omega arith) in
            false≢true (sym no_run ∙ ap (λ n. begins_three (drop (l.at + n) bytes)) same ∙ sym (ap begins_three (drop-drop (plain_len rest) l.at bytes)) ∙ stops))
        | inr many ↦ omega arith
      ];
      spelled =
          ap (λ n. take n c.put_copy.new.into ++ later count) next
          ∙ ap (λ written. written ++ later count) (c.put_copy.ensures ∙ ap (λ head. head ++ take count rest) (take_more_set l.into l.to (256 - count) (omega arith)))
          ∙ append_assoc (front ++ (256 - count) ∷ []) (take count rest) (later count)
          ∙ append_assoc front ((256 - count) ∷ []) (take count rest ++ later count)
          ∙ ap (λ n. front ++ ((256 - n) ∷ (take n rest ++ later n))) counted
          ∙ ap (λ bytes. front ++ bytes) (sym (spelling-literal bytes l.at c.tokens-test.true plain))
          ∙ l.invariant.spelled;
    }

pub returns : goal.returns
returns c =
    sym (append-nil (take c.tokens.to c.tokens.into))
    ∙ ap (λ rest. take c.tokens.to c.tokens.into ++ rest) (sym (spelling-end c.args.bytes.now c.tokens.at c.tokens-test.false))
    ∙ c.tokens.invariant.spelled
