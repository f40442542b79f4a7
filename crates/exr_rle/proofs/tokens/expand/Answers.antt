use Rattle.std.proofs.Common.{◌≡◌, ◌+◌, ◌-◌, ◌<◌, ◌++◌, [], Some, length, take, drop, replicate, get_or, unwrap_or, refl, sym, ap, ◌∙◌, arith}
use Rattle.std.proofs.lemmas.List.{take_all}
use Rattle.exr_rle.specs.Unpacked.{bytes_spelled}
use Rattle.exr_rle.proofs.Walk.{run_steps, literal_steps, counted, ended}
use Rattle.exr_rle.proofs.tokens.expand.Goals as goal

pub tokens-init : goal.tokens-init
tokens-init c =
    let whole = counted (bytes_spelled 0 c.args.packed.now) (length c.args.into.now) c.requires in
    record { within = omega arith; room = omega arith; long = whole.1; rest = whole.0; front = refl }

pub bounds-packed-at-then-count-lt128 : goal.bounds-packed-at-then-count-lt128
bounds-packed-at-then-count-lt128 c =
    let whole = unwrap_or (bytes_spelled 0 c.args.packed.now) [] in
    let step = run_steps c.args.packed.now whole c.tokens.at c.tokens.to c.tokens-test.true (omega arith) (omega arith) c.tokens.invariant.rest in
    omega (arith, step.there)

pub put_run-requires : goal.put_run-requires
put_run-requires c =
    let whole = unwrap_or (bytes_spelled 0 c.args.packed.now) [] in
    let step = run_steps c.args.packed.now whole c.tokens.at c.tokens.to c.tokens-test.true (omega arith) (omega arith) c.tokens.invariant.rest in
    omega (arith, step.room)

pub tokens-preserved-then-count-lt128 : goal.tokens-preserved-then-count-lt128
tokens-preserved-then-count-lt128 c =
    let whole = unwrap_or (bytes_spelled 0 c.args.packed.now) [] in
    let step = run_steps c.args.packed.now whole c.tokens.at c.tokens.to c.tokens-test.true (omega arith) (omega arith) c.tokens.invariant.rest in
    record {
      within = step.there;
      room = omega (arith, step.room);
      long = omega arith;
      rest = step.rest;
      front = c.put_run.ensures ∙ ap (λ front. front ++ replicate (get_or c.args.packed.now c.tokens.at 0 + 1) (get_or c.args.packed.now (c.tokens.at + 1) 0)) c.tokens.invariant.front ∙ sym step.begins;
    }

pub put_copy-requires-clause-room : goal.put_copy-requires-clause-room
put_copy-requires-clause-room c =
    let whole = unwrap_or (bytes_spelled 0 c.args.packed.now) [] in
    let step = literal_steps c.args.packed.now whole c.tokens.at c.tokens.to c.tokens-test.true c.if-count-lt128.false (c.type_inv.packed c.tokens.at).fits (omega arith) c.tokens.invariant.rest in
    omega (arith, step.room)

pub put_copy-requires-clause-there : goal.put_copy-requires-clause-there
put_copy-requires-clause-there c =
    let whole = unwrap_or (bytes_spelled 0 c.args.packed.now) [] in
    let step = literal_steps c.args.packed.now whole c.tokens.at c.tokens.to c.tokens-test.true c.if-count-lt128.false (c.type_inv.packed c.tokens.at).fits (omega arith) c.tokens.invariant.rest in
    omega (arith, step.there, (c.type_inv.packed c.tokens.at).fits)

pub tokens-preserved : goal.tokens-preserved
tokens-preserved c =
    let packed = c.args.packed.now in
    let at = c.tokens.at in
    let count = get_or packed at 0 in
    let whole = unwrap_or (bytes_spelled 0 packed) [] in
    let byte : count < 256 = (c.type_inv.packed at).fits in
    let step = literal_steps packed whole at c.tokens.to c.tokens-test.true c.if-count-lt128.false byte (omega arith) c.tokens.invariant.rest in
    let taken : 257 - count ≡ 256 - count + 1 = omega arith in
    record {
      within = omega (arith, step.there);
      room = omega (arith, step.room);
      long = omega arith;
      rest = ap (λ n. bytes_spelled 0 (drop (at + n) packed)) (sym taken) ∙ step.rest;
      front = c.put_copy.ensures ∙ ap (λ front. front ++ take (256 - count) (drop (at + 1) packed)) c.tokens.invariant.front ∙ sym step.begins;
    }

pub returns : goal.returns
returns c =
    let whole = unwrap_or (bytes_spelled 0 c.args.packed.now) [] in
    let all = counted (bytes_spelled 0 c.args.packed.now) (length c.args.into.now) c.requires in
    let end = ended c.args.packed.now whole c.tokens.at c.tokens.to c.tokens-test.false c.tokens.invariant.rest in
    let same : whole ≡ c.tokens.into = sym (take_all c.tokens.to whole end) ∙ sym c.tokens.invariant.front ∙ take_all c.tokens.to c.tokens.into (omega arith) in
    all.0 ∙ ap Some same
