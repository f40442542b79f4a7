use Rattle.std.proofs.Common.{◌+◌, ◌++◌, List, Bool, sym, ap, ◌∙◌, arith, append_assoc, drop, get_or}
use Rattle.exr_base.specs.Bits.{bits_of, bytes_of}
use Rattle.exr_encoder.specs.Spelling.{table_bits, zeros_at, zeros_bits}
use Rattle.std.proofs.lemmas.List.{length-drop}
use Rattle.exr_encoder.proofs.Spelled.{table_bits_at-zeros, table_bits_at-length, written_all, zeros_at-most, zeros_from-some}
use Rattle.exr_encoder.proofs.table.write_table.Goals as goal

pub items-preserved-then-lengths-at-ne0 : goal.items-preserved-then-lengths-at-ne0
items-preserved-then-lengths-at-ne0 c =
    let lengths = c.args.lengths.now in
    let at = c.items.at in
    let w = c.items.writer in
    let piece = bits_of 6 (get_or lengths at 0) in
    let rest = table_bits (drop (at + 1) lengths) in
    record {
      within = omega (arith, c.items-test.true);
      so_far = rw c.in_ok-push.ensures.ok (append_assoc w piece rest ∙ ap (λ (back : List Bool). w ++ back) (sym (table_bits_at-length lengths at c.items-test.true c.if-lengths-at-ne0.true)) ∙ c.items.invariant.so_far);
    }

pub write_zeros-requires-clause-some : goal.write_zeros-requires-clause-some
write_zeros-requires-clause-some c = rw c.zeros_from-count.ensures (zeros_from-some c.args.lengths.now c.items.at c.items-test.true c.if-lengths-at-ne0.false)

pub write_zeros-requires-clause-few : goal.write_zeros-requires-clause-few
write_zeros-requires-clause-few c = rw c.zeros_from-count.ensures ((zeros_at-most (drop c.items.at c.args.lengths.now)).0)

pub overflow_add-at-else-lengths-at-ne0 : goal.overflow_add-at-else-lengths-at-ne0
overflow_add-at-else-lengths-at-ne0 c =
    let lengths = c.args.lengths.now in
    omega (arith, c.zeros_from-count.ensures, zeros_at-most (drop c.items.at lengths), length-drop c.items.at lengths)

pub items-smaller : goal.items-smaller
items-smaller c =
    let lengths = c.args.lengths.now in
    omega (arith, c.zeros_from-count.ensures, zeros_from-some lengths c.items.at c.items-test.true c.if-lengths-at-ne0.false, c.items-test.true)

pub items-preserved : goal.items-preserved
items-preserved c =
    let lengths = c.args.lengths.now in
    let at = c.items.at in
    let w = c.items.writer in
    let count = zeros_at (drop at lengths) in
    let rest = table_bits (drop (at + count) lengths) in
    let most = zeros_at-most (drop at lengths) in
    record {
      within = rw c.zeros_from-count.ensures (omega (arith, most, length-drop at lengths, c.items-test.true));
      so_far = rw (c.in_ok-write_zeros.ensures, c.zeros_from-count.ensures) (append_assoc w (zeros_bits count) rest ∙ ap (λ (back : List Bool). w ++ back) (sym (table_bits_at-zeros lengths at c.items-test.true c.if-lengths-at-ne0.false)) ∙ c.items.invariant.so_far);
    }

pub returns : goal.returns
returns c = c.finish.ensures ∙ ap bytes_of (written_all c.args.lengths.now c.items.at c.items.writer c.items-test.false c.items.invariant.so_far)
