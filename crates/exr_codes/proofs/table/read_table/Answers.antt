use Rattle.std.proofs.Common.{◌≡◌, ◌&&◌, ◌++◌, false, sym, ◌∙◌, arith, length, take, drop}
use Rattle.std.proofs.lemmas.Bool.{and_left, and_right}
use Rattle.std.proofs.lemmas.List.{take_at}
use Rattle.exr_codes.specs.Tables.{is_filling, is_full}
use Rattle.exr_codes.proofs.Reading.{table_none, table_read, table_wrong, table_complete}
use Rattle.exr_codes.proofs.table.read_table.Goals as goal
use Rattle.exr_codes.proofs.table.read_table.Goals.{else-filling-via-then-filling+else-full, else-filling-via-else-filling}

pub returns-in_default-clause-value : goal.returns-in_default-clause-value
returns-in_default-clause-value c =
    let size : length c.deref_mut.result.now ≡ c.args.count = omega (arith, c.deref_mut.ensures.len, c.in_ok-lengths.ensures.len) in
    sym (table_none c.args.count c.args.bytes.now (rw (size, c.new-reader.ensures) at c.in_default.ensures.value))

pub returns-then-full-clause-value : goal.returns-then-full-clause-value
returns-then-full-clause-value c =
    let lengths = c.fill_lengths.new.lengths in
    let old = c.in_ok-lengths.lengths in
    let size : length c.deref_mut.result.now ≡ c.args.count = omega (arith, c.deref_mut.ensures.len, c.in_ok-lengths.ensures.len) in
    let whole : take old.len (lengths ++ drop (length lengths) old.items) ≡ lengths = take_at lengths (drop (length lengths) old.items) old.len (omega (arith, c.fill_lengths.auto.lengths, c.deref_mut.ensures.len)) in
    rw whole (sym (table_read c.args.count c.args.bytes.now lengths c.fill_lengths.new.reader (rw (size, c.new-reader.ensures) at c.in-Some.ensures.value) (sym c.if-filling.ensures) (sym c.in-Some.ensures.full ∙ c.if-full.true)))

pub returns-then-full-clause-complete : goal.returns-then-full-clause-complete
returns-then-full-clause-complete c =
    let lengths = c.fill_lengths.new.lengths in
    let old = c.in_ok-lengths.lengths in
    let whole : take old.len (lengths ++ drop (length lengths) old.items) ≡ lengths = take_at lengths (drop (length lengths) old.items) old.len (omega (arith, c.fill_lengths.auto.lengths, c.deref_mut.ensures.len)) in
    rw whole (table_complete lengths c.fill_lengths.ensures.short (sym c.in-Some.ensures.full ∙ c.if-full.true))

pub returns-else-filling-clause-value : goal.returns-else-filling-clause-value
returns-else-filling-clause-value c =
    let lengths = c.fill_lengths.new.lengths in
    let rest = c.fill_lengths.new.reader in
    let size : length c.deref_mut.result.now ≡ c.args.count = omega (arith, c.deref_mut.ensures.len, c.in_ok-lengths.ensures.len) in
    let wrong : (is_filling rest && is_full lengths) ≡ false =
    elim c.else-filling.branch [
      | else-filling-via-then-filling+else-full w ↦ and_right (is_filling rest) (is_full lengths) (sym c.in-Some.ensures.full ∙ w.if-full.false)
      | else-filling-via-else-filling w ↦ and_left (is_filling rest) (is_full lengths) (sym w.if-filling.ensures)
    ]
    in
    sym (table_wrong c.args.count c.args.bytes.now lengths rest (rw (size, c.new-reader.ensures) at c.in-Some.ensures.value) wrong)
