use Rattle.std.proofs.Common.{◌≡◌, ℕ, List, ◌++◌, Ok, ◌∙◌, ap, ap₂, sym, length, take, drop, arith}
use Rattle.std.proofs.lemmas.List.{take_at}
use Rattle.std.proofs.lemmas.Result.{err_from_is_err_and}
use Rattle.exr_piz.specs.Cut.{parts_from}
use Rattle.exr_piz.specs.Piz.{restored_from}
use Rattle.exr_piz.proofs.Unpacked.{even_size, words_size, values_few, values_some, refused_parts, refused_words, restored_words}
use Rattle.exr_piz.proofs.unpacking.unpack_into.Goals as goal

pub returns-in_err-parts-clause-exact : goal.returns-in_err-parts-clause-exact
returns-in_err-parts-clause-exact c =
    let p = err_from_is_err_and c.from_residual.result c.from_residual.ensures.1 in
    rw (p.1, p.2) (refused_parts c.args.shape.now.channels.now c.args.shape.now.region c.args.packed.now c.in_err-parts.field-0.0 c.in_err-parts.ensures.value)

pub huffman_words-requires-clause-some : goal.huffman_words-requires-clause-some
huffman_words-requires-clause-some c = omega (arith, c.raw_size-size.ensures, c.requires.some, even_size c.args.shape.now.channels.now c.args.shape.now.region)

pub returns-in_err-words-clause-exact : goal.returns-in_err-words-clause-exact
returns-in_err-words-clause-exact c =
    let p = err_from_is_err_and c.from_residual-in_err-words.result c.from_residual-in_err-words.ensures.1 in
    rw (p.1, p.2) (refused_words c.args.shape.now.channels.now c.args.shape.now.region c.args.packed.now (parts_from c.in_ok-parts.parts) c.raw_size-size.result c.in_err-words.field-0.0 c.in_ok-parts.ensures.value c.raw_size-size.ensures c.in_err-words.ensures)

pub restore-requires-clause-size : goal.restore-requires-clause-size
restore-requires-clause-size c = omega (arith, words_size c.args.shape.now.channels.now c.args.shape.now.region c.in_ok-parts.parts.block.now c.in_ok-words.words.items c.raw_size-size.result c.raw_size-size.ensures c.in_ok-words.ensures)

pub restore-requires-clause-some : goal.restore-requires-clause-some
restore-requires-clause-some c = omega (arith, ap length c.deref.ensures.value, ap length c.in_ok-values.ensures, values_some c.in_ok-parts.parts.first c.in_ok-parts.parts.map.now)

pub restore-requires-clause-few : goal.restore-requires-clause-few
restore-requires-clause-few c = omega (arith, ap length c.deref.ensures.value, ap length c.in_ok-values.ensures, values_few c.in_ok-parts.parts.first c.in_ok-parts.parts.map.now)

pub returns-clause-exact : goal.returns-clause-exact
returns-clause-exact c =
    let channels = c.args.shape.now.channels.now in
    let region = c.args.shape.now.region in
    let parts = parts_from c.in_ok-parts.parts in
    let words = c.in_ok-words.words.items in
    let raw = c.restore.new.into in
    let all : take c.set_size.new.bytes.len (raw ++ drop (length raw) c.set_size.new.bytes.items) ≡ raw =
    take_at raw (drop (length raw) c.set_size.new.bytes.items) c.set_size.new.bytes.len (omega (arith, c.restore.auto.into, c.deref_mut-2.ensures.len)) in
    restored_words channels region c.args.packed.now words parts c.raw_size-size.result c.in_ok-parts.ensures.value c.raw_size-size.ensures c.in_ok-words.ensures
    ∙ ap (λ (raw : List ℕ). Ok raw) (sym (
    all
    ∙ c.restore.ensures
    ∙ ap₂ (λ (values ws : List ℕ). restored_from channels region values ws) (c.deref.ensures.value ∙ c.in_ok-values.ensures) c.deref_mut.ensures.value
    ))
