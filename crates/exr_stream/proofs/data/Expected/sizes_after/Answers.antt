-- The fields are the ones that are expected, and the sizes follow them.
use Rattle.std.proofs.Common.{◌≡◌, ◌-◌, true, false, bytes_eq, take, drop, length, Ok, Err, sym, ap, subst, ◌∙◌}
use Rattle.std.proofs.lemmas.Bool.{not-false, not-true}
use Rattle.std.proofs.lemmas.List.{take_rest}
use Rattle.exr_block.specs.declared.fault.ChunkFault.TheVariants.{WrongPlace}
use Rattle.exr_stream.specs.Chunk.{sizes_after}
use Rattle.exr_stream.proofs.Whole.{sizes_here, sizes_elsewhere, sizes_outside}
use Rattle.exr_stream.proofs.data.Expected.sizes_after.Goals as goal

pub returns-then-ne-clause-exact : goal.returns-then-ne-clause-exact
returns-then-ne-clause-exact c =
    let fields = c.as_slice-fields.result.now in
    let front = c.in-Ok.front.now in
    let other : bytes_eq (take (length fields) front) fields ≡ false = not-true (bytes_eq (take (length fields) front) fields) (sym c.ne.ensures ∙ c.if-ne.true) in
    subst (λ f. sizes_after f c.args.count c.args.bytes.now ≡ Err WrongPlace) c.as_slice-fields.ensures.value
    (sizes_elsewhere fields front c.args.count c.args.bytes.now c.in-Ok.ensures.exact other)

pub returns-else-ne-clause-exact : goal.returns-else-ne-clause-exact
returns-else-ne-clause-exact c =
    let fields = c.as_slice-fields.result.now in
    let front = c.in-Ok.front.now in
    let same : bytes_eq (take (length fields) front) fields ≡ true = not-false (bytes_eq (take (length fields) front) fields) (sym c.ne.ensures ∙ c.if-ne.false) in
    subst (λ f. sizes_after f c.args.count c.args.bytes.now ≡ Ok (take (length front - length fields) (drop (length fields) front))) c.as_slice-fields.ensures.value
    (sizes_here fields front c.args.count c.args.bytes.now c.in-Ok.ensures.exact same ∙ ap Ok (sym (take_rest front (length fields))))

pub returns-in-Err-clause-exact : goal.returns-in-Err-clause-exact
returns-in-Err-clause-exact c =
    let fields = c.as_slice-fields.result.now in
    subst (λ f. sizes_after f c.args.count c.args.bytes.now ≡ Err c.in-Err.fault) c.as_slice-fields.ensures.value
    (sizes_outside fields c.args.count c.args.bytes.now c.in-Err.fault c.in-Err.ensures.exact)
