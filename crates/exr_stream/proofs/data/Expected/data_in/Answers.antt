-- The data follows the size.
use Rattle.std.proofs.Common.{◌≡◌, ◌+◌, length, drop, MatchResult, Ok, Err, sym, ap, subst, ◌∙◌}
use Rattle.std.proofs.lemmas.List.{take_rest}
use Rattle.exr_stream.specs.Chunk.{first_bytes}
use Rattle.exr_stream.proofs.Whole.{data_found, data_not}
use Rattle.exr_stream.proofs.data.Expected.data_in.Goals as goal

pub returns-in-Ok-clause-exact : goal.returns-in-Ok-clause-exact
returns-in-Ok-clause-exact c =
    let s = c.args.self.now in
    let bytes = c.args.bytes.now in
    let fields = c.as_slice-fields.result.now in
    let n = length fields + 4 in
    let found = data_found s.fields.items s.method s.raw c.in-Ok.size bytes (sym c.in-Ok.ensures.exact) in
    subst (λ x. MatchResult c.first_bytes.result (λ found. x ≡ Ok found.now) (λ fault. x ≡ Err fault))
    (ap (first_bytes c.in-Ok.size) (take_rest bytes n) ∙ ap (λ f. first_bytes c.in-Ok.size (drop (length f + 4) bytes)) c.as_slice-fields.ensures.value ∙ sym found)
    c.first_bytes.ensures.exact

pub returns-in-Err-clause-exact : goal.returns-in-Err-clause-exact
returns-in-Err-clause-exact c =
    let s = c.args.self.now in
    data_not s.fields.items s.method s.raw c.args.bytes.now c.in-Err.fault (sym c.in-Err.ensures.exact)
