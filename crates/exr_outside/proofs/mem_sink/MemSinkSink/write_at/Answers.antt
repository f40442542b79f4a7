use Rattle.std.proofs.Common.{◌≡◌, ◌∙◌, Result, Ok, Err, rules}
use Rattle.std.specs.Result.{OnErr}
use Rattle.exr_outside.proofs.Pieces.{replaced-nothing}
use Rattle.exr_outside.proofs.mem_sink.MemSinkSink.write_at.Goals as goal

-- what holds anyway holds after an error
on_err : {T E P : Type 0} (r : Result T E) → P → OnErr r P
on_err (Ok x) holds = tt
on_err (Err e) holds = holds

pub returns-in_err-make-clause-part : goal.returns-in_err-make-clause-part
returns-in_err-make-clause-part c =
    let same : c.self.inside.bytes.items ≡ c.args.self.now.bytes = search rules in
    on_err c.from_residual.result (0, same ∙ replaced-nothing c.args.pos c.args.self.now.bytes)
