-- The table and the samples are there, or are not.
use Rattle.std.proofs.Common.{◌≡◌, ◌+◌, ◌-◌, ℕ, List, take, drop, Ok, sym, ap, ◌∙◌, arith, rules}
use Rattle.exr_deep.specs.Body.{DeepBody}
use Rattle.exr_stream.proofs.Whole.{body_there, body_outside}
use Rattle.exr_stream.proofs.fetch.body_in.Goals as goal

pub returns-then-bytes-end-clause-chunk : goal.returns-then-bytes-end-clause-chunk
returns-then-bytes-end-clause-chunk c = body_outside c.args.sizes c.args.bytes.now (omega arith)

pub returns-clause-chunk : goal.returns-clause-chunk
returns-clause-chunk c =
    let sizes = c.args.sizes in
    let bytes = c.args.bytes.now in
    let table : c.in_ok-table.table.items ≡ take sizes.table bytes = search rules in
    let count : (sizes.table + sizes.samples) - sizes.table ≡ sizes.samples = omega arith in
    let samples : c.in_ok-samples.samples.items ≡ take sizes.samples (drop sizes.table bytes) =
    c.in_ok-samples.ensures.items ∙ ap (λ n. take n (drop sizes.table bytes)) count in
    let of_lists : List ℕ → List ℕ → DeepBody = λ table samples. record { table = table; samples = samples; unpacked = sizes.unpacked } in
    body_there sizes bytes (omega arith) ∙ (λ i. Ok (of_lists (sym table i) (sym samples i)))
