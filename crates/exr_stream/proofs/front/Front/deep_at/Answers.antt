-- The sizes are small, and the table and the samples follow them.
use Rattle.std.proofs.Common.{◌≡◌, ◌+◌, IsTrue, length, drop, sym, ap, subst, ◌∙◌, arith}
use Rattle.std.proofs.lemmas.List.{drop-drop}
use Rattle.std.proofs.lemmas.Result.{IfOk-weaker}
use Rattle.exr_block.specs.declared.sizes.DeepSizes.{DeepSizes}
use Rattle.exr_block.specs.Sizes.{are_sizes}
use Rattle.exr_deep.specs.Body.{body_of}
use Rattle.exr_stream.specs.Chunk.{sized_body}
use Rattle.exr_stream.specs.Stream.{Fetches}
use Rattle.exr_stream.proofs.Forms.{deep_refused, owes_since}
use Rattle.exr_stream.proofs.Whole.{sizes_small, deep_found}
use Rattle.exr_stream.proofs.front.Front.deep_at.Goals as goal

pub sized_at-requires-clause-table : goal.sized_at-requires-clause-table
sized_at-requires-clause-table g c =
    let e = c.args.expected.now in
    let small = sizes_small e.method e.raw c.in-Ok.sizes c.in-Ok.ensures.fits c.requires.small in
    small.table

pub sized_at-requires-clause-samples : goal.sized_at-requires-clause-samples
sized_at-requires-clause-samples g c =
    let e = c.args.expected.now in
    let small = sizes_small e.method e.raw c.in-Ok.sizes c.in-Ok.ensures.fits c.requires.small in
    small.samples

pub sized_at-requires-clause-content : goal.sized_at-requires-clause-content
sized_at-requires-clause-content g c = λ told.
    c.requires.content told ∙ ap length (sym (c.sizes_at.ensures.same.content told))

pub returns-in-Ok-clause-chunk : goal.returns-in-Ok-clause-chunk
returns-in-Ok-clause-chunk g c = λ told.
    let e = c.args.expected.now in
    let content = g.S.Source.means.content c.args.source.now in
    let n = length e.fields.items + 24 in
    let sizes = c.in-Ok.sizes in
    let rest = drop c.args.entry content in
    let long : c.len.result ≡ length e.fields.items = omega (arith, c.len.ensures, e.fields.ok.0) in
    let place =
    ap (λ k. drop (c.args.entry + (k + 24)) (g.S.Source.means.content c.sizes_at.new.source)) long
    ∙ ap (drop (c.args.entry + n)) (c.sizes_at.ensures.same.content told) ∙ sym (drop-drop n c.args.entry content) in
    subst (Fetches body_of c.sized_at.result) (ap (sized_body sizes) place ∙ sym (deep_found e.fields.items e.method e.raw sizes rest (c.in-Ok.ensures.chunk told))) (c.sized_at.ensures.chunk told)

pub returns-in-Ok-clause-size : goal.returns-in-Ok-clause-size
returns-in-Ok-clause-size g c =
    let e = c.args.expected.now in
    IfOk-weaker c.sized_at.result _ _
    (λ packed is. subst (λ (s : DeepSizes). IsTrue (are_sizes e.method e.raw s)) (sym is) c.in-Ok.ensures.fits)
    c.sized_at.ensures.size

pub returns-in-Ok-clause-read : goal.returns-in-Ok-clause-read
returns-in-Ok-clause-read g c = owes_since c.sized_at.result _ _ _ c.sizes_at.ensures.later c.sized_at.ensures.read

pub returns-in-Err-clause-chunk : goal.returns-in-Err-clause-chunk
returns-in-Err-clause-chunk g c = λ told.
    let e = c.args.expected.now in
    deep_refused c.in-Err.refusal e.fields.items e.method e.raw (drop c.args.entry (g.S.Source.means.content c.args.source.now)) (c.in-Err.ensures.chunk told)

pub overflow_add-at-in-Ok : goal.overflow_add-at-in-Ok
overflow_add-at-in-Ok g c =
    let long : c.len.result ≡ length c.args.expected.now.fields.items = omega (arith, c.len.ensures, c.args.expected.now.fields.ok.0) in
    omega (arith, long, c.in-Ok.ensures.there)
