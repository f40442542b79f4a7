-- The chunk begins where its entry says.
use Rattle.std.proofs.Common.{◌≡◌, ℕ, Bool, IfOk, drop, sym, ap, subst, ◌∙◌}
use Rattle.exr_block.specs.Body.{data_of, is_deep_data}
use Rattle.exr_chunks.specs.Fields.{chunk_fields}
use Rattle.exr_chunks.specs.Heads.{is_deep}
use Rattle.exr_chunks.specs.Region.{header_at, place_of}
use Rattle.exr_stream.specs.Chunk.{Opened, stored_in}
use Rattle.exr_stream.specs.Stream.{Fetches}
use Rattle.exr_stream.proofs.Forms.{body_fits}
use Rattle.exr_stream.proofs.Whole.{chunk_data, chunk_at, chunk_not}
use Rattle.exr_stream.proofs.front.Front.fetch.Goals as goal

pub returns-in_ok-expected-in-Ok-clause-chunk : goal.returns-in_ok-expected-in-Ok-clause-chunk
returns-in_ok-expected-in-Ok-clause-chunk g c = λ told.
    let head = c.args.self.now.head in
    let h = header_at head.parts c.args.part in
    let e = c.in_ok-expected-in-Ok.expected in
    let content = g.S.Source.means.content c.args.source.now in
    let file : Opened = record { content = content; head = head; head_bytes = c.args.self.now.head_bytes } in
    let entry = sym (c.entry.ensures content (c.requires.content told)) ∙ c.in-Ok.is in
    let fields = chunk_fields head.multi c.args.part (place_of h c.args.index) in
    let rest = drop c.in-Ok.entry content in
    let asked : stored_in e.deep e.fields.items e.method e.raw rest ≡ chunk_data file c.args.part c.args.index c.in-Ok.entry =
    ap (λ (b : Bool). stored_in b e.fields.items e.method e.raw rest) c.in_ok-expected-in-Ok.ensures.deep
    ∙ ap (λ f. stored_in (is_deep h.kind) f e.method e.raw rest) c.in_ok-expected-in-Ok.ensures.fields
    ∙ ap (λ m. stored_in (is_deep h.kind) fields m e.raw rest) c.in_ok-expected-in-Ok.ensures.method
    ∙ ap (λ (n : ℕ). stored_in (is_deep h.kind) fields h.method n rest) c.in_ok-expected-in-Ok.ensures.raw in
    subst (Fetches data_of c.body_at.result) (asked ∙ sym (chunk_at file c.args.part c.args.index c.in-Ok.entry entry)) (c.body_at.ensures.chunk told)

pub returns-in_ok-expected-in-Ok-clause-form : goal.returns-in_ok-expected-in-Ok-clause-form
returns-in_ok-expected-in-Ok-clause-form g c =
    subst (λ (b : Bool). IfOk c.body_at.result (λ body. is_deep_data (data_of body) ≡ b)) c.in_ok-expected-in-Ok.ensures.deep c.body_at.ensures.form

pub returns-in_ok-expected-in-Ok-clause-fits : goal.returns-in_ok-expected-in-Ok-clause-fits
returns-in_ok-expected-in-Ok-clause-fits g c =
    let h = header_at c.args.self.now.head.parts c.args.part in
    let e = c.in_ok-expected-in-Ok.expected in
    body_fits c.body_at.result e.method e.raw h c.args.index c.in_ok-expected-in-Ok.ensures.method c.in_ok-expected-in-Ok.ensures.raw (returns-in_ok-expected-in-Ok-clause-form g c) c.body_at.ensures.size

pub returns-in-Err-clause-chunk : goal.returns-in-Err-clause-chunk
returns-in-Err-clause-chunk g c = λ told.
    let content = g.S.Source.means.content c.args.source.now in
    let file : Opened = record { content = content; head = c.args.self.now.head; head_bytes = c.args.self.now.head_bytes } in
    chunk_not file c.args.part c.args.index c.in-Err.fault (sym (c.entry.ensures content (c.requires.content told)) ∙ c.in-Err.is)
