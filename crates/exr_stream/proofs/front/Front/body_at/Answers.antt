-- The data of a deep chunk, or of one that is not, is that of the chunk.
use Rattle.std.proofs.Common.{drop}
use Rattle.exr_deep.specs.Body.{body_of}
use Rattle.exr_stream.proofs.Forms.{stored_deep, stored_flat, refused_deep, refused_flat}
use Rattle.exr_stream.proofs.front.Front.body_at.Goals as goal

pub returns-in-Ok-clause-chunk : goal.returns-in-Ok-clause-chunk
returns-in-Ok-clause-chunk g c = λ told.
    let e = c.args.expected.now in
    stored_deep e.deep e.fields.items e.method e.raw (drop c.args.entry (g.S.Source.means.content c.args.source.now)) (body_of c.in-Ok.packed) c.if-expected.true (c.in-Ok.ensures.chunk told)

pub returns-in-Err-clause-chunk : goal.returns-in-Err-clause-chunk
returns-in-Err-clause-chunk g c = λ told.
    let e = c.args.expected.now in
    refused_deep e.deep e.fields.items e.method e.raw (drop c.args.entry (g.S.Source.means.content c.args.source.now)) c.in-Err.refusal c.if-expected.true (c.in-Err.ensures.chunk told)

pub returns-in-Ok-flat_at-clause-chunk : goal.returns-in-Ok-flat_at-clause-chunk
returns-in-Ok-flat_at-clause-chunk g c = λ told.
    let e = c.args.expected.now in
    stored_flat e.deep e.fields.items e.method e.raw (drop c.args.entry (g.S.Source.means.content c.args.source.now)) c.in-Ok-flat_at.bytes.items c.if-expected.false (c.in-Ok-flat_at.ensures.chunk told)

pub returns-in-Err-flat_at-clause-chunk : goal.returns-in-Err-flat_at-clause-chunk
returns-in-Err-flat_at-clause-chunk g c = λ told.
    let e = c.args.expected.now in
    refused_flat e.deep e.fields.items e.method e.raw (drop c.args.entry (g.S.Source.means.content c.args.source.now)) c.in-Err-flat_at.refusal c.if-expected.false (c.in-Err-flat_at.ensures.chunk told)
