-- What was read of the table and the samples is what the file has of them.
use Rattle.std.proofs.Common.{take, drop, ap, subst, ◌∙◌, arith}
use Rattle.std.proofs.lemmas.List.{length-drop}
use Rattle.exr_deep.specs.Body.{body_of}
use Rattle.exr_stream.specs.Chunk.{sized_body}
use Rattle.exr_stream.specs.Stream.{Fetches}
use Rattle.exr_stream.proofs.Whole.{body_outside, body_of_front}
use Rattle.exr_stream.proofs.fetch.sized_at.Goals as goal

pub returns-clause-chunk : goal.returns-clause-chunk
returns-clause-chunk g c = λ told.
    let rest = drop c.args.at (g.S.Source.means.content c.args.source.now) in
    let there = ap (take c.in_ok-count.count) c.as_slice-bytes.ensures.value ∙ c.in_ok-count.ensures.bytes told in
    subst (Fetches body_of c.body_in.result) (ap (sized_body c.args.sizes) there ∙ body_of_front c.args.sizes rest) c.body_in.ensures.chunk

pub returns-then-end-at-clause-chunk : goal.returns-then-end-at-clause-chunk
returns-then-end-at-clause-chunk g c = λ told.
    let content = g.S.Source.means.content c.args.source.now in
    body_outside c.args.sizes (drop c.args.at content) (omega (arith, c.if-end-at.true, c.requires.within, c.requires.content told, length-drop c.args.at content))
