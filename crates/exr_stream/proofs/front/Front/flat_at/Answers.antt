-- What was read of the chunk is what the file has of it.
use Rattle.std.proofs.Common.{◌≡◌, ◌+◌, ℕ, Vec, Global, min, length, take, drop, ap, subst, ◌∙◌, arith}
use Rattle.std.proofs.lemmas.List.{length-drop}
use Rattle.exr_stream.specs.Chunk.{data_in}
use Rattle.exr_stream.specs.Stream.{Fetches}
use Rattle.exr_stream.proofs.Whole.{data_of_piece}
use Rattle.exr_stream.proofs.front.Front.flat_at.Goals as goal

pub returns-clause-chunk : goal.returns-clause-chunk
returns-clause-chunk g c = λ told.
    let e = c.args.expected.now in
    let content = g.S.Source.means.content c.args.source.now in
    let rest = drop c.args.entry content in
    let left : c.saturating_sub.result ≡ length rest = omega (arith, c.saturating_sub.ensures, c.requires.content told, length-drop c.args.entry content) in
    let most : c.most-most.result ≡ min (length rest) (length e.fields.items + 4 + e.raw) =
    c.most-most.ensures ∙ ap (λ n. min n (length e.fields.items + 4 + e.raw)) left in
    let there = ap (take c.in_ok-count.count) c.as_slice-bytes.ensures.value ∙ c.in_ok-count.ensures.bytes told in
    subst (Fetches (λ (found : Vec ℕ Global). found.items) c.bytes_in.result) (ap (data_in e.fields.items e.method e.raw) there ∙ data_of_piece e.fields.items e.method e.raw c.most-most.result rest most) c.bytes_in.ensures.chunk
