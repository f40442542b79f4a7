-- What was read of the fields is what the file has of them.
use Rattle.std.proofs.Common.{◌≡◌, ◌+◌, min, length, take, drop, ap, subst, ◌∙◌, arith}
use Rattle.std.proofs.lemmas.List.{length-drop, length-take}
use Rattle.std.proofs.lemmas.Result.{IfOk-weaker}
use Rattle.exr_block.specs.declared.sizes.DeepSizes.{DeepSizes}
use Rattle.exr_stream.specs.Chunk.{deep_sizes_in}
use Rattle.exr_stream.specs.Stream.{Fetches}
use Rattle.exr_stream.proofs.Whole.{sizes_of_piece}
use Rattle.exr_stream.proofs.front.Front.sizes_at.Goals as goal

pub returns-clause-chunk : goal.returns-clause-chunk
returns-clause-chunk g c = λ told.
    let e = c.args.expected.now in
    let content = g.S.Source.means.content c.args.source.now in
    let rest = drop c.args.entry content in
    let left : c.saturating_sub.result ≡ length rest = omega (arith, c.saturating_sub.ensures, c.requires.content told, length-drop c.args.entry content) in
    let front : c.deep_front-front.result ≡ min (length rest) (length e.fields.items + 24) =
    c.deep_front-front.ensures ∙ ap (λ n. min n (length e.fields.items + 24)) left in
    let there = ap (take c.in_ok-count.count) c.as_slice-bytes.ensures.value ∙ c.in_ok-count.ensures.bytes told in
    subst (Fetches (λ (sizes : DeepSizes). sizes) c.sizes_in.result) (ap (deep_sizes_in e.fields.items e.method e.raw) there ∙ sizes_of_piece e.fields.items e.method e.raw c.deep_front-front.result rest front) c.sizes_in.ensures.chunk

pub returns-clause-there : goal.returns-clause-there
returns-clause-there g c =
    IfOk-weaker c.sizes_in.result _ _
    (λ sizes le. omega (arith, le, length-take c.in_ok-count.count c.as_slice-bytes.result.now, c.in_ok-count.ensures.few, c.deep_front-front.ensures, c.saturating_sub.ensures))
    c.sizes_in.ensures.there
