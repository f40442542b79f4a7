-- What was fetched is unpacked by the part's method, for the chunk's shape.
use Rattle.std.proofs.Common.{◌≡◌, IsTrue, Ok, Err, ap, ◌∙◌}
use Rattle.exr_block.specs.Body.{data_of, content_of}
use Rattle.exr_block.specs.Content.{raw_of_body}
use Rattle.exr_chunks.specs.Heads.{Header}
use Rattle.exr_chunks.specs.Region.{header_at, region_of}
use Rattle.exr_header.specs.Head.{Head}
use Rattle.exr_stream.specs.Stream.{file_of}
use Rattle.exr_reader.specs.Sample.{raw_of}
use Rattle.exr_base.specs.declared.refusal.Refusal.TheVariants as refused
use Rattle.exr_stream.specs.declared.fault.FetchFault.TheVariants as fetch
use Rattle.exr_stream.specs.Chunk.{chunk_of}
use Rattle.exr_reader.proofs.Contents.{raw_is, data_if, raw_fault, fetched_fault, failed_read, if_err}
use Rattle.exr_reader.proofs.InRounds.{cause_by}
use Rattle.exr_reader.proofs.Meeting.{if_ok}
use Rattle.exr_reader.proofs.fetched.read_block.Goals as goal

pub returns-in-Ok-clause-content : goal.returns-in-Ok-clause-content
returns-in-Ok-clause-content g c = λ told.
    let s = c.args.stream.now in
    let shape = c.shape-shape.result in
    let method = c.method-method.ensures ∙ ap (λ (h : Header). h.method) c.header.ensures.exact in
    let channels = c.shape-shape.ensures.channels ∙ ap (λ (head : Head). (header_at head.parts c.args.part).channels) c.in-Ok.ensures.same.head in
    let region = c.shape-shape.ensures.region ∙ ap (λ (head : Head). region_of (header_at head.parts c.args.part) c.args.index) c.in-Ok.ensures.same.head in
    if_ok c.unpacked.result _ _
    (λ block is. raw_is (file_of g.S.Source.means s) c.args.part c.args.index (data_of c.in-Ok.body) c.method-method.result shape.channels.now shape.region (Ok (content_of block)) (c.in-Ok.ensures.chunk told) method channels region is)
    c.unpacked.ensures.content

pub returns-in-Ok-clause-data : goal.returns-in-Ok-clause-data
returns-in-Ok-clause-data g c = λ told.
    data_if (file_of g.S.Source.means c.args.stream.now) c.args.part c.args.index c.unpacked.result (returns-in-Ok-clause-content g c told)

pub returns-in-Ok-clause-cause : goal.returns-in-Ok-clause-cause
returns-in-Ok-clause-cause g c =
    let means = g.S.Source.means in
    let s = c.args.stream.now in
    let shape = c.shape-shape.result in
    let method = c.method-method.ensures ∙ ap (λ (h : Header). h.method) c.header.ensures.exact in
    let channels = c.shape-shape.ensures.channels ∙ ap (λ (head : Head). (header_at head.parts c.args.part).channels) c.in-Ok.ensures.same.head in
    let region = c.shape-shape.ensures.region ∙ ap (λ (head : Head). region_of (header_at head.parts c.args.part) c.args.index) c.in-Ok.ensures.same.head in
    if_err c.unpacked.result _ _
    (λ cause has. cause_by cause
    (λ i fault. (i ≡ c.args.index) × (raw_of_body c.method-method.result shape.channels.now shape.region (data_of c.in-Ok.body) ≡ Err fault))
    (λ i fault. (i ≡ c.args.index) × (IsTrue means.tells → raw_of (file_of means s) c.args.part c.args.index ≡ Err fault))
    ⊥ _
    (λ i fault is. (is.0, λ told. raw_is (file_of means s) c.args.part c.args.index (data_of c.in-Ok.body) c.method-method.result shape.channels.now shape.region (Err fault) (c.in-Ok.ensures.chunk told) method channels region is.1))
    (λ none. absurd none)
    has)
    c.unpacked.ensures.cause

pub returns-in-Err-clause-cause : goal.returns-in-Err-clause-cause
returns-in-Err-clause-cause g c =
    let means = g.S.Source.means in
    let s = c.args.stream.now in
    let file = file_of means s in
    let refusal = c.in-Err.refusal in
    cause_by c.cause_of.result
    (λ i fault. (i ≡ c.args.index) × (refusal ≡ refused.Fault (fetch.Chunk fault)))
    (λ i fault. (i ≡ c.args.index) × (IsTrue means.tells → raw_of file c.args.part c.args.index ≡ Err fault))
    (refusal ≡ refused.Fault fetch.Read) _
    (λ i fault is. (is.0, λ told. raw_fault file c.args.part c.args.index fault (fetched_fault refusal fault (chunk_of file c.args.part c.args.index) is.1 (c.in-Err.ensures.chunk told))))
    (λ is. failed_read refusal _ is c.in-Err.ensures.read)
    c.cause_of.ensures
