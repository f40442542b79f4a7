-- The raw content of a chunk is that of the data that was fetched of it.
use Rattle.std.proofs.Common.{◌≡◌, ℕ, List, Result, Ok, Err, IfOk, OnOk, IfErr, sym, ap, subst, ◌∙◌}
use Rattle.exr_base.specs.declared.shape.Box2i.{Box2i}
use Rattle.exr_base.specs.declared.channel.Channel.{Channel}
use Rattle.exr_base.specs.declared.method.Method.{Method}
use Rattle.exr_base.specs.Refusal.{◌>>=◌}
use Rattle.exr_block.specs.declared.fault.ChunkFault.{ChunkFault}
use Rattle.exr_block.specs.Body.{Stored, Content, data_of, content_of}
use Rattle.exr_block.specs.Content.{raw_of_body}
use Rattle.exr_chunks.specs.Region.{region_of}
use Rattle.exr_base.specs.declared.refusal.Refusal.{Refusal}
use Rattle.exr_base.specs.declared.refusal.Refusal.TheVariants as refused
use Rattle.exr_block.specs.declared.body.Block.{Block}
use Rattle.exr_block.specs.declared.body.Body.{Body}
use Rattle.exr_stream.specs.declared.fault.FetchFault.{FetchFault}
use Rattle.exr_stream.specs.declared.fault.FetchFault.TheVariants as fetch
use Rattle.exr_stream.specs.Stream.{Fetches, OwesFetch}
use Rattle.exr_stream.specs.Chunk.{Opened, header_in, chunk_of}
use Rattle.exr_reader.specs.Reading.{HasData}
use Rattle.exr_reader.specs.Sample.{raw_of}

pub raw_is : (file : Opened) (part i : ℕ) (body : Stored) (m : Method) (cs : List Channel) (r : Box2i) (answer : Result Content ChunkFault) → chunk_of file part i ≡ Ok body
    → m ≡ (header_in file part).method → cs ≡ (header_in file part).channels → r ≡ region_of (header_in file part) i → raw_of_body m cs r body ≡ answer → raw_of file part i ≡ answer
unfolding raw_of
raw_is file part i body m cs r answer chunk method channels region is =
    let h = header_in file part in
    ap (λ x. x >>= raw_of_body h.method h.channels (region_of h i)) chunk
    ∙ sym (ap (λ (m : Method). raw_of_body m cs r body) method ∙ ap (λ (cs : List Channel). raw_of_body h.method cs r body) channels ∙ ap (λ (r : Box2i). raw_of_body h.method h.channels r body) region)
    ∙ is

pub raw_fault : (file : Opened) (part i : ℕ) (fault : ChunkFault) → chunk_of file part i ≡ Err fault → raw_of file part i ≡ Err fault
unfolding raw_of
raw_fault file part i fault chunk = ap (λ x. x >>= raw_of_body (header_in file part).method (header_in file part).channels (region_of (header_in file part) i)) chunk

-- a chunk with raw content has some
pub data_if : {E : Type 0} (file : Opened) (part i : ℕ) (r : Result Block E) → IfOk r (λ block. raw_of file part i ≡ Ok (content_of block)) → OnOk r (HasData file part i)
data_if file part i (Ok block) is = (content_of block, is)
data_if file part i (Err e) is = tt

-- what a refused fetch says
pub fetched_fault : (refusal : Refusal FetchFault) (fault : ChunkFault) (chunk : Result Stored ChunkFault) → refusal ≡ refused.Fault (fetch.Chunk fault) → Fetches data_of (Err refusal) chunk → chunk ≡ Err fault
fetched_fault refusal fault chunk is has = subst (λ (e : Refusal FetchFault). Fetches data_of (Err e) chunk) is has

pub failed_read : (refusal : Refusal FetchFault) (rose : Type 0) → refusal ≡ refused.Fault fetch.Read → OwesFetch {T = Body} (Err refusal) rose → rose
failed_read refusal rose is owes = subst (λ (e : Refusal FetchFault). OwesFetch {T = Body} (Err e) rose) is owes

pub if_err : {A E : Type 0} (r : Result A E) (P Q : E → Type 0) → ((e : E) → P e → Q e) → IfErr r P → IfErr r Q
if_err (Ok x) P Q f has = has
if_err (Err e) P Q f has = f e has
