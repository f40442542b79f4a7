-- The entries in the tables that were read are those of the file.
use Rattle.std.proofs.Common.{◌≡◌, ℕ, ◌+◌, ◌*◌, ◌<◌, ◌≤◌, List, length, drop, sum_by, Err, ap, subst, ◌∙◌, arith}
use Rattle.exr_block.specs.declared.fault.ChunkFault.TheVariants.{Outside}
use Rattle.exr_chunks.specs.Heads.{chunk_count_of}
use Rattle.exr_chunks.specs.Region.{header_at}
use Rattle.exr_chunks.specs.Table.{entry_place}
use Rattle.exr_stream.specs.declared.front.Front.{Front}
use Rattle.exr_stream.specs.Chunk.{entry_in}
use Rattle.exr_stream.specs.Stream.{IsFront, IsFrontOf}
use Rattle.exr_stream.proofs.Bare.{entry_by, entry_within}
use Rattle.exr_stream.proofs.Whole.{entry_there, entry_past}

-- an entry of the tables
pub record IsEntry (f : Front) (content : List ℕ) (k i at : ℕ) : Type 0 where
  pub front : IsFront f
  pub whole : IsFrontOf f content
  pub part : k < length f.head.parts
  pub index : i < chunk_count_of (header_at f.head.parts k)
  pub place : at ≡ entry_place f.geometry 0 k i

fits : (f : Front) (content : List ℕ) (k i at : ℕ) → IsEntry f content k i at → at + 8 ≤ 8 * sum_by chunk_count_of f.head.parts
fits f content k i at e = omega (arith, e.place, entry_by f.geometry f.head.parts k i e.front.geometry, entry_within f.head.parts k i e.part e.index)

here : (f : Front) (content : List ℕ) (k i at : ℕ) → IsEntry f content k i at → f.head_bytes + at ≡ entry_place f.head.parts f.head_bytes k i
here f content k i at e = ap (λ n. f.head_bytes + n) (e.place ∙ entry_by f.geometry f.head.parts k i e.front.geometry)

pub entry_is : (f : Front) (content : List ℕ) (k i at : ℕ) → IsEntry f content k i at → entry_in (drop at f.tables.items) ≡ entry_in (drop (entry_place f.head.parts f.head_bytes k i) content)
entry_is f content k i at e =
    ap (λ l. entry_in (drop at l)) e.whole.tables
    ∙ entry_there content f.head_bytes (8 * sum_by chunk_count_of f.head.parts) at (fits f content k i at e)
    ∙ ap (λ n. entry_in (drop n content)) (here f content k i at e)

pub entry_is_not : (f : Front) (content : List ℕ) (k i at : ℕ) → IsEntry f content k i at → length f.tables.items < at → Err Outside ≡ entry_in (drop (entry_place f.head.parts f.head_bytes k i) content)
entry_is_not f content k i at e short =
    entry_past content f.head_bytes (8 * sum_by chunk_count_of f.head.parts) at (fits f content k i at e) (subst (λ l. length l < at) e.whole.tables short)
    ∙ ap (λ n. entry_in (drop n content)) (here f content k i at e)
