-- Chunks of a deep part, read one after the other.
use Rattle.std.proofs.Common.{◌≡◌, ℕ, ℤ, ◌+◌, ◌*◌, ◌^◌, ◌<◌, ◌≤◌, ◌≤ℤ◌, true, List, [], ◌∷◌, ◌++◌, length, take, get_or, slice_index, Ok, IsTrue, inl, inr, refl, sym, ap, subst, ◌∙◌, arith}
use Rattle.std.specs.List.{sum_by, All, HoldsAt}
use Rattle.std.proofs.lemmas.Bool.{cases_lt}
use Rattle.std.proofs.lemmas.Int.{ints}
use Rattle.std.proofs.lemmas.List.{get_or_append_left, get_or_push, length_push, take_more}
use Rattle.std.proofs.lemmas.List.Elements.{All-nil, All-from_get_or}
use Rattle.std.proofs.lemmas.List.Sums.{sum_by_push}
use Rattle.exr_base.specs.declared.shape.Box2i.{Box2i}
use Rattle.exr_base.specs.Boxes.{IsWithin, IsInside}
use Rattle.exr_base.specs.Sampling.{span_of}
use Rattle.exr_base.specs.Shape.{IsSide, IsRegion}
use Rattle.exr_base.proofs.Sides.{span_is, side_within}
use Rattle.exr_block.specs.declared.fault.ChunkFault.{ChunkFault}
use Rattle.exr_block.specs.Body.{deep_content}
use Rattle.exr_deep.specs.Body.{content_of}
use Rattle.exr_deep.specs.Deep.{fits, pixels_of}
use Rattle.exr_image.specs.declared.chunk.DeepChunk.{DeepChunk}
use Rattle.exr_image.specs.Pixel.{count_in, pixel_samples_in}
use Rattle.exr_image.specs.Image.{AreFrom}
use Rattle.exr_header.specs.Head.{Head}
use Rattle.exr_chunks.specs.Heads.{Header, IsPicture, chunk_count_of}
use Rattle.exr_chunks.specs.Pixels.{chunk_with}
use Rattle.exr_chunks.specs.Region.{header_at, region_of}
use Rattle.exr_chunks.proofs.Pixels.{one_chunk}
use Rattle.exr_outside.specs.Source.{SourceMeaning}
use Rattle.exr_stream.specs.Chunk.{Opened, header_in}
use Rattle.exr_stream.specs.Stream.{StreamView, file_of, IsSameStream}
use Rattle.exr_reader.specs.declared.cause.ReadCause.{ReadCause}
use Rattle.exr_reader.specs.declared.cause.ReadCause.TheVariants as why
use Rattle.exr_reader.specs.Sample.{raw_of}
use Rattle.exr_reader.specs.Reading.{HasData, HasCause}
use Rattle.exr_reader.specs.Window.{AreChunks, HaveDataOf}
use Rattle.exr_reader.specs.Deep.{deep_or_none, deep_of_chunk, pixels_in, samples_size, size_so_far, AreSmall, AreRead, IsDeepChunk, AreDeepChunks, HasDeepCause, stop_of_cause}
use Rattle.exr_reader.proofs.Same.{file_same}

-- ---- the chunks so far

pub chunks_none : (told : Type 0) (file : Opened) (part : ℕ) (indexes : List ℕ) (from : ℕ) → AreDeepChunks told file part indexes from []
chunks_none told file part indexes from = λ k lt. absurd (omega (arith, lt))

pub chunks_more : (told : Type 0) (file : Opened) (part : ℕ) (indexes : List ℕ) (from : ℕ) (chunks : List DeepChunk) (chunk : DeepChunk) → AreDeepChunks told file part indexes from chunks
    → IsDeepChunk told file part (slice_index indexes (from + length chunks)) chunk → AreDeepChunks told file part indexes from (chunks ++ chunk ∷ [])
chunks_more told file part indexes from chunks chunk are is = λ k lt d.
    elim (cases_lt k (length chunks)) [
      | inl before ↦ subst (IsDeepChunk told file part (slice_index indexes (from + k))) (sym (get_or_append_left chunks (chunk ∷ []) d k before)) (are k before d)
      | inr le ↦
          let more = length_push chunks chunk in
          let last : k ≡ length chunks = omega (arith, le, lt, more) in
          subst (IsDeepChunk told file part (slice_index indexes (from + k))) (sym (get_or_push chunks chunk d k (sym last)))
          (subst (λ n. IsDeepChunk told file part (slice_index indexes (from + n)) chunk) (sym last) is)
    ]

-- the first n chunks of a list have content, and the next one
pub content_more : (file : Opened) (part : ℕ) (indexes : List ℕ) (n : ℕ) → HaveDataOf file part indexes n → HasData file part (slice_index indexes n) → HaveDataOf file part indexes (n + 1)
content_more file part indexes n before here = λ r there lt.
    elim (cases_lt r n) [
      | inl low ↦ before r there low
      | inr le ↦ subst (λ m. HasData file part (slice_index indexes m)) (omega (arith, le, lt)) here
    ]

-- ---- how many bytes there are so far

pub size_more : (file : Opened) (part : ℕ) (window : Box2i) (indexes : List ℕ) (n : ℕ) → n < length indexes
    → size_so_far file part window indexes (n + 1) ≡ size_so_far file part window indexes n + samples_size file part (slice_index indexes n)
unfolding size_so_far
size_more file part window indexes n lt =
    let sizes = samples_size file part in
    let e : sum_by sizes (take (n + 1) indexes) ≡ sum_by sizes (take n indexes) + sizes (slice_index indexes n) =
    ap (sum_by sizes) (take_more indexes n 0 lt) ∙ sum_by_push sizes (take n indexes) (slice_index indexes n) in
    omega (arith, e)

-- the bytes of the samples of a chunk that was read
pub size_here : (file : Opened) (part index : ℕ) (chunk : DeepChunk) → raw_of file part index ≡ Ok (deep_content (content_of chunk.content)) → samples_size file part index ≡ length chunk.content.samples.items
size_here file part index chunk is = ap (λ r. length (deep_or_none r).samples) is

pub small_more : (file : Opened) (part : ℕ) (window : Box2i) (indexes : List ℕ) (n : ℕ) → AreSmall file part window indexes n → size_so_far file part window indexes (n + 1) ≤ 2 ^ 30
    → AreSmall file part window indexes (n + 1)
small_more file part window indexes n before here = λ r lt.
    elim (cases_lt r n) [
      | inl low ↦ before r low
      | inr le ↦ subst (λ m. size_so_far file part window indexes (m + 1) ≤ 2 ^ 30) (omega (arith, le, lt)) here
    ]

-- ---- what was read so far

pub read_none : (file : Opened) (part : ℕ) (window : Box2i) (indexes : List ℕ) (size : ℕ) → size ≡ 4 * pixels_of window → AreRead file part window indexes 0 size
unfolding size_so_far
read_none file part window indexes size is = record {
  content = λ r there lt. absurd (omega (arith, lt));
  small = λ r lt. absurd (omega (arith, lt));
  is = omega (arith, is);
}

pub read_more : (file : Opened) (part : ℕ) (window : Box2i) (indexes : List ℕ) (n size more : ℕ) (chunk : DeepChunk) → n < length indexes → AreRead file part window indexes n size
    → raw_of file part (slice_index indexes n) ≡ Ok (deep_content (content_of chunk.content)) → more ≡ size + length chunk.content.samples.items → more ≤ 2 ^ 30 → AreRead file part window indexes (n + 1) more
read_more file part window indexes n size more chunk within before is sum few =
    let next = size_more file part window indexes n within in
    let here = size_here file part (slice_index indexes n) chunk is in
    let so_far = before.is in
    record {
      content = content_more file part indexes n before.content (deep_content (content_of chunk.content), is);
      small = small_more file part window indexes n before.small (omega (arith, next, here, so_far, sum, few));
      is = omega (arith, next, here, so_far, sum);
    }

-- ---- chunks of a stream of the same file

pub chunk_before : {S : Type 0} (means : SourceMeaning S) (old new : StreamView S) (part index : ℕ) (chunk : DeepChunk) → IsSameStream means old new
    → IsDeepChunk (IsTrue means.tells) (file_of means new) part index chunk → IsDeepChunk (IsTrue means.tells) (file_of means old) part index chunk
chunk_before means old new part index chunk same is =
    record {
      region = subst (λ (head : Head). chunk.region ≡ region_of (header_at head.parts part) index) same.head is.region;
      is_region = is.is_region;
      inside = subst (λ (head : Head). IsInside (header_at head.parts part).window chunk.region) same.head is.inside;
      fits = subst (λ (head : Head). fits (header_at head.parts part).channels chunk.region (content_of chunk.content) ≡ true) same.head is.fits;
      content = λ told. sym (ap (λ (file : Opened). raw_of file part index) (file_same means old new same told)) ∙ is.content told;
    }

pub chunks_before : {S : Type 0} (means : SourceMeaning S) (old new : StreamView S) (part from : ℕ) (indexes : List ℕ) (chunks : List DeepChunk) → IsSameStream means old new
    → AreDeepChunks (IsTrue means.tells) (file_of means new) part indexes from chunks → AreDeepChunks (IsTrue means.tells) (file_of means old) part indexes from chunks
chunks_before means old new part from indexes chunks same are = λ k lt d. chunk_before means old new part (slice_index indexes (from + k)) (get_or chunks k d) same (are k lt d)

-- ---- the image of a window

pub within_inside : (all w : Box2i) (x y : ℤ) → IsInside all w → IsWithin w x y → IsWithin all x y
within_inside all w x y inside pixel =
    let a = inside.left in let b = inside.right in let c = inside.top in let d = inside.bottom in
    let l = pixel.left in let r = pixel.right in let t = pixel.top in let u = pixel.bottom in
    record { left = omega (arith, ints, a, l); right = omega (arith, ints, b, r); top = omega (arith, ints, c, t); bottom = omega (arith, ints, d, u) }

-- a window within the data window is a region
pub side_in : (low high from to : ℤ) → IsSide low high → low ≤ℤ from → from ≤ℤ to → to ≤ℤ high → IsSide from to
side_in low high from to side l o r =
    let a = side.low in
    let b = side.end_high in
    let few = side.few in
    let whole = span_is low high side.ends in
    let part = span_is from to (omega (arith, ints, o)) in
    side_within from to (span_of from to) o (omega (arith, ints, a, l)) (omega (arith, ints, b, r)) refl (omega (arith, ints, whole, part, l, r, few))

pub region_in : (h : Header) (window : Box2i) → IsPicture h → IsInside h.window window → IsRegion window
region_in h window picture inside =
    let all = picture.shape.within in
    record {
      columns = side_in h.window.x0 h.window.x1 window.x0 window.x1 all.columns inside.left inside.columns inside.right;
      rows = side_in h.window.y0 h.window.y1 window.y0 window.y1 all.rows inside.top inside.rows inside.bottom;
    }

-- what a chunk says of its pixels is what the part has there
from_chunk : (told : Type 0) (file : Opened) (part index : ℕ) (chunk : DeepChunk) → told → IsPicture (header_in file part) → index < chunk_count_of (header_in file part)
    → IsDeepChunk told file part index chunk → AreFrom (header_in file part).channels (pixels_in file part) chunk
from_chunk told file part index chunk t picture lt is =
    let h = header_in file part in
    let content : deep_of_chunk file part index ≡ content_of chunk.content = ap deep_or_none (is.content t) in
    let at : (x y : ℤ) → IsWithin chunk.region x y → chunk_with h x y ≡ index = λ x y pixel.
    sym ((one_chunk h picture x y (within_inside h.window chunk.region x y is.inside pixel)).alone index lt (subst (λ (b : Box2i). IsWithin b x y) is.region pixel)) in
    record {
      counts = λ x y pixel.
          ap (λ j. count_in (region_of h j) (deep_of_chunk file part j) x y) (at x y pixel)
          ∙ (λ i. count_in (sym is.region i) (content i) x y);
      samples = λ c x y lt' pixel.
          ap (λ j. pixel_samples_in h.channels (region_of h j) (deep_of_chunk file part j) c x y) (at x y pixel)
          ∙ (λ i. pixel_samples_in h.channels (sym is.region i) (content i) c x y);
    }

all_each : {X : Type 0} (P : X → Type 0) (xs : List X) → ((k : ℕ) → k < length xs → HoldsAt P xs k) → All P xs
all_each P [] each = All-nil P
all_each P (x ∷ xs) each = All-from_get_or P (x ∷ xs) x (λ k lt. each k lt x)

pub all_from : (told : Type 0) (file : Opened) (part : ℕ) (indexes : List ℕ) (from to : ℕ) (chunks : List DeepChunk) → told → IsPicture (header_in file part) → AreChunks (header_in file part) indexes
    → from + length chunks ≡ to → to ≤ length indexes → AreDeepChunks told file part indexes from chunks → All (AreFrom (header_in file part).channels (pixels_in file part)) chunks
all_from told file part indexes from to chunks t picture within many there are =
    all_each (AreFrom (header_in file part).channels (pixels_in file part)) chunks
    (λ k lt d. from_chunk told file part (slice_index indexes (from + k)) (get_or chunks k d) t picture (within (from + k) (omega (arith, many, there, lt))) (are k lt d))

pub all_regions : (told : Type 0) (file : Opened) (part : ℕ) (indexes : List ℕ) (from : ℕ) (chunks : List DeepChunk) → AreDeepChunks told file part indexes from chunks → All (λ chunk. IsRegion chunk.region) chunks
all_regions told file part indexes from chunks are = all_each (λ chunk. IsRegion chunk.region) chunks (λ k lt d. (are k lt d).is_region)

pub all_fit : (told : Type 0) (file : Opened) (part : ℕ) (indexes : List ℕ) (from : ℕ) (chunks : List DeepChunk) → AreDeepChunks told file part indexes from chunks
    → All (λ chunk. fits (header_in file part).channels chunk.region (content_of chunk.content) ≡ true) chunks
all_fit told file part indexes from chunks are = all_each (λ chunk. fits (header_in file part).channels chunk.region (content_of chunk.content) ≡ true) chunks (λ k lt d. (are k lt d).fits)

-- ---- stops

-- the cause of one chunk as a stop of the list
pub deep_cause_by : (cause : ReadCause) (P Q : ℕ → ChunkFault → Type 0) (rose rose' : Type 0) (too_large : ℕ → Type 0) → ((n : ℕ) (f : ChunkFault) → P n f → Q n f) → (rose → rose')
    → HasCause cause P rose → HasDeepCause (stop_of_cause cause) Q too_large rose'
deep_cause_by why.NoMemory P Q rose rose' too_large f up has = tt
deep_cause_by why.Read P Q rose rose' too_large f up has = up has
deep_cause_by (why.Chunk index fault) P Q rose rose' too_large f up has = f index fault has
