-- Putting the samples of a window chunk after chunk.
use Rattle.std.proofs.Common.{◌≡◌, ℕ, ◌+◌, ◌<◌, true, true≢false, List, length, slice_index, slice_index_or, take, drop, Option, Some, None, Ok, inl, inr, refl, sym, ap, ◌∙◌, subst, arith, ℤ}
use Rattle.std.proofs.lemmas.Bool.{cases_lt, cases_eq}
use Rattle.std.proofs.lemmas.Int.{ints}
use Rattle.std.proofs.lemmas.List.{get_or-take, get_or-drop}
use Rattle.exr_base.specs.declared.shape.Box2i.{Box2i}
use Rattle.exr_base.specs.declared.channel.Kind.{Kind}
use Rattle.exr_base.specs.declared.channel.Kind.TheVariants.{Uint, Half, Float}
use Rattle.exr_base.specs.Channel.{bytes_of}
use Rattle.exr_chunks.specs.Heads.{Header, IsPicture, chunk_count_of}
use Rattle.exr_chunks.specs.Region.{region_of}
use Rattle.exr_base.specs.Boxes.{IsWithin, IsInside}
use Rattle.exr_chunks.specs.Pixels.{chunk_with}
use Rattle.exr_chunks.specs.Window.{chunks_of_window}
use Rattle.exr_chunks.proofs.Pixels.{one_chunk}
use Rattle.exr_stream.specs.Chunk.{Opened, header_in}
use Rattle.exr_layout.specs.declared.placement.Placement.{Placement}
use Rattle.exr_layout.specs.Plan.{Matching}
use Rattle.exr_layout.specs.Validation.{Frame, IsValid}
use Rattle.exr_layout.specs.Place.{Byte, IsNamed, placement_at, placements_of, place_of}
use Rattle.exr_base.specs.Boxes.{IsWithin as IsPixelOf}
use Rattle.exr_base.specs.Channel.{channel_at}
use Rattle.exr_layout.specs.Plan.{same_kind, IsPlanOf}
use Rattle.exr_base.specs.Shape.{raw_place_of}
use Rattle.exr_frame.specs.Buffer.{IsInRegion, chunk_byte, byte_of}
use Rattle.exr_layout.proofs.Standing.{place_once}
use Rattle.exr_frame.proofs.Channelled.{channel_of_slice}
use Rattle.exr_block.specs.Body.{flat_content}
use Rattle.exr_reader.specs.Sample.{sample_of, sample_in, raw_of, raw_or_none}
use Rattle.exr_reader.specs.Window.{Target, byte_by, file_byte, IsChunkPut, ArePut, IsFilled}
use Rattle.exr_reader.proofs.Meeting.{chunk_listed}

-- ---- pixels of the window

-- a named byte's pixel lies in the data window
in_data : (all window : Box2i) (x y : ℤ) → IsInside all window → IsPixelOf window x y → IsWithin all x y
in_data all window x y inside pixel = record {
  left = omega (arith, ints, inside.left, pixel.left);
  right = omega (arith, ints, inside.right, pixel.right);
  top = omega (arith, ints, inside.top, pixel.top);
  bottom = omega (arith, ints, inside.bottom, pixel.bottom);
}

pixel_of : (r : Box2i) (x y : ℤ) → IsWithin r x y → IsPixelOf r x y
pixel_of r x y p = record { left = p.left; right = p.right; top = p.top; bottom = p.bottom }

within_of : (r : Box2i) (x y : ℤ) → IsPixelOf r x y → IsWithin r x y
within_of r x y p = record { left = p.left; right = p.right; top = p.top; bottom = p.bottom }

-- ---- the bytes of a chunk are those of the file

-- what a slice's channel asks of it
pub record AreMatched (h : Header) (placements : List Placement) (places : List (Option ℕ)) : Type 0 where
  pub kinds : (s c : ℕ) → slice_index_or places s None ≡ Some c → bytes_of (channel_at h.channels c).kind ≡ bytes_of (placement_at placements s).kind

-- a byte of a part of a list
byte_taken : (xs : List ℕ) (at size b : ℕ) → b < size → slice_index (take size (drop at xs)) b ≡ slice_index xs (at + b)
byte_taken xs at size b lt = get_or-take size (drop at xs) b 0 lt ∙ get_or-drop at xs b 0

pub same_byte : (file : Opened) (part i : ℕ) (raw : List ℕ) (placements : List Placement) (places : List (Option ℕ)) (k : Byte) (found : Option ℕ)
    → slice_index_or places k.slice None ≡ found → AreMatched (header_in file part) placements places
    → raw_of file part i ≡ Ok (flat_content raw) → chunk_with (header_in file part) k.x k.y ≡ i → k.byte < bytes_of (placement_at placements k.slice).kind
    → byte_of (header_in file part).channels (region_of (header_in file part) i) raw (placement_at placements k.slice) found k ≡ byte_by (sample_of file part) (placement_at placements k.slice) found k
same_byte file part i raw placements places k None is matched chunk here within = refl
same_byte file part i raw placements places k (Some c) is matched chunk here within =
    let h = header_in file part in
    let size = bytes_of (channel_at h.channels c).kind in
    let at = raw_place_of h.channels (region_of h i) c k.x k.y in
    let sample : sample_of file part c k.x k.y ≡ take size (drop at raw) =
    ap (λ n. sample_in h c k.x k.y n (raw_or_none (raw_of file part n))) here ∙ ap (λ r. sample_in h c k.x k.y i (raw_or_none r)) chunk in
    sym (ap (λ (xs : List ℕ). slice_index xs k.byte) sample ∙ byte_taken raw at size k.byte (omega (arith, within, matched.kinds k.slice c is)))

-- ---- one chunk more

-- no byte has two places, and the window lies in the data window of a picture
pub record IsGround (h : Header) (f : Frame) (places : List (Option ℕ)) : Type 0 where
  pub picture : IsPicture h
  pub inside : IsInside h.window f.window
  pub matched : AreMatched h (placements_of f.planes) places
  pub once : (j k : Byte) → IsNamed f.window (placements_of f.planes) j → IsNamed f.window (placements_of f.planes) k → place_of f.window (placements_of f.planes) j ≡ place_of f.window (placements_of f.planes) k → j ≡ k

-- kinds that are the same have samples of one size
kind_bytes : (a b : Kind) → same_kind a b ≡ true → bytes_of a ≡ bytes_of b
kind_bytes Uint Uint e = refl
kind_bytes Half Half e = refl
kind_bytes Float Float e = refl
kind_bytes Uint Half e = absurd (true≢false (sym e))
kind_bytes Uint Float e = absurd (true≢false (sym e))
kind_bytes Half Uint e = absurd (true≢false (sym e))
kind_bytes Half Float e = absurd (true≢false (sym e))
kind_bytes Float Uint e = absurd (true≢false (sym e))
kind_bytes Float Half e = absurd (true≢false (sym e))

pub ground : (h : Header) (f : Frame) (plan : Matching) → IsPicture h → IsInside h.window f.window → IsPlanOf f h.channels plan → IsValid f → IsGround h f plan.channels
ground h f plan picture inside planned valid = record {
  picture = picture;
  inside = inside;
  matched = record {
    kinds = λ s c is. kind_bytes (channel_at h.channels c).kind (placement_at (placements_of f.planes) s).kind (channel_of_slice f h.channels plan s c planned is).kind;
  };
  once = place_once f valid;
}

pub put_next : (t : Target) (chunks : List ℕ) (n : ℕ) (raw first old new : List ℕ)
    → IsGround (header_in t.file t.part) t.frame t.places → n < length chunks → slice_index chunks n < chunk_count_of (header_in t.file t.part)
    → raw_of t.file t.part (slice_index chunks n) ≡ Ok (flat_content raw)
    → IsChunkPut (header_in t.file t.part) t.frame t.places (slice_index chunks n) raw old new
    → ArePut t chunks n first old → ArePut t chunks (n + 1) first new
unfolding file_byte chunk_byte
put_next t chunks n raw first old new ground there is_chunk chunk q p =
    let h = header_in t.file t.part in
    let f = t.frame in
    let places = t.places in
    let i = slice_index chunks n in
    let placements = placements_of f.planes in
    let place = place_of f.window placements in
    let one : (k : Byte) → IsNamed f.window placements k → Rattle.exr_chunks.specs.Pixels.HasOneChunk h k.x k.y =
    λ k named. one_chunk h ground.picture k.x k.y (in_data h.window f.window k.x k.y ground.inside named.within) in
    let of_chunk : (k : Byte) → IsNamed f.window placements k → chunk_with h k.x k.y ≡ i → IsInRegion f.window placements (region_of h i) k =
    λ k named is. record { named = named; within = pixel_of (region_of h i) k.x k.y (subst (λ m. IsWithin (region_of h m) k.x k.y) is (one k named).has) } in
    let its_chunk : (k : Byte) → IsInRegion f.window placements (region_of h i) k → i ≡ chunk_with h k.x k.y =
    λ k w. (one k w.named).alone i is_chunk (within_of (region_of h i) k.x k.y w.within) in
    record {
      copied = λ k w. elim (cases_lt w.rank n) [
        | inl before ↦ elim (cases_eq (chunk_with h k.x k.y) i) [
          | inl is ↦
              q.copied k (of_chunk k w.named is)
              ∙ same_byte t.file t.part i raw placements places k (slice_index_or places k.slice None) refl ground.matched chunk is w.named.byte
          | inr differs ↦
              q.others (place k) (λ j u e. differs (ap (λ (b : Byte). chunk_with h b.x b.y) (sym (ground.once j k u.named w.named e)) ∙ sym (its_chunk j u)))
              ∙ p.copied k (record { named = w.named; rank = w.rank; there = w.there; early = before; chunk = w.chunk })
        ]
        | inr le ↦
            let last : w.rank ≡ n = omega (arith, le, w.early) in
            let is : chunk_with h k.x k.y ≡ i = sym w.chunk ∙ ap (slice_index chunks) last in
            q.copied k (of_chunk k w.named is)
            ∙ same_byte t.file t.part i raw placements places k (slice_index_or places k.slice None) refl ground.matched chunk is w.named.byte
      ];
      others = λ at free.
          q.others at (λ j u e. free j (record { named = u.named; rank = n; there = there; early = omega arith; chunk = its_chunk j u }) e)
          ∙ p.others at (λ k w e. free k (record { named = w.named; rank = w.rank; there = w.there; early = omega (arith, w.early); chunk = w.chunk }) e);
    }

-- none yet
pub put_nothing : (t : Target) (chunks : List ℕ) (l : List ℕ) → ArePut t chunks 0 l l
put_nothing t chunks l = record {
  copied = λ k w. absurd (omega (arith, w.early));
  others = λ at free. refl;
}

-- as many as there are
pub put_as_far : (t : Target) (chunks : List ℕ) (m n : ℕ) (old new : List ℕ)
    → ((r : ℕ) → r < length chunks → r < m → r < n) → ((r : ℕ) → r < length chunks → r < n → r < m)
    → ArePut t chunks m old new → ArePut t chunks n old new
put_as_far t chunks m n old new there back p = record {
  copied = λ k w. p.copied k (record { named = w.named; rank = w.rank; there = w.there; early = back w.rank w.there w.early; chunk = w.chunk });
  others = λ at free. p.others at (λ k w e. free k (record { named = w.named; rank = w.rank; there = w.there; early = there w.rank w.there w.early; chunk = w.chunk }) e);
}

-- all chunks of the window are all bytes
pub put_all : (t : Target) (old new : List ℕ)
    → IsPicture (header_in t.file t.part) → IsInside (header_in t.file t.part).window t.frame.window
    → ArePut t (chunks_of_window (header_in t.file t.part) t.frame.window) (length (chunks_of_window (header_in t.file t.part) t.frame.window)) old new
    → IsFilled t old new
put_all t old new picture inside p =
    let h = header_in t.file t.part in
    let f = t.frame in
    let places = t.places in
    record {
      copied = λ k named.
          let there = chunk_listed h f.window k.x k.y picture (in_data h.window f.window k.x k.y inside named.within) (within_of f.window k.x k.y named.within) in
          p.copied k (record { named = named; rank = there.rank; there = there.within; early = there.within; chunk = there.is });
      others = λ at free. p.others at (λ k w e. free k w.named e);
    }
