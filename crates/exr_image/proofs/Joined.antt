-- The counts and the samples of pieces make the image of a window.
use Rattle.std.proofs.Common.{◌≡◌, ℕ, ◌+◌, ◌<◌, List, [], ◌∷◌, ◌++◌, length, get_or, set, take, map, replicate, inl, inr, refl, sym, ap, ap₂, subst, ◌∙◌, arith, ℤ}
use Rattle.std.proofs.lemmas.Bool.{cases_lt}
use Rattle.std.specs.List.{All, flat_map, range_with_len, sum_by}
use Rattle.std.proofs.lemmas.List.{get_or_read, length-set, get_or-set_same, get_or-set_other, length-replicate, get_or-replicate}
use Rattle.std.proofs.lemmas.List.FromFn.{length-map-range_with_len, get_or-map-range_with_len, fill_by_all}
use Rattle.std.proofs.lemmas.List.Sums.{sum_by_more}
use Rattle.exr_base.specs.declared.shape.Box2i.{Box2i}
use Rattle.exr_base.specs.declared.channel.Channel.{Channel}
use Rattle.exr_base.specs.Channel.{bytes_of, no_channel}
use Rattle.exr_base.specs.Boxes.{IsWithin}
use Rattle.exr_base.specs.Shape.{height_of}
use Rattle.exr_deep.specs.Deep.{sample_bytes_of}
use Rattle.exr_image.specs.declared.chunk.DeepChunk.{DeepChunk}
use Rattle.exr_image.specs.declared.image.DeepImage.{DeepImage}
use Rattle.exr_image.specs.declared.piece.Piece.{Piece}
use Rattle.exr_image.specs.declared.sizes.Sizes.{Sizes}
use Rattle.exr_image.specs.Image.{DeepPixels, AreBelow, AreFrom, HasRows, along_rows, samples_over}
use Rattle.exr_image.specs.Pixel.{count_in, pixel_samples_by, sizes_of}
use Rattle.exr_image.specs.Pieces.{ChunkView, chunk_at, AreCounted, ArePieces, ArePushed, counts_of, samples_of}
use Rattle.exr_image.proofs.Places.{at_chunk}
use Rattle.exr_image.proofs.Along.{whole_rows, rows_below}
use Rattle.exr_image.proofs.Cut.{gives_counts, gives_samples}

-- ---- channel by channel

same_sizes : (a b d a' b' d' : ℕ) → a ≡ a' → b ≡ b' → d ≡ d' → ◌≡◌ {A = Sizes} (record { all = a; earlier = b; own = d }) (record { all = a'; earlier = b'; own = d' })
same_sizes a b d a' b' d' p q r = rw (p, q, r) refl

pub sizes_are : (channels : List Channel) (n : ℕ) (channel : Channel) (all earlier own : ℕ) → n < length channels → channel ≡ get_or channels n channel → all ≡ sample_bytes_of channels → earlier ≡ sum_by (λ c. bytes_of c.kind) (take n channels) → own ≡ bytes_of channel.kind
    → ◌≡◌ {A = Sizes} (record { all = all; earlier = earlier; own = own }) (sizes_of channels n)
sizes_are channels n channel all earlier own lt is a b d =
    same_sizes all earlier own _ _ _ a b (d ∙ ap (λ (c : Channel). bytes_of c.kind) (get_or_read channels n channel lt is no_channel))

pub earlier_more : (channels : List Channel) (n : ℕ) (channel : Channel) (earlier own : ℕ) → n < length channels → channel ≡ get_or channels n channel → earlier ≡ sum_by (λ c. bytes_of c.kind) (take n channels) → own ≡ bytes_of channel.kind
    → earlier + own ≡ sum_by (λ c. bytes_of c.kind) (take (n + 1) channels)
earlier_more channels n channel earlier own lt is a b =
    ap₂ (λ (a b : ℕ). a + b) a (b ∙ ap (λ (c : Channel). bytes_of c.kind) (get_or_read channels n channel lt is no_channel))
    ∙ sym (sum_by_more (λ (c : Channel). bytes_of c.kind) channels n no_channel lt)

-- ---- the samples of the channels, behind those that they had

pub none_pushed : (channels : List Channel) (chunks : List DeepChunk) (pieces : List Piece) (old : List (List ℕ)) → ArePushed channels chunks pieces old old 0
none_pushed channels chunks pieces old = record {
  many = refl;
  added = λ c lt. absurd (omega (arith, lt));
  left = λ c le. refl;
}

pub next_pushed : (channels : List Channel) (chunks : List DeepChunk) (pieces : List Piece) (old planes new : List (List ℕ)) (n : ℕ) → n < length planes
    → new ≡ set planes n (get_or planes n [] ++ flat_map (samples_of chunks (sizes_of channels n)) pieces) → ArePushed channels chunks pieces old planes n → ArePushed channels chunks pieces old new (n + 1)
next_pushed channels chunks pieces old planes new n there is so_far =
    let plane = get_or planes n [] ++ flat_map (samples_of chunks (sizes_of channels n)) pieces in
    record {
      many = ap length is ∙ length-set planes n plane ∙ so_far.many;
      added = λ c lt. ap (λ l. get_or l c []) is
          ∙ (elim (cases_lt c n) [
            | inl before ↦ get_or-set_other planes n c plane [] (omega (arith, before)) ∙ so_far.added c before
            | inr after ↦
                let same : c ≡ n = omega (arith, after, lt) in
                subst (λ k. get_or (set planes n plane) k [] ≡ get_or old k [] ++ flat_map (samples_of chunks (sizes_of channels k)) pieces) (sym same)
                (get_or-set_same planes n plane [] there ∙ ap (λ l. l ++ flat_map (samples_of chunks (sizes_of channels n)) pieces) (so_far.left n (omega arith)))
          ]);
      left = λ c le. ap (λ l. get_or l c []) is ∙ get_or-set_other planes n c plane [] (omega (arith, le)) ∙ so_far.left c (omega (arith, le));
    }

-- what each channel had is what one function gives, and with what was added it is what another gives
pub planes_more : (channels : List Channel) (chunks : List DeepChunk) (pieces : List Piece) (old new : List (List ℕ)) (f g : ℕ → List ℕ) → ArePushed channels chunks pieces old new (length channels)
    → old ≡ map f (range_with_len 0 (length channels)) → ((c : ℕ) → c < length channels → f c ++ flat_map (samples_of chunks (sizes_of channels c)) pieces ≡ g c) → new ≡ map g (range_with_len 0 (length channels))
planes_more channels chunks pieces old new f g pushed is each =
    let n = length channels in
    fill_by_all g new n [] (pushed.many ∙ ap length is ∙ length-map-range_with_len f 0 n)
    (λ c lt. pushed.added c lt
    ∙ ap (λ (l : List ℕ). l ++ flat_map (samples_of chunks (sizes_of channels c)) pieces) (ap (λ (l : List (List ℕ)). get_or l c []) is ∙ get_or-map-range_with_len f 0 n c c [] lt (omega arith))
    ∙ each c lt)

-- ---- the image

-- pixels as a chunk's region and content say them
record AreOf (channels : List Channel) (pixels : DeepPixels) (chunk : ChunkView) : Type 0 where
  counts : (x y : ℤ) → IsWithin chunk.region x y → pixels.count x y ≡ count_in chunk.region chunk.content x y
  samples : (c : ℕ) (x y : ℤ) → c < length channels → IsWithin chunk.region x y → pixels.samples c x y ≡ pixel_samples_by (sizes_of channels c) chunk.region chunk.content x y

are_of : (channels : List Channel) (pixels : DeepPixels) (chunks : List DeepChunk) → All (AreFrom channels pixels) chunks → (number : ℕ) → number < length chunks → AreOf channels pixels (chunk_at chunks number)
are_of channels pixels chunks from number there =
    at_chunk (AreOf channels pixels) chunks (λ k d lt. record { counts = (from k d lt).counts; samples = (from k d lt).samples }) number there

pub rows_are : (channels : List Channel) (rows : Box2i) (n : ℕ) (chunks : List DeepChunk) (pieces : List Piece) (old new : DeepImage) (pixels : DeepPixels) → AreCounted chunks → ArePieces rows chunks (height_of rows) 0 pieces
    → new.window ≡ old.window → new.counts.items ≡ old.counts.items ++ flat_map (counts_of chunks) pieces
    → ArePushed channels chunks pieces (map (λ plane. plane.items) old.channels.items) (map (λ plane. plane.items) new.channels.items) (length channels)
    → All (AreFrom channels pixels) chunks → AreBelow old.window n rows → HasRows pixels channels old.window n old → HasRows pixels channels old.window (n + height_of rows) new
rows_are channels rows n chunks pieces old new pixels counted are over counts samples from below has =
    let of = are_of channels pixels chunks from in
    let window = old.window in
    let m = height_of rows in
    record {
      over = over;
      counts =
          counts
          ∙ ap₂ (λ (a b : List ℕ). a ++ b) has.counts
          (whole_rows rows chunks m pieces (counts_of chunks) (λ x y. pixels.count x y ∷ []) are
          (gives_counts rows chunks pixels.count counted (λ number x y there within. (of number there).counts x y within)))
          ∙ sym (rows_below (λ x y. pixels.count x y ∷ []) window rows n m below);
      samples =
          planes_more channels chunks pieces (map (λ plane. plane.items) old.channels.items) (map (λ plane. plane.items) new.channels.items) (samples_over pixels window n) (samples_over pixels window (n + m)) samples has.samples
          (λ c lt. ap (λ (l : List ℕ). samples_over pixels window n c ++ l)
          (whole_rows rows chunks m pieces (samples_of chunks (sizes_of channels c)) (pixels.samples c) are
          (gives_samples rows chunks (sizes_of channels c) (pixels.samples c) counted (λ number x y there within. (of number there).samples c x y lt within)))
          ∙ sym (rows_below (pixels.samples c) window rows n m below));
    }

pub no_rows : (channels : List Channel) (image : DeepImage) (pixels : DeepPixels) → image.counts.items ≡ [] → map (λ plane. plane.items) image.channels.items ≡ replicate (length channels) [] → HasRows pixels channels image.window 0 image
unfolding along_rows
no_rows channels image pixels counts planes =
    let n = length channels in
    record {
      over = refl;
      counts = counts;
      samples =
          planes
          ∙ fill_by_all (samples_over pixels image.window 0) (replicate n []) n [] (length-replicate n [])
          (λ c lt. get_or-replicate n c [] [] lt);
    }
