-- The data of a deep chunk has sizes that it may have, and unpacks to the content that was packed.
use Rattle.std.proofs.Common.{◌≡◌, ◌<◌, ◌≤◌, ◌*◌, ◌^◌, ℕ, true, false, cond, ◌&&◌, IsTrue, List, [], ◌∷◌, length, length-append, map, Result, Ok, Err, eqb, ltb, leb, refl, ap, ◌∙◌, inl, inr, ◌⊎◌, arith, w32}
use Rattle.std.specs.List.{range_with_len, flat_map}
use Rattle.std.specs.Int.{to_le_bytes}
use Rattle.std.proofs.lemmas.Bool.{and_parts, and_from, leb-true, le-leb, false≢true}
use Rattle.std.proofs.lemmas.List.Concat.{flat_map-cons}
use Rattle.std.proofs.lemmas.List.FromFn.{length-map-range_with_len}
use Rattle.exr_base.specs.declared.shape.Box2i.{Box2i}
use Rattle.exr_base.specs.declared.channel.Channel.{Channel}
use Rattle.exr_base.specs.declared.method.Method.{Method}
use Rattle.exr_base.specs.declared.method.Method.TheVariants.{No, Rle, Zips, Zip, Piz, Pxr24, B44, B44a, Dwaa, Dwab}
use Rattle.exr_base.specs.Shape.{width_of}
use Rattle.exr_deep.specs.Body.{DeepBody, DeepContent}
use Rattle.exr_deep.specs.Counts.{running_at, table_of}
use Rattle.exr_deep.specs.Deep.{pixels_of, samples_size_of, are_ints, fits, deep_of, deep_pack_of}
use Rattle.exr_deep.specs.Stored.{packed_by, stored_of}
use Rattle.exr_deep.proofs.Chain.{fits_whole}
use Rattle.exr_block.specs.declared.fault.ChunkFault.{ChunkFault}
use Rattle.exr_block.specs.declared.fault.ChunkFault.TheVariants as fault
use Rattle.exr_block.specs.declared.sizes.DeepSizes.{DeepSizes}
use Rattle.exr_block.specs.Content.{as_fault, can_pack, is_unread, raw_of_deep}
use Rattle.exr_block.specs.Sizes.{is_size, sizes_of, are_sizes}
use Rattle.exr_block.proofs.Stored.{smaller_or, either_way, size_fits}

-- ---- sizes

or_smaller : (method : Method) (raw : List ℕ) → (stored_of method raw ≡ raw) ⊎ (length (stored_of method raw) < length raw)
unfolding stored_of
or_smaller method raw = smaller_or (packed_by method raw) raw

alone : (raw : List ℕ) → stored_of No raw ≡ raw
unfolding stored_of
alone raw = either_way (ltb (length raw) (length raw)) raw

list_fits : (method : Method) (raw : List ℕ) (n : ℕ) → length raw ≡ n → IsTrue (is_size method n (length (stored_of method raw)))
list_fits method raw n long =
    size_fits method n (length (stored_of method raw))
    (elim (or_smaller method raw) [ inl e ↦ let f = ap length e in omega arith | inr lt ↦ omega arith ])
    (λ no. ap length (ap (λ m. stored_of m raw) no ∙ alone raw) ∙ long)

words_long : (words : List ℕ) → length (flat_map (to_le_bytes w32) words) ≡ 4 * length words
words_long [] = refl
words_long (w ∷ ws) =
    let rest = words_long ws in
    let four : length (to_le_bytes w32 w) ≡ 4 = refl in
    ap length (flat_map-cons (to_le_bytes w32) w ws) ∙ length-append (to_le_bytes w32 w) (flat_map (to_le_bytes w32) ws) ∙ omega arith

table_long : (width : ℕ) (counts : List ℕ) → length (table_of width counts) ≡ 4 * length counts
unfolding table_of
table_long width counts =
    words_long (map (running_at width counts) (range_with_len 0 (length counts)))
    ∙ ap (λ n. 4 * n) (length-map-range_with_len (running_at width counts) 0 (length counts))

few : (channels : List Channel) (region : Box2i) (content : DeepContent) → fits channels region content ≡ true → length content.samples ≤ 2 ^ 26
unfolding fits
few channels region content is =
    let counted = eqb (length content.counts) (pixels_of region) in
    let ints = are_ints (width_of region) content.counts in
    let sized = eqb (length content.samples) (samples_size_of channels content.counts) in
    let small = leb (4 * pixels_of region) (2 ^ 26) in
    let all = and_parts (((counted && ints) && sized) && small) (leb (length content.samples) (2 ^ 26)) is in
    leb-true (length content.samples) (2 ^ 26) all.1

pub counted_fits : (method : Method) (channels : List Channel) (region : Box2i) (content : DeepContent) → fits channels region content ≡ true → IsTrue (are_sizes method (4 * pixels_of region) (sizes_of (deep_pack_of method region content)))
counted_fits method channels region content is =
    let table = table_of (width_of region) content.counts in
    let whole = fits_whole channels region content is in
    let long : length table ≡ 4 * pixels_of region = table_long (width_of region) content.counts ∙ ap (λ n. 4 * n) whole.whole.long in
    let first = is_size method (4 * pixels_of region) (length (stored_of method table)) in
    let second = is_size method (length content.samples) (length (stored_of method content.samples)) in
    and_from (first && second) (leb (length content.samples) (2 ^ 26))
    (and_from first second (list_fits method table (4 * pixels_of region) long) (list_fits method content.samples (length content.samples) refl))
    (le-leb (length content.samples) (2 ^ 26) (few channels region content is))

-- ---- unpacked again

-- what is packed is read
read_again : (method : Method) (channels : List Channel) (raw : ℕ) (sizes : DeepSizes) → IsTrue (can_pack method channels true) → is_unread method raw sizes ≡ false
read_again No channels raw sizes packs = refl
read_again Rle channels raw sizes packs = refl
read_again Zips channels raw sizes packs = absurd (false≢true packs)
read_again Zip channels raw sizes packs = absurd (false≢true packs)
read_again Piz channels raw sizes packs = absurd (false≢true packs)
read_again Pxr24 channels raw sizes packs = absurd (false≢true packs)
read_again B44 channels raw sizes packs = absurd (false≢true packs)
read_again B44a channels raw sizes packs = absurd (false≢true packs)
read_again Dwaa channels raw sizes packs = absurd (false≢true packs)
read_again Dwab channels raw sizes packs = absurd (false≢true packs)

pub counted_kept : (method : Method) (channels : List Channel) (region : Box2i) (body : DeepBody) (content : DeepContent) → IsTrue (can_pack method channels true) → deep_of channels region body ≡ Ok content
    → raw_of_deep method channels region body ≡ Ok content
unfolding raw_of_deep
counted_kept method channels region body content packs is =
    let none : Result DeepContent ChunkFault = Err (fault.Unsupported method) in
    ap (λ b. cond b none (as_fault fault.Deep (deep_of channels region body))) (read_again method channels (4 * pixels_of region) (sizes_of body) packs)
    ∙ ap (as_fault fault.Deep) is
