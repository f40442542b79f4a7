-- The shape of a chunk is one, and is not large.
use Rattle.std.proofs.Common.{◌≡◌, ◌<◌, ◌≤◌, ◌*◌, ◌^◌, ℕ, Bool, true, false, cond, List, length, get_or, refl, sym, ap, ◌∙◌, subst, arith, mul_comm}
use Rattle.std.proofs.lemmas.List.{get_or_default}
use Rattle.std.specs.Prelude.{All}
use Rattle.std.proofs.lemmas.List.Elements.{All-get_or}
use Rattle.exr_base.specs.declared.shape.Box2i.{Box2i}
use Rattle.exr_base.specs.declared.channel.Channel.{Channel}
use Rattle.exr_base.specs.Shape.{IsRegion, IsShape, raw_size_of, width_of, height_of}
use Rattle.exr_chunks.specs.Heads.{Header, IsPicture, is_deep, chunk_count_of}
use Rattle.exr_block.specs.Sizes.{raw_bytes_of}
use Rattle.exr_chunks.specs.Region.{no_header, header_at, region_of, chunk_bytes_of}
use Rattle.exr_chunks.specs.Sizes.{IsMeasured}
use Rattle.exr_chunks.proofs.Largest.{no_larger}

-- the header of a part, as it is read
pub header_is : (hs ps : List Header) (part : ℕ) (h : Header) → ps ≡ hs → part < length hs → h ≡ get_or ps part h → h ≡ header_at hs part
header_is hs ps part h same lt is =
    is ∙ ap (λ (l : List Header). get_or l part h) same ∙ get_or_default hs part h no_header lt

pub shape_of : (h : Header) (channels : List Channel) (region : Box2i) → IsPicture h → channels ≡ h.channels → IsRegion region → IsShape channels region
shape_of h channels region picture same within =
    subst (λ (cs : List Channel). IsShape cs region) (sym same) (record { few = picture.shape.few; sampled = picture.shape.sampled; within = within })

-- the raw bytes of a chunk are those of its form
either_form : (deep : Bool) (channels : List Channel) (region : Box2i) → cond deep (4 * (width_of region * height_of region)) (raw_size_of channels region) ≡ raw_bytes_of deep channels region
either_form true channels region = ap (λ n. 4 * n) (mul_comm (width_of region) (height_of region))
either_form false channels region = refl

pub bytes_of_form : (h : Header) (i : ℕ) → chunk_bytes_of h i ≡ raw_bytes_of (is_deep h.kind) h.channels (region_of h i)
unfolding chunk_bytes_of
bytes_of_form h i = either_form (is_deep h.kind) h.channels (region_of h i)

bytes_small : (h : Header) (i : ℕ) → IsPicture h → IsMeasured h → i < chunk_count_of h → raw_bytes_of (is_deep h.kind) h.channels (region_of h i) ≤ 2 ^ 26
bytes_small h i picture measured lt =
    let less = no_larger h picture measured.sampled i lt in
    let small = measured.small in
    let same = bytes_of_form h i in
    omega arith

pub shape_small : (hs : List Header) (part i : ℕ) (channels : List Channel) (region : Box2i) → All IsPicture hs → All IsMeasured hs → part < length hs → i < chunk_count_of (header_at hs part)
    → channels ≡ (header_at hs part).channels → region ≡ region_of (header_at hs part) i → raw_bytes_of (is_deep (header_at hs part).kind) channels region ≤ 2 ^ 26
shape_small hs part i channels region pictures measured there lt same is =
    let h = header_at hs part in
    let deep = is_deep h.kind in
    let low = bytes_small h i (All-get_or IsPicture hs part no_header there pictures) (All-get_or IsMeasured hs part no_header there measured) lt in
    subst (λ (cs : List Channel). raw_bytes_of deep cs region ≤ 2 ^ 26) (sym same) (subst (λ (r : Box2i). raw_bytes_of deep h.channels r ≤ 2 ^ 26) (sym is) low)
