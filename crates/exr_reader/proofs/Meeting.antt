-- The chunks that a window meets: their indexes, and the chunk of each pixel among them.
use Rattle.std.proofs.Common.{◌≡◌, ℕ, zero, suc, ◌<◌, Bool, true, false, cond, List, [], ◌∷◌, ◌++◌, length, map, slice_index, Result, Ok, Err, IfOk, OnOk, inl, inr, refl, sym, ap, ◌∙◌, subst, arith, ℤ, ◌≤ℤ◌}
use Rattle.std.specs.Prelude.{int_le}
use Rattle.std.specs.Int.{int_min, int_max}
use Rattle.std.proofs.lemmas.Bool.{cases_lt}
use Rattle.std.proofs.lemmas.Int.{ints, clamps}
use Rattle.std.proofs.lemmas.List.{append-nil, get_or_append_left, get_or_push, length_push}
use Rattle.exr_base.specs.declared.shape.Box2i.{Box2i}
use Rattle.exr_chunks.specs.Heads.{Header, IsPicture, chunk_count_of}
use Rattle.exr_chunks.specs.Part.{without_attributes}
use Rattle.exr_chunks.specs.Region.{header_at, region_of}
use Rattle.exr_base.specs.Boxes.{IsWithin}
use Rattle.exr_chunks.specs.Pixels.{chunk_with}
use Rattle.exr_chunks.specs.Window.{sides_meet, boxes_meet, meeting_among, chunks_of_window}
use Rattle.exr_chunks.proofs.Pixels.{one_chunk}
use Rattle.exr_stream.proofs.Bare.{bare_at}
use Rattle.exr_reader.specs.Window.{AreChunks}

-- the list with one index more, or without it
pub list_more : (h : Header) (w : Box2i) (n : ℕ) (b : Bool) → boxes_meet (region_of h n) w ≡ b → meeting_among h w (suc n) ≡ meeting_among h w n ++ cond b (n ∷ []) []
unfolding meeting_among
list_more h w n b is = ap (λ (c : Bool). meeting_among h w n ++ cond c (n ∷ []) []) is

pub list_kept : (h : Header) (w : Box2i) (n : ℕ) → boxes_meet (region_of h n) w ≡ false → meeting_among h w (suc n) ≡ meeting_among h w n
list_kept h w n is = list_more h w n false is ∙ append-nil (meeting_among h w n)

-- each index is one of those that were looked at
pub listed_below : (h : Header) (w : Box2i) (n r : ℕ) → r < length (meeting_among h w n) → slice_index (meeting_among h w n) r < n
unfolding meeting_among
listed_below h w zero r lt = absurd (omega (arith, lt))
listed_below h w (suc n) r lt =
    let l = meeting_among h w n in
    let P : Bool → Type 0 = λ b. boxes_meet (region_of h n) w ≡ b → slice_index (meeting_among h w (suc n)) r < suc n in
    (elim (boxes_meet (region_of h n) w) as P [
      | true ↦ λ is.
          let list = list_more h w n true is in
          let size = ap length list ∙ length_push l n in
          elim (cases_lt r (length l)) [
            | inl before ↦
                let e = ap (λ xs. slice_index xs r) list ∙ get_or_append_left l (n ∷ []) 0 r before in
                let low = listed_below h w n r before in
                omega (arith, e, low)
            | inr le ↦
                let e = ap (λ xs. slice_index xs r) list ∙ get_or_push l n 0 r (omega (arith, le, size, lt)) in
                omega (arith, e)
          ]
      | false ↦ λ is.
          let list = list_kept h w n is in
          let low = listed_below h w n r (subst (λ xs. r < length xs) list lt) in
          let e = ap (λ xs. slice_index xs r) list in
          omega (arith, e, low)
    ]) refl

-- where an index stands in a list
pub record IsListed (list : List ℕ) (i : ℕ) : Type 0 where
  pub rank : ℕ
  pub within : rank < length list
  pub is : slice_index list rank ≡ i

-- each index that meets the window stands in the list
pub listed : (h : Header) (w : Box2i) (n i : ℕ) → i < n → boxes_meet (region_of h i) w ≡ true → IsListed (meeting_among h w n) i
listed h w zero i lt meets = absurd (omega (arith, lt))
listed h w (suc n) i lt meets =
    let l = meeting_among h w n in
    elim (cases_lt i n) [
      | inl before ↦
          let there = listed h w n i before meets in
          let P : Bool → Type 0 = λ b. boxes_meet (region_of h n) w ≡ b → IsListed (meeting_among h w (suc n)) i in
          (elim (boxes_meet (region_of h n) w) as P [
            | true ↦ λ is. subst (λ xs. IsListed xs i) (sym (list_more h w n true is)) (record {
              rank = there.rank;
              within = let size = length_push l n in let low = there.within in omega (arith, size, low);
              is = get_or_append_left l (n ∷ []) 0 there.rank there.within ∙ there.is;
            })
            | false ↦ λ is. subst (λ xs. IsListed xs i) (sym (list_kept h w n is)) there
          ]) refl
      | inr le ↦
          let e : n ≡ i = omega (arith, le, lt) in
          let here : boxes_meet (region_of h n) w ≡ true = ap (λ k. boxes_meet (region_of h k) w) e ∙ meets in
          subst (λ xs. IsListed xs i) (sym (list_more h w n true here)) (record {
            rank = length l;
            within = let size = length_push l n in omega (arith, size);
            is = get_or_push l n 0 (length l) refl ∙ e;
          })
    ]

-- ---- pixels

le_true : (a b : ℤ) → a ≤ℤ b → int_le a b ≡ true
le_true a b h = grind (arith, ints)

side_meets : (a b c d x : ℤ) → a ≤ℤ x → x ≤ℤ b → c ≤ℤ x → x ≤ℤ d → sides_meet a b c d ≡ true
side_meets a b c d x p q r s = le_true (int_max a c) (int_min b d) (omega (arith, ints, clamps, p, q, r, s))

pub meets_at : (a b : Box2i) (x y : ℤ) → IsWithin a x y → IsWithin b x y → boxes_meet a b ≡ true
meets_at a b x y p q =
    rw (side_meets a.x0 a.x1 b.x0 b.x1 x p.left p.right q.left q.right, side_meets a.y0 a.y1 b.y0 b.y1 y p.top p.bottom q.top q.bottom) refl

-- the chunk of a pixel of the window is one of the window's
pub chunk_listed : (h : Header) (w : Box2i) (x y : ℤ) → IsPicture h → IsWithin h.window x y → IsWithin w x y → IsListed (chunks_of_window h w) (chunk_with h x y)
chunk_listed h w x y picture pixel inside =
    let one = one_chunk h picture x y pixel in
    listed h w (chunk_count_of h) (chunk_with h x y) one.within (meets_at (region_of h (chunk_with h x y)) w x y one.has inside)

-- ---- headers without their attributes

bare_meeting : (h : Header) (w : Box2i) (n : ℕ) → meeting_among (without_attributes h) w n ≡ meeting_among h w n
unfolding meeting_among region_of
bare_meeting h w zero = refl
bare_meeting h w (suc n) = ap (λ (l : List ℕ). l ++ cond (boxes_meet (region_of h n) w) (n ∷ []) []) (bare_meeting h w n)

pub bare_window : (h : Header) (w : Box2i) → chunks_of_window (without_attributes h) w ≡ chunks_of_window h w
unfolding chunk_count_of
bare_window h w = bare_meeting h w (chunk_count_of h)

-- ---- the list of a stream's geometry

pub window_listed : (g hs : List Header) (part : ℕ) (w : Box2i) (chunks : List ℕ) → g ≡ map without_attributes hs → chunks ≡ chunks_of_window (header_at g part) w → chunks ≡ chunks_of_window (header_at hs part) w
window_listed g hs part w chunks same is =
    is ∙ ap (λ hs'. chunks_of_window (header_at hs' part) w) same ∙ ap (λ h. chunks_of_window h w) (bare_at hs part) ∙ bare_window (header_at hs part) w

pub window_chunks : (h : Header) (w : Box2i) (chunks : List ℕ) → chunks ≡ chunks_of_window h w → AreChunks h chunks
window_chunks h w chunks is = subst (AreChunks h) (sym is) (λ r there. listed_below h w (chunk_count_of h) r there)

-- what holds of an answer
pub if_ok : {A E : Type 0} (r : Result A E) (P Q : A → Type 0) → ((x : A) → P x → Q x) → IfOk r P → IfOk r Q
if_ok (Ok x) P Q f has = f x has
if_ok (Err e) P Q f has = has

pub on_ok : {A E : Type 0} (r : Result A E) (P Q : Type 0) → (P → Q) → OnOk r P → OnOk r Q
on_ok (Ok x) P Q f has = f has
on_ok (Err e) P Q f has = has
