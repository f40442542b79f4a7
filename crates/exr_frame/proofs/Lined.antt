-- Channel after channel, line after line, slice after slice: what was put before stays.
use Rattle.std.proofs.Common.{◌≡◌, ◌+◌, ◌<◌, ◌≤◌, ◌⊎◌, ℕ, zero, suc, ℤ, pos, ◌+ℤ◌, ◌-ℤ◌, ◌≤ℤ◌, ◌<ℤ◌, nat_abs, true, false, List, [], ◌∷◌, length, take, get_or, Option, Some, None, refl, sym, ap, ap₂, ◌∙◌, subst, inl, inr, arith}
use Rattle.std.specs.List.{sum_by}
use Rattle.std.proofs.lemmas.Bool.{cases_lt}
use Rattle.std.proofs.lemmas.Int.{ints}
use Rattle.std.specs.Option.{is_some}
use Rattle.std.proofs.lemmas.List.{take_all}
use Rattle.std.proofs.lemmas.List.Sums.{sum_by-cons}
use Rattle.exr_base.specs.declared.shape.Box2i.{Box2i}
use Rattle.exr_base.specs.declared.channel.Channel.{Channel}
use Rattle.exr_base.specs.Sampling.{span_of}
use Rattle.exr_base.specs.Shape.{row_bytes_of, line_bytes_of, lines_bytes_of, raw_size_of, height_of}
use Rattle.exr_layout.specs.Plan.{Matching}
use Rattle.exr_layout.specs.Validation.{Frame, IsValid}
use Rattle.exr_layout.specs.Place.{placements_of, placement_at, place_of, Byte, IsNamed}
use Rattle.exr_base.specs.Channel.{channel_at, no_channel}
use Rattle.exr_layout.specs.Plan.{IsPlanOf}
use Rattle.exr_frame.specs.Buffer.{IsCopied, IsInRegion, byte_of, chunk_byte}
use Rattle.exr_frame.specs.Rows.{IsOfChannel, IsOfLine, IsOfLines, IsInRow, IsOfSlice, IsOfFills, filled_byte}
use Rattle.exr_frame.proofs.Channelled.{channel_of_slice}
use Rattle.exr_frame.proofs.Putting.{put_more, put_none, put_again}
use Rattle.exr_layout.proofs.Standing.{place_once}

-- two names of one place
one_byte : (f : Frame) (j k : Byte) → IsValid f → IsNamed f.window (placements_of f.planes) j → IsNamed f.window (placements_of f.planes) k → place_of f.window (placements_of f.planes) j ≡ place_of f.window (placements_of f.planes) k → j ≡ k
one_byte f j k valid a b e = place_once f valid j k a b e

pub line_more : (f : Frame) (region : Box2i) (places : List (Option ℕ)) (c : ℕ) (y : ℤ) (value : Byte → ℕ) (old mid new : List ℕ) → IsValid f
    → IsCopied (IsOfLine f.window (placements_of f.planes) region places c y) (place_of f.window (placements_of f.planes)) value old mid
    → IsCopied (IsOfChannel f.window (placements_of f.planes) region places c y) (place_of f.window (placements_of f.planes)) value mid new
    → IsCopied (IsOfLine f.window (placements_of f.planes) region places (c + 1) y) (place_of f.window (placements_of f.planes)) value old new
line_more f region places c y value old mid new valid p q =
    put_more (IsOfLine f.window (placements_of f.planes) region places c y) (IsOfChannel f.window (placements_of f.planes) region places c y) (IsOfLine f.window (placements_of f.planes) region places (c + 1) y)
    (place_of f.window (placements_of f.planes)) value old mid new
    (λ j k a b e.
    let same = one_byte f j k valid a.named b.named e in
    let slice : j.slice ≡ k.slice = ap (λ (t : Byte). t.slice) same in
    let channel : Some a.channel ≡ Some c = sym a.has_channel ∙ ap (λ (s : ℕ). get_or places s None) slice ∙ b.channel in
    let number : a.channel ≡ c = cc in
    omega (arith, a.early))
    (λ k w. elim (cases_lt w.channel c) [
      | inl h ↦ inl (record { named = w.named; within = w.within; channel = w.channel; has_channel = w.has_channel; early = h; line = w.line })
      | inr h ↦ inr (record { named = w.named; within = w.within; channel = w.has_channel ∙ ap Some (omega (arith, w.early)); line = w.line })
    ])
    (λ k w. record { named = w.named; within = w.within; channel = w.channel; has_channel = w.has_channel; early = omega (arith, w.early); line = w.line })
    (λ k w. record { named = w.named; within = w.within; channel = c; has_channel = w.channel; early = omega arith; line = w.line })
    p q

pub line_begun : (f : Frame) (region : Box2i) (places : List (Option ℕ)) (y : ℤ) (value : Byte → ℕ) (old : List ℕ) → IsCopied (IsOfLine f.window (placements_of f.planes) region places 0 y) (place_of f.window (placements_of f.planes)) value old old
line_begun f region places y value old = put_none (IsOfLine f.window (placements_of f.planes) region places 0 y) (place_of f.window (placements_of f.planes)) value old (λ k w. omega (arith, w.early))

pub line_cases : (z from : ℤ) (n : ℕ) → z <ℤ (from +ℤ pos (n + 1)) → (z <ℤ (from +ℤ pos n)) ⊎ (z ≡ from +ℤ pos n)
line_cases z from n h = elim (cases_lt (nat_abs ((from +ℤ pos (n + 1)) -ℤ z)) 2) [
  | inl last ↦ inr (omega (arith, ints))
  | inr before ↦ inl (omega (arith, ints))
]

pub later : (z from : ℤ) (n : ℕ) → z <ℤ (from +ℤ pos n) → z <ℤ (from +ℤ pos (n + 1))
later z from n h = omega (arith, ints)

pub at_line : (z y from : ℤ) (n : ℕ) → z ≡ y → y ≡ from +ℤ pos n → z <ℤ (from +ℤ pos (n + 1))
at_line z y from n e h = omega (arith, ints)

not_before : (z y from : ℤ) (n : ℕ) → z <ℤ (from +ℤ pos n) → z ≡ y → y ≡ from +ℤ pos n → ⊥
not_before z y from n h e g = omega (arith, ints)

pub lines_more : (f : Frame) (part : List Channel) (plan : Matching) (region : Box2i) (n : ℕ) (y : ℤ) (value : Byte → ℕ) (old mid new : List ℕ) → IsValid f → IsPlanOf f part plan → y ≡ region.y0 +ℤ pos n
    → IsCopied (IsOfLines f.window (placements_of f.planes) region plan.channels n) (place_of f.window (placements_of f.planes)) value old mid
    → IsCopied (IsOfLine f.window (placements_of f.planes) region plan.channels (length part) y) (place_of f.window (placements_of f.planes)) value mid new
    → IsCopied (IsOfLines f.window (placements_of f.planes) region plan.channels (n + 1)) (place_of f.window (placements_of f.planes)) value old new
lines_more f part plan region n y value old mid new valid is at p q =
    let places = plan.channels in
    put_more (IsOfLines f.window (placements_of f.planes) region places n) (IsOfLine f.window (placements_of f.planes) region places (length part) y) (IsOfLines f.window (placements_of f.planes) region places (n + 1))
    (place_of f.window (placements_of f.planes)) value old mid new
    (λ j k a b e.
    let same = one_byte f j k valid a.named b.named e in
    not_before j.y y region.y0 n a.early (ap (λ (t : Byte). t.y) same ∙ b.line) at)
    (λ k w. elim (line_cases k.y region.y0 n w.early) [
      | inl h ↦ inl (record { named = w.named; within = w.within; channel = w.channel; has_channel = w.has_channel; early = h })
      | inr h ↦ inr (record { named = w.named; within = w.within; channel = w.channel; has_channel = w.has_channel; early = (channel_of_slice f part plan k.slice w.channel is w.has_channel).within; line = h ∙ sym at })
    ])
    (λ k w. record { named = w.named; within = w.within; channel = w.channel; has_channel = w.has_channel; early = later k.y region.y0 n w.early })
    (λ k w. record { named = w.named; within = w.within; channel = w.channel; has_channel = w.has_channel; early = at_line k.y y region.y0 n w.line at })
    p q

pub none_above : (z from : ℤ) → from ≤ℤ z → z <ℤ (from +ℤ pos 0) → ⊥
none_above z from h k = omega (arith, ints)

pub lines_begun : (f : Frame) (region : Box2i) (places : List (Option ℕ)) (value : Byte → ℕ) (old : List ℕ) → IsCopied (IsOfLines f.window (placements_of f.planes) region places 0) (place_of f.window (placements_of f.planes)) value old old
lines_begun f region places value old = put_none (IsOfLines f.window (placements_of f.planes) region places 0) (place_of f.window (placements_of f.planes)) value old (λ k w. none_above k.y region.y0 w.within.top w.early)

-- ---- fills

pub slice_more : (f : Frame) (region : Box2i) (s n : ℕ) (y : ℤ) (value : Byte → ℕ) (old mid new : List ℕ) → IsValid f → y ≡ region.y0 +ℤ pos n
    → IsCopied (IsOfSlice f.window (placements_of f.planes) region s n) (place_of f.window (placements_of f.planes)) value old mid
    → IsCopied (IsInRow f.window (placements_of f.planes) region s y) (place_of f.window (placements_of f.planes)) value mid new
    → IsCopied (IsOfSlice f.window (placements_of f.planes) region s (n + 1)) (place_of f.window (placements_of f.planes)) value old new
slice_more f region s n y value old mid new valid at p q =
    put_more (IsOfSlice f.window (placements_of f.planes) region s n) (IsInRow f.window (placements_of f.planes) region s y) (IsOfSlice f.window (placements_of f.planes) region s (n + 1))
    (place_of f.window (placements_of f.planes)) value old mid new
    (λ j k a b e.
    let same = one_byte f j k valid a.named b.named e in
    not_before j.y y region.y0 n a.early (ap (λ (t : Byte). t.y) same ∙ b.line) at)
    (λ k w. elim (line_cases k.y region.y0 n w.early) [
      | inl h ↦ inl (record { named = w.named; within = w.within; slice = w.slice; early = h })
      | inr h ↦ inr (record { named = w.named; within = w.within; slice = w.slice; line = h ∙ sym at })
    ])
    (λ k w. record { named = w.named; within = w.within; slice = w.slice; early = later k.y region.y0 n w.early })
    (λ k w. record { named = w.named; within = w.within; slice = w.slice; early = at_line k.y y region.y0 n w.line at })
    p q

pub slice_begun : (f : Frame) (region : Box2i) (s : ℕ) (value : Byte → ℕ) (old : List ℕ) → IsCopied (IsOfSlice f.window (placements_of f.planes) region s 0) (place_of f.window (placements_of f.planes)) value old old
slice_begun f region s value old = put_none (IsOfSlice f.window (placements_of f.planes) region s 0) (place_of f.window (placements_of f.planes)) value old (λ k w. none_above k.y region.y0 w.within.top w.early)

pub fills_begun : (f : Frame) (region : Box2i) (places : List (Option ℕ)) (value : Byte → ℕ) (old : List ℕ) → IsCopied (IsOfFills f.window (placements_of f.planes) region places 0) (place_of f.window (placements_of f.planes)) value old old
fills_begun f region places value old = put_none (IsOfFills f.window (placements_of f.planes) region places 0) (place_of f.window (placements_of f.planes)) value old (λ k w. omega (arith, w.early))

-- the channel of a slice, or none
pub none_there : (places : List (Option ℕ)) (s : ℕ) (o : Option ℕ) → o ≡ get_or places s None → is_some o ≡ false → get_or places s None ≡ None
none_there places s None is h = sym is
none_there places s (Some c) is h = absurd (cc)

pub some_there : (places : List (Option ℕ)) (s : ℕ) (o : Option ℕ) → o ≡ get_or places s None → is_some o ≡ true → (c : ℕ) × (get_or places s None ≡ Some c)
some_there places s None is h = absurd (cc)
some_there places s (Some c) is h = (c, sym is)

-- a slice with a channel has no fill
pub fills_passed : (f : Frame) (region : Box2i) (places : List (Option ℕ)) (s c : ℕ) (value : Byte → ℕ) (old new : List ℕ) → get_or places s None ≡ Some c
    → IsCopied (IsOfFills f.window (placements_of f.planes) region places s) (place_of f.window (placements_of f.planes)) value old new
    → IsCopied (IsOfFills f.window (placements_of f.planes) region places (s + 1)) (place_of f.window (placements_of f.planes)) value old new
fills_passed f region places s c value old new some p =
    let before : (k : Byte) → IsOfFills f.window (placements_of f.planes) region places (s + 1) k → IsOfFills f.window (placements_of f.planes) region places s k = λ k w.
    elim (cases_lt k.slice s) [
      | inl h ↦ record { named = w.named; within = w.within; no_channel = w.no_channel; early = h }
      | inr h ↦ absurd (
          let last : k.slice ≡ s = omega (arith, w.early) in
          let both : None ≡ Some c = sym w.no_channel ∙ ap (λ (t : ℕ). get_or places t None) last ∙ some in
          cc)
    ] in
    put_again (IsOfFills f.window (placements_of f.planes) region places s) (place_of f.window (placements_of f.planes)) value (IsOfFills f.window (placements_of f.planes) region places (s + 1)) (place_of f.window (placements_of f.planes)) value old new
    (λ k w. (k, before k w, refl, refl))
    (λ k w. (k, record { named = w.named; within = w.within; no_channel = w.no_channel; early = omega (arith, w.early) }, refl))
    p

pub fills_more : (f : Frame) (region : Box2i) (places : List (Option ℕ)) (s lines : ℕ) (value : Byte → ℕ) (old mid new : List ℕ) → IsValid f → get_or places s None ≡ None
    → ((k : Byte) → IsInRegion f.window (placements_of f.planes) region k → k.y <ℤ (region.y0 +ℤ pos lines))
    → IsCopied (IsOfFills f.window (placements_of f.planes) region places s) (place_of f.window (placements_of f.planes)) value old mid
    → IsCopied (IsOfSlice f.window (placements_of f.planes) region s lines) (place_of f.window (placements_of f.planes)) value mid new
    → IsCopied (IsOfFills f.window (placements_of f.planes) region places (s + 1)) (place_of f.window (placements_of f.planes)) value old new
fills_more f region places s lines value old mid new valid none all p q =
    put_more (IsOfFills f.window (placements_of f.planes) region places s) (IsOfSlice f.window (placements_of f.planes) region s lines) (IsOfFills f.window (placements_of f.planes) region places (s + 1))
    (place_of f.window (placements_of f.planes)) value old mid new
    (λ j k a b e.
    let same = one_byte f j k valid a.named b.named e in
    let slice : j.slice ≡ k.slice = ap (λ (t : Byte). t.slice) same in
    omega (arith, a.early, b.slice))
    (λ k w. elim (cases_lt k.slice s) [
      | inl h ↦ inl (record { named = w.named; within = w.within; no_channel = w.no_channel; early = h })
      | inr h ↦ inr (record { named = w.named; within = w.within; slice = omega (arith, w.early); early = all k (record { named = w.named; within = w.within }) })
    ])
    (λ k w. record { named = w.named; within = w.within; no_channel = w.no_channel; early = omega (arith, w.early) })
    (λ k w. record { named = w.named; within = w.within; no_channel = ap (λ (t : ℕ). get_or places t None) w.slice ∙ none; early = omega (arith, w.slice) })
    p q

-- ---- the raw bytes of a line

pub lines_to : (part : List Channel) (region : Box2i) (m n : ℕ) → m ≤ n → lines_bytes_of part region m ≤ lines_bytes_of part region n
unfolding lines_bytes_of
lines_to part region m zero h = let e : m ≡ 0 = omega arith in subst (λ k. lines_bytes_of part region k ≤ 0) (sym e) (omega arith)
lines_to part region m (suc n) h =
    elim (cases_lt m (suc n)) [
      | inl lt ↦ let r = lines_to part region m n (omega arith) in omega arith
      | inr ge ↦ let e : m ≡ suc n = omega arith in subst (λ k. lines_bytes_of part region k ≤ lines_bytes_of part region (suc n)) (sym e) (omega arith)
    ]

pub line_within : (part : List Channel) (region : Box2i) (n m : ℕ) → n < m → lines_bytes_of part region n + line_bytes_of part region (region.y0 +ℤ pos n) ≤ lines_bytes_of part region m
unfolding lines_bytes_of
line_within part region n m h = lines_to part region (suc n) m (omega arith)

sums_suc : (g : Channel → ℕ) (part : List Channel) (c : ℕ) (d : Channel) → c < length part → sum_by g (take (suc c) part) ≡ sum_by g (take c part) + g (get_or part c d)
sums_suc g [] c d h = absurd (omega arith)
sums_suc g (x ∷ xs) zero d h = sum_by-cons g x [] ∙ omega arith
sums_suc g (x ∷ xs) (suc c) d h =
    let r = sums_suc g xs c d (omega arith) in
    let a = sum_by-cons g x (take (suc c) xs) in
    let b = sum_by-cons g x (take c xs) in
    omega arith

pub sums_more : (g : Channel → ℕ) (part : List Channel) (c : ℕ) (d : Channel) → c < length part → sum_by g (take (c + 1) part) ≡ sum_by g (take c part) + g (get_or part c d)
sums_more g part c d h = let turn : c + 1 ≡ suc c = omega arith in ap (λ n. sum_by g (take n part)) turn ∙ sums_suc g part c d h

pub sums_to : (g : Channel → ℕ) (part : List Channel) (c : ℕ) → sum_by g (take c part) ≤ sum_by g part
sums_to g [] zero = omega arith
sums_to g [] (suc c) = omega arith
sums_to g (x ∷ xs) zero = omega arith
sums_to g (x ∷ xs) (suc c) =
    let r = sums_to g xs c in
    let a = sum_by-cons g x (take c xs) in
    let b = sum_by-cons g x xs in
    omega arith

pub sums_all : (g : Channel → ℕ) (part : List Channel) (n : ℕ) → length part ≤ n → sum_by g (take n part) ≡ sum_by g part
sums_all g part n h = ap (sum_by g) (take_all n part h)

-- a row begins and ends in its line
pub row_ends : (g : Channel → ℕ) (part : List Channel) (c : ℕ) → c < length part → sum_by g (take c part) + g (channel_at part c) ≤ sum_by g part
row_ends g part c lt =
    let a = sums_more g part c no_channel lt in
    let b = sums_to g part (c + 1) in
    omega arith

room_of : (l s t row behind at long : ℕ) → at ≡ l → at + t ≤ long → behind ≡ l + s → s + row ≤ t → behind + row ≤ long
room_of l s t row behind at long a b c d = omega arith

pub row_room : (part : List Channel) (region : Box2i) (y z : ℤ) (at behind c long : ℕ) → z ≡ y → at ≡ lines_bytes_of part region (nat_abs (y -ℤ region.y0)) → at + line_bytes_of part region y ≤ long → c < length part
    → behind ≡ lines_bytes_of part region (nat_abs (z -ℤ region.y0)) + sum_by (row_bytes_of region z) (take c part) → behind + row_bytes_of region z (channel_at part c) ≤ long
row_room part region y z at behind c long same begins fits lt =
    let P : ℤ → Type 0 = λ (z : ℤ). behind ≡ lines_bytes_of part region (nat_abs (z -ℤ region.y0)) + sum_by (row_bytes_of region z) (take c part) → behind + row_bytes_of region z (channel_at part c) ≤ long in
    subst P (sym same) (λ h. room_of (lines_bytes_of part region (nat_abs (y -ℤ region.y0))) (sum_by (row_bytes_of region y) (take c part)) (line_bytes_of part region y) (row_bytes_of region y (channel_at part c)) behind at long begins fits h (row_ends (row_bytes_of region y) part c lt))

next_of : (l s row more behind n : ℕ) → behind ≡ l + s → n ≡ row → more ≡ s + row → behind + n ≡ l + more
next_of l s row more behind n a b c = omega arith

pub row_next : (part : List Channel) (region : Box2i) (z : ℤ) (l behind c n : ℕ) → c < length part → n ≡ row_bytes_of region z (channel_at part c) → behind ≡ l + sum_by (row_bytes_of region z) (take c part)
    → behind + n ≡ l + sum_by (row_bytes_of region z) (take (c + 1) part)
row_next part region z l behind c n lt e h = next_of l (sum_by (row_bytes_of region z) (take c part)) (row_bytes_of region z (channel_at part c)) (sum_by (row_bytes_of region z) (take (c + 1) part)) behind n h e (sums_more (row_bytes_of region z) part c no_channel lt)

pub line_done : (part : List Channel) (region : Box2i) (y z : ℤ) (at behind c : ℕ) → z ≡ y → at ≡ lines_bytes_of part region (nat_abs (y -ℤ region.y0)) → length part ≤ c
    → behind ≡ lines_bytes_of part region (nat_abs (z -ℤ region.y0)) + sum_by (row_bytes_of region z) (take c part) → behind ≡ at + line_bytes_of part region y
line_done part region y z at behind c same begins all h =
    h ∙ ap (λ (z : ℤ). lines_bytes_of part region (nat_abs (z -ℤ region.y0)) + sum_by (row_bytes_of region z) (take c part)) same
    ∙ ap₂ (λ (n m : ℕ). n + m) (sym begins) (sums_all (row_bytes_of region y) part c all)

pub lines_none : (part : List Channel) (region : Box2i) → 0 ≡ lines_bytes_of part region 0
unfolding lines_bytes_of
lines_none part region = refl

lines_suc : (part : List Channel) (region : Box2i) (n : ℕ) → lines_bytes_of part region (suc n) ≡ lines_bytes_of part region n + line_bytes_of part region (region.y0 +ℤ pos n)
unfolding lines_bytes_of
lines_suc part region n = refl

pub lines_next : (part : List Channel) (region : Box2i) (n at next : ℕ) (y : ℤ) → y ≡ region.y0 +ℤ pos n → at ≡ lines_bytes_of part region n → next ≡ at + line_bytes_of part region y → next ≡ lines_bytes_of part region (n + 1)
lines_next part region n at next y e h k =
    let turn : n + 1 ≡ suc n = omega arith in
    k ∙ ap₂ (λ (a : ℕ) (z : ℤ). a + line_bytes_of part region z) h e ∙ sym (lines_suc part region n) ∙ ap (lines_bytes_of part region) (sym turn)

pub line_room : (part : List Channel) (region : Box2i) (n at long : ℕ) (y : ℤ) → y ≡ region.y0 +ℤ pos n → n < height_of region → at ≡ lines_bytes_of part region n → long ≡ raw_size_of part region → at + line_bytes_of part region y ≤ long
line_room part region n at long y e lt h k =
    let w = line_within part region n (height_of region) lt in
    subst (λ (m : ℕ). at + line_bytes_of part region y ≤ m) (sym k)
    (subst (λ (m : ℕ). m + line_bytes_of part region y ≤ raw_size_of part region) (sym h)
    (subst (λ (z : ℤ). lines_bytes_of part region n + line_bytes_of part region z ≤ raw_size_of part region) (sym e) w))

-- ---- in all

under : (z from to : ℤ) → from ≤ℤ z → z ≤ℤ to → z <ℤ (from +ℤ pos (span_of from to))
under z from to h k = omega (arith, ints)

held_or_not : (f : Frame) (region : Box2i) (places : List (Option ℕ)) (lines : ℕ) (k : Byte) → IsInRegion f.window (placements_of f.planes) region k → k.y <ℤ (region.y0 +ℤ pos lines) → (o : Option ℕ) → get_or places k.slice None ≡ o
    → IsOfLines f.window (placements_of f.planes) region places lines k ⊎ IsOfFills f.window (placements_of f.planes) region places (length (placements_of f.planes)) k
held_or_not f region places lines k w early None at = inr (record { named = w.named; within = w.within; no_channel = at; early = w.named.slice })
held_or_not f region places lines k w early (Some c) at = inl (record { named = w.named; within = w.within; channel = c; has_channel = at; early = early })

-- the bytes of fills, as those of the chunk
pub fills_of_chunk : (f : Frame) (part : List Channel) (region : Box2i) (raw : List ℕ) (places : List (Option ℕ)) (count : ℕ) (old new : List ℕ)
    → IsCopied (IsOfFills f.window (placements_of f.planes) region places count) (place_of f.window (placements_of f.planes)) (filled_byte (placements_of f.planes)) old new
    → IsCopied (IsOfFills f.window (placements_of f.planes) region places count) (place_of f.window (placements_of f.planes)) (chunk_byte part region raw (placements_of f.planes) places) old new
unfolding chunk_byte
fills_of_chunk f part region raw places count old new p = record {
  copied = λ k w. p.copied k w ∙ ap (λ (o : Option ℕ). byte_of part region raw (placement_at (placements_of f.planes) k.slice) o k) (sym w.no_channel);
  others = p.others;
}

-- every pixel of a region lies on one of its lines
pub lines_cover : (f : Frame) (region : Box2i) (k : Byte) → IsInRegion f.window (placements_of f.planes) region k → k.y <ℤ (region.y0 +ℤ pos (height_of region))
lines_cover f region k w = under k.y region.y0 region.y1 w.within.top w.within.bottom

pub all_put : (f : Frame) (part : List Channel) (plan : Matching) (region : Box2i) (lines : ℕ) (value : Byte → ℕ) (old mid new : List ℕ) → IsValid f → IsPlanOf f part plan
    → ((k : Byte) → IsInRegion f.window (placements_of f.planes) region k → k.y <ℤ (region.y0 +ℤ pos lines))
    → IsCopied (IsOfLines f.window (placements_of f.planes) region plan.channels lines) (place_of f.window (placements_of f.planes)) value old mid
    → IsCopied (IsOfFills f.window (placements_of f.planes) region plan.channels (length (placements_of f.planes))) (place_of f.window (placements_of f.planes)) value mid new
    → IsCopied (IsInRegion f.window (placements_of f.planes) region) (place_of f.window (placements_of f.planes)) value old new
all_put f part plan region lines value old mid new valid is all p q =
    let places = plan.channels in
    put_more (IsOfLines f.window (placements_of f.planes) region places lines) (IsOfFills f.window (placements_of f.planes) region places (length (placements_of f.planes))) (IsInRegion f.window (placements_of f.planes) region)
    (place_of f.window (placements_of f.planes)) value old mid new
    (λ j k a b e.
    let same = one_byte f j k valid a.named b.named e in
    let slice : j.slice ≡ k.slice = ap (λ (t : Byte). t.slice) same in
    let both : Some a.channel ≡ None = sym a.has_channel ∙ ap (λ (s : ℕ). get_or places s None) slice ∙ b.no_channel in
    cc)
    (λ k w. held_or_not f region places lines k w (all k w) (get_or places k.slice None) refl)
    (λ k w. record { named = w.named; within = w.within })
    (λ k w. record { named = w.named; within = w.within })
    p q
