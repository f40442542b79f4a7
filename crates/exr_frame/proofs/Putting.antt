-- Bytes put one list after another.
use Rattle.std.proofs.Common.{◌≡◌, ◌≢◌, ◌+◌, ◌-◌, ◌*◌, ◌^◌, ◌/◌, ◌%◌, ap₂, ◌<◌, ◌≤◌, ◌⊎◌, ℕ, List, ◌++◌, length, take, drop, refl, sym, ap, ◌∙◌, inl, inr, arith, slice_index}
use borrow.Rule.Slice.PartMut.{put_mid}
use Rattle.std.proofs.Math.ListN.{set}
use Rattle.std.proofs.lemmas.Bool.{cases_lt}
use Rattle.std.proofs.lemmas.Nat.{mul-le, div-add-mod', mod_below, div_below}
use Rattle.std.proofs.lemmas.List.{get_or-set_same, get_or-set_other, length-set, length-take-le, get_or-append_right, get_or_append_left, get_or-take, get_or-drop, drop-drop}
use Rattle.exr_frame.specs.Buffer.{IsCopied}
use Rattle.exr_frame.specs.Rows.{IsOfRow, row_place, sample_byte}

-- nothing was put
pub put_none : {K : Type 0} (which : K → Type 0) (place value : K → ℕ) (l : List ℕ) → ((k : K) → which k → ⊥) → IsCopied which place value l l
put_none which place value l none = record { copied = λ k w. absurd (none k w); others = λ at h. refl }

-- the same bytes, by other names
pub put_again : {K L : Type 0} (which : K → Type 0) (place value : K → ℕ) (which' : L → Type 0) (place' value' : L → ℕ) (old new : List ℕ)
    → ((k : L) → which' k → (j : K) × which j × (place j ≡ place' k) × (value j ≡ value' k))
    → ((j : K) → which j → (k : L) × which' k × (place' k ≡ place j))
    → IsCopied which place value old new → IsCopied which' place' value' old new
put_again which place value which' place' value' old new back there p = record {
  copied = λ k w. let b = back k w in ap (slice_index new) (sym b.2) ∙ p.copied b.0 b.1 ∙ b.3;
  others = λ at h. p.others at (λ j w e. let t = there j w in h t.0 t.1 (t.2 ∙ e));
}

-- and then others, elsewhere
pub put_more : {K : Type 0} (which which' all : K → Type 0) (place value : K → ℕ) (old mid new : List ℕ)
    → ((j k : K) → which j → which' k → place j ≡ place k → ⊥)
    → ((k : K) → all k → which k ⊎ which' k) → ((k : K) → which k → all k) → ((k : K) → which' k → all k)
    → IsCopied which place value old mid → IsCopied which' place value mid new → IsCopied all place value old new
put_more which which' all place value old mid new clear split left right p q = record {
  copied = λ k w. elim (split k w) [
    | inl a ↦ q.others (place k) (λ j b e. clear k j a b (sym e)) ∙ p.copied k a
    | inr b ↦ q.copied k b
  ];
  others = λ at h. q.others at (λ k w. h k (right k w)) ∙ p.others at (λ k w. h k (left k w));
}

-- ---- along a row

row_apart : (at stride size : ℕ) (j k : ℕ × ℕ) (i : ℕ) → size ≤ stride → j.0 < i → j.1 < size → k.0 ≡ i → row_place at stride j ≡ row_place at stride k → ⊥
row_apart at stride size j k i fits h b e same =
    let p : (j.0 + 1) * stride ≤ k.0 * stride = mul-le (j.0 + 1) stride k.0 stride (omega arith) (omega arith) in
    omega arith

-- the bytes of one sample
pub record IsOfSample (i size : ℕ) (k : ℕ × ℕ) : Type 0 where
  pub sample : k.0 ≡ i
  pub byte : k.1 < size

pub row_more : (at stride size i : ℕ) (value : ℕ × ℕ → ℕ) (old mid new : List ℕ) → size ≤ stride → IsCopied (IsOfRow i size) (row_place at stride) value old mid → IsCopied (IsOfSample i size) (row_place at stride) value mid new → IsCopied (IsOfRow (i + 1) size) (row_place at stride) value old new
row_more at stride size i value old mid new fits p q =
    put_more (IsOfRow i size) (IsOfSample i size) (IsOfRow (i + 1) size) (row_place at stride) value old mid new
    (λ j k a b e. row_apart at stride size j k i fits a.sample a.byte b.sample e)
    (λ k w. elim (cases_lt k.0 i) [
      | inl h ↦ inl (record { sample = h; byte = w.byte })
      | inr h ↦ inr (record { sample = omega (arith, w.sample); byte = w.byte })
    ])
    (λ k w. record { sample = omega (arith, w.sample); byte = w.byte })
    (λ k w. record { sample = omega (arith, w.sample); byte = w.byte })
    p q

pub row_none : (at stride size : ℕ) (value : ℕ × ℕ → ℕ) (l : List ℕ) → IsCopied (IsOfRow 0 size) (row_place at stride) value l l
row_none at stride size value l = put_none (IsOfRow 0 size) (row_place at stride) value l (λ k w. omega (arith, w.sample))

pub sample_none : (at stride i : ℕ) (value : ℕ × ℕ → ℕ) (l : List ℕ) → IsCopied (IsOfSample i 0) (row_place at stride) value l l
sample_none at stride i value l = put_none (IsOfSample i 0) (row_place at stride) value l (λ k w. omega (arith, w.byte))

-- one byte more of a sample
pub byte_more : (at stride i d to v : ℕ) (value : ℕ × ℕ → ℕ) (l m : List ℕ) → to ≡ at + i * stride + d → to < length m → v ≡ value (i, d)
    → IsCopied (IsOfSample i d) (row_place at stride) value l m → IsCopied (IsOfSample i (d + 1)) (row_place at stride) value l (set m to v)
byte_more at stride i d to v value l m e h here p = record {
  copied = λ k w. elim (cases_lt k.1 d) [
    | inl before ↦
        let other : row_place at stride k ≢ to = λ same. let f : k.0 * stride ≡ i * stride = ap (λ n. n * stride) w.sample in omega arith in
        get_or-set_other m to (row_place at stride k) v 0 other ∙ p.copied k (record { sample = w.sample; byte = before })
    | inr past ↦
        let last : k.1 ≡ d = omega (arith, w.byte) in
        let same : row_place at stride k ≡ to = let f : k.0 * stride ≡ i * stride = ap (λ n. n * stride) w.sample in omega arith in
        let key : k ≡ (i, d) = ap₂ (λ (a b : ℕ). (a, b)) w.sample last in
        ap (slice_index (set m to v)) same ∙ get_or-set_same m to v 0 h ∙ here ∙ ap value (sym key)
  ];
  others = λ j free.
      let other : j ≢ to = λ same. free (i, d) (record { sample = refl; byte = omega arith }) (omega arith) in
      get_or-set_other m to j v 0 other ∙ p.others j (λ k w. free k (record { sample = w.sample; byte = omega (arith, w.byte) }));
}

-- room for a sample of a row
pub room_at : (at stride samples size len i : ℕ) → (0 < samples → at + (samples - 1) * stride + size ≤ len) → i < samples → at + i * stride + size ≤ len
room_at at stride samples size len i room lt =
    let r = room (omega arith) in
    let p : i * stride ≤ (samples - 1) * stride = mul-le i stride (samples - 1) stride (omega arith) (omega arith) in
    omega arith

pub sample_of_two : (at stride i a b : ℕ) (value : ℕ × ℕ → ℕ) (l : List ℕ) → at + i * stride + 2 ≤ length l → a ≡ value (i, 0) → b ≡ value (i, 1)
    → IsCopied (IsOfSample i 2) (row_place at stride) value l (set (set l (at + i * stride) a) (at + i * stride + 1) b)
sample_of_two at stride i a b value l h va vb =
    let l1 = set l (at + i * stride) a in
    let n1 = length-set l (at + i * stride) a in
    byte_more at stride i 1 (at + i * stride + 1) b value l l1 refl (omega arith) vb
    (byte_more at stride i 0 (at + i * stride) a value l l (omega arith) (omega arith) va (sample_none at stride i value l))

pub sample_of_four : (at stride i a b c d : ℕ) (value : ℕ × ℕ → ℕ) (l : List ℕ) → at + i * stride + 4 ≤ length l → a ≡ value (i, 0) → b ≡ value (i, 1) → c ≡ value (i, 2) → d ≡ value (i, 3)
    → IsCopied (IsOfSample i 4) (row_place at stride) value l (set (set (set (set l (at + i * stride) a) (at + i * stride + 1) b) (at + i * stride + 2) c) (at + i * stride + 3) d)
sample_of_four at stride i a b c d value l h va vb vc vd =
    let l1 = set l (at + i * stride) a in
    let l2 = set l1 (at + i * stride + 1) b in
    let l3 = set l2 (at + i * stride + 2) c in
    let n1 = length-set l (at + i * stride) a in
    let n2 = length-set l1 (at + i * stride + 1) b in
    let n3 = length-set l2 (at + i * stride + 2) c in
    byte_more at stride i 3 (at + i * stride + 3) d value l l3 refl (omega arith) vd
    (byte_more at stride i 2 (at + i * stride + 2) c value l l2 refl (omega arith) vc
    (byte_more at stride i 1 (at + i * stride + 1) b value l l1 refl (omega arith) vb
    (byte_more at stride i 0 (at + i * stride) a value l l (omega arith) (omega arith) va (sample_none at stride i value l))))

-- ---- a whole row at once

pub row_copied : (at samples size : ℕ) (from old new : List ℕ) → 0 < size → length from ≡ samples * size → at + length from ≤ length old → new ≡ take at old ++ (from ++ drop (at + length from) old)
    → IsCopied (IsOfRow samples size) (row_place at size) (sample_byte from size) old new
row_copied at samples size from old new some len room is =
    let front = length-take-le at old (omega arith) in
    let inside : (n : ℕ) → n < length from → slice_index new (at + n) ≡ slice_index from n = λ n h.
    ap (λ l. slice_index l (at + n)) is
    ∙ get_or-append_right (take at old) (from ++ drop (at + length from) old) at (at + n) 0 front (omega arith)
    ∙ ap (slice_index (from ++ drop (at + length from) old)) (omega arith)
    ∙ get_or_append_left from (drop (at + length from) old) 0 n h in
    let row_within : (k : ℕ × ℕ) → IsOfRow samples size k → k.0 * size + k.1 < length from = λ k w.
    let p : (k.0 + 1) * size ≤ samples * size = mul-le (k.0 + 1) size samples size (omega (arith, w.sample)) (omega arith) in
    omega (arith, w.byte) in
    record {
      copied = λ k w. let e : row_place at size k ≡ at + (k.0 * size + k.1) = omega arith in ap (slice_index new) e ∙ inside (k.0 * size + k.1) (row_within k w);
      others = λ j free. elim (cases_lt j at) [
        | inl h ↦ ap (λ l. slice_index l j) is ∙ get_or_append_left (take at old) (from ++ drop (at + length from) old) 0 j (omega arith) ∙ get_or-take at old j 0 h
        | inr h ↦ elim (cases_lt (j - at) (length from)) [
          | inl g ↦ absurd (
              let whole = div-add-mod' (j - at) size in
              let low = mod_below (j - at) size some in
              let q : (j - at) / size < samples = div_below (j - at) size samples some (omega arith) in
              free ((j - at) / size, (j - at) % size) (record { sample = q; byte = low }) (omega arith))
          | inr g ↦
              ap (λ l. slice_index l j) is
              ∙ get_or-append_right (take at old) (from ++ drop (at + length from) old) at j 0 front h
              ∙ get_or-append_right from (drop (at + length from) old) (length from) (j - at) 0 refl g
              ∙ get_or-drop (at + length from) old (j - at - length from) 0
              ∙ ap (slice_index old) (omega arith)
        ]
      ];
    }

pub fill_first : (fill : ℕ) → fill % 256 ≡ fill / 256 ^ 0 % 256
fill_first fill = let e : fill / 256 ^ 0 ≡ fill = omega arith in ap (λ n. n % 256) (sym e)

-- a part of a list, written over
pub laid : (at : ℕ) (old from mid : List ℕ) → mid ≡ from → put_mid at (at + length from - at) old mid ≡ take at old ++ (from ++ drop (at + length from) old)
laid at old from mid e =
    let d : at + length from - at ≡ length from = omega arith in
    ap (λ k. put_mid at k old mid) d ∙ ap (λ (m : List ℕ). put_mid at (length from) old m) e ∙ ap (λ (l : List ℕ). take at old ++ (from ++ l)) (drop-drop (length from) at old)
