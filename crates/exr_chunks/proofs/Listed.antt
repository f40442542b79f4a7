-- The parts of a geometry as a list.
use Rattle.std.proofs.Common.{◌≡◌, ℕ, ◌+◌, ◌<◌, ◌≤◌, ◌^◌, List, [], ◌∷◌, ◌++◌, length, get_or, take, map, sum_by, refl, sym, ap, subst, ◌∙◌, inl, inr, arith}
use Rattle.std.proofs.lemmas.Bool.{cases_lt}
use Rattle.std.proofs.lemmas.List.{get_or_append_left, get_or_push, take-append-le, take_all, length-take-le, length-map, length_push, map_push, map_more, get_or-map}
use Rattle.std.proofs.lemmas.List.Elements.{All-push, All-get_or}
use Rattle.std.proofs.lemmas.List.Sums.{sum_by-append, sum_by-cons, sum_by_more_le}
use Rattle.exr_chunks.specs.declared.part.Part.{Part}
use Rattle.exr_chunks.specs.Heads.{Header, chunk_count_of}
use Rattle.exr_chunks.specs.Region.{no_header, header_at}
use Rattle.exr_chunks.specs.Table.{chunks_before}
use Rattle.exr_chunks.specs.Part.{without_attributes, header_of, IsPart, headers_of, AreParts}
use Rattle.exr_chunks.proofs.Parts.{bare_count}

pub bare_counts : (hs : List Header) → sum_by chunk_count_of (map without_attributes hs) ≡ sum_by chunk_count_of hs
bare_counts [] = refl
bare_counts (h ∷ hs) =
    let a = sum_by-cons chunk_count_of (without_attributes h) (map without_attributes hs) in
    let b = sum_by-cons chunk_count_of h hs in
    let c = bare_count h in
    let d = bare_counts hs in
    omega (arith, a, b, c, d)

pub none_yet : AreParts [] 0
none_yet = record {
  each = λ k d h. absurd (omega (arith, h));
  firsts = λ k d h. absurd (omega (arith, h));
  total = refl;
  few = omega arith;
  short = omega arith;
}

first_of : (parts : List Part) (all : ℕ) (p : Part) (k : ℕ) (d : Part) → AreParts parts all → p.first ≡ all → k < length (parts ++ p ∷ []) → (get_or (parts ++ p ∷ []) k d).first ≡ chunks_before (headers_of (parts ++ p ∷ [])) k
first_of parts all p k d before e within =
    let longer = length_push parts p in
    let hs = headers_of parts in
    let many : length hs ≡ length parts = length-map parts header_of in
    let views : headers_of (parts ++ p ∷ []) ≡ hs ++ header_of p ∷ [] = map_push header_of parts p in
    elim (cases_lt k (length parts)) [
      | inl lt ↦ ap (λ (q : Part). q.first) (get_or_append_left parts (p ∷ []) d k lt) ∙ before.firsts k d lt
          ∙ ap (sum_by chunk_count_of) (sym (take-append-le k hs (header_of p ∷ []) (omega (arith, many, lt)))) ∙ ap (λ l. chunks_before l k) (sym views)
      | inr ge ↦
          let here : k ≡ length parts = omega (arith, ge, longer, within) in
          ap (λ (q : Part). q.first) (get_or_push parts p d k (sym here)) ∙ e ∙ before.total
          ∙ ap (sum_by chunk_count_of) (sym (take-append-le k hs (header_of p ∷ []) (omega (arith, many, here)) ∙ take_all k hs (omega (arith, many, here)))) ∙ ap (λ l. chunks_before l k) (sym views)
    ]

pub one_more : (parts : List Part) (all more : ℕ) (p : Part) → AreParts parts all → IsPart p → p.first ≡ all → more ≡ all + p.count → length parts < 1024 → AreParts (parts ++ p ∷ []) more
one_more parts all more p before part e sum short =
    let hs = headers_of parts in
    let views : headers_of (parts ++ p ∷ []) ≡ hs ++ header_of p ∷ [] = map_push header_of parts p in
    let sums = sum_by-append chunk_count_of hs (header_of p ∷ []) in
    let old = before.total in
    let counted = part.count in
    let bound = part.few in
    let total : more ≡ sum_by chunk_count_of (hs ++ header_of p ∷ []) = omega (arith, sum, sums, old, counted) in
    record {
      each = All-push IsPart parts p before.each part;
      firsts = λ k d within. first_of parts all p k d before e within;
      total = total ∙ ap (sum_by chunk_count_of) (sym views);
      few = omega (arith, sum, e, bound);
      short = omega (arith, length_push parts p, short);
    }

-- what the parts so far, and one more header, are of their headers
pub views_more : (parts : List Part) (hs : List Header) (i : ℕ) (p : Part) (h : Header) → headers_of parts ≡ map without_attributes (take i hs) → i < length hs → header_of p ≡ without_attributes h → h ≡ get_or hs i h → headers_of (parts ++ p ∷ []) ≡ map without_attributes (take (i + 1) hs)
views_more parts hs i p h so_far within e read =
    map_push header_of parts p ∙ ap (λ l. l ++ header_of p ∷ []) so_far ∙ ap (λ x. map without_attributes (take i hs) ++ x ∷ []) (e ∙ ap without_attributes read)
    ∙ sym (map_more without_attributes hs i h within)

-- the chunks of the parts so far and of the next header are few
pub next_few : (parts : List Part) (all : ℕ) (hs : List Header) (i : ℕ) (h : Header) → AreParts parts all → headers_of parts ≡ map without_attributes (take i hs) → i < length hs → h ≡ get_or hs i h → sum_by chunk_count_of hs ≤ 2 ^ 20 → all + chunk_count_of h ≤ 2 ^ 20
next_few parts all hs i h before so_far within read few =
    let a : all ≡ sum_by chunk_count_of (take i hs) = before.total ∙ ap (sum_by chunk_count_of) so_far ∙ bare_counts (take i hs) in
    let b = sum_by_more_le chunk_count_of hs i h within in
    let c : chunk_count_of h ≡ chunk_count_of (get_or hs i h) = ap chunk_count_of read in
    omega (arith, a, b, c, few)

-- a part of a geometry
pub record IsPartAt (hs : List Header) (part : ℕ) (p : Part) : Type 0 where
  pub is_part : IsPart p
  pub header : header_of p ≡ header_at hs part
  pub first : p.first ≡ chunks_before hs part
  pub count : p.count ≡ chunk_count_of (header_at hs part)

pub part_at : (parts : List Part) (all part : ℕ) (p : Part) → AreParts parts all → part < length parts → p ≡ get_or parts part p → IsPartAt (headers_of parts) part p
part_at parts all part p are within read =
    let here : IsPart p = subst IsPart (sym read) (All-get_or IsPart parts part p within are.each) in
    let header : header_of p ≡ header_at (headers_of parts) part = ap header_of read ∙ sym (get_or-map header_of parts part p no_header within) in
    record {
      is_part = here;
      header = header;
      first = ap (λ (q : Part). q.first) read ∙ are.firsts part p within;
      count = here.count ∙ ap chunk_count_of header;
    }

-- one more part is that of one more header
pub record AreMore (items : List Part) (all : ℕ) (hs : List Header) (i : ℕ) : Type 0 where
  pub views : headers_of items ≡ map without_attributes (take i hs)
  pub parts : AreParts items all

pub step : (parts items : List Part) (all : ℕ) (hs : List Header) (i : ℕ) (p : Part) (h : Header) → AreParts parts all → headers_of parts ≡ map without_attributes (take i hs) → i < length hs → h ≡ get_or hs i h → length hs ≤ 1024
    → IsPart p → header_of p ≡ without_attributes h → p.first ≡ all → items ≡ parts ++ p ∷ [] → AreMore items (all + p.count) hs (i + 1)
step parts items all hs i p h before so_far within read short part header first pushed =
    let a = length-map parts header_of in
    let b = length-map (take i hs) without_attributes in
    let c = length-take-le i hs (omega (arith, within)) in
    let d = ap length so_far in
    let few : length parts < 1024 = omega (arith, a, b, c, d, within, short) in
    record {
      views = ap headers_of pushed ∙ views_more parts hs i p h so_far within header read;
      parts = subst (λ l. AreParts l (all + p.count)) (sym pushed) (one_more parts all (all + p.count) p before part first refl few);
    }
