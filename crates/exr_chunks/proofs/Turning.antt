-- The chunks of all parts in their order.
use Rattle.std.proofs.Common.{◌≡◌, ℕ, zero, suc, ◌+◌, ◌-◌, ◌*◌, ◌<◌, ◌≤◌, List, [], ◌∷◌, ◌++◌, length, get_or, take, map, Some, sum_by, refl, sym, ap, subst, ◌∙◌, inl, inr, arith}
use Rattle.std.specs.Prelude.{slice_get}
use Rattle.std.proofs.lemmas.Bool.{cases_lt}
use Rattle.std.proofs.lemmas.Option.{slice_get-get_or, slice_get_within, some_pair_parts}
use Rattle.std.proofs.lemmas.List.{get_or_append_left, get_or-append-add, length-append, length-map, get_or-map}
use Rattle.std.proofs.lemmas.List.Sums.{sum_by-cons, sum_by_more_le}
use Rattle.exr_chunks.specs.declared.part.Part.{Part}
use Rattle.exr_chunks.specs.Heads.{Header, chunk_count_of}
use Rattle.exr_chunks.specs.Part.{header_of, IsPart}
use Rattle.exr_chunks.specs.Region.{no_header, header_at, across_of, down_of}
use Rattle.exr_chunks.specs.Table.{chunks_before}
use Rattle.exr_chunks.specs.Turns.{is_falling, part_order, turns_from, turns_of, mirrored}
use Rattle.exr_chunks.proofs.Parts.{cut, product, count_is}
use Rattle.exr_chunks.proofs.Listed.{IsPartAt}
use Rattle.exr_chunks.proofs.Orders.{chunks_by, order_length, order_at, mirrored_within, mirrored_back}

order_many : (h : Header) → length (part_order h) ≡ chunk_count_of h
order_many h = order_length (is_falling h.order) (across_of h) (down_of h) ∙ count_is h (across_of h) (down_of h) refl refl

pub turns_length : (base : ℕ) (hs : List Header) → length (turns_from base hs) ≡ sum_by chunk_count_of hs
unfolding turns_from
turns_length base [] = refl
turns_length base (h ∷ hs) =
    let f : ℕ → ℕ × ℕ = λ i. (base, i) in
    let a = length-append (map f (part_order h)) (turns_from (base + 1) hs) in
    let b = length-map (part_order h) f in
    let c = order_many h in
    let d = turns_length (base + 1) hs in
    let e = sum_by-cons chunk_count_of h hs in
    a ∙ omega (arith, b, c, d, e)

turn_at : (base part : ℕ) (hs : List Header) (k : ℕ) (d : ℕ × ℕ) → part < length hs → k < chunk_count_of (header_at hs part) → get_or (turns_from base hs) (chunks_before hs part + k) d ≡ (base + part, get_or (part_order (header_at hs part)) k 0)
unfolding turns_from
turn_at base part [] k d within low = absurd (omega (arith, within))
turn_at base zero (h ∷ hs) k d within low =
    let f : ℕ → ℕ × ℕ = λ i. (base, i) in
    let own : List (ℕ × ℕ) = map f (part_order h) in
    let b = length-map (part_order h) f in
    let c = order_many h in
    let z : 0 + k ≡ k = omega arith in
    let n : base ≡ base + 0 = omega arith in
    ap (λ m. get_or (own ++ turns_from (base + 1) hs) m d) z
    ∙ get_or_append_left own (turns_from (base + 1) hs) d k (omega (arith, b, c, low))
    ∙ get_or-map f (part_order h) k 0 d (omega (arith, c, low))
    ∙ ap (λ m. (m, get_or (part_order h) k 0)) n
turn_at base (suc part) (h ∷ hs) k d within low =
    let f : ℕ → ℕ × ℕ = λ i. (base, i) in
    let own : List (ℕ × ℕ) = map f (part_order h) in
    let b = length-map (part_order h) f in
    let c = order_many h in
    let e = sum_by-cons chunk_count_of h (take part hs) in
    let place : chunks_before (h ∷ hs) (suc part) + k ≡ length own + (chunks_before hs part + k) = omega (arith, b, c, e) in
    let n : base + 1 + part ≡ base + suc part = omega arith in
    ap (λ m. get_or (own ++ turns_from (base + 1) hs) m d) place
    ∙ get_or-append-add own (turns_from (base + 1) hs) (chunks_before hs part + k) d
    ∙ turn_at (base + 1) part hs k d (omega (arith, within)) low
    ∙ ap (λ m. (m, get_or (part_order (header_at hs part)) k 0)) n

pub before_next : (hs : List Header) (part : ℕ) → part < length hs → chunks_before hs part + chunk_count_of (header_at hs part) ≤ sum_by chunk_count_of hs
before_next hs part within = sum_by_more_le chunk_count_of hs part no_header within

part_chunks : (p : Part) (k : ℕ) → IsPart p → k < p.count → get_or (part_order (header_of p)) k 0 ≡ mirrored (is_falling p.order) p.across p.down k
unfolding header_of
part_chunks p k part within =
    let all = product p part in
    let c = cut p k part within in
    let f = is_falling p.order in
    ap (λ n. get_or (chunks_by f n (down_of (header_of p))) k 0) (sym part.across) ∙ ap (λ n. get_or (chunks_by f p.across n) k 0) (sym part.down)
    ∙ order_at f p.across p.down k 0 c.across (omega (arith, all, within))

-- the chunk at a turn
pub turn_is : (hs : List Header) (part k : ℕ) (p : Part) → IsPartAt hs part p → part < length hs → k < p.count → slice_get (turns_of hs) (p.first + k) ≡ Some (part, mirrored (is_falling p.order) p.across p.down k)
turn_is hs part k p at within low =
    let many = turns_length 0 hs in
    let next = before_next hs part within in
    let first = at.first in
    let count = at.count in
    let inside : p.first + k < length (turns_of hs) = omega (arith, many, next, first, count, low) in
    let z : 0 + part ≡ part = omega arith in
    slice_get-get_or (turns_of hs) (p.first + k) (0, 0) inside
    ∙ ap (λ (x : ℕ × ℕ). Some x)
    (ap (λ n. get_or (turns_of hs) (n + k) (0, 0)) first ∙ turn_at 0 part hs k (0, 0) within (subst (λ n. k < n) count low)
    ∙ ap (λ n. (n, get_or (part_order (header_at hs part)) k 0)) z
    ∙ ap (λ (h : Header). (part, get_or (part_order h) k 0)) (sym at.header)
    ∙ ap (λ n. (part, n)) (part_chunks p k at.is_part low))

-- the turn of a chunk
pub chunk_turn : (hs : List Header) (part i m : ℕ) (p : Part) → IsPartAt hs part p → part < length hs → i < p.count → m ≡ mirrored (is_falling p.order) p.across p.down i → (m < p.count) × (slice_get (turns_of hs) (p.first + m) ≡ Some (part, i))
chunk_turn hs part i m p at within low e =
    let all = product p at.is_part in
    let c = cut p i at.is_part low in
    let f = is_falling p.order in
    let whole : i < p.across * p.down = omega (arith, all, low) in
    let small = mirrored_within f p.across p.down i c.across whole in
    let inside : m < p.count = omega (arith, e, small, all) in
    let back : mirrored f p.across p.down m ≡ i = ap (mirrored f p.across p.down) e ∙ mirrored_back f p.across p.down i c.across whole in
    (inside, turn_is hs part m p at within inside ∙ ap (λ n. Some (part, n)) back)

-- the chunk at a turn within a part
pub at_turn_is : (hs : List Header) (part turn i : ℕ) (p : Part) → IsPartAt hs part p → part < length hs → chunks_before hs part ≤ turn → turn - p.first < p.count → i ≡ mirrored (is_falling p.order) p.across p.down (turn - p.first) → slice_get (turns_of hs) turn ≡ Some (part, i)
at_turn_is hs part turn i p at within low inside e =
    let first = at.first in
    let same : turn ≡ p.first + (turn - p.first) = omega (arith, first, low) in
    ap (slice_get (turns_of hs)) same ∙ turn_is hs part (turn - p.first) p at within inside ∙ ap (λ n. Some (part, n)) (sym e)

-- the part of a turn, and how many turns of that part come before
record IsTurnIn (hs : List Header) (turn part k : ℕ) : Type 0 where
  within : part < length hs
  low : k < chunk_count_of (header_at hs part)
  is : turn ≡ chunks_before hs part + k

part_of : (hs : List Header) (turn : ℕ) → turn < sum_by chunk_count_of hs → (part : ℕ) × (k : ℕ) × IsTurnIn hs turn part k
part_of [] turn w = absurd (omega (arith, w))
part_of (h ∷ hs) turn w =
    let e = sum_by-cons chunk_count_of h hs in
    elim (cases_lt turn (chunk_count_of h)) [
      | inl lt ↦ (0, turn, record { within = omega arith; low = lt; is = omega arith })
      | inr ge ↦
          let r = part_of hs (turn - chunk_count_of h) (omega (arith, e, w, ge)) in
          let i : IsTurnIn hs (turn - chunk_count_of h) r.0 r.1 = r.2 in
          let within = i.within in
          let is = i.is in
          let f = sum_by-cons chunk_count_of h (take r.0 hs) in
          (suc r.0, r.1, record { within = omega (arith, within); low = i.low; is = omega (arith, is, f, ge) })
    ]

-- a chunk stands at no turn but its own
pub only_turn : (hs : List Header) (part i m turn : ℕ) (p : Part) → IsPartAt hs part p → part < length hs → i < p.count → m ≡ mirrored (is_falling p.order) p.across p.down i → slice_get (turns_of hs) turn ≡ Some (part, i) → turn ≡ p.first + m
only_turn hs part i m turn p at within low e there =
    let many = turns_length 0 hs in
    let inside : turn < length (turns_of hs) = slice_get_within (turns_of hs) turn (part, i) there in
    let r = part_of hs turn (omega (arith, many, inside)) in
    let k = r.1 in
    let s : IsTurnIn hs turn r.0 k = r.2 in
    let other : get_or (turns_of hs) turn (0, 0) ≡ (0 + r.0, get_or (part_order (header_at hs r.0)) k 0) =
    ap (λ n. get_or (turns_of hs) n (0, 0)) s.is ∙ turn_at 0 r.0 hs k (0, 0) s.within s.low in
    let both = sym there ∙ slice_get-get_or (turns_of hs) turn (0, 0) inside ∙ ap (λ (x : ℕ × ℕ). Some x) other in
    let parts = some_pair_parts part (0 + r.0) i (get_or (part_order (header_at hs r.0)) k 0) both in
    let same : r.0 ≡ part = omega (arith, parts.0) in
    let count = at.count in
    let first = at.first in
    let below : k < chunk_count_of (header_at hs part) = subst (λ n. k < chunk_count_of (header_at hs n)) same s.low in
    let inside_part : k < p.count = omega (arith, below, count) in
    let is : turn ≡ chunks_before hs part + k = s.is ∙ ap (λ n. chunks_before hs n + k) same in
    let turn_k : turn ≡ p.first + k = omega (arith, is, first) in
    let stands = turn_is hs part k p at within inside_part in
    let f = is_falling p.order in
    let index = (some_pair_parts part part i (mirrored f p.across p.down k) (sym there ∙ ap (slice_get (turns_of hs)) turn_k ∙ stands)).1 in
    let all = product p at.is_part in
    let c = cut p k at.is_part inside_part in
    let back = mirrored_back f p.across p.down k c.across (omega (arith, all, inside_part)) in
    let same_k : m ≡ k = e ∙ ap (mirrored f p.across p.down) index ∙ back in
    omega (arith, turn_k, same_k)
