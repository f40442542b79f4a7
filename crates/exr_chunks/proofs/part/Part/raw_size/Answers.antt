-- What is read is the size of the chunk.
use Rattle.std.proofs.Common.{Vec, Global, vec_len, ◌≡◌, ◌≢◌, ◌%◌, ◌+◌, ◌*◌, ◌^◌, ◌<◌, ◌≤◌, ℕ, eqb, true, false, cond, refl, sym, ap, ap₂, subst, ◌∙◌, arith, slice_index, get_or, length}
use Rattle.std.proofs.lemmas.Nat.{mod_below}
use Rattle.std.proofs.lemmas.Bool.Decides.{nat_tests}
use Rattle.std.proofs.lemmas.List.{get_or_read_under}
use Rattle.exr_base.specs.declared.shape.Box2i.{Box2i}
use Rattle.exr_base.specs.Shape.{width_of, height_of}
use Rattle.exr_chunks.specs.declared.part.Part.{Part}
use Rattle.exr_chunks.specs.declared.raw.RawSizes.{RawSizes}
use Rattle.exr_chunks.specs.declared.raw.RawSizes.TheVariants.{Pixels, Lines}
use Rattle.exr_chunks.specs.Part.{header_of, IsPart}
use Rattle.exr_chunks.specs.RawBytes.{kept_size, HasCycle}
use Rattle.exr_chunks.specs.Region.{region_of, chunk_bytes_of}
use Rattle.exr_chunks.proofs.Largest.{chunk_small}
use Rattle.exr_chunks.proofs.part.Part.raw_size.Goals as goal

at_most : (p : Part) (i n : ℕ) → IsPart p → i < p.count → n ≡ chunk_bytes_of (header_of p) i → n ≤ 2 ^ 26
at_most p i n part within e = subst (λ k. k ≤ 2 ^ 26) (sym e) (chunk_small p i part within)

-- what is read of the sizes that a part keeps
read : (p : Part) (s : RawSizes) (i : ℕ) → IsPart p → p.sizes ≡ s → i < p.count → kept_size s p.count (region_of (header_of p) i) i ≡ chunk_bytes_of (header_of p) i
read p s i part is within =
    ap₂ (λ (t : RawSizes) (n : ℕ). kept_size t n (region_of (header_of p) i) i) (sym is) part.count ∙ part.sizes.exact i (subst (λ n. i < n) part.count within)

cycle_read : (p : Part) (s : RawSizes) → IsPart p → p.sizes ≡ s → HasCycle s p.count
cycle_read p s part is =
    subst (λ (t : RawSizes). HasCycle t p.count) is (subst (HasCycle p.sizes) (sym part.count) part.sizes.some)

-- so many bytes for each pixel
pixels_read : (p : Part) (s : RawSizes) (i n a b : ℕ) (r : Box2i) → IsPart p → p.sizes ≡ s → s ≡ Pixels n → i < p.count → r ≡ region_of (header_of p) i → a ≡ width_of r → b ≡ height_of r → n * (a * b) ≡ chunk_bytes_of (header_of p) i
pixels_read p s i n a b r part is kind within region wide high =
    ap₂ (λ (x y : ℕ). n * (x * y)) wide high ∙ ap (λ (q : Box2i). n * (width_of q * height_of q)) region ∙ read p (Pixels n) i part (is ∙ kind) within

pub overflow_mul-result-in-Pixels : goal.overflow_mul-result-in-Pixels
overflow_mul-result-in-Pixels c =
    let p = c.args.self.now in
    let exact = pixels_read p p.sizes c.args.index c.in-Pixels.bytes c.from-columns.result c.from-rows.result c.region-region.result c.requires.part refl c.in-Pixels.is c.requires.within c.region-region.ensures.exact (c.from-columns.ensures ∙ c.width.ensures.exact) (c.from-rows.ensures ∙ c.height.ensures.exact) in
    let small = at_most p c.args.index (c.in-Pixels.bytes * (c.from-columns.result * c.from-rows.result)) c.requires.part c.requires.within exact in
    omega (arith, small)

pub returns-in-Pixels-clause-exact : goal.returns-in-Pixels-clause-exact
returns-in-Pixels-clause-exact c =
    let p = c.args.self.now in
    pixels_read p p.sizes c.args.index c.in-Pixels.bytes c.from-columns.result c.from-rows.result c.region-region.result c.requires.part refl c.in-Pixels.is c.requires.within c.region-region.ensures.exact (c.from-columns.ensures ∙ c.width.ensures.exact) (c.from-rows.ensures ∙ c.height.ensures.exact)

pub returns-in-Pixels-clause-small : goal.returns-in-Pixels-clause-small
returns-in-Pixels-clause-small c =
    at_most c.args.self.now c.args.index (c.in-Pixels.bytes * (c.from-columns.result * c.from-rows.result)) c.requires.part c.requires.within (returns-in-Pixels-clause-exact c)

-- the place in the cycle, and the last chunk's own size
before_last : (p : Part) (i n last : ℕ) (cycle : Vec ℕ Global) → IsPart p → p.sizes ≡ Lines cycle last → i < p.count → i + 1 ≢ p.count → n ≡ slice_index cycle.items (i % length cycle.items) → n ≡ chunk_bytes_of (header_of p) i
before_last p i n last cycle part is within other at =
    let test : eqb (i + 1) p.count ≡ false = grind (arith, nat_tests) in
    at ∙ sym (ap (λ b. cond b last (slice_index cycle.items (i % length cycle.items))) test) ∙ read p (Lines cycle last) i part is within

at_last : (p : Part) (i last : ℕ) (cycle : Vec ℕ Global) → IsPart p → p.sizes ≡ Lines cycle last → i < p.count → i + 1 ≡ p.count → last ≡ chunk_bytes_of (header_of p) i
at_last p i last cycle part is within here =
    let test : eqb (i + 1) p.count ≡ true = grind (arith, nat_tests) in
    sym (ap (λ b. cond b last (slice_index cycle.items (i % length cycle.items))) test) ∙ read p (Lines cycle last) i part is within

pub returns-then-index-self-clause-small : goal.returns-then-index-self-clause-small
returns-then-index-self-clause-small c =
    let p = c.args.self.now in
    at_most p c.args.index c.from.result c.requires.part c.requires.within (c.from.ensures ∙ at_last p c.args.index c.in-Lines.last c.in-Lines.cycle c.requires.part c.in-Lines.is c.requires.within c.if-index-self.true)

pub returns-else-index-self-clause-exact : goal.returns-else-index-self-clause-exact
returns-else-index-self-clause-exact c =
    let p = c.args.self.now in
    let cycle = c.in-Lines.cycle in
    let within = c.requires.within in
    let other = c.if-index-self.false in
    let some : 0 < length cycle.items = cycle_read p (Lines cycle c.in-Lines.last) c.requires.part c.in-Lines.is (omega (arith, within, other)) in
    let long : vec_len cycle ≡ length cycle.items = omega (arith, cycle.ok.0) in
    let place : c.args.index % c.len.result ≡ c.args.index % length cycle.items = ap (λ n. c.args.index % n) (c.len.ensures ∙ long) in
    let here : c.index.result.now ≡ slice_index cycle.items (c.args.index % length cycle.items) = get_or_read_under cycle.items (c.args.index % length cycle.items) (length cycle.items) c.index.result.now 0 (c.index.ensures ∙ ap (λ k. get_or cycle.items k c.index.result.now) place) (mod_below c.args.index (length cycle.items) some) refl in
    before_last p c.args.index c.from-in-Lines.result c.in-Lines.last cycle c.requires.part c.in-Lines.is within other (c.from-in-Lines.ensures ∙ here)

pub returns-else-index-self-clause-small : goal.returns-else-index-self-clause-small
returns-else-index-self-clause-small c =
    at_most c.args.self.now c.args.index c.from-in-Lines.result c.requires.part c.requires.within (returns-else-index-self-clause-exact c)
