-- What is stored is raw, or smaller than it.
use Rattle.std.proofs.Common.{◌≡◌, ◌<◌, ◌≤◌, ℕ, Bool, true, false, cond, IsTrue, IfOk, List, length, Result, Ok, Err, eqb, ltb, leb, refl, sym, ap, subst, ◌∙◌, inl, inr, ◌⊎◌, arith}
use Rattle.std.proofs.lemmas.Bool.{cases_lt}
use Rattle.std.proofs.lemmas.Bool.Decides.{nat_tests}
use Rattle.exr_base.specs.declared.shape.Box2i.{Box2i}
use Rattle.exr_base.specs.declared.channel.Channel.{Channel}
use Rattle.exr_base.specs.declared.method.Method.{Method}
use Rattle.exr_base.specs.declared.method.Method.TheVariants.{No, Rle, Zips, Zip, Piz, Pxr24, B44, B44a, Dwaa, Dwab}
use Rattle.exr_base.specs.Shape.{raw_size_of}
use Rattle.exr_block.specs.declared.fault.ChunkFault.{ChunkFault}
use Rattle.exr_block.specs.Content.{unpacked_of, packed_of, pack_of_flat, raw_of_flat, kept_of_flat, lossy_of}
use Rattle.exr_block.specs.Sizes.{is_size}
use Rattle.std.proofs.lemmas.List.FromFn.{length-map-range_with_len}
use Rattle.exr_rle.specs.Unpacked.{raw_at, Unpacks}

pub smaller_or : (packed raw : List ℕ) → (cond (ltb (length packed) (length raw)) packed raw ≡ raw) ⊎ (length (cond (ltb (length packed) (length raw)) packed raw) < length raw)
smaller_or packed raw =
    elim (cases_lt (length packed) (length raw)) [
      | inl h ↦
          let e : ltb (length packed) (length raw) ≡ true = grind (arith, nat_tests) in
          inr (subst (λ b. length (cond b packed raw) < length raw) (sym e) h)
      | inr h ↦
          let e : ltb (length packed) (length raw) ≡ false = grind (arith, nat_tests) in
          inl (ap (λ b. cond b packed raw) e)
    ]

pub raw_or_smaller : (method : Method) (channels : List Channel) (region : Box2i) (raw : List ℕ) → (pack_of_flat method channels region raw ≡ raw) ⊎ (length (pack_of_flat method channels region raw) < length raw)
unfolding pack_of_flat
raw_or_smaller method channels region raw = smaller_or (packed_of method channels region raw) raw

pub either_way : (b : Bool) (raw : List ℕ) → cond b raw raw ≡ raw
either_way true raw = refl
either_way false raw = refl

-- without compression it is raw
raw_alone : (channels : List Channel) (region : Box2i) (raw : List ℕ) → pack_of_flat No channels region raw ≡ raw
unfolding pack_of_flat packed_of
raw_alone channels region raw = either_way (ltb (length raw) (length raw)) raw

at_most : (raw size : ℕ) → size ≤ raw → IsTrue (leb size raw)
at_most raw size h = grind (arith, nat_tests)

just : (raw size : ℕ) → size ≡ raw → IsTrue (eqb size raw)
just raw size h = grind (arith, nat_tests)

-- its size is one that the data of a chunk may have
pub size_fits : (method : Method) (raw size : ℕ) → size ≤ raw → (method ≡ No → size ≡ raw) → IsTrue (is_size method raw size)
size_fits No raw size le whole = just raw size (whole refl)
size_fits Rle raw size le whole = at_most raw size le
size_fits Zips raw size le whole = at_most raw size le
size_fits Zip raw size le whole = at_most raw size le
size_fits Piz raw size le whole = at_most raw size le
size_fits Pxr24 raw size le whole = at_most raw size le
size_fits B44 raw size le whole = at_most raw size le
size_fits B44a raw size le whole = at_most raw size le
size_fits Dwaa raw size le whole = at_most raw size le
size_fits Dwab raw size le whole = at_most raw size le

pub stored_fits : (method : Method) (channels : List Channel) (region : Box2i) (raw stored : List ℕ) (whole : ℕ) → length raw ≡ whole → stored ≡ pack_of_flat method channels region raw → IsTrue (is_size method whole (length stored))
stored_fits method channels region raw stored whole long is =
    let size = ap length is in
    size_fits method whole (length stored)
    (elim (raw_or_smaller method channels region raw) [ inl e ↦ let f = ap length e in omega arith | inr h ↦ omega arith ])
    (λ no.
    let plain : pack_of_flat method channels region raw ≡ raw = ap (λ m. pack_of_flat m channels region raw) no ∙ raw_alone channels region raw in
    let f = ap length plain in
    omega arith)

-- unpacked it gives what is kept
pub stored_kept : (method : Method) (channels : List Channel) (region : Box2i) (raw stored : List ℕ) → length raw ≡ raw_size_of channels region → stored ≡ pack_of_flat method channels region raw
    → (length stored < length raw → unpacked_of method channels region stored ≡ Ok (lossy_of method channels region raw))
    → cond (eqb (length stored) (raw_size_of channels region)) (let whole : Result (List ℕ) ChunkFault = Ok stored in whole) (unpacked_of method channels region stored) ≡ Ok (cond (eqb (length stored) (length raw)) raw (lossy_of method channels region raw))
stored_kept method channels region raw stored long is restores =
    elim (raw_or_smaller method channels region raw) [
      | inl e ↦
          let same : stored ≡ raw = is ∙ e in
          let f : eqb (length stored) (raw_size_of channels region) ≡ true = let g = ap length same in grind (arith, nat_tests) in
          let h : eqb (length stored) (length raw) ≡ true = let g = ap length same in grind (arith, nat_tests) in
          rw (f, h) (ap Ok same)
      | inr lt ↦
          let g = ap length is in
          let small : length stored < length raw = omega arith in
          let f : eqb (length stored) (raw_size_of channels region) ≡ false = grind (arith, nat_tests) in
          let h : eqb (length stored) (length raw) ≡ false = grind (arith, nat_tests) in
          rw (f, h) (restores small)
    ]

pub flat_kept : {X E : Type 0} (view : X → List ℕ) (method : Method) (channels : List Channel) (region : Box2i) (raw : List ℕ) (r : Result X E) → length raw ≡ raw_size_of channels region
    → IfOk r (λ s. view s ≡ pack_of_flat method channels region raw)
    → IfOk r (λ s. length (view s) < length raw → unpacked_of method channels region (view s) ≡ Ok (lossy_of method channels region raw))
    → IfOk r (λ s. raw_of_flat method channels region (view s) ≡ Ok (kept_of_flat method channels region (view s) raw))
unfolding raw_of_flat
flat_kept view method channels region raw (Ok s) long is restores = stored_kept method channels region raw (view s) long is restores
flat_kept view method channels region raw (Err e) long is restores = tt

-- what runs and literals stand for is as long as was counted
pub unpacked_long : (packed raw : List ℕ) (count size : ℕ) → Unpacks packed count raw → count ≡ size → length raw ≡ size
unpacked_long packed raw count size unpacks is =
    ap length unpacks.restored ∙ length-map-range_with_len (raw_at unpacks.bytes) 0 (length unpacks.bytes) ∙ unpacks.counted ∙ is
