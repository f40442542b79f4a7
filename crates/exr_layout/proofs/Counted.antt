-- How many slices stand before a run and before a plane, and what the tests over all planes leave.
use Rattle.std.proofs.Common.{◌≡◌, ◌≢◌, ◌+◌, ◌-◌, ◌*◌, ◌<◌, ◌≤◌, ◌^◌, ℕ, ℤ, zero, suc, Bool, true, false, cond, ◌||◌, List, [], ◌∷◌, ◌++◌, length, take, get_or, All, Some, None, refl, sym, ap, ◌∙◌, subst, inl, inr, arith, eqb}
use Rattle.std.specs.List.{flat_map, list_any, position, position_or_len}
use Rattle.std.proofs.lemmas.Bool.{ltb-false, lt-ltb, cases_lt}
use Rattle.std.proofs.lemmas.List.{take_more, length-append}
use Rattle.std.proofs.lemmas.List.Concat.{flat_map-append}
use Rattle.std.proofs.lemmas.List.Folds.{list_any_at, length-flat_map-take}
use Rattle.std.proofs.lemmas.List.Sums.{fails_before_first}
use Rattle.std.proofs.lemmas.List.Quantifiers.{position-Some}
use Rattle.std.proofs.lemmas.Bool.Decides.{nat_tests}
use Rattle.std.proofs.lemmas.List.Elements.{All-more}
use Rattle.std.proofs.lemmas.Nat.{mul-le}
use Rattle.exr_base.specs.declared.channel.Kind.{Kind}
use Rattle.exr_base.specs.declared.channel.Kind.TheVariants.{Uint, Half, Float}
use Rattle.exr_base.specs.Channel.{bytes_of}
use Rattle.exr_base.specs.Sampling.{sample_count_of, span_of}
use Rattle.exr_base.specs.Shape.{IsSide}
use Rattle.exr_base.proofs.Multiples.{multiples_le}
use Rattle.exr_layout.specs.declared.planes.Slice.{Slice}
use Rattle.exr_layout.specs.declared.planes.Run.{Run}
use Rattle.exr_layout.specs.declared.planes.Plane.{Plane}
use Rattle.exr_layout.specs.Validation.{is_empty_run, is_empty_plane, is_huge, is_huge_slice, is_huge_run, is_huge_plane, slices_of_runs, slices_of_plane, slices_of}
use Rattle.exr_layout.specs.Near.{IsNearSlice, IsNearRun, IsNearPlane, IsSampledRun}

-- a run more
pub runs_more : (runs : List Run) (i : ℕ) (r : Run) → i < length runs → r ≡ get_or runs i r → length (slices_of_runs (take (i + 1) runs)) ≡ length (slices_of_runs (take i runs)) + length r.slices.items
runs_more runs i r lt is =
    let e = take_more runs i r lt in
    let f = flat_map-append (λ (x : Run). x.slices.items) (take i runs) (get_or runs i r ∷ []) in
    let g = length-append (slices_of_runs (take i runs)) (slices_of_runs (get_or runs i r ∷ [])) in
    let h = length-append (get_or runs i r).slices.items [] in
    ap (λ (x : List Run). length (slices_of_runs x)) e ∙ ap length f ∙ g
    ∙ ap (λ k. length (slices_of_runs (take i runs)) + k) (h ∙ omega arith)
    ∙ ap (λ (x : Run). length (slices_of_runs (take i runs)) + length x.slices.items) (sym is)

pub runs_within : (runs : List Run) (i : ℕ) (r : Run) → i < length runs → r ≡ get_or runs i r → length (slices_of_runs (take i runs)) + length r.slices.items ≤ length (slices_of_runs runs)
runs_within runs i r lt is =
    let P : Run → Type 0 = λ x. length (slices_of_runs (take i runs)) + length x.slices.items ≤ length (slices_of_runs runs) in
    subst P (sym is) (length-flat_map-take (λ (x : Run). x.slices.items) runs i r lt)

runs_of : List Plane → List Run
runs_of planes = flat_map (λ (p : Plane). p.runs.items) planes

-- a plane more
plane_first : (p : Plane) (ps : List Plane) → slices_of (p ∷ ps) ≡ slices_of_plane p ++ slices_of ps
plane_first p ps = flat_map-append (λ (r : Run). r.slices.items) p.runs.items (flat_map (λ (p : Plane). p.runs.items) ps)

planes_append : (ps qs : List Plane) → length (slices_of (ps ++ qs)) ≡ length (slices_of ps) + length (slices_of qs)
planes_append [] qs = omega arith
planes_append (p ∷ ps) qs =
    let a = plane_first p (ps ++ qs) in
    let b = plane_first p ps in
    let c = length-append (slices_of_plane p) (slices_of (ps ++ qs)) in
    let d = length-append (slices_of_plane p) (slices_of ps) in
    let e = planes_append ps qs in
    let f = ap length a in
    let g = ap length b in
    omega arith

one_plane : (p : Plane) → length (slices_of (p ∷ [])) ≡ length (slices_of_plane p)
one_plane p = let a = ap length (plane_first p []) in let b = length-append (slices_of_plane p) [] in omega arith

pub planes_more : (planes : List Plane) (i : ℕ) (p : Plane) → i < length planes → p ≡ get_or planes i p → length (slices_of (take (i + 1) planes)) ≡ length (slices_of (take i planes)) + length (slices_of_plane p)
planes_more planes i p lt is =
    let e = ap (λ (x : List Plane). length (slices_of x)) (take_more planes i p lt) in
    let f = planes_append (take i planes) (get_or planes i p ∷ []) in
    let g = one_plane (get_or planes i p) in
    let h : length (slices_of_plane (get_or planes i p)) ≡ length (slices_of_plane p) = ap (λ (x : Plane). length (slices_of_plane x)) (sym is) in
    omega arith

take_within : (planes : List Plane) (i : ℕ) → length (slices_of (take i planes)) ≤ length (slices_of planes)
take_within [] zero = omega arith
take_within [] (suc i) = omega arith
take_within (p ∷ ps) zero = omega arith
take_within (p ∷ ps) (suc i) =
    let a = ap length (plane_first p (take i ps)) in
    let b = ap length (plane_first p ps) in
    let c = length-append (slices_of_plane p) (slices_of (take i ps)) in
    let d = length-append (slices_of_plane p) (slices_of ps) in
    let e = take_within ps i in
    omega arith

pub planes_within : (planes : List Plane) (i : ℕ) (p : Plane) → i < length planes → p ≡ get_or planes i p → length (slices_of (take i planes)) + length (slices_of_plane p) ≤ length (slices_of planes)
planes_within planes i p lt is = let a = planes_more planes i p lt is in let b = take_within planes (i + 1) in omega arith

-- ---- a plane that is not empty has slices

or_left : (a b : Bool) → (a || b) ≡ false → a ≡ false
or_left true b h = h
or_left false b h = refl

or_right : (a b : Bool) → (a || b) ≡ false → b ≡ false
or_right true b h = absurd (cc)
or_right false b h = h

eqb_zero : (n : ℕ) → eqb n 0 ≡ false → 0 < n
eqb_zero zero h = absurd (cc)
eqb_zero (suc n) h = omega arith

pub plane_filled : (p : Plane) → is_empty_plane p ≡ false → list_any is_empty_run p.runs.items ≡ false
plane_filled p h = or_right (eqb (length p.runs.items) 0) (list_any is_empty_run p.runs.items) h

pub none_of : {X : Type 0} (test : X → Bool) (xs : List X) → list_any test xs ≡ false → All (λ x. test x ≡ false) xs
none_of test xs h k d lt =
    let both : (b : Bool) → test (get_or xs k d) ≡ b → b ≡ false =
    λ b. elim b as (λ b. test (get_or xs k d) ≡ b → b ≡ false) [ true ↦ λ e. absurd (let f = list_any_at test xs k d lt e in cc) | false ↦ λ e. refl ] in
    both (test (get_or xs k d)) refl

pub run_filled : (runs : List Run) (i : ℕ) (r : Run) → list_any is_empty_run runs ≡ false → i < length runs → r ≡ get_or runs i r → 0 < length r.slices.items
run_filled runs i r h lt is =
    let P : Run → Type 0 = λ x. 0 < length x.slices.items in
    subst P (sym is) (eqb_zero (length (get_or runs i r).slices.items) (none_of is_empty_run runs h i r lt))

some_slices : (runs : List Run) → list_any is_empty_run runs ≡ false → 0 < length runs → 0 < length (slices_of_runs runs)
some_slices [] h lt = absurd (omega arith)
some_slices (r ∷ rs) h lt =
    let a = run_filled (r ∷ rs) 0 r h lt refl in
    let b = length-append r.slices.items (slices_of_runs rs) in
    omega arith

pub plane_slices : (p : Plane) → is_empty_plane p ≡ false → 0 < length (slices_of_plane p)
plane_slices p h = some_slices p.runs.items (plane_filled p h) (eqb_zero (length p.runs.items) (or_left (eqb (length p.runs.items) 0) (list_any is_empty_run p.runs.items) h))

pub none_at : {X : Type 0} (test : X → Bool) (xs : List X) → position test xs ≡ None → All (λ x. test x ≡ false) xs
none_at test xs h k d lt =
    elim (cases_lt (position_or_len test xs) (length xs)) [
      | inl here ↦ absurd (let t = lt-ltb (position_or_len test xs) (length xs) here in
          let u : position test xs ≡ Some (position_or_len test xs) = ap (λ b. cond b (Some (position_or_len test xs)) None) t in cc)
      | inr past ↦ fails_before_first test xs k d (omega arith)
    ]

few_from : (planes : List Plane) (i : ℕ) → i ≤ length planes → ((k : ℕ) (d : Plane) → k < i → is_empty_plane (get_or planes k d) ≡ false) → i ≤ length (slices_of planes)
few_from planes zero le h = omega arith
few_from [] (suc i) le h = absurd (omega arith)
few_from (p ∷ ps) (suc i) le h =
    let rest = few_from ps i (omega arith) (λ k d lt. h (suc k) d (omega arith)) in
    let here = plane_slices p (h 0 p (omega arith)) in
    let a = ap length (plane_first p ps) in
    let b = length-append (slices_of_plane p) (slices_of ps) in
    omega arith

pub few_before : (planes : List Plane) (i : ℕ) → position is_empty_plane planes ≡ Some i → i ≤ length (slices_of planes)
few_before planes i h =
    elim planes as (λ ps. position is_empty_plane ps ≡ Some i → i ≤ length (slices_of ps)) [
      | [] ↦ λ e. absurd (cc)
      | p ∷ ps ↦ λ e.
          let at = position-Some is_empty_plane (p ∷ ps) i p e in
          few_from (p ∷ ps) i (omega arith) (λ k d lt. let f = position-Some is_empty_plane (p ∷ ps) i d e in f.2 k lt)
    ] h

pub few_planes : (planes : List Plane) → position is_empty_plane planes ≡ None → length planes ≤ length (slices_of planes)
few_planes planes h = few_from planes (length planes) (omega arith) (λ k d lt. none_at is_empty_plane planes h k d lt)

-- ---- no number above 2^40

near_slice : (s : Slice) → is_huge_slice s ≡ false → IsNearSlice s
near_slice s h = record { at = ltb-false (2 ^ 40) s.at h }

mapped : {X : Type 0} (test : X → Bool) (P : X → Type 0) (xs : List X) → ((x : X) → test x ≡ false → P x) → list_any test xs ≡ false → All P xs
mapped test P xs each h k d lt = each (get_or xs k d) (none_of test xs h k d lt)

near_run : (r : Run) → is_huge_run r ≡ false → IsNearRun r
near_run r h =
    let a = or_left (is_huge r.at || is_huge r.stride) (list_any is_huge_slice r.slices.items) h in
    record {
      at = ltb-false (2 ^ 40) r.at (or_left (is_huge r.at) (is_huge r.stride) a);
      stride = ltb-false (2 ^ 40) r.stride (or_right (is_huge r.at) (is_huge r.stride) a);
      slices = mapped is_huge_slice IsNearSlice r.slices.items near_slice (or_right (is_huge r.at || is_huge r.stride) (list_any is_huge_slice r.slices.items) h);
    }

near_plane : (p : Plane) → is_huge_plane p ≡ false → IsNearPlane p
near_plane p h =
    let a = or_left (is_huge p.base || is_huge p.stride) (list_any is_huge_run p.runs.items) h in
    record {
      base = ltb-false (2 ^ 40) p.base (or_left (is_huge p.base) (is_huge p.stride) a);
      stride = ltb-false (2 ^ 40) p.stride (or_right (is_huge p.base) (is_huge p.stride) a);
      runs = mapped is_huge_run IsNearRun p.runs.items near_run (or_right (is_huge p.base || is_huge p.stride) (list_any is_huge_run p.runs.items) h);
    }

pub near_planes : (planes : List Plane) → position is_huge_plane planes ≡ None → All IsNearPlane planes
near_planes planes h k d lt = near_plane (get_or planes k d) (none_at is_huge_plane planes h k d lt)

-- ---- sides and ends

pub count_few : (sampling : ℕ) (from to : ℤ) → IsSide from to → sample_count_of sampling from to ≤ 2 ^ 20
count_few sampling from to side = let m = multiples_le sampling from (span_of from to) in let f = side.few in omega arith

pub count_small : (sampling : ℕ) (from to : ℤ) (n : ℕ) → IsSide from to → n ≡ sample_count_of sampling from to → n ≤ 2 ^ 20
count_small sampling from to n side e = let few = count_few sampling from to side in omega arith

bytes_few : (kind : Kind) → bytes_of kind ≤ 4
bytes_few Uint = omega arith
bytes_few Half = omega arith
bytes_few Float = omega arith

pub slice_small : (xs : List Slice) (i : ℕ) (s : Slice) (n : ℕ) → All IsNearSlice xs → i < length xs → s ≡ get_or xs i s → n ≡ bytes_of s.kind → s.at + n ≤ 2 ^ 41
slice_small xs i s n near lt is e =
    let here = subst IsNearSlice (sym is) (near i s lt) in
    let a = here.at in
    let b = bytes_few s.kind in
    omega arith

pub product_small : (pieces stride : ℕ) → pieces ≤ 2 ^ 20 → stride ≤ 2 ^ 40 → (pieces - 1) * stride ≤ 2 ^ 60
product_small pieces stride p s = mul-le (pieces - 1) stride (2 ^ 20) (2 ^ 40) (omega arith) s

-- ---- samplings

pub zero_true : (n : ℕ) → n ≡ 0 → eqb n 0 ≡ true
zero_true n h = grind (arith, nat_tests)

pub zero_false : (n : ℕ) → n ≢ 0 → eqb n 0 ≡ false
zero_false n h = grind (arith, nat_tests)

pub sampled_more : (runs : List Run) (i : ℕ) (r : Run) → i < length runs → r ≡ get_or runs i r → r.sampling ≢ 0 → All IsSampledRun (take i runs) → All IsSampledRun (take (i + 1) runs)
sampled_more runs i r lt is h before =
    All-more IsSampledRun runs i r lt before (subst IsSampledRun is (record { sampling = omega arith }))

pub plane_slices_at : (planes : List Plane) (i : ℕ) (p : Plane) → All (λ (x : Plane). is_empty_plane x ≡ false) planes → i < length planes → p ≡ get_or planes i p → 0 < length (slices_of_plane p)
plane_slices_at planes i p filled lt is = plane_slices p (ap is_empty_plane is ∙ filled i p lt)
