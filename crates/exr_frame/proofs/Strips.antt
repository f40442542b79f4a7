-- The samples of a slice on a line: each stands a stride behind the one before.
use Rattle.std.proofs.Common.{◌≡◌, ◌+◌, ◌-◌, ◌*◌, ◌<◌, ◌≤◌, ◌^◌, ℕ, zero, suc, ℤ, pos, neg_ℤ, ◌+ℤ◌, ◌-ℤ◌, ◌≤ℤ◌, nat_abs, true, false, List, [], ◌∷◌, length, map, All, Ok, refl, sym, ap, ap₂, ◌∙◌, subst, arith, eqb, ltb}
use Rattle.std.specs.Prelude.{int_lt}
use Rattle.std.specs.Int.{int_min, int_max}
use Rattle.std.specs.List.{flat_map}
use Rattle.std.proofs.lemmas.Bool.{ltb-false}
use Rattle.std.proofs.lemmas.Int.{ints, clamps}
use Rattle.std.proofs.lemmas.List.Elements.{All-nil, All-cons, All-append}
use Rattle.exr_base.specs.declared.shape.Box2i.{Box2i}
use Rattle.exr_base.specs.declared.channel.Kind.TheVariants.{Uint, Half, Float}
use Rattle.exr_base.specs.Channel.{bytes_of}
use Rattle.exr_base.specs.Refusal.{◌>>=◌}
use Rattle.exr_base.specs.Sampling.{is_multiple, multiples_among, span_of, sample_count_of}
use Rattle.exr_layout.specs.declared.planes.Slice.{Slice}
use Rattle.exr_layout.specs.declared.planes.Run.{Run}
use Rattle.exr_layout.specs.declared.planes.Plane.{Plane}
use Rattle.exr_layout.specs.declared.placement.Placement.{Placement}
use Rattle.exr_layout.specs.declared.fault.LayoutFault.TheVariants.{ZeroSampling, Overlap, ShortStride, OutOfBuffer}
use Rattle.exr_layout.specs.Validation.{Frame, IsFrame, IsValid, validated, slice_end, slices_validated, run_end, run_validated, samplings_validated, runs_validated, plane_end, last_of, plane_validated, planes_validated, slices_of_plane}
use Rattle.exr_base.specs.Sampling.{count_before}
use Rattle.exr_layout.specs.Place.{placement_of, placements_of_run, placements_of_plane, placements_of, placement_at, place_in_buffer, place_of, place_after, Byte}
use Rattle.exr_frame.specs.Rows.{IsInRow, IsStrip, HasNone, IsLineOf, low_of, high_of}
use Rattle.exr_layout.proofs.Columns.{before_count, before_split, multiple_numbered}
use Rattle.exr_layout.proofs.Matched.{bind_ok_from, all_passed}
use Rattle.exr_layout.proofs.Standing.{validated_passed, place_within}

-- ---- the slices of a valid layout have samplings

pub record IsSampledSpot (x : Placement) : Type 0 where
  pub columns : 1 ≤ x.sampling
  pub rows : 1 ≤ x.row_sampling

some_from : (n : ℕ) → eqb n 0 ≡ false → 1 ≤ n
some_from zero h = absurd (cc)
some_from (suc n) h = omega arith

run_spots_sampled : (p : Plane) (r : Run) (ss : List Slice) → 1 ≤ p.sampling → 1 ≤ r.sampling → All IsSampledSpot (map (placement_of p r) ss)
run_spots_sampled p r [] hp hr = All-nil IsSampledSpot
run_spots_sampled p r (s ∷ ss) hp hr = All-cons IsSampledSpot (placement_of p r s) (map (placement_of p r) ss) (record { columns = hr; rows = hp }) (run_spots_sampled p r ss hp hr)

runs_spots_sampled : (p : Plane) (n : ℕ) (rs : List Run) (e : Unit {0}) → 1 ≤ p.sampling → samplings_validated n rs ≡ Ok e → All IsSampledSpot (flat_map (placements_of_run p) rs)
unfolding samplings_validated
runs_spots_sampled p n [] e hp h = All-nil IsSampledSpot
runs_spots_sampled p n (r ∷ rs) e hp h =
    let a = bind_ok_from (validated (eqb r.sampling 0) (ZeroSampling n) (tt {0})) (λ _. samplings_validated (n + length r.slices.items) rs) e h in
    let t = validated_passed (eqb r.sampling 0) (ZeroSampling n) (tt {0}) a.0 a.1 in
    All-append IsSampledSpot (placements_of_run p r) (flat_map (placements_of_run p) rs) (run_spots_sampled p r r.slices.items hp (some_from r.sampling t.0)) (runs_spots_sampled p (n + length r.slices.items) rs e hp a.2)

-- the tests that a plane passed
record PlanePassed (window : Box2i) (n : ℕ) (p : Plane) : Type 0 where
  sampled : 1 ≤ p.sampling
  rows : Unit {0}
  samplings : samplings_validated n p.runs.items ≡ Ok rows
  each : ℕ
  runs : runs_validated window n 0 p.runs.items ≡ Ok each

plane_passed : (window : Box2i) (buffer n ended : ℕ) (p : Plane) (ends : ℕ) → plane_validated window buffer n ended p ≡ Ok ends → PlanePassed window n p
unfolding plane_validated
plane_passed window buffer n ended p ends h =
    let rest = λ (each : ℕ). validated (ltb p.stride each) (ShortStride (last_of n p)) each >>= λ fits. validated (ltb p.base ended) (Overlap (n - 1) n) (plane_end window p fits) >>= λ begins. validated (ltb buffer begins) (OutOfBuffer (last_of n p)) begins in
    let a = bind_ok_from (validated (eqb p.sampling 0) (ZeroSampling n) (tt {0})) (λ _. samplings_validated n p.runs.items >>= λ _. runs_validated window n 0 p.runs.items >>= rest) ends h in
    let b = bind_ok_from (samplings_validated n p.runs.items) (λ _. runs_validated window n 0 p.runs.items >>= rest) ends a.2 in
    let c = bind_ok_from (runs_validated window n 0 p.runs.items) rest ends b.2 in
    let t = validated_passed (eqb p.sampling 0) (ZeroSampling n) (tt {0}) a.0 a.1 in
    record { sampled = some_from p.sampling t.0; rows = b.0; samplings = b.1; each = c.0; runs = c.1 }

planes_spots_sampled : (window : Box2i) (buffer n ended : ℕ) (ps : List Plane) (ends : ℕ) → planes_validated window buffer n ended ps ≡ Ok ends → All IsSampledSpot (placements_of ps)
unfolding planes_validated
planes_spots_sampled window buffer n ended [] ends h = All-nil IsSampledSpot
planes_spots_sampled window buffer n ended (p ∷ ps) ends h =
    let a = bind_ok_from (plane_validated window buffer n ended p) (λ e. planes_validated window buffer (n + length (slices_of_plane p)) e ps) ends h in
    All-append IsSampledSpot (placements_of_plane p) (placements_of ps) (let q = plane_passed window buffer n ended p a.0 a.1 in runs_spots_sampled p n p.runs.items q.rows q.sampled q.samplings) (planes_spots_sampled window buffer (n + length (slices_of_plane p)) a.0 ps ends a.2)

pub spot_sampled : (f : Frame) (s : ℕ) → IsValid f → s < length (placements_of f.planes) → IsSampledSpot (placement_at (placements_of f.planes) s)
spot_sampled f s valid lt = planes_spots_sampled f.window f.buffer 0 0 f.planes valid.ends (all_passed f valid).planes s _ lt

-- ---- and their samples fit the strides

pub record Fits (x : Placement) : Type 0 where
  pub fits : bytes_of x.kind ≤ x.stride

slices_to : (n ended : ℕ) (ss : List Slice) (e : ℕ) → slices_validated n ended ss ≡ Ok e → ended ≤ e
unfolding slices_validated
slices_to n ended [] e h = let same : ended ≡ e = cc in omega arith
slices_to n ended (s ∷ ss) e h =
    let a = bind_ok_from (validated (ltb s.at ended) (Overlap (n - 1) n) (slice_end s)) (λ m. slices_validated (n + 1) m ss) e h in
    let t = validated_passed (ltb s.at ended) (Overlap (n - 1) n) (slice_end s) a.0 a.1 in
    let le = ltb-false s.at ended t.0 in
    let rest = slices_to (n + 1) a.0 ss e a.2 in
    let same = t.1 in
    omega arith

slices_fit : (p : Plane) (r : Run) (n ended : ℕ) (ss : List Slice) (e : ℕ) → slices_validated n ended ss ≡ Ok e → e ≤ r.stride → All Fits (map (placement_of p r) ss)
unfolding slices_validated
slices_fit p r n ended [] e h le = All-nil Fits
slices_fit p r n ended (s ∷ ss) e h le =
    let a = bind_ok_from (validated (ltb s.at ended) (Overlap (n - 1) n) (slice_end s)) (λ m. slices_validated (n + 1) m ss) e h in
    let t = validated_passed (ltb s.at ended) (Overlap (n - 1) n) (slice_end s) a.0 a.1 in
    let to = slices_to (n + 1) a.0 ss e a.2 in
    All-cons Fits (placement_of p r s) (map (placement_of p r) ss) (record { fits = omega (arith, t.1) }) (slices_fit p r (n + 1) a.0 ss e a.2 le)

runs_fit : (window : Box2i) (p : Plane) (n ended : ℕ) (rs : List Run) (e : ℕ) → runs_validated window n ended rs ≡ Ok e → All Fits (flat_map (placements_of_run p) rs)
unfolding runs_validated run_validated
runs_fit window p n ended [] e h = All-nil Fits
runs_fit window p n ended (r ∷ rs) e h =
    let a = bind_ok_from (run_validated window n ended r) (λ m. runs_validated window (n + length r.slices.items) m rs) e h in
    let f = ShortStride (n + length r.slices.items - 1) in
    let b = bind_ok_from (slices_validated n 0 r.slices.items) (λ each. validated (ltb r.stride each) f each >>= λ fits. validated (ltb r.at ended) (Overlap (n - 1) n) (run_end window r fits)) a.0 a.1 in
    let d = bind_ok_from (validated (ltb r.stride b.0) f b.0) (λ fits. validated (ltb r.at ended) (Overlap (n - 1) n) (run_end window r fits)) a.0 b.2 in
    let t = validated_passed (ltb r.stride b.0) f b.0 d.0 d.1 in
    All-append Fits (placements_of_run p r) (flat_map (placements_of_run p) rs) (slices_fit p r n 0 r.slices.items b.0 b.1 (ltb-false r.stride b.0 t.0)) (runs_fit window p (n + length r.slices.items) a.0 rs e a.2)

planes_fit : (window : Box2i) (buffer n ended : ℕ) (ps : List Plane) (ends : ℕ) → planes_validated window buffer n ended ps ≡ Ok ends → All Fits (placements_of ps)
unfolding planes_validated
planes_fit window buffer n ended [] ends h = All-nil Fits
planes_fit window buffer n ended (p ∷ ps) ends h =
    let a = bind_ok_from (plane_validated window buffer n ended p) (λ e. planes_validated window buffer (n + length (slices_of_plane p)) e ps) ends h in
    All-append Fits (placements_of_plane p) (placements_of ps) (let q = plane_passed window buffer n ended p a.0 a.1 in runs_fit window p n 0 p.runs.items q.each q.runs) (planes_fit window buffer (n + length (slices_of_plane p)) a.0 ps ends a.2)

pub slice_fits : (f : Frame) (s : ℕ) → IsValid f → s < length (placements_of f.planes) → Fits (placement_at (placements_of f.planes) s)
slice_fits f s valid lt = planes_fit f.window f.buffer 0 0 f.planes valid.ends (all_passed f valid).planes s _ lt

-- ---- along a line

-- where the first sample from a column on would stand
abbrev pub first_place : Frame → ℕ → ℤ → ℤ → ℕ
first_place f s y low =
    place_after (placement_at (placements_of f.planes) s) (count_before (placement_at (placements_of f.planes) s).row_sampling f.window.y0 y) (count_before (placement_at (placements_of f.planes) s).sampling f.window.x0 low)

split_sum : (a c i stride b d : ℕ) → a + (c + i) * stride + b + d ≡ a + c * stride + b + i * stride + d
split_sum a c i stride b d = grind arith

pub place_along : (f : Frame) (k : Byte) (low : ℤ) → f.window.x0 ≤ℤ low → low ≤ℤ k.x
    → place_of f.window (placements_of f.planes) k ≡ first_place f k.slice k.y low + count_before (placement_at (placements_of f.planes) k.slice).sampling low k.x * (placement_at (placements_of f.planes) k.slice).stride + k.byte
unfolding place_in_buffer
place_along f k low from to =
    let x = placement_at (placements_of f.planes) k.slice in
    let row = count_before x.row_sampling f.window.y0 k.y in
    ap (λ c. x.base + row * x.row_stride + x.run + c * x.stride + x.at + k.byte) (before_split x.sampling f.window.x0 low k.x from to)
    ∙ split_sum (x.base + row * x.row_stride + x.run) (count_before x.sampling f.window.x0 low) (count_before x.sampling low k.x) x.stride x.at k.byte

-- the byte of the sample of a number
pub record Found (f : Frame) (region : Box2i) (s : ℕ) (y : ℤ) (i b : ℕ) : Type 0 where
  pub at : Byte
  pub in_row : IsInRow f.window (placements_of f.planes) region s y at
  pub count : count_before (placement_at (placements_of f.planes) s).sampling (low_of f.window region) at.x ≡ i
  pub byte : at.byte ≡ b

columns_inside : (a b c d x : ℤ) (m : ℕ) → x ≡ int_max a c +ℤ pos m → int_max a c ≤ℤ int_min b d → m < span_of (int_max a c) (int_min b d) → (a ≤ℤ x) × (x ≤ℤ b) × (c ≤ℤ x) × (x ≤ℤ d) × (int_max a c ≤ℤ x) × (nat_abs (x -ℤ int_max a c) ≡ m)
columns_inside a b c d x m e le lt = (omega (arith, ints, clamps), omega (arith, ints, clamps), omega (arith, ints, clamps), omega (arith, ints, clamps), omega (arith, ints, clamps), omega (arith, ints, clamps))

pub found : (f : Frame) (region : Box2i) (s : ℕ) (y : ℤ) (i b : ℕ) → IsLineOf f region s y → low_of f.window region ≤ℤ high_of f.window region
    → i < sample_count_of (placement_at (placements_of f.planes) s).sampling (low_of f.window region) (high_of f.window region) → b < bytes_of (placement_at (placements_of f.planes) s).kind → Found f region s y i b
found f region s y i b line le lt small =
    let x = placement_at (placements_of f.planes) s in
    let low = low_of f.window region in
    let high = high_of f.window region in
    let m = multiple_numbered x.sampling low (span_of low high) i lt in
    let c = columns_inside f.window.x0 f.window.x1 region.x0 region.x1 (low +ℤ pos m.at) m.at refl le m.within in
    record {
      at = record { slice = s; x = low +ℤ pos m.at; y = y; byte = b };
      in_row = record {
        named = record {
          slice = line.slice;
          within = record { left = c.0; right = c.1; top = line.top; bottom = line.bottom };
          column = m.here;
          line = line.line;
          byte = small;
        };
        within = record { left = c.2; right = c.3; top = line.above; bottom = line.below };
        slice = refl;
        line = refl;
      };
      count = ap (multiples_among x.sampling low) c.5 ∙ m.count;
      byte = refl;
    }

low_inside : (a b c d x : ℤ) → a ≤ℤ x → x ≤ℤ b → c ≤ℤ x → x ≤ℤ d → (a ≤ℤ int_max a c) × (c ≤ℤ int_max a c) × (int_max a c ≤ℤ x) × (x ≤ℤ int_min b d)
low_inside a b c d x p q r s = (omega (arith, ints, clamps), omega (arith, ints, clamps), omega (arith, ints, clamps), omega (arith, ints, clamps))

pub record Along (f : Frame) (region : Box2i) (s : ℕ) (y : ℤ) (k : Byte) : Type 0 where
  pub number : count_before (placement_at (placements_of f.planes) s).sampling (low_of f.window region) k.x < sample_count_of (placement_at (placements_of f.planes) s).sampling (low_of f.window region) (high_of f.window region)
  pub place : place_of f.window (placements_of f.planes) k ≡ first_place f s y (low_of f.window region) + count_before (placement_at (placements_of f.planes) s).sampling (low_of f.window region) k.x * (placement_at (placements_of f.planes) s).stride + k.byte
  pub byte : k.byte < bytes_of (placement_at (placements_of f.planes) s).kind
  pub behind : count_before (placement_at (placements_of f.planes) s).sampling region.x0 k.x ≡ count_before (placement_at (placements_of f.planes) s).sampling region.x0 (low_of f.window region) + count_before (placement_at (placements_of f.planes) s).sampling (low_of f.window region) k.x
  pub ordered : low_of f.window region ≤ℤ high_of f.window region

ends_ordered : (a x b : ℤ) → a ≤ℤ x → x ≤ℤ b → a ≤ℤ b
ends_ordered a x b h k = omega (arith, ints)

pub along : (f : Frame) (region : Box2i) (s : ℕ) (y : ℤ) (k : Byte) → IsInRow f.window (placements_of f.planes) region s y k → Along f region s y k
along f region s y k in_row =
    let c = low_inside f.window.x0 f.window.x1 region.x0 region.x1 k.x in_row.named.within.left in_row.named.within.right in_row.within.left in_row.within.right in
    let low = low_of f.window region in
    let P : ℕ → ℤ → Type 0 = λ (t : ℕ) (z : ℤ). Along f region t z k in
    subst (λ (t : ℕ). Along f region t y k) in_row.slice (subst (λ (z : ℤ). Along f region k.slice z k) in_row.line (record {
      number = before_count (placement_at (placements_of f.planes) k.slice).sampling low k.x (high_of f.window region) c.2 c.3 in_row.named.column;
      place = place_along f k low c.0 c.2;
      byte = in_row.named.byte;
      behind = before_split (placement_at (placements_of f.planes) k.slice).sampling region.x0 low k.x c.1 c.2;
      ordered = ends_ordered low k.x (high_of f.window region) c.2 c.3;
    }))

pub none_behind : (f : Frame) (region : Box2i) (s : ℕ) (y : ℤ) → (high_of f.window region +ℤ pos 1) ≤ℤ low_of f.window region → HasNone f region s y
none_behind f region s y h k in_row = let a = (along f region s y k in_row).ordered in omega (arith, ints, a, h)

pub none_counted : (f : Frame) (region : Box2i) (s : ℕ) (y : ℤ) (n : ℕ) → n ≡ sample_count_of (placement_at (placements_of f.planes) s).sampling (low_of f.window region) (high_of f.window region) → n ≡ 0 → HasNone f region s y
none_counted f region s y n e z k in_row = let a = (along f region s y k in_row).number in omega arith

-- ---- a strip

within_of : (f : Frame) (region : Box2i) (s : ℕ) (y : ℤ) (i b : ℕ) → IsValid f → (w : Found f region s y i b) → first_place f s y (low_of f.window region) + i * (placement_at (placements_of f.planes) s).stride + b < f.buffer
within_of f region s y i b valid w =
    let a = along f region s y w.at w.in_row in
    let in_buffer = place_within f valid w.at w.in_row.named in
    let P : ℕ → ℕ → Type 0 = λ (n m : ℕ). first_place f s y (low_of f.window region) + n * (placement_at (placements_of f.planes) s).stride + m < f.buffer in
    subst (λ n. P n b) w.count (subst (λ m. P (count_before (placement_at (placements_of f.planes) s).sampling (low_of f.window region) w.at.x) m) w.byte (subst (λ n. n < f.buffer) a.place in_buffer))

pub bytes_some : (x : Placement) → 0 < bytes_of x.kind
bytes_some x = elim x.kind as (λ kind. 0 < bytes_of kind) [ Uint ↦ omega arith | Half ↦ omega arith | Float ↦ omega arith ]

pub first_fits : (f : Frame) (region : Box2i) (s : ℕ) (y : ℤ) → IsFrame f → IsValid f → IsLineOf f region s y → low_of f.window region ≤ℤ high_of f.window region
    → 0 < sample_count_of (placement_at (placements_of f.planes) s).sampling (low_of f.window region) (high_of f.window region) → first_place f s y (low_of f.window region) < 2 ^ 64
first_fits f region s y frame valid line le some =
    let w = within_of f region s y 0 0 valid (found f region s y 0 0 line le some (bytes_some (placement_at (placements_of f.planes) s))) in
    let c = frame.counted in
    omega arith

pub columns_sampled : (f : Frame) (s : ℕ) (x : Placement) → IsValid f → s < length (placements_of f.planes) → x ≡ placement_at (placements_of f.planes) s → IsSampledSpot x
columns_sampled f s x valid lt e = subst IsSampledSpot (sym e) (spot_sampled f s valid lt)

pub low_near : (a b low : ℤ) → low ≡ int_max a b → neg_ℤ (pos (2 ^ 30)) ≤ℤ a → neg_ℤ (pos (2 ^ 30)) ≤ℤ low
low_near a b low e h = omega (arith, ints, clamps)

pub low_behind : (a b low : ℤ) → low ≡ int_max a b → b ≤ℤ low
low_behind a b low e = omega (arith, ints, clamps)

pub none_between : (f : Frame) (region : Box2i) (s : ℕ) (y low high : ℤ) (x : Placement) (n : ℕ) → x ≡ placement_at (placements_of f.planes) s → low ≡ low_of f.window region → high ≡ high_of f.window region → n ≡ sample_count_of x.sampling low high → n ≡ 0 → HasNone f region s y
none_between f region s y low high x n ex el eh e z =
    none_counted f region s y n (e ∙ ap₂ (sample_count_of x.sampling) el eh ∙ ap (λ (t : Placement). sample_count_of t.sampling (low_of f.window region) (high_of f.window region)) ex) z

pub numbers_fit : (f : Frame) (region : Box2i) (s : ℕ) (y low high : ℤ) (x : Placement) (n line column : ℕ) → IsFrame f → IsValid f → IsLineOf f region s y
    → x ≡ placement_at (placements_of f.planes) s → low ≡ low_of f.window region → high ≡ high_of f.window region → low ≤ℤ high → n ≡ sample_count_of x.sampling low high → 0 < n
    → line ≡ count_before x.row_sampling f.window.y0 y → column ≡ count_before x.sampling f.window.x0 low → place_after x line column < 2 ^ 64
numbers_fit f region s y low high x n line column frame valid is_line ex el eh le en some e c =
    let le' : low_of f.window region ≤ℤ high_of f.window region = subst (λ (z : ℤ). z ≤ℤ high_of f.window region) el (subst (λ (z : ℤ). low ≤ℤ z) eh le) in
    let n' : n ≡ sample_count_of (placement_at (placements_of f.planes) s).sampling (low_of f.window region) (high_of f.window region) = en ∙ ap₂ (sample_count_of x.sampling) el eh ∙ ap (λ (t : Placement). sample_count_of t.sampling (low_of f.window region) (high_of f.window region)) ex in
    let fits = first_fits f region s y frame valid is_line le' (subst (λ m. 0 < m) n' some) in
    let same : place_after x line column ≡ first_place f s y (low_of f.window region) =
    ap₂ (place_after x) e (c ∙ ap (count_before x.sampling f.window.x0) el) ∙ ap (λ (t : Placement). place_after t (count_before t.row_sampling f.window.y0 y) (count_before t.sampling f.window.x0 (low_of f.window region))) ex in
    subst (λ m. m < 2 ^ 64) (sym same) fits

last_room : (a n stride b buffer : ℕ) → 0 < n → 0 < b → a + (n - 1) * stride + (b - 1) < buffer → a + (n - 1) * stride + b ≤ buffer
last_room a n stride b buffer some part h = omega arith

pub strip_is : (f : Frame) (region : Box2i) (s : ℕ) (y low high : ℤ) (x : Placement) (n line column at skip : ℕ) → IsFrame f → IsValid f → IsLineOf f region s y
    → x ≡ placement_at (placements_of f.planes) s → low ≡ low_of f.window region → high ≡ high_of f.window region → low ≤ℤ high → n ≡ sample_count_of x.sampling low high → 0 < n
    → line ≡ count_before x.row_sampling f.window.y0 y → column ≡ count_before x.sampling f.window.x0 low → at ≡ place_after x line column → skip ≡ count_before x.sampling region.x0 low
    → IsStrip f region s y (record { at = at; samples = n; skip = skip })
strip_is f region s y low high x n line column at skip frame valid is_line ex el eh le en some e c ea es =
    let t = placement_at (placements_of f.planes) s in
    let le' : low_of f.window region ≤ℤ high_of f.window region = subst (λ (z : ℤ). z ≤ℤ high_of f.window region) el (subst (λ (z : ℤ). low ≤ℤ z) eh le) in
    let n' : n ≡ sample_count_of t.sampling (low_of f.window region) (high_of f.window region) = en ∙ ap₂ (sample_count_of x.sampling) el eh ∙ ap (λ (t : Placement). sample_count_of t.sampling (low_of f.window region) (high_of f.window region)) ex in
    let at' : at ≡ first_place f s y (low_of f.window region) =
    ea ∙ ap₂ (place_after x) e (c ∙ ap (count_before x.sampling f.window.x0) el) ∙ ap (λ (t : Placement). place_after t (count_before t.row_sampling f.window.y0 y) (count_before t.sampling f.window.x0 (low_of f.window region))) ex in
    let skip' : skip ≡ count_before t.sampling region.x0 (low_of f.window region) = es ∙ ap (count_before x.sampling region.x0) el ∙ ap (λ (t : Placement). count_before t.sampling region.x0 (low_of f.window region)) ex in
    let part = bytes_some t in
    let w = within_of f region s y (n - 1) (bytes_of t.kind - 1) valid (found f region s y (n - 1) (bytes_of t.kind - 1) is_line le' (omega (arith, n')) (omega arith)) in
    let last = found f region s y (n - 1) 0 is_line le' (omega (arith, n')) part in
    let reach = along f region s y last.at last.in_row in
    let inner = before_count t.sampling region.x0 last.at.x region.x1 last.in_row.within.left last.in_row.within.right (ap (λ (v : Placement). is_multiple v.sampling last.at.x) (ap (placement_at (placements_of f.planes)) (sym last.in_row.slice)) ∙ last.in_row.named.column) in
    record {
      ordered = le';
      samples = n';
      at = at';
      skip = skip';
      some = some;
      stride = (slice_fits f s valid is_line.slice).fits;
      room = last_room at n t.stride (bytes_of t.kind) f.buffer some part (subst (λ m. m + (n - 1) * t.stride + (bytes_of t.kind - 1) < f.buffer) (sym at') w);
      inside = omega (arith, skip', reach.behind, last.count, inner, some);
    }

crossed : (a b c d low high : ℤ) → low ≡ int_max a c → high ≡ int_min b d → int_lt high low ≡ true → (int_min b d +ℤ pos 1) ≤ℤ int_max a c
crossed a b c d low high el eh h = grind (arith, ints, clamps)

pub none_crossed : (f : Frame) (region : Box2i) (s : ℕ) (y low high : ℤ) → low ≡ low_of f.window region → high ≡ high_of f.window region → int_lt high low ≡ true → HasNone f region s y
none_crossed f region s y low high el eh h = none_behind f region s y (crossed f.window.x0 f.window.x1 region.x0 region.x1 low high el eh h)
