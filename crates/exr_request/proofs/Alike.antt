-- Frames that say the same are validated and matched alike, wherever their slices and runs are kept in memory.
use Rattle.std.proofs.Common.{◌≡◌, ◌==◌, ◌+◌, ◌-◌, ◌^◌, nat_lt, ℕ, Bool, true, false, cond, not, ◌||◌, List, [], ◌∷◌, ◌++◌, length, map, Option, Some, None, Result, Ok, Err, refl, sym, ap, ◌∙◌}
use Rattle.std.specs.List.{flat_map, list_any, position, position_or_len}
use Rattle.std.proofs.lemmas.List.{length-map}
use Rattle.std.proofs.lemmas.List.Folds.{flat_map-map}
use Rattle.exr_base.specs.declared.shape.Box2i.{Box2i}
use Rattle.exr_base.specs.Refusal.{◌>>=◌}
use Rattle.exr_base.specs.Sampling.{sample_count_of}
use Rattle.exr_judge.specs.declared.header.Header.{Header}
use Rattle.exr_layout.specs.declared.planes.Plane.{Plane}
use Rattle.exr_layout.specs.declared.planes.Run.{Run}
use Rattle.exr_layout.specs.declared.planes.Slice.{Slice}
use Rattle.exr_layout.specs.declared.placement.Placement.{Placement}
use Rattle.exr_layout.specs.declared.fault.LayoutFault.{LayoutFault}
use Rattle.exr_layout.specs.declared.fault.LayoutFault.TheVariants.{Empty, Huge, ZeroSampling, Overlap, ShortStride, OutOfBuffer}
use Rattle.exr_layout.specs.declared.fault.MatchFault.TheVariants.{WindowOutside}
use Rattle.exr_layout.specs.Validation.{Frame, is_empty_run, is_empty_plane, is_huge, is_huge_slice, is_huge_run, is_huge_plane, refused_at, names_validated, validated, slices_validated, end_of, run_validated, runs_validated, samplings_validated, plane_validated, planes_validated, frame_validated, slices_of_plane, slices_of}
use Rattle.exr_layout.specs.Place.{placement_in, placements_of_plane, placements_of}
use Rattle.exr_base.specs.Boxes.{is_inside}
use Rattle.exr_layout.specs.Plan.{slices_matched, part_matched}
use Rattle.exr_request.specs.declared.fault.RequestFault.{RequestFault}
use Rattle.exr_request.specs.declared.fault.RequestFault.TheVariants.{TooLarge}
use Rattle.exr_request.specs.Arranged.{PlainRun, PlainPlane, plain_run, plain_plane}
use Rattle.exr_request.specs.Request.{refuses, layout_refuses, match_refuses, frame_tested}
use Rattle.exr_request.proofs.Fits.{plain_run_slices, plain_slices, same_run_slices, same_slices}

-- ---- lists of which a view is the same

heads_same : {X Y : Type 0} (view : X → Y) (x y : X) (xs ys : List X) → view x ∷ map view xs ≡ view y ∷ map view ys → (view x ≡ view y) × (map view xs ≡ map view ys)
heads_same view x y xs ys e = (cc, cc)

any_same : {X Y : Type 0} (view : X → Y) (test : X → Bool) → ((x y : X) → view x ≡ view y → test x ≡ test y) → (xs ys : List X) → map view xs ≡ map view ys → list_any test xs ≡ list_any test ys
any_same view test same [] [] e = refl
any_same view test same [] (y ∷ ys) e = absurd (cc)
any_same view test same (x ∷ xs) [] e = absurd (cc)
any_same view test same (x ∷ xs) (y ∷ ys) e =
    let h = heads_same view x y xs ys e in
    ap (λ (b : Bool). b || list_any test xs) (same x y h.0) ∙ ap (λ (b : Bool). test y || b) (any_same view test same xs ys h.1)

front_same : {X Y : Type 0} (view : X → Y) (test : X → Bool) → ((x y : X) → view x ≡ view y → test x ≡ test y) → (xs ys : List X) → map view xs ≡ map view ys → position_or_len test xs ≡ position_or_len test ys
front_same view test same [] [] e = refl
front_same view test same [] (y ∷ ys) e = absurd (cc)
front_same view test same (x ∷ xs) [] e = absurd (cc)
front_same view test same (x ∷ xs) (y ∷ ys) e =
    let h = heads_same view x y xs ys e in
    ap (λ (b : Bool). cond (not b) (1 + position_or_len test xs) 0) (same x y h.0)
    ∙ ap (λ (n : ℕ). cond (not (test y)) (1 + n) 0) (front_same view test same xs ys h.1)

length_same : {X Y : Type 0} (view : X → Y) (xs ys : List X) → map view xs ≡ map view ys → length xs ≡ length ys
length_same view xs ys e = sym (length-map xs view) ∙ ap length e ∙ length-map ys view

position_same : {X Y : Type 0} (view : X → Y) (test : X → Bool) → ((x y : X) → view x ≡ view y → test x ≡ test y) → (xs ys : List X) → map view xs ≡ map view ys → position test xs ≡ position test ys
position_same view test same xs ys e =
    ap (λ (n : ℕ). cond (nat_lt n (length xs)) (Some n) None) (front_same view test same xs ys e)
    ∙ ap (λ (m : ℕ). cond (nat_lt (position_or_len test ys) m) (Some (position_or_len test ys)) None) (length_same view xs ys e)

flat_same : {X A : Type 0} (f g : X → List A) → ((x : X) → f x ≡ g x) → (xs : List X) → flat_map f xs ≡ flat_map g xs
flat_same f g same [] = refl
flat_same {A = A} f g same (x ∷ xs) = ap (λ (l : List A). l ++ flat_map f xs) (same x) ∙ ap (λ (l : List A). g x ++ l) (flat_same f g same xs)

bind_under : {A B F : Type 0} (r : Result A F) (f g : A → Result B F) → ((x : A) → f x ≡ g x) → (r >>= f) ≡ (r >>= g)
bind_under (Ok x) f g h = h x
bind_under (Err e) f g h = refl

bind_same : {A B F : Type 0} (r s : Result A F) (f g : A → Result B F) → r ≡ s → ((x : A) → f x ≡ g x) → (r >>= f) ≡ (s >>= g)
bind_same {A = A} {F = F} r s f g e h = ap (λ (x : Result A F). x >>= f) e ∙ bind_under s f g h

-- ---- tests over all planes

empty_run_same : (r s : Run) → plain_run r ≡ plain_run s → is_empty_run r ≡ is_empty_run s
empty_run_same r s e = ap (λ (x : PlainRun). length x.slices == 0) e

empty_plane_same : (p q : Plane) → plain_plane p ≡ plain_plane q → is_empty_plane p ≡ is_empty_plane q
empty_plane_same p q e =
    let runs : map plain_run p.runs.items ≡ map plain_run q.runs.items = ap (λ (x : PlainPlane). x.runs) e in
    ap (λ (n : ℕ). n == 0 || list_any is_empty_run p.runs.items) (length_same plain_run p.runs.items q.runs.items runs)
    ∙ ap (λ (b : Bool). length q.runs.items == 0 || b) (any_same plain_run is_empty_run empty_run_same p.runs.items q.runs.items runs)

huge_run_same : (r s : Run) → plain_run r ≡ plain_run s → is_huge_run r ≡ is_huge_run s
huge_run_same r s e = ap (λ (x : PlainRun). is_huge x.at || is_huge x.stride || list_any is_huge_slice x.slices) e

huge_plane_same : (p q : Plane) → plain_plane p ≡ plain_plane q → is_huge_plane p ≡ is_huge_plane q
huge_plane_same p q e =
    let runs : map plain_run p.runs.items ≡ map plain_run q.runs.items = ap (λ (x : PlainPlane). x.runs) e in
    ap (λ (x : PlainPlane). is_huge x.base || is_huge x.stride || list_any is_huge_run p.runs.items) e
    ∙ ap (λ (b : Bool). is_huge q.base || is_huge q.stride || b) (any_same plain_run is_huge_run huge_run_same p.runs.items q.runs.items runs)

slices_same : (ps qs : List Plane) → map plain_plane ps ≡ map plain_plane qs → slices_of ps ≡ slices_of qs
slices_same ps qs e = same_slices ps ∙ ap plain_slices e ∙ sym (same_slices qs)

-- ---- tests run by run, plane by plane

run_same : (window : Box2i) (n ended : ℕ) (r s : Run) → plain_run r ≡ plain_run s → run_validated window n ended r ≡ run_validated window n ended s
unfolding run_validated
run_same window n ended r s e =
    ap (λ (x : PlainRun). slices_validated n 0 x.slices >>= λ each. validated (nat_lt x.stride each) (ShortStride (n + length x.slices - 1)) each >>= λ fits. validated (nat_lt x.at ended) (Overlap (n - 1) n) (end_of x.at x.stride (sample_count_of x.sampling window.x0 window.x1) fits)) e

runs_same : (window : Box2i) (n ended : ℕ) (rs ss : List Run) → map plain_run rs ≡ map plain_run ss → runs_validated window n ended rs ≡ runs_validated window n ended ss
unfolding runs_validated
runs_same window n ended [] [] e = refl
runs_same window n ended [] (s ∷ ss) e = absurd (cc)
runs_same window n ended (r ∷ rs) [] e = absurd (cc)
runs_same window n ended (r ∷ rs) (s ∷ ss) e =
    let h = heads_same plain_run r s rs ss e in
    let count : length r.slices.items ≡ length s.slices.items = ap (λ (x : PlainRun). length x.slices) h.0 in
    bind_same (run_validated window n ended r) (run_validated window n ended s) (λ ends. runs_validated window (n + length r.slices.items) ends rs) (λ ends. runs_validated window (n + length s.slices.items) ends ss)
    (run_same window n ended r s h.0)
    (λ ends. ap (λ (k : ℕ). runs_validated window (n + k) ends rs) count ∙ runs_same window (n + length s.slices.items) ends rs ss h.1)

samplings_same : (n : ℕ) (rs ss : List Run) → map plain_run rs ≡ map plain_run ss → samplings_validated n rs ≡ samplings_validated n ss
unfolding samplings_validated
samplings_same n [] [] e = refl
samplings_same n [] (s ∷ ss) e = absurd (cc)
samplings_same n (r ∷ rs) [] e = absurd (cc)
samplings_same n (r ∷ rs) (s ∷ ss) e =
    let h = heads_same plain_run r s rs ss e in
    let count : length r.slices.items ≡ length s.slices.items = ap (λ (x : PlainRun). length x.slices) h.0 in
    bind_same (validated (r.sampling == 0) (ZeroSampling n) (tt {0})) (validated (s.sampling == 0) (ZeroSampling n) (tt {0})) (λ (each : Unit {0}). samplings_validated (n + length r.slices.items) rs) (λ (each : Unit {0}). samplings_validated (n + length s.slices.items) ss)
    (ap (λ (x : PlainRun). validated (x.sampling == 0) (ZeroSampling n) (tt {0})) h.0)
    (λ each. ap (λ (k : ℕ). samplings_validated (n + k) rs) count ∙ samplings_same (n + length s.slices.items) rs ss h.1)

-- a plane is validated by its own numbers, by its runs and by how many slices it has
plane_by : Box2i → ℕ → ℕ → ℕ → PlainPlane → Result (Unit {0}) LayoutFault → Result ℕ LayoutFault → ℕ → Result ℕ LayoutFault
plane_by window buffer n ended p samplings runs count = do
  rows ← validated (p.sampling == 0) (ZeroSampling n) (tt {0})
  columns ← samplings
  each ← runs
  fits ← validated (nat_lt p.stride each) (ShortStride (n + count - 1)) each
  begins ← validated (nat_lt p.base ended) (Overlap (n - 1) n) (end_of p.base p.stride (sample_count_of p.sampling window.y0 window.y1) fits)
  validated (nat_lt buffer begins) (OutOfBuffer (n + count - 1)) begins

plane_judged_by : (window : Box2i) (buffer n ended : ℕ) (p : Plane) → plane_validated window buffer n ended p ≡ plane_by window buffer n ended (plain_plane p) (samplings_validated n p.runs.items) (runs_validated window n 0 p.runs.items) (length (slices_of_plane p))
unfolding plane_validated plane_by
plane_judged_by window buffer n ended p = refl

count_same : (p q : Plane) → plain_plane p ≡ plain_plane q → length (slices_of_plane p) ≡ length (slices_of_plane q)
count_same p q e =
    ap length (same_run_slices p.runs.items) ∙ ap (λ (x : PlainPlane). length (plain_run_slices x.runs)) e ∙ sym (ap length (same_run_slices q.runs.items))

plane_same : (window : Box2i) (buffer n ended : ℕ) (p q : Plane) → plain_plane p ≡ plain_plane q → plane_validated window buffer n ended p ≡ plane_validated window buffer n ended q
plane_same window buffer n ended p q e =
    let runs : map plain_run p.runs.items ≡ map plain_run q.runs.items = ap (λ (x : PlainPlane). x.runs) e in
    let sp = samplings_validated n p.runs.items in
    let rp = runs_validated window n 0 p.runs.items in
    let sq = samplings_validated n q.runs.items in
    let rq = runs_validated window n 0 q.runs.items in
    plane_judged_by window buffer n ended p
    ∙ ap (λ (x : PlainPlane). plane_by window buffer n ended x sp rp (length (slices_of_plane p))) e
    ∙ ap (λ (x : Result (Unit {0}) LayoutFault). plane_by window buffer n ended (plain_plane q) x rp (length (slices_of_plane p))) (samplings_same n p.runs.items q.runs.items runs)
    ∙ ap (λ (x : Result ℕ LayoutFault). plane_by window buffer n ended (plain_plane q) sq x (length (slices_of_plane p))) (runs_same window n 0 p.runs.items q.runs.items runs)
    ∙ ap (plane_by window buffer n ended (plain_plane q) sq rq) (count_same p q e)
    ∙ sym (plane_judged_by window buffer n ended q)

planes_same : (window : Box2i) (buffer n ended : ℕ) (ps qs : List Plane) → map plain_plane ps ≡ map plain_plane qs → planes_validated window buffer n ended ps ≡ planes_validated window buffer n ended qs
unfolding planes_validated
planes_same window buffer n ended [] [] e = refl
planes_same window buffer n ended [] (q ∷ qs) e = absurd (cc)
planes_same window buffer n ended (p ∷ ps) [] e = absurd (cc)
planes_same window buffer n ended (p ∷ ps) (q ∷ qs) e =
    let h = heads_same plain_plane p q ps qs e in
    bind_same (plane_validated window buffer n ended p) (plane_validated window buffer n ended q) (λ ends. planes_validated window buffer (n + length (slices_of_plane p)) ends ps) (λ ends. planes_validated window buffer (n + length (slices_of_plane q)) ends qs)
    (plane_same window buffer n ended p q h.0)
    (λ ends. ap (λ (k : ℕ). planes_validated window buffer (n + k) ends ps) (count_same p q h.0) ∙ planes_same window buffer (n + length (slices_of_plane q)) ends ps qs h.1)

-- ---- frames

-- two frames that say the same
pub record AreAlike (f g : Frame) : Type 0 where
  pub planes : map plain_plane f.planes ≡ map plain_plane g.planes
  pub window : f.window ≡ g.window
  pub buffer : f.buffer ≡ g.buffer

frame_by : Option ℕ → Option ℕ → List Slice → Result ℕ LayoutFault → Result ℕ LayoutFault
frame_by empty huge slices planes = do
  filled ← refused_at (λ plane. Empty plane) empty
  near ← refused_at (λ plane. Huge plane) huge
  once ← names_validated [] slices
  planes

frame_judged_by : (f : Frame) → frame_validated f ≡ frame_by (position is_empty_plane f.planes) (position is_huge_plane f.planes) (slices_of f.planes) (planes_validated f.window f.buffer 0 0 f.planes)
unfolding frame_validated frame_by
frame_judged_by f = refl

pub judged_alike : (f g : Frame) → AreAlike f g → frame_validated f ≡ frame_validated g
judged_alike f g alike =
    let pf = planes_validated f.window f.buffer 0 0 f.planes in
    frame_judged_by f
    ∙ ap (λ (x : Option ℕ). frame_by x (position is_huge_plane f.planes) (slices_of f.planes) pf) (position_same plain_plane is_empty_plane empty_plane_same f.planes g.planes alike.planes)
    ∙ ap (λ (x : Option ℕ). frame_by (position is_empty_plane g.planes) x (slices_of f.planes) pf) (position_same plain_plane is_huge_plane huge_plane_same f.planes g.planes alike.planes)
    ∙ ap (λ (x : List Slice). frame_by (position is_empty_plane g.planes) (position is_huge_plane g.planes) x pf) (slices_same f.planes g.planes alike.planes)
    ∙ ap (frame_by (position is_empty_plane g.planes) (position is_huge_plane g.planes) (slices_of g.planes))
    (ap (λ (w : Box2i). planes_validated w f.buffer 0 0 f.planes) alike.window
    ∙ ap (λ (b : ℕ). planes_validated g.window b 0 0 f.planes) alike.buffer
    ∙ planes_same g.window g.buffer 0 0 f.planes g.planes alike.planes)
    ∙ sym (frame_judged_by g)

-- ---- slices with all that says where their samples stand

-- the same of plain planes
abbrev pub plain_spots_of_run : PlainPlane → PlainRun → List Placement
plain_spots_of_run p r = map (placement_in p r) r.slices

abbrev pub plain_spots_of_plane : PlainPlane → List Placement
plain_spots_of_plane p = flat_map (plain_spots_of_run p) p.runs

abbrev pub plain_spots : List PlainPlane → List Placement
plain_spots planes = flat_map plain_spots_of_plane planes

plane_spots : (p : Plane) → placements_of_plane p ≡ plain_spots_of_plane (plain_plane p)
plane_spots p = sym (flat_map-map (plain_spots_of_run (plain_plane p)) plain_run p.runs.items)

pub same_spots : (ps : List Plane) → placements_of ps ≡ plain_spots (map plain_plane ps)
same_spots ps =
    flat_same placements_of_plane (λ (p : Plane). plain_spots_of_plane (plain_plane p)) plane_spots ps
    ∙ sym (flat_map-map plain_spots_of_plane plain_plane ps)

pub spots_alike : (f g : Frame) → AreAlike f g → placements_of f.planes ≡ placements_of g.planes
spots_alike f g alike = same_spots f.planes ∙ ap plain_spots alike.planes ∙ sym (same_spots g.planes)

-- ---- against a part

pub matched_alike : (h : Header) (f g : Frame) → AreAlike f g → part_matched f h ≡ part_matched g h
unfolding part_matched
matched_alike h f g alike =
    ap (λ (w : Box2i). cond (is_inside w h.window) (slices_matched h.channels 0 (placements_of f.planes)) (Err WindowOutside)) alike.window
    ∙ ap (λ (l : List Placement). cond (is_inside g.window h.window) (slices_matched h.channels 0 l) (Err WindowOutside)) (spots_alike f g alike)

-- a frame is tested by how it is validated, by its size and by how it is matched
unfoldable pub tested_by : Result ℕ LayoutFault → ℕ → Result (List (Option ℕ)) RequestFault → Result (List (Option ℕ)) RequestFault
tested_by judgement buffer matched = do
  ends ← layout_refuses judgement
  small ← refuses (nat_lt (2 ^ 30) buffer) TooLarge
  matched

through : (judgement : Result ℕ LayoutFault) (large : Bool) (f : Frame) (next : Frame → Result (List (Option ℕ)) RequestFault)
    → ((layout_refuses judgement >>= λ ends. refuses large TooLarge >>= λ small. Ok f) >>= next) ≡ (layout_refuses judgement >>= λ ends. refuses large TooLarge >>= λ small. next f)
through (Ok ends) true f next = refl
through (Ok ends) false f next = refl
through (Err fault) large f next = refl

pub tested_is : (h : Header) (f : Frame) → frame_tested h f ≡ tested_by (frame_validated f) f.buffer (match_refuses (part_matched f h))
unfolding tested_by
tested_is h f = through (frame_validated f) (nat_lt (2 ^ 30) f.buffer) f (λ layout. match_refuses (part_matched layout h))

pub tested_alike : (h : Header) (f g : Frame) → AreAlike f g → frame_tested h f ≡ frame_tested h g
tested_alike h f g alike =
    tested_is h f
    ∙ ap (λ (x : Result ℕ LayoutFault). tested_by x f.buffer (match_refuses (part_matched f h))) (judged_alike f g alike)
    ∙ ap (λ (b : ℕ). tested_by (frame_validated g) b (match_refuses (part_matched f h))) alike.buffer
    ∙ ap (tested_by (frame_validated g) g.buffer) (ap match_refuses (matched_alike h f g alike))
    ∙ sym (tested_is h g)
