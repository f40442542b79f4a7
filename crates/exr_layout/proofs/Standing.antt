-- In a valid layout each byte has a place of its own in the buffer.
use Rattle.std.proofs.Common.{◌≡◌, ◌+◌, ◌-◌, ◌*◌, ◌<◌, ◌≤◌, ℕ, zero, suc, ℤ, Bool, true, false, List, [], ◌∷◌, length, map, Ok, refl, sym, ap, ap₂, ◌∙◌, subst, inl, inr, arith, ltb, eqb}
use Rattle.std.specs.List.{flat_map}
use Rattle.std.proofs.lemmas.Bool.{cases_lt, ltb-false}
use Rattle.std.proofs.lemmas.List.{length-append, get_or_append_left, get_or-append_right}
use Rattle.exr_base.specs.declared.shape.Box2i.{Box2i}
use Rattle.exr_base.specs.Channel.{bytes_of}
use Rattle.exr_base.specs.Refusal.{◌>>=◌}
use Rattle.exr_base.specs.Sampling.{sample_count_of, is_multiple}
use Rattle.exr_layout.specs.declared.planes.Slice.{Slice}
use Rattle.exr_layout.specs.declared.planes.Run.{Run}
use Rattle.exr_layout.specs.declared.planes.Plane.{Plane}
use Rattle.exr_layout.specs.declared.placement.Placement.{Placement}
use Rattle.exr_layout.specs.declared.fault.LayoutFault.{LayoutFault}
use Rattle.exr_layout.specs.declared.fault.LayoutFault.TheVariants.{ZeroSampling, Overlap, ShortStride, OutOfBuffer}
use Rattle.exr_layout.specs.Validation.{Frame, IsValid, validated, slice_end, slices_validated, run_end, run_validated, runs_validated, samplings_validated, plane_end, last_of, plane_validated, planes_validated, slices_of_plane}
use Rattle.exr_base.specs.Sampling.{count_before}
use Rattle.exr_layout.specs.Place.{placement_of, placements_of_run, placements_of_plane, placements_of, placement_at, place_in_buffer, place_of, IsNamed, Byte}
use Rattle.exr_layout.proofs.Columns.{before_count, same_multiple}
use Rattle.exr_layout.proofs.Matched.{bind_ok_from, all_passed}
use Rattle.exr_layout.proofs.Stands.{Stands, Again, nothing, single, lower, behind, again}

-- ---- what is claimed: a byte of a sample within a place, within a row, and within the buffer

pub record AtByte (x : Placement) (b n : ℕ) : Type 0 where
  pub byte : b < bytes_of x.kind
  pub here : n ≡ x.at + b

abbrev pub InRow : Box2i → Placement → ℕ × ℕ → ℕ → Type 0
InRow window x = Again ℕ AtByte x.run x.stride (sample_count_of x.sampling window.x0 window.x1) x

abbrev pub InBuffer : Box2i → Placement → ℕ × (ℕ × ℕ) → ℕ → Type 0
InBuffer window x = Again (ℕ × ℕ) (InRow window) x.base x.row_stride (sample_count_of x.row_sampling window.y0 window.y1) x

pub validated_passed : {X : Type 0} (b : Bool) (f : LayoutFault) (e x : X) → validated b f e ≡ Ok x → (b ≡ false) × (e ≡ x)
validated_passed true f e x h = absurd (cc)
validated_passed false f e x h = (refl, cc)

-- ---- slices

slice_stands : (x : Placement) → Stands ℕ AtByte x.at (x.at + bytes_of x.kind) (x ∷ [])
slice_stands x = single ℕ AtByte x.at (x.at + bytes_of x.kind) x (omega arith) (λ b n c. (omega (arith, c.here), omega (arith, c.here, c.byte))) (λ b d n c e. omega (arith, c.here, e.here))

slices_stand : (p : Plane) (r : Run) (n ended : ℕ) (ss : List Slice) (ends : ℕ) → slices_validated n ended ss ≡ Ok ends → Stands ℕ AtByte ended ends (map (placement_of p r) ss)
unfolding slices_validated
slices_stand p r n ended [] ends h = let e : ended ≡ ends = cc in subst (λ m. Stands ℕ AtByte ended m []) e (nothing ℕ AtByte ended)
slices_stand p r n ended (s ∷ rest) ends h =
    let a = bind_ok_from (validated (ltb s.at ended) (Overlap (n - 1) n) (slice_end s)) (λ e. slices_validated (n + 1) e rest) ends h in
    let t = validated_passed (ltb s.at ended) (Overlap (n - 1) n) (slice_end s) a.0 a.1 in
    let le = ltb-false s.at ended t.0 in
    behind ℕ AtByte ended (slice_end s) a.0 ends (placement_of p r s ∷ []) (map (placement_of p r) rest) (omega (arith, t.1))
    (lower ℕ AtByte ended s.at (slice_end s) (placement_of p r s ∷ []) le (slice_stands (placement_of p r s)))
    (slices_stand p r (n + 1) a.0 rest ends a.2)

-- ---- runs

record OfRun (r : Run) (x : Placement) : Type 0 where
  run : x.run ≡ r.at
  stride : x.stride ≡ r.stride
  sampling : x.sampling ≡ r.sampling

of_run : (p : Plane) (r : Run) (ss : List Slice) (i : ℕ) → i < length (map (placement_of p r) ss) → OfRun r (placement_at (map (placement_of p r) ss) i)
of_run p r [] i lt = absurd (omega arith)
of_run p r (s ∷ ss) zero lt = record { run = refl; stride = refl; sampling = refl }
of_run p r (s ∷ ss) (suc i) lt = of_run p r ss i (omega arith)

retold : (K : Type 0) (claims : Placement → K → ℕ → Type 0) (at stride pieces at' stride' pieces' : ℕ) (x : Placement) (k : ℕ × K) (n : ℕ) → at ≡ at' → stride ≡ stride' → pieces ≡ pieces' → Again K claims at stride pieces x k n → Again K claims at' stride' pieces' x k n
retold K claims at stride pieces at' stride' pieces' x k n a b c h = record {
  number = h.number;
  piece = subst (λ m. k.0 < m) c h.piece;
  claimed = h.claimed;
  here = h.here ∙ ap₂ (λ (u v : ℕ). u + k.0 * v + h.number) a b;
}

record RunStands (window : Box2i) (p : Plane) (r : Run) (ended ends : ℕ) : Type 0 where
  behind : ended ≤ r.at
  stands : Stands (ℕ × ℕ) (InRow window) r.at ends (placements_of_run p r)

run_stands : (window : Box2i) (p : Plane) (n ended : ℕ) (r : Run) (ends : ℕ) → run_validated window n ended r ≡ Ok ends → RunStands window p r ended ends
unfolding run_validated
run_stands window p n ended r ends h =
    let f = ShortStride (n + length r.slices.items - 1) in
    let g = Overlap (n - 1) n in
    let a = bind_ok_from (slices_validated n 0 r.slices.items) (λ each. validated (ltb r.stride each) f each >>= λ fits. validated (ltb r.at ended) g (run_end window r fits)) ends h in
    let b = bind_ok_from (validated (ltb r.stride a.0) f a.0) (λ fits. validated (ltb r.at ended) g (run_end window r fits)) ends a.2 in
    let t = validated_passed (ltb r.stride a.0) f a.0 b.0 b.1 in
    let u = validated_passed (ltb r.at ended) g (run_end window r b.0) ends b.2 in
    let same : run_end window r a.0 ≡ ends = ap (run_end window r) t.1 ∙ u.1 in
    record {
      behind = ltb-false r.at ended u.0;
      stands = subst (λ m. Stands (ℕ × ℕ) (InRow window) r.at m (placements_of_run p r)) same
          (again ℕ AtByte (InRow window) r.at r.stride (sample_count_of r.sampling window.x0 window.x1) a.0 (placements_of_run p r)
          (λ i k m lt c. let o = of_run p r r.slices.items i lt in
          retold ℕ AtByte _ _ _ r.at r.stride (sample_count_of r.sampling window.x0 window.x1) (placement_at (placements_of_run p r) i) k m o.run o.stride (ap (λ s. sample_count_of s window.x0 window.x1) o.sampling) c)
          (ltb-false r.stride a.0 t.0) (slices_stand p r n 0 r.slices.items a.0 a.1));
    }

runs_stand : (window : Box2i) (p : Plane) (n ended : ℕ) (rs : List Run) (ends : ℕ) → runs_validated window n ended rs ≡ Ok ends → Stands (ℕ × ℕ) (InRow window) ended ends (flat_map (placements_of_run p) rs)
unfolding runs_validated
runs_stand window p n ended [] ends h = let e : ended ≡ ends = cc in subst (λ m. Stands (ℕ × ℕ) (InRow window) ended m []) e (nothing (ℕ × ℕ) (InRow window) ended)
runs_stand window p n ended (r ∷ rest) ends h =
    let a = bind_ok_from (run_validated window n ended r) (λ e. runs_validated window (n + length r.slices.items) e rest) ends h in
    let s = run_stands window p n ended r a.0 a.1 in
    behind (ℕ × ℕ) (InRow window) ended a.0 a.0 ends (placements_of_run p r) (flat_map (placements_of_run p) rest) (omega arith)
    (lower (ℕ × ℕ) (InRow window) ended r.at a.0 (placements_of_run p r) s.behind s.stands)
    (runs_stand window p (n + length r.slices.items) a.0 rest ends a.2)

-- ---- planes

record OfPlane (p : Plane) (x : Placement) : Type 0 where
  base : x.base ≡ p.base
  stride : x.row_stride ≡ p.stride
  sampling : x.row_sampling ≡ p.sampling

of_plane_run : (p : Plane) (r : Run) (ss : List Slice) (i : ℕ) → i < length (map (placement_of p r) ss) → OfPlane p (placement_at (map (placement_of p r) ss) i)
of_plane_run p r [] i lt = absurd (omega arith)
of_plane_run p r (s ∷ ss) zero lt = record { base = refl; stride = refl; sampling = refl }
of_plane_run p r (s ∷ ss) (suc i) lt = of_plane_run p r ss i (omega arith)

of_plane : (p : Plane) (rs : List Run) (i : ℕ) → i < length (flat_map (placements_of_run p) rs) → OfPlane p (placement_at (flat_map (placements_of_run p) rs) i)
of_plane p [] i lt = absurd (omega arith)
of_plane p (r ∷ rs) i lt =
    let xs = placements_of_run p r in
    let ys = flat_map (placements_of_run p) rs in
    let len = length-append xs ys in
    elim (cases_lt i (length xs)) [
      | inl h ↦ subst (OfPlane p) (sym (get_or_append_left xs ys _ i h)) (of_plane_run p r r.slices.items i h)
      | inr h ↦ subst (OfPlane p) (sym (get_or-append_right xs ys (length xs) i _ refl h)) (of_plane p rs (i - length xs) (omega arith))
    ]

record PlaneStands (window : Box2i) (buffer : ℕ) (p : Plane) (ended ends : ℕ) : Type 0 where
  behind : ended ≤ p.base
  stands : Stands (ℕ × (ℕ × ℕ)) (InBuffer window) p.base ends (placements_of_plane p)
  within : ends ≤ buffer

plane_stands : (window : Box2i) (buffer n ended : ℕ) (p : Plane) (ends : ℕ) → plane_validated window buffer n ended p ≡ Ok ends → PlaneStands window buffer p ended ends
unfolding plane_validated
plane_stands window buffer n ended p ends h =
    let f = ShortStride (last_of n p) in
    let g = Overlap (n - 1) n in
    let o = OutOfBuffer (last_of n p) in
    let a = bind_ok_from (validated (eqb p.sampling 0) (ZeroSampling n) (tt {0})) (λ _. samplings_validated n p.runs.items >>= λ _. runs_validated window n 0 p.runs.items >>= λ each. validated (ltb p.stride each) f each >>= λ fits. validated (ltb p.base ended) g (plane_end window p fits) >>= λ begins. validated (ltb buffer begins) o begins) ends h in
    let b = bind_ok_from (samplings_validated n p.runs.items) (λ _. runs_validated window n 0 p.runs.items >>= λ each. validated (ltb p.stride each) f each >>= λ fits. validated (ltb p.base ended) g (plane_end window p fits) >>= λ begins. validated (ltb buffer begins) o begins) ends a.2 in
    let c = bind_ok_from (runs_validated window n 0 p.runs.items) (λ each. validated (ltb p.stride each) f each >>= λ fits. validated (ltb p.base ended) g (plane_end window p fits) >>= λ begins. validated (ltb buffer begins) o begins) ends b.2 in
    let d = bind_ok_from (validated (ltb p.stride c.0) f c.0) (λ fits. validated (ltb p.base ended) g (plane_end window p fits) >>= λ begins. validated (ltb buffer begins) o begins) ends c.2 in
    let e = bind_ok_from (validated (ltb p.base ended) g (plane_end window p d.0)) (λ begins. validated (ltb buffer begins) o begins) ends d.2 in
    let t = validated_passed (ltb p.stride c.0) f c.0 d.0 d.1 in
    let u = validated_passed (ltb p.base ended) g (plane_end window p d.0) e.0 e.1 in
    let v = validated_passed (ltb buffer e.0) o e.0 ends e.2 in
    let same : plane_end window p c.0 ≡ ends = ap (plane_end window p) t.1 ∙ u.1 ∙ v.1 in
    let most = ltb-false buffer e.0 v.0 in
    record {
      behind = ltb-false p.base ended u.0;
      stands = subst (λ m. Stands (ℕ × (ℕ × ℕ)) (InBuffer window) p.base m (placements_of_plane p)) same
          (again (ℕ × ℕ) (InRow window) (InBuffer window) p.base p.stride (sample_count_of p.sampling window.y0 window.y1) c.0 (placements_of_plane p)
          (λ i k m lt q. let w = of_plane p p.runs.items i lt in
          retold (ℕ × ℕ) (InRow window) _ _ _ p.base p.stride (sample_count_of p.sampling window.y0 window.y1) (placement_at (placements_of_plane p) i) k m w.base w.stride (ap (λ s. sample_count_of s window.y0 window.y1) w.sampling) q)
          (ltb-false p.stride c.0 t.0) (runs_stand window p n 0 p.runs.items c.0 c.1));
      within = omega (arith, v.1);
    }

record PlanesStand (window : Box2i) (buffer ended : ℕ) (ps : List Plane) (ends : ℕ) : Type 0 where
  stands : Stands (ℕ × (ℕ × ℕ)) (InBuffer window) ended ends (placements_of ps)
  within : ended ≤ buffer → ends ≤ buffer

planes_stand : (window : Box2i) (buffer n ended : ℕ) (ps : List Plane) (ends : ℕ) → planes_validated window buffer n ended ps ≡ Ok ends → PlanesStand window buffer ended ps ends
unfolding planes_validated
planes_stand window buffer n ended [] ends h =
    let e : ended ≡ ends = cc in
    record { stands = subst (λ m. Stands (ℕ × (ℕ × ℕ)) (InBuffer window) ended m []) e (nothing (ℕ × (ℕ × ℕ)) (InBuffer window) ended); within = λ le. omega (arith, e) }
planes_stand window buffer n ended (p ∷ rest) ends h =
    let a = bind_ok_from (plane_validated window buffer n ended p) (λ e. planes_validated window buffer (n + length (slices_of_plane p)) e rest) ends h in
    let s = plane_stands window buffer n ended p a.0 a.1 in
    let t = planes_stand window buffer (n + length (slices_of_plane p)) a.0 rest ends a.2 in
    record {
      stands = behind (ℕ × (ℕ × ℕ)) (InBuffer window) ended a.0 a.0 ends (placements_of_plane p) (placements_of rest) (omega arith)
          (lower (ℕ × (ℕ × ℕ)) (InBuffer window) ended p.base a.0 (placements_of_plane p) s.behind s.stands) t.stands;
      within = λ le. t.within s.within;
    }

-- ---- a valid layout

pub record FrameStands (f : Frame) : Type 0 where
  pub ends : ℕ
  pub within : ends ≤ f.buffer
  pub stands : Stands (ℕ × (ℕ × ℕ)) (InBuffer f.window) 0 ends (placements_of f.planes)

pub frame_stands : (f : Frame) → IsValid f → FrameStands f
frame_stands f valid =
    let s = planes_stand f.window f.buffer 0 0 f.planes valid.ends (all_passed f valid).planes in
    record { ends = valid.ends; within = s.within (omega arith); stands = s.stands }

-- a byte that is named claims its place
abbrev pub key_of : Box2i → Placement → Byte → ℕ × (ℕ × ℕ)
key_of window x k = (count_before x.row_sampling window.y0 k.y, (count_before x.sampling window.x0 k.x, k.byte))

summed : (a r b c d e : ℕ) → ((((a + r) + b) + c) + d) + e ≡ a + r + (b + c + (d + e))
summed a r b c d e = omega arith

claimed : (window : Box2i) (placements : List Placement) (k : Byte) → IsNamed window placements k → InBuffer window (placement_at placements k.slice) (key_of window (placement_at placements k.slice) k) (place_of window placements k)
unfolding place_in_buffer
claimed window placements k named =
    let x = placement_at placements k.slice in
    let row = count_before x.row_sampling window.y0 k.y in
    let col = count_before x.sampling window.x0 k.x in
    record {
      number = x.run + col * x.stride + (x.at + k.byte);
      piece = before_count x.row_sampling window.y0 k.y window.y1 named.within.top named.within.bottom named.line;
      claimed = record {
        number = x.at + k.byte;
        piece = before_count x.sampling window.x0 k.x window.x1 named.within.left named.within.right named.column;
        claimed = record { byte = named.byte; here = refl };
        here = refl;
      };
      here = summed x.base (row * x.row_stride) x.run (col * x.stride) x.at k.byte;
    }

abbrev made : ℕ → ℤ → ℤ → ℕ → Byte
made s x y b = record { slice = s; x = x; y = y; byte = b }

same_byte : (j k : Byte) → j.slice ≡ k.slice → j.x ≡ k.x → j.y ≡ k.y → j.byte ≡ k.byte → j ≡ k
same_byte j k a b c d =
    ap (λ (v : ℕ). made v j.x j.y j.byte) a ∙ ap (λ (v : ℤ). made k.slice v j.y j.byte) b ∙ ap (λ (v : ℤ). made k.slice k.x v j.byte) c ∙ ap (λ (v : ℕ). made k.slice k.x k.y v) d

pub place_within : (f : Frame) → IsValid f → (k : Byte) → IsNamed f.window (placements_of f.planes) k → place_of f.window (placements_of f.planes) k < f.buffer
place_within f valid k named =
    let s = frame_stands f valid in
    let w = s.stands.within k.slice (key_of f.window (placement_at (placements_of f.planes) k.slice) k) (place_of f.window (placements_of f.planes) k) named.slice (claimed f.window (placements_of f.planes) k named) in
    let most = s.within in
    omega (arith, w.1)

pub place_once : (f : Frame) → IsValid f → (j k : Byte) → IsNamed f.window (placements_of f.planes) j → IsNamed f.window (placements_of f.planes) k → place_of f.window (placements_of f.planes) j ≡ place_of f.window (placements_of f.planes) k → j ≡ k
place_once f valid j k named named' e =
    let s = frame_stands f valid in
    let placements = placements_of f.planes in
    let x = placement_at placements j.slice in
    let y = placement_at placements k.slice in
    let o = s.stands.once j.slice k.slice (key_of f.window x j) (key_of f.window y k) (place_of f.window placements j) named.slice named'.slice (claimed f.window placements j named)
    (subst (λ n. InBuffer f.window y (key_of f.window y k) n) (sym e) (claimed f.window placements k named')) in
    let same : y ≡ x = ap (placement_at placements) (sym o.0) in
    let rows : count_before x.row_sampling f.window.y0 j.y ≡ count_before x.row_sampling f.window.y0 k.y = ap (λ (q : ℕ × (ℕ × ℕ)). q.0) o.1 ∙ ap (λ (z : Placement). count_before z.row_sampling f.window.y0 k.y) same in
    let columns : count_before x.sampling f.window.x0 j.x ≡ count_before x.sampling f.window.x0 k.x = ap (λ (q : ℕ × (ℕ × ℕ)). q.1.0) o.1 ∙ ap (λ (z : Placement). count_before z.sampling f.window.x0 k.x) same in
    let bytes : j.byte ≡ k.byte = ap (λ (q : ℕ × (ℕ × ℕ)). q.1.1) o.1 in
    let line : is_multiple x.row_sampling k.y ≡ true = ap (λ (z : Placement). is_multiple z.row_sampling k.y) (sym same) ∙ named'.line in
    let column : is_multiple x.sampling k.x ≡ true = ap (λ (z : Placement). is_multiple z.sampling k.x) (sym same) ∙ named'.column in
    same_byte j k o.0
    (same_multiple x.sampling f.window.x0 j.x k.x named.within.left named'.within.left named.column column columns)
    (same_multiple x.row_sampling f.window.y0 j.y k.y named.within.top named'.within.top named.line line rows)
    bytes
