-- The tests in loops: what is left of a list is validated behind what was validated before.
use Rattle.std.proofs.Common.{◌≡◌, ◌+◌, ◌-◌, ◌<◌, ◌≤◌, ℕ, Bool, true, false, List, ◌∷◌, length, drop, get_or, Result, Ok, Err, sym, ap, ◌∙◌, eqb, ltb}
use Rattle.std.proofs.lemmas.Bool.{lt-ltb, le-ltb}
use Rattle.std.proofs.lemmas.List.{at_drop_more, at_drop_all}
use Rattle.exr_base.specs.declared.shape.Box2i.{Box2i}
use Rattle.exr_base.specs.Refusal.{◌>>=◌}
use Rattle.exr_layout.specs.declared.planes.Slice.{Slice}
use Rattle.exr_layout.specs.declared.planes.Run.{Run}
use Rattle.exr_layout.specs.declared.planes.Plane.{Plane}
use Rattle.exr_layout.specs.declared.fault.LayoutFault.{LayoutFault}
use Rattle.exr_layout.specs.declared.fault.LayoutFault.TheVariants.{ZeroSampling, Overlap}
use Rattle.exr_layout.specs.Validation.{validated, slice_end, slices_validated, run_validated, runs_validated, samplings_validated, plane_validated, planes_validated, slices_of_plane}

-- the rest begins with an element that was read
at_rest : {X Y : Type 0} (F : List X → Y) (xs : List X) (i : ℕ) (x : X) → i < length xs → x ≡ get_or xs i x → F (drop i xs) ≡ F (x ∷ drop (i + 1) xs)
at_rest F xs i x lt is = at_drop_more F xs i x lt ∙ ap (λ y. F (y ∷ drop (i + 1) xs)) (sym is)

bind_err : {A B F : Type 0} (r : Result A F) (e : F) (f : A → Result B F) → Err e ≡ r → (r >>= f) ≡ Err e
bind_err r e f h = ap (λ x. x >>= f) (sym h)

bind_ok : {A B F : Type 0} (r : Result A F) (a : A) (f : A → Result B F) → Ok a ≡ r → (r >>= f) ≡ f a
bind_ok r a f h = ap (λ x. x >>= f) (sym h)

refuses : {X : Type 0} (b : Bool) (fault : LayoutFault) (ends : X) → b ≡ true → Err fault ≡ validated b fault ends
refuses b fault ends h = ap (λ x. validated x fault ends) (sym h)

passes : {X : Type 0} (b : Bool) (fault : LayoutFault) (ends : X) → b ≡ false → Ok ends ≡ validated b fault ends
passes b fault ends h = ap (λ x. validated x fault ends) (sym h)

-- ---- slices

pub slices_err : (first n e i : ℕ) (xs : List Slice) (s : Slice) → i < length xs → s ≡ get_or xs i s → s.at < e
    → slices_validated first 0 xs ≡ slices_validated n e (drop i xs) → Err (Overlap (n - 1) n) ≡ slices_validated first 0 xs
unfolding slices_validated
slices_err first n e i xs s lt is h r =
    sym (r ∙ at_rest (slices_validated n e) xs i s lt is ∙ bind_err (validated (ltb s.at e) (Overlap (n - 1) n) (slice_end s)) (Overlap (n - 1) n) (λ ends. slices_validated (n + 1) ends (drop (i + 1) xs)) (refuses (ltb s.at e) (Overlap (n - 1) n) (slice_end s) (lt-ltb s.at e h)))

pub slices_ok : (first n e i : ℕ) (xs : List Slice) (s : Slice) → i < length xs → s ≡ get_or xs i s → e ≤ s.at
    → slices_validated first 0 xs ≡ slices_validated n e (drop i xs) → slices_validated first 0 xs ≡ slices_validated (n + 1) (slice_end s) (drop (i + 1) xs)
unfolding slices_validated
slices_ok first n e i xs s lt is h r =
    r ∙ at_rest (slices_validated n e) xs i s lt is ∙ bind_ok (validated (ltb s.at e) (Overlap (n - 1) n) (slice_end s)) (slice_end s) (λ ends. slices_validated (n + 1) ends (drop (i + 1) xs)) (passes (ltb s.at e) (Overlap (n - 1) n) (slice_end s) (le-ltb s.at e h))

pub slices_all : (first n e i : ℕ) (xs : List Slice) → length xs ≤ i → slices_validated first 0 xs ≡ slices_validated n e (drop i xs) → Ok e ≡ slices_validated first 0 xs
unfolding slices_validated
slices_all first n e i xs h r = sym (r ∙ at_drop_all (slices_validated n e) xs i h)

-- ---- samplings

pub samplings_err : (first n i : ℕ) (xs : List Run) (x : Run) → i < length xs → x ≡ get_or xs i x → eqb x.sampling 0 ≡ true
    → samplings_validated first xs ≡ samplings_validated n (drop i xs) → Err (ZeroSampling n) ≡ samplings_validated first xs
unfolding samplings_validated
samplings_err first n i xs x lt is h r =
    sym (r ∙ at_rest (samplings_validated n) xs i x lt is ∙ bind_err (validated (eqb x.sampling 0) (ZeroSampling n) (tt {0})) (ZeroSampling n) (λ _. samplings_validated (n + length x.slices.items) (drop (i + 1) xs)) (refuses (eqb x.sampling 0) (ZeroSampling n) (tt {0}) h))

pub samplings_ok : (first n i : ℕ) (xs : List Run) (x : Run) → i < length xs → x ≡ get_or xs i x → eqb x.sampling 0 ≡ false
    → samplings_validated first xs ≡ samplings_validated n (drop i xs) → samplings_validated first xs ≡ samplings_validated (n + length x.slices.items) (drop (i + 1) xs)
unfolding samplings_validated
samplings_ok first n i xs x lt is h r =
    r ∙ at_rest (samplings_validated n) xs i x lt is ∙ bind_ok (validated (eqb x.sampling 0) (ZeroSampling n) (tt {0})) tt (λ _. samplings_validated (n + length x.slices.items) (drop (i + 1) xs)) (passes (eqb x.sampling 0) (ZeroSampling n) (tt {0}) h)

pub samplings_all : (first n i : ℕ) (xs : List Run) → length xs ≤ i → samplings_validated first xs ≡ samplings_validated n (drop i xs) → Ok tt ≡ samplings_validated first xs
unfolding samplings_validated
samplings_all first n i xs h r = sym (r ∙ at_drop_all (samplings_validated n) xs i h)

-- ---- runs

pub runs_err : (w : Box2i) (first n e i : ℕ) (xs : List Run) (x : Run) (f : LayoutFault) → i < length xs → x ≡ get_or xs i x → Err f ≡ run_validated w n e x
    → runs_validated w first 0 xs ≡ runs_validated w n e (drop i xs) → Err f ≡ runs_validated w first 0 xs
unfolding runs_validated
runs_err w first n e i xs x f lt is h r =
    sym (r ∙ at_rest (runs_validated w n e) xs i x lt is ∙ bind_err (run_validated w n e x) f (λ ends. runs_validated w (n + length x.slices.items) ends (drop (i + 1) xs)) h)

pub runs_ok : (w : Box2i) (first n e i ends : ℕ) (xs : List Run) (x : Run) → i < length xs → x ≡ get_or xs i x → Ok ends ≡ run_validated w n e x
    → runs_validated w first 0 xs ≡ runs_validated w n e (drop i xs) → runs_validated w first 0 xs ≡ runs_validated w (n + length x.slices.items) ends (drop (i + 1) xs)
unfolding runs_validated
runs_ok w first n e i ends xs x lt is h r =
    r ∙ at_rest (runs_validated w n e) xs i x lt is ∙ bind_ok (run_validated w n e x) ends (λ ends. runs_validated w (n + length x.slices.items) ends (drop (i + 1) xs)) h

pub runs_all : (w : Box2i) (first n e i : ℕ) (xs : List Run) → length xs ≤ i → runs_validated w first 0 xs ≡ runs_validated w n e (drop i xs) → Ok e ≡ runs_validated w first 0 xs
unfolding runs_validated
runs_all w first n e i xs h r = sym (r ∙ at_drop_all (runs_validated w n e) xs i h)

-- ---- planes

pub planes_err : (w : Box2i) (buffer n e i : ℕ) (xs : List Plane) (x : Plane) (f : LayoutFault) → i < length xs → x ≡ get_or xs i x → Err f ≡ plane_validated w buffer n e x
    → planes_validated w buffer 0 0 xs ≡ planes_validated w buffer n e (drop i xs) → Err f ≡ planes_validated w buffer 0 0 xs
unfolding planes_validated
planes_err w buffer n e i xs x f lt is h r =
    sym (r ∙ at_rest (planes_validated w buffer n e) xs i x lt is ∙ bind_err (plane_validated w buffer n e x) f (λ ends. planes_validated w buffer (n + length (slices_of_plane x)) ends (drop (i + 1) xs)) h)

pub planes_ok : (w : Box2i) (buffer n e i ends : ℕ) (xs : List Plane) (x : Plane) → i < length xs → x ≡ get_or xs i x → Ok ends ≡ plane_validated w buffer n e x
    → planes_validated w buffer 0 0 xs ≡ planes_validated w buffer n e (drop i xs) → planes_validated w buffer 0 0 xs ≡ planes_validated w buffer (n + length (slices_of_plane x)) ends (drop (i + 1) xs)
unfolding planes_validated
planes_ok w buffer n e i ends xs x lt is h r =
    r ∙ at_rest (planes_validated w buffer n e) xs i x lt is ∙ bind_ok (plane_validated w buffer n e x) ends (λ ends. planes_validated w buffer (n + length (slices_of_plane x)) ends (drop (i + 1) xs)) h

pub planes_all : (w : Box2i) (buffer n e i : ℕ) (xs : List Plane) → length xs ≤ i → planes_validated w buffer 0 0 xs ≡ planes_validated w buffer n e (drop i xs) → Ok e ≡ planes_validated w buffer 0 0 xs
unfolding planes_validated
planes_all w buffer n e i xs h r = sym (r ∙ at_drop_all (planes_validated w buffer n e) xs i h)
