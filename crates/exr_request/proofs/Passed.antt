-- What a request that is granted says of the head, of the frame and of its plan.
use Rattle.std.proofs.Common.{◌≡◌, ◌≤◌, ◌<◌, ◌^◌, nat_lt, ℕ, zero, suc, Bool, true, false, not, ◌&&◌, IsTrue, List, [], ◌∷◌, length, get_or, Option, Some, None, Result, Ok, Err, refl, sym, ap, ◌∙◌, subst, arith}
use Rattle.std.specs.Prelude.{slice_get}
use Rattle.std.proofs.lemmas.Bool.{ltb-false}
use Rattle.exr_base.specs.Refusal.{◌>>=◌}
use Rattle.exr_judge.specs.declared.header.Header.{Header}
use Rattle.exr_judge.specs.Kind.{is_deep}
use Rattle.exr_header.specs.Head.{Head}
use Rattle.exr_layout.specs.declared.fault.LayoutFault.{LayoutFault}
use Rattle.exr_layout.specs.declared.fault.MatchFault.{MatchFault}
use Rattle.exr_layout.specs.Validation.{Frame, IsValid, frame_validated}
use Rattle.exr_layout.specs.Plan.{part_matched}
use Rattle.exr_request.specs.declared.fault.RequestFault.TheVariants.{DeepWords, Window, TooLarge}
use Rattle.exr_asked.specs.Demand.{Demand}
use Rattle.exr_request.proofs.Alike.{tested_by, tested_is}
use Rattle.exr_request.specs.Request.{window_asked, channels_asked, is_window_of, first_mixed, mixed_refuses, refuses, layout_refuses, match_refuses, part_found, part_tested, part_asked, frame_tested}

-- ---- the part

-- a part that passes: it is the one of that number; the window has pixels, all of them in the data window, and samplings
-- are even
pub record IsReadable (head : Head) (d : Demand) (part : Header) : Type 0 where
  pub there : d.part < length head.parts
  pub here : (e : Header) → get_or head.parts d.part e ≡ part
  pub within : IsTrue (is_window_of part (window_asked d part))
  pub even : first_mixed d.layout (channels_asked d part) ≡ None

found_at : (parts : List Header) (n : ℕ) (part : Header) → slice_get parts n ≡ Some part → (n < length parts) × ((e : Header) → get_or parts n e ≡ part)
found_at [] n part h = absurd (cc)
found_at (p ∷ parts) zero part h = (omega arith, λ e. cc)
found_at (p ∷ parts) (suc n) part h = let r = found_at parts n part h in (omega (arith, r.0), r.1)

all_pass : (words inside : Bool) (mixed : Option ℕ) (h part : Header)
    → (refuses words DeepWords >>= λ x. refuses (not inside) Window >>= λ y. mixed_refuses mixed >>= λ z. Ok h) ≡ Ok part
    → (inside ≡ true) × (mixed ≡ None) × (h ≡ part)
all_pass false true None h part e = (refl, refl, cc)
all_pass false true (Some slice) h part e = absurd (cc)
all_pass false false mixed h part e = absurd (cc)
all_pass true inside mixed h part e = absurd (cc)

found_passes : (d : Demand) (o : Option Header) (part : Header) → (part_found o >>= part_tested d) ≡ Ok part → (o ≡ Some part) × (part_tested d part ≡ Ok part)
found_passes d None part e = absurd (cc)
found_passes d (Some h) part e =
    let p = all_pass (is_deep h.kind && d.arranged) (is_window_of h (window_asked d h)) (first_mixed d.layout (channels_asked d h)) h part e in
    let same : h ≡ part = p.2 in
    (ap Some same, subst (λ (x : Header). part_tested d x ≡ Ok part) same e)

pub readable : (head : Head) (d : Demand) (part : Header) → part_asked head d ≡ Ok part → IsReadable head d part
readable head d part asked =
    let f = found_passes d (slice_get head.parts d.part) part asked in
    let at = found_at head.parts d.part part f.0 in
    let p = all_pass (is_deep part.kind && d.arranged) (is_window_of part (window_asked d part)) (first_mixed d.layout (channels_asked d part)) part part f.1 in
    record { there = at.0; here = at.1; within = p.0; even = p.1 }

-- ---- the frame

-- a frame that passes: a layout of at most 2^30 bytes whose slices match the part's channels
pub record IsMatched (h : Header) (f : Frame) (places : List (Option ℕ)) : Type 0 where
  pub valid : IsValid f
  pub small : f.buffer ≤ 2 ^ 30
  pub matched : part_matched f h ≡ Ok places

record AllPass (judgement : Result ℕ LayoutFault) (buffer : ℕ) (m : Result (List (Option ℕ)) MatchFault) (places : List (Option ℕ)) : Type 0 where
  ends : ℕ
  validated : judgement ≡ Ok ends
  small : nat_lt (2 ^ 30) buffer ≡ false
  matched : m ≡ Ok places

frame_passes : (judgement : Result ℕ LayoutFault) (buffer : ℕ) (large : Bool) (m : Result (List (Option ℕ)) MatchFault) (places : List (Option ℕ)) → nat_lt (2 ^ 30) buffer ≡ large
    → (layout_refuses judgement >>= λ ends. refuses large TooLarge >>= λ small. match_refuses m) ≡ Ok places → AllPass judgement buffer m places
frame_passes (Ok ends) buffer false (Ok found) places is e = record { ends = ends; validated = refl; small = is; matched = cc }
frame_passes (Ok ends) buffer false (Err fault) places is e = absurd (cc)
frame_passes (Ok ends) buffer true m places is e = absurd (cc)
frame_passes (Err fault) buffer large m places is e = absurd (cc)

pub matched : (h : Header) (f : Frame) (places : List (Option ℕ)) → frame_tested h f ≡ Ok places → IsMatched h f places
unfolding tested_by
matched h f places tested =
    let p = frame_passes (frame_validated f) f.buffer (nat_lt (2 ^ 30) f.buffer) (part_matched f h) places refl (sym (tested_is h f) ∙ tested) in
    record { valid = record { ends = p.ends; validated = p.validated }; small = ltb-false (2 ^ 30) f.buffer p.small; matched = p.matched }
