-- What a request is answered is determined by the head and by what is asked: one fault, and either a fault or a frame.
use Rattle.std.proofs.Common.{◌≡◌, true, false, sym, ap, ◌∙◌, subst, inl, inr}
use Rattle.exr_judge.specs.declared.header.Header.{Header}
use Rattle.exr_header.specs.Head.{Head}
use Rattle.exr_layout.specs.Plan.{Matching}
use Rattle.exr_layout.specs.Validation.{Frame}
use Rattle.exr_request.specs.declared.fault.RequestFault.{RequestFault}
use Rattle.exr_base.specs.declared.shape.Box2i.{Box2i}
use Rattle.exr_asked.specs.Demand.{Demand}
use Rattle.exr_request.specs.Request.{window_asked, IsArranged, IsFit, IsUnfit, IsGranted, IsDeepGranted, IsRefused}
use Rattle.exr_request.proofs.Alike.{AreAlike, tested_alike}

-- two frames that are arranged as it is asked for say the same
pub arranged_alike : (d : Demand) (h : Header) (f g : Frame) → IsArranged d h f → IsArranged d h g → AreAlike f g
arranged_alike d h f g a b = record {
  planes = a.planes ∙ sym b.planes;
  window = a.window ∙ sym b.window;
  buffer = a.buffer ∙ sym b.buffer;
}

one_unfit : (d : Demand) (h : Header) (a b : RequestFault) → IsUnfit d h a → IsUnfit d h b → a ≡ b
one_unfit d h a b u v =
    let same = tested_alike h u.frame v.frame (arranged_alike d h u.frame v.frame u.arranged v.arranged) in
    let x = u.tested in
    let y = v.tested in
    cc

not_fit : (d : Demand) (h : Header) (f : Frame) (plan : Matching) (stop : RequestFault) → IsFit d h f plan → IsUnfit d h stop → ⊥
not_fit d h f plan stop fit u =
    let same = tested_alike h f u.frame (arranged_alike d h f u.frame fit.arranged u.arranged) in
    let x = fit.tested in
    let y = u.tested in
    absurd (cc)

pub one_refusal : (head : Head) (d : Demand) (a b : RequestFault) → IsRefused head d a → IsRefused head d b → a ≡ b
one_refusal head d a b (inl x) (inl y) = cc
one_refusal head d a b (inl x) (inr (part, asked, flat, v)) = absurd (cc)
one_refusal head d a b (inr (part, asked, flat, u)) (inl y) = absurd (cc)
one_refusal head d a b (inr (part, asked, flat, u)) (inr (other, also, flat_too, v)) =
    let same : other ≡ part = cc in
    one_unfit d part a b u (subst (λ (h : Header). IsUnfit d h b) same v)

pub not_both : (head : Head) (d : Demand) (f : Frame) (plan : Matching) (stop : RequestFault) → IsGranted head d f plan → IsRefused head d stop → ⊥
not_both head d f plan stop granted (inl x) = let y = granted.asked in absurd (cc)
not_both head d f plan stop granted (inr (part, asked, flat, u)) =
    let also = granted.asked in
    let same : part ≡ granted.part = cc in
    not_fit d granted.part f plan stop granted.fit (subst (λ (h : Header). IsUnfit d h stop) same u)

pub not_both_deep : (head : Head) (d : Demand) (window : Box2i) (fault : RequestFault) → IsDeepGranted head d window → IsRefused head d fault → ⊥
not_both_deep head d window fault granted (inl x) = let y = granted.asked in absurd (cc)
not_both_deep head d window fault granted (inr (part, asked, flat, u)) =
    let also = granted.asked in
    let same : part ≡ granted.part = cc in
    let deep = granted.deep in
    absurd (cc)

-- a part is flat or deep, and not both
pub flat_or_deep : (head : Head) (d : Demand) (f : Frame) (plan : Matching) (window : Box2i) → IsGranted head d f plan → IsDeepGranted head d window → ⊥
flat_or_deep head d f plan window a b =
    let asked = a.asked in
    let also = b.asked in
    let same : b.part ≡ a.part = cc in
    let flat = a.flat in
    let deep = b.deep in
    absurd (cc)

-- one window of a deep part is granted
pub one_window : (head : Head) (d : Demand) (v w : Box2i) → IsDeepGranted head d v → IsDeepGranted head d w → v ≡ w
one_window head d v w a b =
    let asked = a.asked in
    let also = b.asked in
    let same : b.part ≡ a.part = cc in
    a.over ∙ sym (b.over ∙ ap (window_asked d) same)

-- two frames that are granted say the same, and their slices have the same channels
pub granted_alike : (head : Head) (d : Demand) (f g : Frame) (p q : Matching) → IsGranted head d f p → IsGranted head d g q → AreAlike f g × (p.channels ≡ q.channels)
granted_alike head d f g p q a b =
    let asked = a.asked in
    let also = b.asked in
    let same : b.part ≡ a.part = cc in
    let other = subst (λ (h : Header). IsFit d h g q) same b.fit in
    let alike = arranged_alike d a.part f g a.fit.arranged other.arranged in
    let tested = tested_alike a.part f g alike in
    let x = a.fit.tested in
    let y = other.tested in
    (alike, cc)
