use Rattle.std.proofs.Common.{arith, ap, ◌∙◌, subst}
use Rattle.exr_rects.specs.Lending.{IsWhole, IsOfSlots, IsSlotsOf}
use Rattle.exr_rects.proofs.lend.with_sheet.Goals as goal

pub returns : goal.returns
returns g c =
    let e = c.with_slots.ensures in let p = e.3.1 in
    let of : IsOfSlots p.0 e.0 = p.2 in let to : IsSlotsOf e.1 p.1 = p.4 in
    let holds = e.2 in let w : IsWhole p.0 = λ k lt. ap (λ ms. lib.ListN.get_or ms k mathlib.Core.Bool.false) of.marks ∙ holds.full k (omega arith) (subst (Prim.Native.Nat.◌<◌ k) of.count lt) in
    (p.0, p.1, record { whole = w; are = of.items ∙ holds.are }, p.3, e.4 ∙ to.items)
