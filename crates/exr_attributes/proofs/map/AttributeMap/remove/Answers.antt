use Rattle.std.proofs.Common.{ℕ, List, subst, ap, ◌∙◌, sym}
use Rattle.exr_attributes.specs.Entry.{IsFirst, has_name}
use Rattle.exr_attributes.proofs.Entries.{rest_is, rest_lawful, same_without}
use Rattle.exr_attributes.proofs.map.AttributeMap.remove.Goals as goal

pub invariant_of-self : goal.invariant_of-self
invariant_of-self c =
    rest_lawful c.bytes.result.now c.as_slice.result.now c.self.inside.entries.items c.remove-removed.new.self.items c.in-Some.place c.as_slice.ensures.value c.in-Some.ensures c.self.invariant c.remove-removed.ensures.items

pub returns-in-Some-clause-rest : goal.returns-in-Some-clause-rest
returns-in-Some-clause-rest c =
    let first : IsFirst c.args.name.now c.as_slice.result.now c.in-Some.place = subst (λ (n : List ℕ). IsFirst n c.as_slice.result.now c.in-Some.place) c.bytes.ensures.value c.in-Some.ensures in
    rest_is c.args.name.now c.as_slice.result.now c.self.inside.entries.items c.args.self.now c.remove-removed.new.self.items c.in-Some.place c.as_slice.ensures.value c.self.view_is first c.remove-removed.ensures.items

pub returns-in-None-clause-rest : goal.returns-in-None-clause-rest
returns-in-None-clause-rest c =
    same_without c.args.name.now c.as_slice.result.now c.self.inside.entries.items c.args.self.now c.as_slice.ensures.value c.self.view_is (ap (λ (n : List ℕ). has_name n c.as_slice.result.now) (sym c.bytes.ensures.value) ∙ c.in-None.ensures)
