use Rattle.std.proofs.Common.{ℕ, List, subst, ap, ◌∙◌, sym}
use Rattle.exr_attributes.specs.Entry.{IsFirst, has_name}
use Rattle.exr_attributes.proofs.Entries.{put_is, put_lawful, end_is, end_lawful}
use Rattle.exr_attributes.proofs.map.AttributeMap.set.Goals as goal

pub invariant_of-self : goal.invariant_of-self
invariant_of-self c =
    let first : IsFirst c.args.name c.as_slice.result.now c.in-Some.place = subst (λ (n : List ℕ). IsFirst n c.as_slice.result.now c.in-Some.place) c.bytes.ensures.value c.in-Some.ensures in
    put_lawful c.args.name (record { kind = c.args.attribute.kind; value = c.args.attribute.value }) c.as_slice.result.now c.self.inside.entries.items c.in-Some.place c.index_mut.result.now c.as_slice.ensures.value first c.index_mut.ensures.value c.self.invariant c.bytes.ensures.named c.bytes-kind.ensures.named c.bytes-value.ensures.sized

pub invariant_of-self-in-None : goal.invariant_of-self-in-None
invariant_of-self-in-None c =
    end_lawful c.args.name c.args.attribute c.as_slice.result.now c.self.inside.entries.items c.push.new.self.items c.as_slice.ensures.value (ap (λ (n : List ℕ). has_name n c.as_slice.result.now) (sym c.bytes.ensures.value) ∙ c.in-None.ensures) c.self.invariant c.bytes.ensures.named c.bytes-kind.ensures.named c.bytes-value.ensures.sized c.in_ok-push-in-None.ensures.items

pub returns-in-Some-clause-ok : goal.returns-in-Some-clause-ok
returns-in-Some-clause-ok c =
    let first : IsFirst c.args.name c.as_slice.result.now c.in-Some.place = subst (λ (n : List ℕ). IsFirst n c.as_slice.result.now c.in-Some.place) c.bytes.ensures.value c.in-Some.ensures in
    put_is c.args.name (record { kind = c.args.attribute.kind; value = c.args.attribute.value }) c.as_slice.result.now c.self.inside.entries.items c.args.self.now c.in-Some.place c.index_mut.result.now c.as_slice.ensures.value c.self.view_is first c.index_mut.ensures.value

pub returns-in_ok-push-in-None-clause-ok : goal.returns-in_ok-push-in-None-clause-ok
returns-in_ok-push-in-None-clause-ok c =
    end_is c.args.name c.args.attribute c.as_slice.result.now c.self.inside.entries.items c.args.self.now c.push.new.self.items c.as_slice.ensures.value c.self.view_is (ap (λ (n : List ℕ). has_name n c.as_slice.result.now) (sym c.bytes.ensures.value) ∙ c.in-None.ensures) c.in_ok-push-in-None.ensures.items
