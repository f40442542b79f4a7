use Rattle.std.proofs.Common.{◌≡◌, List, [], ◌∷◌, Ok, subst, refl, ◌++◌, arith}
use Rattle.std.proofs.lemmas.List.Elements.{All-same, All-nil, All-push}
use Rattle.std.proofs.lemmas.List.{reverse-reverse, length-reverse}
use Rattle.exr_judge.specs.Picture.{IsPicture}
use Rattle.std.proofs.lemmas.Result.{err_from_is_err_and}
use Rattle.exr_base.specs.Refusal.{Refuses}
use Rattle.exr_judge.specs.declared.header.Header.{Header}
use Rattle.exr_header.specs.Head.{part_given, parts_given}
use Rattle.exr_header.proofs.Parts.{given_goes_on, given_fails, given_ends, counted_more, AreHeaders-push}
use Rattle.exr_header.proofs.given.parts_given.Goals as goal

pub each-init : goal.each-init
each-init c = record {
  counted = rw c.new-parts.ensures.items refl;
  pictures = All-same IsPicture c.new-parts.result.items [] c.new-parts.ensures.items (All-nil IsPicture);
  headers = rw c.new-parts.ensures.items tt;
  few = omega arith;
  many = rw (c.new-parts.ensures.items, c.reverse.ensures.items) (omega (arith, length-reverse c.args.given.items, c.requires));
  so_far = rw (c.new-parts.ensures.items, c.reverse.ensures.items, reverse-reverse) refl;
}

pub returns-in-None-clause-exact : goal.returns-in-None-clause-exact
returns-in-None-clause-exact c =
    given_ends c.args.flags c.each.parts.items c.each.given.items (parts_given c.args.flags [] c.args.given.items) (omega (arith, c.in-None.ensures.cases.0, c.each.given.ok.0)) c.each.invariant.so_far

pub returns-in_err-part-in-Some-clause-exact : goal.returns-in_err-part-in-Some-clause-exact
returns-in_err-part-in-Some-clause-exact c =
    let p = err_from_is_err_and c.from_residual.result c.from_residual.ensures.1 in
    let fault = subst (λ (before : List Header). Refuses c.in_err-part-in-Some.field-0.0 (part_given c.args.flags before (c.in-Some.kind, c.in-Some.map))) c.as_slice.ensures.value c.in_err-part-in-Some.ensures.exact in
    rw (p.1, p.2) (given_fails c.args.flags c.each.parts.items c.each.given.items c.pop.new.self.items (c.in-Some.kind, c.in-Some.map) c.in_err-part-in-Some.field-0.0 (parts_given c.args.flags [] c.args.given.items) c.in-Some.ensures.items fault c.each.invariant.so_far)

pub each-preserved : goal.each-preserved
each-preserved c =
    let part = subst (λ (before : List Header). part_given c.args.flags before (c.in-Some.kind, c.in-Some.map) ≡ Ok c.in_ok-part-in-Some.part) c.as_slice.ensures.value c.in_ok-part-in-Some.ensures.exact in
    let more = c.in_ok-part-in-Some.ensures.few in
    record {
      counted = rw c.in_ok-push-in-Some.ensures.items (counted_more c.each.parts.items c.in_ok-part-in-Some.part c.each.chunks c.chunk_count-chunks.result c.each.invariant.counted c.chunk_count-chunks.ensures.exact);
      pictures = All-same IsPicture c.push.new.self.items (c.each.parts.items ++ c.in_ok-part-in-Some.part ∷ []) c.in_ok-push-in-Some.ensures.items (All-push IsPicture c.each.parts.items c.in_ok-part-in-Some.part c.each.invariant.pictures c.in_ok-part-in-Some.ensures.picture);
      headers = rw c.in_ok-push-in-Some.ensures.items (AreHeaders-push c.each.parts.items c.in_ok-part-in-Some.part c.each.invariant.headers c.in_ok-part-in-Some.ensures.attributes);
      few = omega (arith, more, c.chunk_count-chunks.ensures.exact);
      many = omega (arith, c.each.invariant.many, c.in_ok-push-in-Some.ensures.len, c.push.new.self.ok.0, c.each.parts.ok.0, c.in-Some.ensures.cases, c.pop.new.self.ok.0, c.each.given.ok.0);
      so_far = rw c.in_ok-push-in-Some.ensures.items (given_goes_on c.args.flags c.each.parts.items c.each.given.items c.pop.new.self.items (c.in-Some.kind, c.in-Some.map) c.in_ok-part-in-Some.part (parts_given c.args.flags [] c.args.given.items) c.in-Some.ensures.items part c.each.invariant.so_far);
    }
