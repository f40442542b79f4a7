use Rattle.std.proofs.Common.{◌≡◌, ◌≤◌, ◌^◌, [], Ok, length, subst, ap, ◌∙◌, arith}
use Rattle.exr_judge.specs.declared.kind.Flags.{Flags}
use Rattle.exr_header.specs.Head.{head_from, head_spelling, flags_given, parts_given}
use Rattle.exr_header.proofs.Rewritten.{given_spelled}
use Rattle.exr_header.proofs.head.FileHead.new.Goals as goal

pub invariant_of-result : goal.invariant_of-result
invariant_of-result c =
    let gs = c.args.parts.items in
    let parts = c.in_ok-parts.parts.items in
    let given = subst (λ (flags : Flags). parts_given flags [] gs ≡ Ok parts) (c.flags_given-flags.ensures ∙ ap (flags_given c.args.multi) c.as_slice.ensures.value) c.in_ok-parts.ensures.exact in
    let few : length gs ≤ 1024 = omega arith in
    let text = c.in_ok-bytes.bytes.items in
    let low : length text ≤ 2 ^ 24 = omega (arith, c.in_ok-bytes.bytes.ok.0) in
    let written : text ≡ head_spelling (head_from c.args.multi parts) = c.in_ok-bytes.ensures ∙ ap (λ l. head_spelling (head_from c.args.multi l)) c.as_slice-2.ensures.value in
    let short = subst (λ l. length l ≤ 2 ^ 24) written low in
    record {
      pictures = c.in_ok-parts.ensures.pictures;
      spelled = given_spelled c.args.multi gs parts c.requires.some c.requires.one few given c.in_ok-parts.ensures.headers short;
    }
