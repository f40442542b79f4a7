use Rattle.std.proofs.Common.{◌≡◌, List, [], ◌∷◌, Ok, length, subst, refl, ◌++◌, arith}
use Rattle.std.proofs.lemmas.List.Elements.{All-same, All-nil, All-push}
use Rattle.exr_judge.specs.Picture.{IsPicture}
use Rattle.std.proofs.lemmas.Result.{err_from_is_err_and}
use Rattle.exr_base.specs.Refusal.{Refuses}
use Rattle.exr_attributes.specs.Reading.{Reads}
use Rattle.exr_judge.specs.declared.header.Header.{Header}
use Rattle.exr_header.specs.Head.{part_read, parts_at}
use Rattle.exr_header.proofs.Parts.{goes_on, ends, fails_header, fails_part, is_last, counted_more, is_zero, is_not_zero, all_same}
use Rattle.exr_header.proofs.reading.parts.Goals as goal

pub loop-i-init : goal.loop-i-init
loop-i-init c = record {
  counted = rw c.new-parts.ensures.items refl;
  pictures = All-same IsPicture c.new-parts.result.items [] c.new-parts.ensures.items (All-nil IsPicture);
  few = omega arith;
  many = rw c.new-parts.ensures.items refl;
  so_far = rw c.new-parts.ensures.items refl;
}

pub returns-in_err-map-clause-exact : goal.returns-in_err-map-clause-exact
returns-in_err-map-clause-exact c =
    let p = err_from_is_err_and c.from_residual.result c.from_residual.ensures.1 in
    rw (p.1, p.2) (fails_header 1024 c.loop-i._i c.args.word c.loop-i.parts.items c.loop-i.from c.in_err-map.field-0.0 (parts_at 1024 c.args.word [] c.args.from.now) c.loop-i-test.true c.in_err-map.ensures.exact c.loop-i.invariant.so_far)

pub returns-then-len-eq0-clause-exact : goal.returns-then-len-eq0-clause-exact
returns-then-len-eq0-clause-exact c =
    ends (λ parts. parts.items) c.some_parts.result 1024 c.loop-i._i c.args.word c.loop-i.parts.items c.loop-i.from c.read_attributes.new.from c.in_ok-map.map (parts_at 1024 c.args.word [] c.args.from.now) c.loop-i-test.true c.in_ok-map.ensures.exact (is_zero c.len.result (length c.in_ok-map.map) c.len.ensures c.if-len-eq0.true) c.some_parts.ensures.exact c.loop-i.invariant.so_far

pub returns-in_err-part-clause-exact : goal.returns-in_err-part-clause-exact
returns-in_err-part-clause-exact c =
    let p = err_from_is_err_and c.from_residual-in_err-part.result c.from_residual-in_err-part.ensures.1 in
    let fault = subst (λ (before : List Header). Refuses c.in_err-part.field-0.0 (part_read c.args.word before c.in_ok-map.map)) c.as_slice.ensures.value c.in_err-part.ensures.exact in
    rw (p.1, p.2) (fails_part 1024 c.loop-i._i c.args.word c.loop-i.parts.items c.loop-i.from c.read_attributes.new.from c.in_ok-map.map c.in_err-part.field-0.0 (parts_at 1024 c.args.word [] c.args.from.now) c.loop-i-test.true c.in_ok-map.ensures.exact (is_not_zero c.len.result (length c.in_ok-map.map) c.len.ensures c.if-len-eq0.false) fault c.loop-i.invariant.so_far)

pub loop-i-preserved : goal.loop-i-preserved
loop-i-preserved c =
    let part = subst (λ (before : List Header). part_read c.args.word before c.in_ok-map.map ≡ Ok c.in_ok-part.part) c.as_slice.ensures.value c.in_ok-part.ensures.exact in
    let more = c.in_ok-part.ensures.few in
    record {
      counted = rw c.in_ok-push.ensures.items (counted_more c.loop-i.parts.items c.in_ok-part.part c.loop-i.chunks c.chunk_count-chunks.result c.loop-i.invariant.counted c.chunk_count-chunks.ensures.exact);
      pictures = All-same IsPicture c.push.new.self.items (c.loop-i.parts.items ++ c.in_ok-part.part ∷ []) c.in_ok-push.ensures.items (All-push IsPicture c.loop-i.parts.items c.in_ok-part.part c.loop-i.invariant.pictures c.in_ok-part.ensures.picture);
      few = omega (arith, more, c.chunk_count-chunks.ensures.exact);
      many = omega (arith, c.loop-i.invariant.many, c.in_ok-push.ensures.len, c.push.new.self.ok.0, c.loop-i.parts.ok.0);
      so_far = rw c.in_ok-push.ensures.items (goes_on 1024 c.loop-i._i c.args.word c.loop-i.parts.items c.loop-i.from c.read_attributes.new.from c.in_ok-map.map c.in_ok-part.part (parts_at 1024 c.args.word [] c.args.from.now) c.loop-i-test.true c.in_ok-map.ensures.exact (is_not_zero c.len.result (length c.in_ok-map.map) c.len.ensures c.if-len-eq0.false) part c.loop-i.invariant.so_far);
    }

pub returns-clause-exact : goal.returns-clause-exact
returns-clause-exact c =
    let last = is_last 1024 c.loop-i._i c.args.word c.loop-i.parts.items c.loop-i.from (parts_at 1024 c.args.word [] c.args.from.now) c.loop-i-test.false c.loop-i.invariant.so_far in
    subst (Reads (λ parts. parts.items) c.last.result c.last.new.from) last c.last.ensures.exact

pub returns-then-len-eq0-clause-pictures : goal.returns-then-len-eq0-clause-pictures
returns-then-len-eq0-clause-pictures c = all_same IsPicture (λ parts. parts.items) c.some_parts.result c.loop-i.parts.items c.some_parts.ensures.same c.loop-i.invariant.pictures

pub returns-clause-pictures : goal.returns-clause-pictures
returns-clause-pictures c = all_same IsPicture (λ parts. parts.items) c.last.result c.loop-i.parts.items c.last.ensures.same c.loop-i.invariant.pictures
