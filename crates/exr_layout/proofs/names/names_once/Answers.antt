use Rattle.std.proofs.Common.{arith, ◌∙◌, sym, ap}
use Rattle.std.specs.Option.{option_copied}
use Rattle.exr_layout.specs.Validation.{slices_of}
use Rattle.exr_layout.proofs.Listed.{names_err, names_ok, names_within, names_all, none_copied}
use Rattle.exr_layout.proofs.names.names_once.Goals as goal

pub returns-then-first-number : goal.returns-then-first-number
returns-then-first-number c = names_err (slices_of c.args.planes.now) c.loop-slice.number c.place_of-first.result c.in-Some.slice.now (sym c.slice_at.ensures ∙ ap option_copied c.in-Some.is) c.place_of-first.ensures c.if-first-number.true c.loop-slice.invariant.so_far

pub loop-slice-smaller : goal.loop-slice-smaller
loop-slice-smaller c = let w = names_within (slices_of c.args.planes.now) c.loop-slice.number c.in-Some.slice.now (sym c.slice_at.ensures ∙ ap option_copied c.in-Some.is) in omega arith

pub loop-slice-preserved : goal.loop-slice-preserved
loop-slice-preserved c = record {
  so_far = names_ok (slices_of c.args.planes.now) c.loop-slice.number c.place_of-first.result c.in-Some.slice.now (sym c.slice_at.ensures ∙ ap option_copied c.in-Some.is) c.place_of-first.ensures c.if-first-number.false c.loop-slice.invariant.so_far;
  within = let w = names_within (slices_of c.args.planes.now) c.loop-slice.number c.in-Some.slice.now (sym c.slice_at.ensures ∙ ap option_copied c.in-Some.is) in omega arith;
}

pub returns : goal.returns
returns c = names_all (slices_of c.args.planes.now) c.loop-slice.number (sym c.slice_at.ensures ∙ none_copied c.slice_at.result c.in_default.not-Some) c.loop-slice.invariant.so_far
