use Rattle.std.proofs.Common.{rules, ◌≡◌, ◌≤ℤ◌, arith}
use Rattle.std.specs.Int.{w32, int_min, int_max}
use Rattle.std.proofs.lemmas.Int.{ints, clamps, to_z-of_z}
use mir.Val.{SFits}
use Rattle.exr_base.specs.Sampling.{span_of}
use Rattle.exr_chunks.proofs.Windows.{empty_run, run_is, low_side, high_side}
use Rattle.exr_chunks.proofs.window.pieces_met.Goals as goal

pub returns-then-high-low : goal.returns-then-high-low
returns-then-high-low c =
    let f0 : SFits w32 c.args.from = c.ranges.from in
    let f1 : SFits w32 c.args.to = c.ranges.to in
    let f2 : SFits w32 c.args.window_from = c.ranges.window_from in
    let f3 : SFits w32 c.args.window_to = c.ranges.window_to in
    let f4 : SFits w32 c.max-low.result = search rules in
    let f5 : SFits w32 c.min-high.result = search rules in
    let low : c.max-low.result ≡ int_max c.args.from c.args.window_from = simp to_z-of_z at c.max-low.ensures.value in
    let high : c.min-high.result ≡ int_min c.args.to c.args.window_to = simp to_z-of_z at c.min-high.ensures.value in
    empty_run c.args.from c.args.to c.args.size c.args.window_from c.args.window_to (omega (arith, ints, clamps, low, high, c.if-high-low.true))

pub span-requires : goal.span-requires
span-requires c =
    let f0 : SFits w32 c.args.from = c.ranges.from in
    let f1 : SFits w32 c.args.to = c.ranges.to in
    let f2 : SFits w32 c.args.window_from = c.ranges.window_from in
    let f3 : SFits w32 c.args.window_to = c.ranges.window_to in
    let f4 : SFits w32 c.max-low.result = search rules in
    let f5 : SFits w32 c.min-high.result = search rules in
    let low : c.max-low.result ≡ int_max c.args.from c.args.window_from = simp to_z-of_z at c.max-low.ensures.value in
    let high : c.min-high.result ≡ int_min c.args.to c.args.window_to = simp to_z-of_z at c.min-high.ensures.value in
    let ordered : c.max-low.result ≤ℤ c.min-high.result = omega (arith, ints, c.if-high-low.false) in
    simp to_z-of_z (low_side c.args.from c.args.to c.args.window_from c.args.window_to c.max-low.result c.min-high.result c.requires.side low high ordered)

pub span-requires-2 : goal.span-requires-2
span-requires-2 c =
    let f0 : SFits w32 c.args.from = c.ranges.from in
    let f1 : SFits w32 c.args.to = c.ranges.to in
    let f2 : SFits w32 c.args.window_from = c.ranges.window_from in
    let f3 : SFits w32 c.args.window_to = c.ranges.window_to in
    let f4 : SFits w32 c.max-low.result = search rules in
    let f5 : SFits w32 c.min-high.result = search rules in
    let low : c.max-low.result ≡ int_max c.args.from c.args.window_from = simp to_z-of_z at c.max-low.ensures.value in
    let high : c.min-high.result ≡ int_min c.args.to c.args.window_to = simp to_z-of_z at c.min-high.ensures.value in
    let ordered : c.max-low.result ≤ℤ c.min-high.result = omega (arith, ints, c.if-high-low.false) in
    simp to_z-of_z (high_side c.args.from c.args.to c.args.window_from c.args.window_to c.max-low.result c.min-high.result c.requires.side low high ordered)

pub returns : goal.returns
returns c =
    let f0 : SFits w32 c.args.from = c.ranges.from in
    let f1 : SFits w32 c.args.to = c.ranges.to in
    let f2 : SFits w32 c.args.window_from = c.ranges.window_from in
    let f3 : SFits w32 c.args.window_to = c.ranges.window_to in
    let f4 : SFits w32 c.max-low.result = search rules in
    let f5 : SFits w32 c.min-high.result = search rules in
    let low : c.max-low.result ≡ int_max c.args.from c.args.window_from = simp to_z-of_z at c.max-low.ensures.value in
    let high : c.min-high.result ≡ int_min c.args.to c.args.window_to = simp to_z-of_z at c.min-high.ensures.value in
    let ordered : c.max-low.result ≤ℤ c.min-high.result = omega (arith, ints, c.if-high-low.false) in
    let a : c.span.result ≡ span_of c.args.from c.max-low.result = simp to_z-of_z at c.span.ensures.exact in
    let b : c.span-2.result ≡ span_of c.args.from c.min-high.result = simp to_z-of_z at c.span-2.ensures.exact in
    run_is c.args.from c.args.to c.args.size c.args.window_from c.args.window_to c.max-low.result c.min-high.result c.span.result c.span-2.result c.requires.side c.requires.some low high ordered a b
