-- A chunk stands as far from the last row as from the first.
use Rattle.std.proofs.Common.{true, ℕ, ◌<◌, arith}
use Rattle.exr_chunks.specs.declared.part.Part.{Part}
use Rattle.exr_chunks.specs.Part.{IsPart}
use Rattle.exr_chunks.specs.Turns.{mirrored}
use Rattle.exr_chunks.proofs.Parts.{cut, product}
use Rattle.exr_chunks.proofs.Orders.{mirrored_within}
use Rattle.exr_chunks.proofs.part.Part.mirrored.Goals as goal

pub nonzero_div-result : goal.nonzero_div-result
nonzero_div-result c = (cut c.args.self.now c.args.index c.requires.part c.requires.within).across

pub nonzero_rem-result : goal.nonzero_rem-result
nonzero_rem-result c = (cut c.args.self.now c.args.index c.requires.part c.requires.within).across

pub overflow_sub-result : goal.overflow_sub-result
overflow_sub-result c =
    let above = (cut c.args.self.now c.args.index c.requires.part c.requires.within).above in
    omega (arith, above)

pub overflow_sub-result-then-is_falling : goal.overflow_sub-result-then-is_falling
overflow_sub-result-then-is_falling c =
    let above = (cut c.args.self.now c.args.index c.requires.part c.requires.within).above in
    omega (arith, above)

-- the position of a chunk is one of the part's
falling_within : (p : Part) (i : ℕ) → IsPart p → i < p.count → mirrored true p.across p.down i < p.count
falling_within p i part within =
    let all = product p part in
    let m = mirrored_within true p.across p.down i (cut p i part within).across (omega (arith, all, within)) in
    omega (arith, m, all)

pub overflow_mul-result : goal.overflow_mul-result
overflow_mul-result c = omega (arith, falling_within c.args.self.now c.args.index c.requires.part c.requires.within, c.requires.part.few)

pub overflow_add-result : goal.overflow_add-result
overflow_add-result c = omega (arith, falling_within c.args.self.now c.args.index c.requires.part c.requires.within, c.requires.part.few)

pub returns-then-is_falling-clause-within : goal.returns-then-is_falling-clause-within
returns-then-is_falling-clause-within c = falling_within c.args.self.now c.args.index c.requires.part c.requires.within
