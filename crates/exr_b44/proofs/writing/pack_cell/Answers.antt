use Rattle.std.proofs.Common.{◌≡◌, ℕ, ◌<◌, ◌≤◌, false, eqb, ◌&&◌, [], ◌∷◌, ◌++◌, length, get_or, take, sym, ap, subst, ◌∙◌, arith}
use Rattle.std.specs.List.{list_all}
use Rattle.std.proofs.lemmas.Bool.{and_left, and_right}
use Rattle.std.proofs.lemmas.List.{get_or_read, length-map}
use Rattle.exr_b44.specs.Cell.{ordered, bytes_of_sixes}
use Rattle.exr_b44.proofs.Depths.{greatest_le, below_small}
use Rattle.exr_b44.proofs.Written.{numbers_at, cell_at, flat_bytes, first_number, long_cell_bytes, small_front, small_back, numbers_low, numbers_high, most_within, length-first, length-second}
use Rattle.exr_b44.proofs.writing.pack_cell.Goals as goal
use Rattle.exr_b44.proofs.writing.pack_cell.Goals.{else-flat-via-then-flat+else-are_level, else-flat-via-else-flat}

pub below-requires : goal.below-requires
below-requires c k = let most = most_within (c.numbers-top.result ++ c.numbers-bottom.result) k in omega (arith, c.greatest-most.ensures)

pub least_shift-shift-requires : goal.least_shift-shift-requires
least_shift-shift-requires c =
    let top = c.numbers-top.result in
    let bottom = c.numbers-bottom.result in
    let long : length top ≡ 8 = ap length c.numbers-top.ensures.exact ∙ length-map c.words.result ordered ∙ ap length c.words.ensures ∙ length-first c.args.cell.now c.requires.whole in
    let as_long : length bottom ≡ 8 = ap length c.numbers-bottom.ensures.exact ∙ length-map c.words-2.result ordered ∙ ap length c.words-2.ensures ∙ length-second c.args.cell.now c.requires.whole in
    let high : c.greatest-most.result ≤ 64511 = omega (arith, c.greatest-most.ensures, greatest_le (top ++ bottom) 64511 (numbers_high top bottom long c.numbers-top.ensures.high c.numbers-bottom.ensures.high)) in
    record {
      each = λ k. subst (λ l. get_or l k 0 < 63488) (sym c.below.ensures)
          (below_small (top ++ bottom) c.greatest-most.result high (numbers_low top bottom long as_long c.numbers-top.ensures.low c.numbers-bottom.ensures.low) k);
    }

pub returns-then-are_level-clause-cell : goal.returns-then-are_level-clause-cell
returns-then-are_level-clause-cell c =
    let cell = c.args.cell.now in
    let top = c.numbers-top.result in
    let columns = c.below.result.0 ++ c.below.result.1 in
    let found = c.least_shift-shift in
    let both = found.result.1.near ++ found.result.1.far in
    let at = numbers_at cell c.words.result c.words-2.result top c.numbers-bottom.result columns c.greatest-most.result c.requires.whole c.words.ensures c.words-2.ensures c.numbers-top.ensures.exact c.numbers-bottom.ensures.exact c.greatest-most.ensures c.below.ensures in
    let is = cell_at cell top c.numbers-bottom.result columns both c.greatest-most.result found.result.0 found.result.1.first at found.ensures.least found.ensures.first found.ensures.differences in
    c.put_flat.ensures
    ∙ ap (λ l. take c.args.to c.args.into.now ++ l) (flat_bytes cell top c.numbers-bottom.result columns both c.greatest-most.result found.result.0 found.result.1.first c.index.result.now c.args.flat at is
    c.if-flat.true (sym c.are_level.ensures ∙ c.if-are_level.true) (get_or_read top 0 _ (omega (arith, at.long)) c.index.ensures 0))

pub sixes-requires-clause-near : goal.sixes-requires-clause-near
sixes-requires-clause-near c =
    let near = c.least_shift-shift.result.1.near in
    let far = c.least_shift-shift.result.1.far in
    record { each = λ k. subst (λ l. get_or l k 0 < 64) (sym c.with_shift.ensures.exact) (small_front near far c.least_shift-shift.result.0 c.with_shift.ensures.lanes c.least_shift-shift.ensures.few c.least_shift-shift.ensures.small.each k) }

pub sixes-requires-clause-far : goal.sixes-requires-clause-far
sixes-requires-clause-far c =
    let near = c.least_shift-shift.result.1.near in
    let far = c.least_shift-shift.result.1.far in
    record { each = small_back near far c.with_shift.ensures.lanes c.least_shift-shift.ensures.small.each }

pub returns-clause-cell : goal.returns-clause-cell
returns-clause-cell c =
    let cell = c.args.cell.now in
    let top = c.numbers-top.result in
    let columns = c.below.result.0 ++ c.below.result.1 in
    let found = c.least_shift-shift in
    let near = found.result.1.near in
    let far = found.result.1.far in
    let shift = found.result.0 in
    let first = found.result.1.first in
    let most = c.greatest-most.result in
    let at = numbers_at cell c.words.result c.words-2.result top c.numbers-bottom.result columns most c.requires.whole c.words.ensures c.words-2.ensures c.numbers-top.ensures.exact c.numbers-bottom.ensures.exact c.greatest-most.ensures c.below.ensures in
    let is = cell_at cell top c.numbers-bottom.result columns (near ++ far) most shift first at found.ensures.least found.ensures.first found.ensures.differences in
    let high : most < 65536 = omega (arith, c.greatest-most.ensures, greatest_le (top ++ c.numbers-bottom.result) 64511 (numbers_high top c.numbers-bottom.result at.long c.numbers-top.ensures.high c.numbers-bottom.ensures.high)) in
    let level = list_all (λ (d : ℕ). eqb d 32) (near ++ far) in
    let other : (c.args.flat && level) ≡ false = elim c.else-flat.branch [
      | else-flat-via-then-flat+else-are_level w ↦ and_right c.args.flat level (sym w.are_level.ensures ∙ w.if-are_level.false)
      | else-flat-via-else-flat w ↦ and_left c.args.flat level w.if-flat.false
    ] in
    c.put_long.ensures
    ∙ ap (λ l. take c.args.to c.args.into.now ++ l) (long_cell_bytes cell top c.numbers-bottom.result columns near far c.sixes.result most shift first _ c.args.flat at is other
    (first_number cell top c.numbers-bottom.result columns (near ++ far) most shift first at is found.ensures.few high)
    c.with_shift.ensures.lanes c.sixes.ensures.lanes (c.sixes.ensures.exact ∙ ap (λ l. bytes_of_sixes (l ++ far) ++ 0 ∷ 0 ∷ 0 ∷ 0 ∷ []) c.with_shift.ensures.exact))
