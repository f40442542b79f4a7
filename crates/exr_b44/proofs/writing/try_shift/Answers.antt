use Rattle.std.proofs.Common.{◌≡◌, ℕ, ◌<◌, ◌≤◌, List, ◌++◌, length, get_or, sym, ap, ◌∙◌, arith}
use Rattle.std.proofs.lemmas.List.{get_or_read}
use Rattle.exr_b44.specs.Cell.{depths_of}
use Rattle.exr_b44.specs.Lanes.{turned, wrapped_of}
use Rattle.exr_b44.proofs.Depths.{depths_le, length-depths_of, turned_depths, first_turned, sixes_fit, sixes_are, all_below}
use Rattle.exr_b44.proofs.writing.try_shift.Goals as goal

small_depths : (below : List ℕ) (s : ℕ) → ((k : ℕ) → get_or below k 0 < 63488) → (k : ℕ) → get_or (depths_of below s) k 0 ≤ 63487
small_depths below s each = depths_le below s 63487 (λ k. omega (arith, each k))

computed : (near far columns others both : List ℕ) (s : ℕ) → length near ≡ 8 → length far ≡ 8 → columns ≡ depths_of near s → others ≡ depths_of far s
    → both ≡ wrapped_of (turned (columns ++ others)) → both ≡ wrapped_of (depths_of (turned (near ++ far)) s)
computed near far columns others both s long as_long first second is =
    is ∙ ap wrapped_of ((λ i. turned (first i ++ second i)) ∙ turned_depths near far s long as_long)

pub returns-clause-fits : goal.returns-clause-fits
returns-clause-fits c =
    let below = turned (c.args.near ++ c.args.far) in
    let is = computed c.args.near c.args.far c.depths-near.result c.depths-far.result (c.differences.result.0 ++ c.differences.result.1) c.args.shift c.fits-near.0 c.fits-far.0 c.depths-near.ensures c.depths-far.ensures c.differences.ensures in
    c.are_sixes.ensures ∙ sixes_fit (depths_of below c.args.shift) (c.differences.result.0 ++ c.differences.result.1) (small_depths below c.args.shift c.requires.below.each) is

pub returns-clause-differences : goal.returns-clause-differences
returns-clause-differences c fit =
    let below = turned (c.args.near ++ c.args.far) in
    let depths = depths_of below c.args.shift in
    let small = small_depths below c.args.shift c.requires.below.each in
    let both = c.differences.result.0 ++ c.differences.result.1 in
    let is = computed c.args.near c.args.far c.depths-near.result c.depths-far.result both c.args.shift c.fits-near.0 c.fits-far.0 c.depths-near.ensures c.depths-far.ensures c.differences.ensures in
    sixes_are depths both small is (sym (c.are_sixes.ensures ∙ sixes_fit depths both small is) ∙ fit)

pub returns-clause-small : goal.returns-clause-small
returns-clause-small c fit = record { each = all_below (c.differences.result.0 ++ c.differences.result.1) (sym c.are_sixes.ensures ∙ fit) }

pub returns-clause-first : goal.returns-clause-first
returns-clause-first c =
    let near = c.args.near in
    let far = c.args.far in
    let s = c.args.shift in
    let columns = c.depths-near.result in
    let long : length columns ≡ 8 = ap length c.depths-near.ensures ∙ length-depths_of near s ∙ c.fits-near.0 in
    get_or_read columns 0 _ (omega arith) c.index.ensures 0 ∙ sym (first_turned columns c.depths-far.result (omega arith))
    ∙ ap (λ l. get_or l 0 0) ((λ i. turned (c.depths-near.ensures i ++ c.depths-far.ensures i)) ∙ turned_depths near far s c.fits-near.0 c.fits-far.0)
