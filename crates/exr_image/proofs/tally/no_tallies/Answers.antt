use Rattle.std.proofs.Common.{List, ℕ, rules}
use Rattle.std.proofs.lemmas.List.Elements.{All-same, All-replicate}
use Rattle.exr_image.specs.declared.tally.Tally.{Tally}
use Rattle.exr_image.specs.Pieces.{IsTally}
use Rattle.exr_image.proofs.tally.no_tallies.Goals as goal

pub returns-clause-each : goal.returns-clause-each
returns-clause-each c =
    let same = c.in_ok-tallies.ensures.items_if_clones_equal (λ y h. search rules) in
    All-same (λ (tally : Tally). (counts : List ℕ) → IsTally counts tally) _ _ same (All-replicate (λ (tally : Tally). (counts : List ℕ) → IsTally counts tally) c.args.count c.none.result c.none.ensures.tally)
