use Rattle.std.proofs.Common.{sym, ◌∙◌}
use Rattle.exr_rle.proofs.Laws.{rle_of-broken}
use Rattle.exr_rle.proofs.unpacking.unpack_exactly.Goals as goal

pub returns-then-not-spells : goal.returns-then-not-spells
returns-then-not-spells c = rle_of-broken c.args.packed.now c.args.raw (sym c.spells.ensures ∙ c.if-not-spells.true)
