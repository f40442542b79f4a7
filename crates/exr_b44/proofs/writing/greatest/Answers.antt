use Rattle.std.proofs.Common.{◌∙◌, arith}
use Rattle.std.proofs.lemmas.List.{get_or_read}
use Rattle.exr_b44.proofs.writing.greatest.Goals as goal

pub returns : goal.returns
returns c = get_or_read c.greatest_lane-lanes.result 0 _ (omega (arith, c.greatest_lane-lanes.ensures.long)) c.index.ensures 0 ∙ c.greatest_lane-lanes.ensures.first
