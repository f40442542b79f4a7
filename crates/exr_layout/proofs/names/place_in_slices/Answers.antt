use Rattle.std.proofs.Common.{◌∙◌, sym}
use Rattle.exr_layout.specs.Validation.{has_name}
use Rattle.exr_layout.proofs.Listed.{place_found, place_missing}
use Rattle.exr_layout.proofs.names.place_in_slices.Goals as goal

pub returns-in-Some : goal.returns-in-Some
returns-in-Some c = place_found (has_name c.args.name.now) c.args.slices.now c.in-Some.place (sym c.named.ensures ∙ c.in-Some.is)

pub returns-in-None : goal.returns-in-None
returns-in-None c = place_missing (has_name c.args.name.now) c.args.slices.now (sym c.named.ensures ∙ c.in-None.is)
