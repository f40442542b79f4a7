use Rattle.exr_layout.proofs.Standing.{place_within, place_once}
use Rattle.exr_layout.proofs.law.each_byte_has_its_place.Goals as goal

pub returns-clause-within : goal.returns-clause-within
returns-clause-within c = place_within c.args.layout.now c.planes-valid.ensures.valid

pub returns-clause-once : goal.returns-clause-once
returns-clause-once c = place_once c.args.layout.now c.planes-valid.ensures.valid
