use Rattle.std.proofs.Common.{[], ◌∷◌}
use Rattle.std.proofs.lemmas.List.Elements.{All-same, All-nil, All-cons}
use Rattle.exr_judge.specs.Picture.{IsPicture}
use Rattle.exr_header.proofs.Parts.{pushed_alone}
use Rattle.exr_header.proofs.reading.single.Goals as goal

pub returns-clause-pictures : goal.returns-clause-pictures
returns-clause-pictures c =
    All-same IsPicture c.push.new.self.items (c.in_ok-part.part ∷ []) (pushed_alone c.new-parts.result.items c.push.new.self.items c.in_ok-part.part c.new-parts.ensures.items c.in_ok-push.ensures.items) (All-cons IsPicture c.in_ok-part.part [] c.in_ok-part.ensures.picture (All-nil IsPicture))
