use Rattle.std.proofs.lemmas.List.Elements.{All-same}
use Rattle.exr_chunks.specs.Heads.{IsPicture}
use Rattle.exr_chunks.specs.Sizes.{IsMeasured}
use Rattle.exr_chunks.proofs.Few.{head_few}
use Rattle.exr_chunks.proofs.Measured.{head_measured}
use Rattle.exr_chunks.proofs.geometry.Geometry.new.Goals as goal

pub geometry_of-requires : goal.geometry_of-requires
geometry_of-requires c =
    let head = c.parts.ensures.head in
    record {
      measured = All-same IsMeasured c.parts.result.now c.args.head.now.parts c.parts.ensures.value (head_measured c.args.head.now head);
      pictures = All-same IsPicture c.parts.result.now c.args.head.now.parts c.parts.ensures.value c.parts.ensures.pictures;
      few = rw c.parts.ensures.value (head_few c.args.head.now head);
      short = rw c.parts.ensures.value head.spelled.few;
    }

pub returns-clause-measured : goal.returns-clause-measured
returns-clause-measured c = head_measured c.args.head.now c.parts.ensures.head
