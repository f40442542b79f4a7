-- The image of what was granted.
use Rattle.std.proofs.Common.{◌∙◌}
use Rattle.exr_asked.specs.Demand.{demand_of}
use Rattle.exr_image.specs.Bytes.{bytes_in}
use Rattle.exr_tools.proofs.Granting.{deep_ground}
use Rattle.exr_tools.proofs.extract.imaged.Goals as goal

pub read_deep-requires-clause-inside : goal.read_deep-requires-clause-inside
read_deep-requires-clause-inside g c κs within =
    (deep_ground c.args.stream.now.head (demand_of c.args.extraction.now.asked) c.args.window c.requires.granted).inside

pub returns-in_ok-into_pieces-in-Ok-clause-pieces : goal.returns-in_ok-into_pieces-in-Ok-clause-pieces
returns-in_ok-into_pieces-in-Ok-clause-pieces g c = λ told.
    let s = c.args.stream.now in
    let image = c.in-Ok.ensures.image told in
    record {
      from = record {
        head = s.head;
        bytes = s.head_bytes;
        found = c.requires.head told;
        window = c.args.window;
        granted = c.requires.granted;
        chunks = c.in-Ok.ensures.chunks told;
        small = c.in-Ok.ensures.small told;
      };
      image = c.in_ok-into_pieces-in-Ok.ensures ∙ (λ i. bytes_in (image.counts i) (image.samples i));
    }
