use Rattle.std.proofs.Common.{length}
use Rattle.exr_base.specs.Shape.{height_of}
use Rattle.exr_layout.specs.Place.{placements_of}
use Rattle.exr_frame.specs.Buffer.{chunk_byte}
use Rattle.exr_layout.proofs.Matched.{each_matched}
use Rattle.exr_frame.proofs.Lined.{all_put, fills_of_chunk, lines_cover}
use Rattle.exr_frame.proofs.scattering.scatter.Goals as goal

pub fill_slices-requires-clause-places : goal.fill_slices-requires-clause-places
fill_slices-requires-clause-places c = (each_matched c.args.shape.now.channels.now 0 (placements_of c.args.layout.now.planes) c.args.plan.now.channels c.requires.plan.matched).count

pub returns : goal.returns
returns c =
    all_put c.args.layout.now c.args.shape.now.channels.now c.args.plan.now c.args.shape.now.region (height_of c.args.shape.now.region) (chunk_byte c.args.shape.now.channels.now c.args.shape.now.region c.args.raw.now (placements_of c.args.layout.now.planes) c.args.plan.now.channels) c.args.into.now c.put_lines.new.into c.fill_slices.new.into c.planes-valid.ensures.valid c.requires.plan (lines_cover c.args.layout.now c.args.shape.now.region) c.put_lines.ensures
    (fills_of_chunk c.args.layout.now c.args.shape.now.channels.now c.args.shape.now.region c.args.raw.now c.args.plan.now.channels (length (placements_of c.args.layout.now.planes)) c.put_lines.new.into c.fill_slices.new.into c.fill_slices.ensures)
