-- The geometry knows the parts of the head.
use Rattle.std.proofs.Common.{ap, ◌∙◌}
use Rattle.exr_chunks.specs.Fields.{chunk_fields}
use Rattle.exr_stream.proofs.Bare.{within, place_by, bytes_by}
use Rattle.exr_stream.proofs.front.Front.expected.Goals as goal

pub place-place-requires-clause-index : goal.place-place-requires-clause-index
place-place-requires-clause-index c =
    within c.args.self.now.geometry c.args.self.now.head.parts c.args.part c.args.index c.requires.front.geometry c.requires.index

pub raw_size-requires-clause-index : goal.raw_size-requires-clause-index
raw_size-requires-clause-index c =
    within c.args.self.now.geometry c.args.self.now.head.parts c.args.part c.args.index c.requires.front.geometry c.requires.index

pub returns-clause-fields : goal.returns-clause-fields
returns-clause-fields c =
    c.in_ok-fields.ensures.exact
    ∙ ap (λ m. chunk_fields m c.args.part c.place-place.result) c.multi.ensures
    ∙ ap (chunk_fields c.args.self.now.head.multi c.args.part) (c.place-place.ensures ∙ place_by c.args.self.now.geometry c.args.self.now.head.parts c.args.part c.args.index c.requires.front.geometry)

pub returns-clause-raw : goal.returns-clause-raw
returns-clause-raw c =
    c.raw_size.ensures.exact ∙ bytes_by c.args.self.now.geometry c.args.self.now.head.parts c.args.part c.args.index c.requires.front.geometry
