use Rattle.std.proofs.Common.{◌≡◌, ◌≤◌, ◌^◌, length}
use Rattle.std.proofs.lemmas.Result.{IfOk-weaker}
use Rattle.exr_chunks.specs.Part.{header_of}
use Rattle.exr_chunks.specs.Window.{chunks_of_window}
use Rattle.exr_chunks.proofs.Listing.{window_few}
use Rattle.exr_chunks.proofs.geometry.Geometry.chunks_of.Goals as goal

pub returns-clause-few : goal.returns-clause-few
returns-clause-few c =
    let part = c.part.result.now in
    let is = c.part.ensures.is_part in
    IfOk-weaker c.chunks_of.result (λ chunks. chunks.items ≡ chunks_of_window (header_of part) c.args.window) (λ chunks. length chunks.items ≤ 2 ^ 20)
    (λ chunks list. window_few (header_of part) c.args.window chunks.items part.count part.first list is.count is.few)
    c.chunks_of.ensures
