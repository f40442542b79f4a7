use Rattle.std.proofs.Common.{◌≡◌, ℕ, List, ◌++◌, Vec, Global, arith, length, map, refl, sym, ap, subst, ◌∙◌}
use Rattle.std.specs.List.{flat_map}
use Rattle.std.specs.Vec.{with_items}
use Rattle.std.proofs.lemmas.List.{length-map, with_items_is}
use Rattle.std.proofs.lemmas.List.Elements.{All-same}
use Rattle.std.proofs.lemmas.Result.{on_ok_weaker}
use Rattle.exr_image.specs.declared.image.DeepImage.{DeepImage}
use Rattle.exr_image.specs.declared.piece.Piece.{Piece}
use Rattle.exr_image.specs.Pixel.{sizes_of}
use Rattle.exr_image.specs.Pieces.{HasCounts, HasSamples, ArePushed, counts_of}
use Rattle.exr_image.proofs.Fitting.{all_counted, all_counts, all_samples}
use Rattle.exr_image.proofs.Joined.{rows_are}
use Rattle.exr_image.proofs.image.DeepImage.push_rows.Goals as goal

pub pieces_of-requires-clause-counted : goal.pieces_of-requires-clause-counted
pieces_of-requires-clause-counted c = all_counted c.args.channels.now c.args.chunks.now c.requires.regions c.requires.fits

pub push_counts-requires : goal.push_counts-requires
push_counts-requires c =
    let counted = all_counted c.args.channels.now c.args.chunks.now c.requires.regions c.requires.fits in
    let are = c.in_ok-pieces.ensures in
    All-same (HasCounts c.args.chunks.now) c.deref.result.now c.in_ok-pieces.pieces.items c.deref.ensures.value (all_counts c.args.rows c.args.chunks.now c.in_ok-pieces.pieces.items counted are.each)

pub push_planes-requires-clause-pieces : goal.push_planes-requires-clause-pieces
push_planes-requires-clause-pieces c = λ n lt.
    let counted = all_counted c.args.channels.now c.args.chunks.now c.requires.regions c.requires.fits in
    let are = c.in_ok-pieces.ensures in
    All-same (HasSamples c.args.chunks.now (sizes_of c.args.channels.now n)) c.deref-2.result.now c.in_ok-pieces.pieces.items c.deref-2.ensures.value
    (all_samples c.args.channels.now c.args.rows c.args.chunks.now c.in_ok-pieces.pieces.items n counted c.requires.fits lt are.each)

pub returns-clause-rows : goal.returns-clause-rows
returns-clause-rows c = on_ok_weaker c.push_planes.result
    (λ pushed pixels n from below has.
    let channels = c.args.channels.now in
    let chunks = c.args.chunks.now in
    let pieces = c.in_ok-pieces.pieces.items in
    let view : Vec ℕ Global → List ℕ = λ plane. plane.items in
    let old = c.args.self.now in
    let planes = with_items old.channels c.push_planes.new.planes in
    let new : DeepImage = record { window = old.window; counts = c.push_counts.new.counts; channels = planes } in
    let counted = all_counted channels chunks c.requires.regions c.requires.fits in
    let long = sym (length-map c.push_planes.new.planes view) ∙ pushed.many ∙ length-map c.as_mut_slice.result.now view ∙ ap length c.as_mut_slice.ensures.value in
    let many : length c.push_planes.new.planes ≡ old.channels.len = omega (arith, long, old.channels.ok.0) in
    rows_are channels c.args.rows n chunks pieces old new pixels counted c.in_ok-pieces.ensures refl
    (c.in_ok-push_counts.ensures ∙ ap (λ (l : List Piece). old.counts.items ++ flat_map (counts_of chunks) l) c.deref.ensures.value)
    (subst (λ (l : List (Vec ℕ Global)). ArePushed channels chunks pieces (map view old.channels.items) (map view l) (length channels)) (sym (with_items_is old.channels c.push_planes.new.planes many))
    (subst (λ (l : List (Vec ℕ Global)). ArePushed channels chunks pieces (map view l) (map view c.push_planes.new.planes) (length channels)) c.as_mut_slice.ensures.value
    (subst (λ (l : List Piece). ArePushed channels chunks l (map view c.as_mut_slice.result.now) (map view c.push_planes.new.planes) (length channels)) c.deref-2.ensures.value pushed)))
    from below has)
    c.push_planes.ensures

pub returns-clause-many : goal.returns-clause-many
returns-clause-many c = on_ok_weaker c.push_planes.result (λ pushed. c.requires.many) c.push_planes.ensures
