use Rattle.std.proofs.Common.{◌≡◌, ◌*◌, subst, ap₂, arith}
use Rattle.exr_base.specs.Refusal.{Gives}
use Rattle.exr_deep.specs.Body.{content_of, body_of}
use Rattle.exr_deep.specs.Deep.{content_in, pixels_of, sample_bytes_of}
use Rattle.exr_base.specs.Shape.{width_of}
use Rattle.exr_deep.proofs.Chain.{fits_if_ok}
use Rattle.exr_deep.proofs.unpacking.unpack_deep.Goals as goal

pub unpack_rows-requires-clause-small : goal.unpack_rows-requires-clause-small
unpack_rows-requires-clause-small c =
    let pixels : c.height_of-rows.result * c.width_of-width.result ≡ pixels_of c.args.shape.now.region = ap₂ ◌*◌ c.height_of-rows.ensures.exact c.width_of-width.ensures.exact in
    omega (arith, c.requires.small)

pub returns-clause-exact : goal.returns-clause-exact
returns-clause-exact c =
    let width = c.width_of-width.ensures.exact in
    let height = c.height_of-rows.ensures.exact in
    let bytes = c.sample_bytes.ensures.exact in
    let same : content_in c.width_of-width.result (c.height_of-rows.result * c.width_of-width.result) c.sample_bytes.result (body_of c.args.body)
    ≡ content_in (width_of c.args.shape.now.region) (pixels_of c.args.shape.now.region) (sample_bytes_of c.args.shape.now.channels.now) (body_of c.args.body)
    = (λ i. content_in (width i) (height i * width i) (bytes i) (body_of c.args.body)) in
    subst (Gives content_of c.unpack_rows.result) same c.unpack_rows.ensures.exact

pub returns-clause-fits : goal.returns-clause-fits
returns-clause-fits c few =
    fits_if_ok c.args.shape.now.channels.now c.args.shape.now.region c.args.body.unpacked _ _ _ c.unpack_rows.result c.width_of-width.ensures.exact (ap₂ ◌*◌ c.height_of-rows.ensures.exact c.width_of-width.ensures.exact) c.sample_bytes.ensures.exact
    c.unpack_rows.ensures.whole c.requires.small few
