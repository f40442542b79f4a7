use Rattle.std.proofs.Common.{◌≡◌, ℕ, ◌*◌, length, Ok, IfOk, sym, subst, ap, ap₂, ◌∙◌, arith}
use Rattle.exr_base.specs.Shape.{width_of}
use Rattle.exr_deep.specs.Body.{content_of, body_of}
use Rattle.exr_deep.specs.Deep.{content_in, body_for, are_ints, pixels_of, sample_bytes_of}
use Rattle.exr_deep.specs.Steps.{IsWhole}
use Rattle.exr_deep.proofs.Chain.{fits_whole, content_again}
use Rattle.exr_deep.proofs.packing.pack_deep.Goals as goal

pub pack_rows-requires-clause-pixels : goal.pack_rows-requires-clause-pixels
pack_rows-requires-clause-pixels c =
    let is = fits_whole c.args.shape.now.channels.now c.args.shape.now.region (content_of c.args.block.now) c.requires.fits in
    is.whole.long ∙ sym (ap₂ ◌*◌ c.height_of-rows.ensures.exact c.width_of-width.ensures.exact)

pub pack_rows-requires-clause-small : goal.pack_rows-requires-clause-small
pack_rows-requires-clause-small c =
    let is = fits_whole c.args.shape.now.channels.now c.args.shape.now.region (content_of c.args.block.now) c.requires.fits in
    let pixels : c.height_of-rows.result * c.width_of-width.result ≡ pixels_of c.args.shape.now.region = ap₂ ◌*◌ c.height_of-rows.ensures.exact c.width_of-width.ensures.exact in
    omega (arith, is.small)

pub pack_rows-requires-clause-ints : goal.pack_rows-requires-clause-ints
pack_rows-requires-clause-ints c =
    let is = fits_whole c.args.shape.now.channels.now c.args.shape.now.region (content_of c.args.block.now) c.requires.fits in
    ap (λ w. are_ints w c.args.block.now.counts.items) c.width_of-width.ensures.exact ∙ is.whole.ints

pub returns-clause-exact : goal.returns-clause-exact
returns-clause-exact c =
    subst (λ (w : ℕ). IfOk c.pack_rows.result (λ body. body_of body ≡ body_for c.args.method w (content_of c.args.block.now))) c.width_of-width.ensures.exact c.pack_rows.ensures.exact

pub returns-clause-restores : goal.returns-clause-restores
returns-clause-restores c =
    let region = c.args.shape.now.region in
    let channels = c.args.shape.now.channels.now in
    let content = content_of c.args.block.now in
    let width = c.width_of-width.ensures.exact in
    let height = c.height_of-rows.ensures.exact in
    let is = fits_whole channels region content c.requires.fits in
    let pixels : c.height_of-rows.result * c.width_of-width.result ≡ pixels_of region = ap₂ ◌*◌ height width in
    let whole : IsWhole c.width_of-width.result (c.height_of-rows.result * c.width_of-width.result) (sample_bytes_of channels) (length content.samples) content =
    subst (λ (w : ℕ). IsWhole w (c.height_of-rows.result * c.width_of-width.result) (sample_bytes_of channels) (length content.samples) content) (sym width)
    (subst (λ (p : ℕ). IsWhole (width_of region) p (sample_bytes_of channels) (length content.samples) content) (sym pixels) is.whole) in
    subst (λ (w : ℕ). IfOk c.pack_rows.result (λ body. content_in w (pixels_of region) (sample_bytes_of channels) (body_of body) ≡ Ok content)) width
    (subst (λ (p : ℕ). IfOk c.pack_rows.result (λ body. content_in c.width_of-width.result p (sample_bytes_of channels) (body_of body) ≡ Ok content)) pixels
    (content_again c.args.method c.width_of-width.result c.height_of-rows.result (sample_bytes_of channels) content c.pack_rows.result whole c.pack_rows.ensures.exact c.pack_rows.ensures.table c.pack_rows.ensures.samples))
