use Rattle.std.proofs.Common.{◌≡◌, ◌*◌, true, false, length, vec_len, sym, ap, ap₂, ◌∙◌, arith}
use Rattle.std.specs.List.{sum}
use Rattle.exr_base.specs.Shape.{width_of}
use Rattle.exr_deep.specs.Body.{content_of}
use Rattle.exr_deep.specs.Deep.{are_ints, pixels_of, samples_size_of}
use Rattle.exr_deep.proofs.Fitting.{not_counts, not_ints_fit, fits_by_sizes, same_sizes}
use Rattle.exr_deep.proofs.sizes.fits.Goals as goal

pub returns-then-len-rows : goal.returns-then-len-rows
returns-then-len-rows c =
    let region = c.args.shape.now.region in
    let pixels : c.height_of-rows.result * c.width_of-width.result ≡ pixels_of region = ap₂ ◌*◌ c.height_of-rows.ensures.exact c.width_of-width.ensures.exact in
    sym (not_counts c.args.shape.now.channels.now region (content_of c.args.block.now) (λ same. omega arith))

pub returns-in-None : goal.returns-in-None
returns-in-None c =
    let region = c.args.shape.now.region in
    let counts = c.args.block.now.counts.items in
    let pixels : c.height_of-rows.result * c.width_of-width.result ≡ pixels_of region = ap₂ ◌*◌ c.height_of-rows.ensures.exact c.width_of-width.ensures.exact in
    let long : length counts ≡ pixels_of region = omega arith in
    let are : are_ints (width_of region) counts ≡ false = ap (λ w. are_ints w counts) (sym c.width_of-width.ensures.exact) ∙ ap (are_ints c.width_of-width.result) (sym c.deref.ensures.value) ∙ c.in-None.ensures.ints in
    sym (not_ints_fit c.args.shape.now.channels.now region (content_of c.args.block.now) long are)

pub returns-in-Some : goal.returns-in-Some
returns-in-Some c =
    let region = c.args.shape.now.region in
    let counts = c.args.block.now.counts.items in
    let pixels : c.height_of-rows.result * c.width_of-width.result ≡ pixels_of region = ap₂ ◌*◌ c.height_of-rows.ensures.exact c.width_of-width.ensures.exact in
    let long : length counts ≡ pixels_of region = omega arith in
    let are : are_ints (width_of region) counts ≡ true = ap (λ w. are_ints w counts) (sym c.width_of-width.ensures.exact) ∙ ap (are_ints c.width_of-width.result) (sym c.deref.ensures.value) ∙ c.in-Some.ensures.ints in
    let size : c.in-Some.samples * c.sample_bytes.result ≡ samples_size_of c.args.shape.now.channels.now counts =
    ap₂ ◌*◌ (c.in-Some.ensures.samples ∙ ap sum c.deref.ensures.value) c.sample_bytes.ensures.exact in
    let said : vec_len c.args.block.now.samples ≡ length c.args.block.now.samples.items = omega (arith, c.args.block.now.samples.ok.0) in
    c.are_sizes.ensures
    ∙ same_sizes pixels (c.len-in-Some.ensures ∙ said) size
    ∙ sym (fits_by_sizes c.args.shape.now.channels.now region (content_of c.args.block.now) long are)
