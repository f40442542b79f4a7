use Rattle.std.proofs.Common.{arith, rules, ap, ◌≡◌, ◌∙◌}
use Rattle.exr_base.specs.declared.shape.Box2i.{Box2i}
use Rattle.exr_base.specs.Sampling.{count_before}
use Rattle.exr_frame.proofs.Strips.{columns_sampled, low_near, low_behind, none_between, numbers_fit, strip_is}
use Rattle.exr_frame.proofs.strip.strip_between.Goals as goal

pub sample_count-samples-requires-clause-sampling : goal.sample_count-samples-requires-clause-sampling
sample_count-samples-requires-clause-sampling c = (columns_sampled c.args.layout.now c.args.number c.args.placement.now c.window-window.ensures.valid c.requires.line.slice c.requires.placement).columns

pub sample_count-samples-requires-clause-from_low : goal.sample_count-samples-requires-clause-from_low
sample_count-samples-requires-clause-from_low c =
    let near = low_near c.args.layout.now.window.x0 c.args.region.x0 c.args.low c.requires.low c.window-window.ensures.frame.region.columns.low in
    search rules

pub returns-then-samples-eq0 : goal.returns-then-samples-eq0
returns-then-samples-eq0 c = none_between c.args.layout.now c.args.region c.args.number c.args.y c.args.low c.args.high c.args.placement.now c.sample_count-samples.result c.requires.placement c.requires.low c.requires.high (search rules) c.if-samples-eq0.true

pub count_before-line-requires-clause-sampling : goal.count_before-line-requires-clause-sampling
count_before-line-requires-clause-sampling c = (columns_sampled c.args.layout.now c.args.number c.args.placement.now c.window-window.ensures.valid c.requires.line.slice c.requires.placement).rows

pub count_before-column-requires-clause-sampling : goal.count_before-column-requires-clause-sampling
count_before-column-requires-clause-sampling c = (columns_sampled c.args.layout.now c.args.number c.args.placement.now c.window-window.ensures.valid c.requires.line.slice c.requires.placement).columns

pub place-requires : goal.place-requires
place-requires c = numbers_fit c.args.layout.now c.args.region c.args.number c.args.y c.args.low c.args.high c.args.placement.now c.sample_count-samples.result c.count_before-line.result c.count_before-column.result c.window-window.ensures.frame c.window-window.ensures.valid c.requires.line c.requires.placement c.requires.low c.requires.high c.requires.ordered (search rules) (search arith) (let e : c.count_before-line.result ≡ count_before c.args.placement.now.row_sampling c.window-window.result.y0 c.args.y = search rules in e ∙ ap (λ (w : Box2i). count_before c.args.placement.now.row_sampling w.y0 c.args.y) c.window-window.ensures.value) (let e : c.count_before-column.result ≡ count_before c.args.placement.now.sampling c.window-window.result.x0 c.args.low = search rules in e ∙ ap (λ (w : Box2i). count_before c.args.placement.now.sampling w.x0 c.args.low) c.window-window.ensures.value)

pub count_before-requires-clause-sampling : goal.count_before-requires-clause-sampling
count_before-requires-clause-sampling c = (columns_sampled c.args.layout.now c.args.number c.args.placement.now c.window-window.ensures.valid c.requires.line.slice c.requires.placement).columns

pub count_before-requires-clause-ordered : goal.count_before-requires-clause-ordered
count_before-requires-clause-ordered c =
    let b = low_behind c.args.layout.now.window.x0 c.args.region.x0 c.args.low c.requires.low in
    search rules

pub returns : goal.returns
returns c = strip_is c.args.layout.now c.args.region c.args.number c.args.y c.args.low c.args.high c.args.placement.now c.sample_count-samples.result c.count_before-line.result c.count_before-column.result c.place.result c.count_before.result c.window-window.ensures.frame c.window-window.ensures.valid c.requires.line c.requires.placement c.requires.low c.requires.high c.requires.ordered (search rules) (search arith) (let e : c.count_before-line.result ≡ count_before c.args.placement.now.row_sampling c.window-window.result.y0 c.args.y = search rules in e ∙ ap (λ (w : Box2i). count_before c.args.placement.now.row_sampling w.y0 c.args.y) c.window-window.ensures.value) (let e : c.count_before-column.result ≡ count_before c.args.placement.now.sampling c.window-window.result.x0 c.args.low = search rules in e ∙ ap (λ (w : Box2i). count_before c.args.placement.now.sampling w.x0 c.args.low) c.window-window.ensures.value) c.place.ensures (search rules)
