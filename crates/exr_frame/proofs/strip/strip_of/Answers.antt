use Rattle.std.proofs.Common.{rules, ap, subst, w32, ℤ, ◌≡◌, ◌∙◌}
use Rattle.std.specs.Int.{int_min, int_max}
use Rattle.std.specs.Prelude.{MatchOption}
use mir.Val.{to_z, of_z}
use Rattle.exr_base.specs.declared.shape.Box2i.{Box2i}
use Rattle.exr_frame.specs.Rows.{HasNone, IsStrip}
use Rattle.exr_frame.proofs.Strips.{none_crossed}
use Rattle.exr_frame.proofs.strip.strip_of.Goals as goal

pub returns-then-high-low : goal.returns-then-high-low
returns-then-high-low c =
    let l : c.max-low.result ≡ int_max c.window-window.result.x0 c.args.region.x0 = search rules in
    let h : c.min-high.result ≡ int_min c.window-window.result.x1 c.args.region.x1 = search rules in
    none_crossed c.args.layout.now c.args.region c.args.number c.args.y c.max-low.result c.min-high.result (l ∙ ap (λ (w : Box2i). int_max w.x0 c.args.region.x0) c.window-window.ensures.value) (h ∙ ap (λ (w : Box2i). int_min w.x1 c.args.region.x1) c.window-window.ensures.value) (search rules)

pub strip_between-requires-clause-low : goal.strip_between-requires-clause-low
strip_between-requires-clause-low c =
    let l : c.max-low.result ≡ int_max c.window-window.result.x0 c.args.region.x0 = search rules in
    let e = l ∙ ap (λ (w : Box2i). int_max w.x0 c.args.region.x0) c.window-window.ensures.value in
    search rules

pub strip_between-requires-clause-high : goal.strip_between-requires-clause-high
strip_between-requires-clause-high c =
    let h : c.min-high.result ≡ int_min c.window-window.result.x1 c.args.region.x1 = search rules in
    let e = h ∙ ap (λ (w : Box2i). int_min w.x1 c.args.region.x1) c.window-window.ensures.value in
    search rules

pub returns : goal.returns
returns c =
    let same : to_z w32 (of_z w32 c.args.y) ≡ c.args.y = search rules in
    subst (λ (y : ℤ). MatchOption c.strip_between.result (HasNone c.args.layout.now c.args.region c.args.number y) (IsStrip c.args.layout.now c.args.region c.args.number y)) same c.strip_between.ensures
