use Rattle.std.proofs.Common.{rules, w32, ap₂, ◌∙◌}
use Rattle.std.specs.Int.{int_min, int_max}
use Rattle.std.proofs.lemmas.Int.{to_z-of_z}
use mir.Val.{SFits}
use Rattle.exr_reader.proofs.bands.band_of.Goals as goal

pub returns : goal.returns
returns c =
    let x0 : SFits w32 c.args.window.x0 = search rules in
    let x1 : SFits w32 c.args.window.x1 = search rules in
    let above : SFits w32 c.args.region.y0 = search rules in
    let top : SFits w32 c.args.window.y0 = search rules in
    let below : SFits w32 c.args.region.y1 = search rules in
    let bottom : SFits w32 c.args.window.y1 = search rules in
    let highest : SFits w32 c.max.result = search rules in
    let lowest : SFits w32 c.min.result = search rules in
    record {
      left = to_z-of_z w32 c.args.window.x0 x0;
      right = to_z-of_z w32 c.args.window.x1 x1;
      up =
          to_z-of_z w32 c.max.result highest ∙ c.max.ensures.value
          ∙ ap₂ int_max (to_z-of_z w32 c.args.region.y0 above) (to_z-of_z w32 c.args.window.y0 top);
      down =
          to_z-of_z w32 c.min.result lowest ∙ c.min.ensures.value
          ∙ ap₂ int_min (to_z-of_z w32 c.args.region.y1 below) (to_z-of_z w32 c.args.window.y1 bottom);
    }
