use Rattle.std.proofs.Common.{rules, ◌≡◌, arith, nat_abs, ◌-ℤ◌}
use Rattle.std.specs.Int.{w32, int_min}
use Rattle.std.proofs.lemmas.Int.{ints, clamps, to_z-of_z}
use mir.Val.{SFits}
use Rattle.exr_image.proofs.Places.{row_rest, window_rest}
use Rattle.exr_image.proofs.pixel.Pixel.pixels_in.Goals as goal

pub distance-requires-clause-ordered : goal.distance-requires-clause-ordered
distance-requires-clause-ordered c =
    let f0 : SFits w32 c.args.self.x = search rules in
    let f1 : SFits w32 c.args.region.x1 = search rules in
    let f2 : SFits w32 c.args.window.x1 = search rules in
    let f3 : SFits w32 c.min.result = search rules in
    let least : c.min.result ≡ int_min c.args.region.x1 c.args.window.x1 = simp to_z-of_z at c.min.ensures.value in
    let a = c.requires.within.right in
    let b = c.requires.right in
    omega (arith, ints, clamps, least, a, b)

pub returns-clause-in_row : goal.returns-clause-in_row
returns-clause-in_row c =
    let f0 : SFits w32 c.args.self.x = search rules in
    let f1 : SFits w32 c.args.region.x1 = search rules in
    let f2 : SFits w32 c.args.window.x1 = search rules in
    let f3 : SFits w32 c.min.result = search rules in
    let least : c.min.result ≡ int_min c.args.region.x1 c.args.window.x1 = simp to_z-of_z at c.min.ensures.value in
    let count : c.distance.result ≡ nat_abs (c.min.result -ℤ c.args.self.x) = simp to_z-of_z at c.distance.ensures in
    row_rest c.args.region.x0 c.args.self.x c.args.region.x1 c.args.window.x1 c.min.result c.distance.result c.requires.within.left c.requires.within.right c.requires.right least count

pub returns-clause-in_window : goal.returns-clause-in_window
returns-clause-in_window c =
    let f0 : SFits w32 c.args.self.x = search rules in
    let f1 : SFits w32 c.args.region.x1 = search rules in
    let f2 : SFits w32 c.args.window.x1 = search rules in
    let f3 : SFits w32 c.min.result = search rules in
    let least : c.min.result ≡ int_min c.args.region.x1 c.args.window.x1 = simp to_z-of_z at c.min.ensures.value in
    let count : c.distance.result ≡ nat_abs (c.min.result -ℤ c.args.self.x) = simp to_z-of_z at c.distance.ensures in
    window_rest c.args.self.x c.args.region.x1 c.args.window.x1 c.min.result c.distance.result c.requires.within.right c.requires.right least count
