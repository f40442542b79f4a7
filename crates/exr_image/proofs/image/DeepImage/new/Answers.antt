use Rattle.std.proofs.Common.{◌≡◌, ℕ, List, [], Vec, Global, vec_len, arith, length, sym, ap, ◌∙◌}
use Rattle.std.proofs.lemmas.List.{length-map, length-replicate}
use Rattle.exr_image.proofs.Joined.{no_rows}
use Rattle.exr_image.proofs.image.DeepImage.new.Goals as goal

pub returns-clause-none : goal.returns-clause-none
returns-clause-none c = λ pixels.
    no_rows c.args.channels.now (record { window = c.args.window; counts = c.new.result; channels = c.in_ok-channels.channels }) pixels c.new.ensures.items c.in_ok-channels.ensures

pub returns-clause-many : goal.returns-clause-many
returns-clause-many c =
    let view : Vec ℕ Global → List ℕ = λ plane. plane.items in
    let planes = c.in_ok-channels.channels in
    let long : vec_len planes ≡ length planes.items = omega (arith, planes.ok.0) in
    long ∙ sym (length-map planes.items view) ∙ ap length c.in_ok-channels.ensures ∙ length-replicate (length c.args.channels.now) []
