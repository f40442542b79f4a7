use Rattle.std.proofs.Common.{◌≡◌, ◌+◌, ◌-◌, ◌++◌, length, take, drop, replicate, ap, ◌∙◌, arith, rules}
use Rattle.std.proofs.lemmas.List.{take-replicate, length-replicate, length-take, length-drop}
use Rattle.exr_base.proofs.Written.{take_front_put_mid}
use Rattle.exr_rle.proofs.tokens.put_run.Goals as goal

pub returns-then-into-to-ge32 : goal.returns-then-into-to-ge32
returns-then-into-to-ge32 c =
    let into = c.args.into.now in
    let to = c.args.to in
    let part = take (to + 32 - to) (drop to into) in
    let filled : c.fill.new.self ≡ replicate (length part) c.args.byte = c.fill.ensures.after (search rules) in
    let long : length part ≡ 32 = omega (arith, length-take (to + 32 - to) (drop to into), length-drop to into) in
    take_front_put_mid into c.fill.new.self to _ c.args.count (omega arith) (omega (arith, ap length filled, length-replicate (length part) c.args.byte))
    ∙ ap (λ bytes. take to into ++ take c.args.count bytes) filled
    ∙ ap (λ bytes. take to into ++ bytes) (take-replicate c.args.count (length part) c.args.byte (omega arith))
