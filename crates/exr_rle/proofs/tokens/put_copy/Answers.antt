use Rattle.std.proofs.Common.{◌≡◌, ◌+◌, ◌-◌, ◌++◌, length, take, drop, ap, ◌∙◌, arith}
use Rattle.std.proofs.lemmas.List.{take-take, length-take, length-drop}
use Rattle.exr_base.proofs.Written.{take_front_put_mid}
use Rattle.exr_rle.proofs.tokens.put_copy.Goals as goal

pub returns-then-into-to-ge32 : goal.returns-then-into-to-ge32
returns-then-into-to-ge32 c =
    let into = c.args.into.now in
    let bytes = c.args.bytes.now in
    let to = c.args.to in
    let from = c.args.from in
    let part = take (from + 32 - from) (drop from bytes) in
    let copied : c.copy_from_slice.new.self ≡ part = c.copy_from_slice.ensures.after in
    let long : length part ≡ 32 = omega (arith, length-take (from + 32 - from) (drop from bytes), length-drop from bytes) in
    take_front_put_mid into c.copy_from_slice.new.self to _ c.args.count (omega arith) (omega (arith, ap length copied))
    ∙ ap (λ back. take to into ++ take c.args.count back) copied
    ∙ ap (λ back. take to into ++ back) (take-take c.args.count (from + 32 - from) (drop from bytes) (omega arith))
