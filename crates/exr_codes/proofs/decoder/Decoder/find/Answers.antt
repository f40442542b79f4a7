use Rattle.std.proofs.Common.{arith}
use Rattle.exr_codes.proofs.Finding.{least_read, below_shorter}
use Rattle.exr_codes.proofs.decoder.Decoder.find.Goals as goal

pub find_from-requires-clause-some : goal.find_from-requires-clause-some
find_from-requires-clause-some c =
    let d = c.self.inside in
    let is = least_read d.lengths.items d.leasts.items c.args.window c.index-least.result.now c.self.invariant.fronts (omega arith) c.index-least.ensures in
    is.some

pub find_from-requires-clause-small : goal.find_from-requires-clause-small
find_from-requires-clause-small c =
    let d = c.self.inside in
    let is = least_read d.lengths.items d.leasts.items c.args.window c.index-least.result.now c.self.invariant.fronts (omega arith) c.index-least.ensures in
    is.small

pub find_from-requires-clause-above : goal.find_from-requires-clause-above
find_from-requires-clause-above c =
    let d = c.self.inside in
    let is = least_read d.lengths.items d.leasts.items c.args.window c.index-least.result.now c.self.invariant.fronts (omega arith) c.index-least.ensures in
    rw (← c.self.view_is) (below_shorter d.lengths.items c.args.window c.index-least.result.now is)
