use Rattle.std.proofs.Common.{◌≡◌, ◌*◌, take, map, get_or}
use Rattle.exr_piz.specs.Words.{bytes_from}
use Rattle.exr_piz.proofs.words.put_present.Given as goal

abbrev pub invariant-loop-k : goal.invariant-loop-k
invariant-loop-k l = take (2 * l.k) l.bytes ≡ bytes_from (map (λ r. get_or l.values r 0) (take l.k l.words))
