-- Four times the pixels of a region is small.
use Rattle.std.proofs.Common.{◌*◌, ◌^◌, ◌≤◌, ◌<◌, ℕ, arith, rules}
use Rattle.std.proofs.lemmas.Nat.{mul-le}
use Rattle.exr_block.proofs.sizes.table_size.Goals as goal

table_small : (a b : ℕ) → a ≤ 2 ^ 20 → b ≤ 2 ^ 20 → 4 * (a * b) < 2 ^ 64
table_small a b p q = omega (arith, mul-le a b (2 ^ 20) (2 ^ 20) p q)

pub overflow_mul-result : goal.overflow_mul-result
overflow_mul-result c =
    let rows : c.span-rows.result ≤ 2 ^ 20 = search rules in
    let columns : c.span-columns.result ≤ 2 ^ 20 = search rules in
    let small = table_small c.from.result c.from-2.result (omega arith) (omega arith) in
    omega arith

pub overflow_mul-result-2 : goal.overflow_mul-result-2
overflow_mul-result-2 c =
    let rows : c.span-rows.result ≤ 2 ^ 20 = search rules in
    let columns : c.span-columns.result ≤ 2 ^ 20 = search rules in
    let small = table_small c.from.result c.from-2.result (omega arith) (omega arith) in
    omega arith
