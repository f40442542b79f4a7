use Rattle.std.proofs.Common.{◌≡◌, ◌*◌, rules, ap₂, arith}
use Rattle.std.specs.Int.{w32}
use Rattle.std.proofs.lemmas.Int.{to_z-of_z}
use mir.Val.{SFits}
use Rattle.exr_base.specs.Sampling.{sample_count_of}
use Rattle.exr_chunks.specs.RawBytes.{row_bytes}
use Rattle.exr_chunks.proofs.groups.row_bytes.Goals as goal

pub overflow_mul-result : goal.overflow_mul-result
overflow_mul-result c =
    let w = c.args.window in
    let f0 : SFits w32 w.x0 = search rules in
    let f1 : SFits w32 w.x1 = search rules in
    let samples : c.sample_count-samples.result ≡ sample_count_of c.args.channel.now.xs w.x0 w.x1 = simp to_z-of_z at c.sample_count-samples.ensures in
    let bytes : c.sample_count-samples.result * c.bytes.result ≡ row_bytes w c.args.channel.now = ap₂ (λ m n. m * n) samples c.bytes.ensures in
    omega (arith, bytes, c.requires.small)

pub returns : goal.returns
returns c =
    let w = c.args.window in
    let f0 : SFits w32 w.x0 = search rules in
    let f1 : SFits w32 w.x1 = search rules in
    let samples : c.sample_count-samples.result ≡ sample_count_of c.args.channel.now.xs w.x0 w.x1 = simp to_z-of_z at c.sample_count-samples.ensures in
    ap₂ (λ m n. m * n) samples c.bytes.ensures
