use Rattle.std.proofs.Common.{◌≡◌, take, fold}
use Rattle.exr_bench.specs.Checksum.{with_value}
use Rattle.exr_bench.proofs.checksum.add_all_bytes.Given as goal

abbrev pub invariant-loop-byte : goal.invariant-loop-byte
invariant-loop-byte l = l.sum ≡ fold with_value l.fn.sum (take l.byte-index l.bytes)
