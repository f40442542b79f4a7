use Rattle.std.proofs.Common.{[], ◌≡◌, ℕ, ◌<◌, List, length, string_bytes, refl, arith, rules}
use Rattle.exr_outside.specs.Fakes.{named_files, bytes_under}
use Rattle.exr_outside.proofs.Found.{named_files-at, named_files-more, length-named_files}
use Rattle.exr_outside.proofs.mem_files.are_of_one_world.Goals as goal

pub returns-then-not-is_found : goal.returns-then-not-is_found
returns-then-not-is_found c = (
  λ never. cc,
  λ are.
      let files = c.args.files.now in
      let i = c.loop-name.name-index in
      let file = c.loop-name-item.result in
      let d : List ℕ × List ℕ = ([], []) in
      let below : i < length (named_files files) = omega (arith, c.loop-name-test.true, length-named_files files) in
      let right = rw (named_files-at files i file d c.loop-name-test.true c.loop-name-item.is) at (are i d below) in
      c.if-not-is_found.ensures.1 (search rules),
)

pub loop-name-preserved : goal.loop-name-preserved
loop-name-preserved c =
    let files = c.args.files.now in
    let file = c.loop-name-item.result in
    let right : file.1.items ≡ bytes_under (named_files files) (string_bytes file.0) = search rules in
    named_files-more (bytes_under (named_files files)) (named_files files) c.loop-name.name-index (string_bytes file.0, file.1.items) c.loop-name.invariant
    (λ d. named_files-at files c.loop-name.name-index file d c.loop-name-test.true c.loop-name-item.is) right

pub returns : goal.returns
returns c = (λ _. λ k d below. c.loop-name.invariant k d (omega (arith, length-named_files c.args.files.now)), λ _. refl)
