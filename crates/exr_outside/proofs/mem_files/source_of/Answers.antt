use Rattle.std.proofs.Common.{◌≡◌, Some, rules}
use Rattle.exr_outside.specs.Fakes.{named_files, file_of}
use Rattle.exr_outside.proofs.mem_files.source_of.Goals as goal

pub returns-clause-fails : goal.returns-clause-fails
returns-clause-fails c = λ none.
    let found : file_of (named_files c.args.files.now) c.args.name.now ≡ Some c.in_ok-new.field-0.bytes = search rules in
    let gone = rw found at none in
    cc
