-- A stream of the same file.
use Rattle.std.proofs.Common.{◌≡◌, IsTrue, refl, ◌∙◌}
use Rattle.exr_outside.specs.Source.{SourceMeaning}
use Rattle.exr_stream.specs.Stream.{StreamView, file_of, IsSameStream}

pub file_same : {S : Type 0} (means : SourceMeaning S) (old new : StreamView S) → IsSameStream means old new → IsTrue means.tells → file_of means new ≡ file_of means old
file_same means old new same told =
    let content = same.source.content told in
    let head = same.head in
    let head_bytes = same.head_bytes in
    cc

-- a stream's file is its own
pub same_self : {S : Type 0} (means : SourceMeaning S) (s : StreamView S) → IsSameStream means s s
same_self means s = record { source = record { name = refl; content = λ told. refl }; head = refl; head_bytes = refl }

pub same_still : {S : Type 0} (means : SourceMeaning S) (old now new : StreamView S) → IsSameStream means old now → IsSameStream means now new → IsSameStream means old new
same_still means old now new first second = record {
  source = record {
    name = second.source.name ∙ first.source.name;
    content = λ told. second.source.content told ∙ first.source.content told;
  };
  head = second.head ∙ first.head;
  head_bytes = second.head_bytes ∙ first.head_bytes;
}
