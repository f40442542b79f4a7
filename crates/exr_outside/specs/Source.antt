-- What a source of bytes means, and what a read of one piece gives.
use Rattle.std.specs.Prelude.{◌≡◌, ℕ, ◌<◌, ◌≤◌, Bool, IsTrue, List, length, take, drop}

-- the meaning of a type of sources
pub record SourceMeaning (S : Type 0) : Type 0 where
  -- whether the content below is what these sources hold, so that clauses may rest on it; false for files of the system
  pub tells : Bool
  pub name : S → List ℕ
  pub content : S → List ℕ
  -- how often a source has failed
  pub faults : S → ℕ

-- the source kept its name, and its content where that is known
pub record IsSameSource {S : Type 0} (means : SourceMeaning S) (old new : S) : Type 0 where
  pub name : means.name new ≡ means.name old
  pub content : IsTrue means.tells → means.content new ≡ means.content old

-- the first count bytes of new are those of the content from pos on, and the rest is old's; some were read
-- where some were wanted and there are some
pub record ReadsPiece (content : List ℕ) (pos : ℕ) (old new : List ℕ) (count : ℕ) : Type 0 where
  pub bytes : take count new ≡ take count (drop pos content)
  pub within : count ≤ length (drop pos content)
  pub rest : drop count new ≡ drop count old
  pub some : 0 < length old → 0 < length (drop pos content) → 0 < count
