-- A place in a list of bytes.
use Rattle.std.specs.Prelude.{ℕ, List, drop}

-- the bytes, and how many of them were taken
pub record Position : Type 0 where
  pub whole : List ℕ
  pub at : ℕ

-- the bytes that are left
abbrev pub left_of : Position → List ℕ
left_of p = drop p.at p.whole
