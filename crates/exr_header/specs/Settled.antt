-- When the first bytes of an input say what is read of the whole of it.
use Rattle.std.specs.Prelude.{◌≡◌, ◌≤◌, ◌^◌, ◌++◌, ℕ, List, length, Err}
use Rattle.exr_attributes.specs.declared.fault.HeaderFault.TheVariants.{Truncated}
use Rattle.exr_header.specs.Head.{head_of}

-- the bytes end too soon: that is what is read of them, and they are no more than the longest head has
pub record IsCutShort (bytes : List ℕ) : Type 0 where
  pub short : length bytes ≤ 2 ^ 24
  pub fault : head_of bytes ≡ Err (Truncated (length bytes))

-- whatever follows the bytes, the same is read
abbrev pub IsSettled : List ℕ → Type 0
IsSettled bytes = (rest : List ℕ) → head_of (bytes ++ rest) ≡ head_of bytes
