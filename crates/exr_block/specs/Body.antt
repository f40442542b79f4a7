-- The data of a chunk, and its raw content, as lists and numbers: bytes, or what a deep chunk has.
use Rattle.std.specs.Prelude.{ℕ, Bool, true, false, List, []}
use Rattle.exr_deep.specs.Body.{DeepBody, DeepContent, body_of as deep_body_of, content_of as deep_content_of}
use Rattle.exr_block.specs.declared.body.Body.{Body}
use Rattle.exr_block.specs.declared.body.Body.TheVariants as body
use Rattle.exr_block.specs.declared.body.Block.{Block}
use Rattle.exr_block.specs.declared.body.Block.TheVariants as block

-- ---- the data of a chunk as it is stored

pub data Stored : Type 0 where
  flat_data : List ℕ → Stored
  deep_data : DeepBody → Stored

abbrev pub is_deep_data : Stored → Bool
is_deep_data (flat_data bytes) = false
is_deep_data (deep_data body) = true

abbrev pub data_of : Body → Stored
data_of (body.Flat bytes) = flat_data bytes.items
data_of (body.Deep packed) = deep_data (deep_body_of packed)

-- ---- its raw content

pub data Content : Type 0 where
  flat_content : List ℕ → Content
  deep_content : DeepContent → Content

abbrev pub is_deep_content : Content → Bool
is_deep_content (flat_content bytes) = false
is_deep_content (deep_content content) = true

-- the bytes of content that is not deep
abbrev pub content_bytes : Content → List ℕ
content_bytes (flat_content bytes) = bytes
content_bytes (deep_content content) = []

abbrev pub content_of : Block → Content
content_of (block.Flat bytes) = flat_content bytes.items
content_of (block.Deep counted) = deep_content (deep_content_of counted)
