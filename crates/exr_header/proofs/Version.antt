-- The bits of the version word that a writer puts.
use Rattle.std.proofs.Common.{◌≡◌, ℕ, ◌+◌, Bool, true, false, ◌&&◌, refl}
use Rattle.std.specs.Prelude.{not}
use Rattle.std.specs.List.{list_any}
use Rattle.exr_judge.specs.Kind.{is_deep}
use Rattle.exr_header.specs.Head.{Head, is_version, has_bit, is_long_header, is_tiled_kind, bit_of, version_of}

-- a word of version 2 has these bits
pub record HasBits (tiled deep multi : Bool) (word : ℕ) : Type 0 where
  pub version : is_version word ≡ true
  pub tiled_is : has_bit 512 word ≡ tiled
  pub deep_is : has_bit 2048 word ≡ deep
  pub multi_is : has_bit 4096 word ≡ multi

abbrev word_of_bits : Bool → Bool → Bool → Bool → ℕ
word_of_bits tiled long deep multi = 2 + bit_of tiled 512 + bit_of long 1024 + bit_of deep 2048 + bit_of multi 4096

has_bits : (tiled long deep multi : Bool) → HasBits tiled deep multi (word_of_bits tiled long deep multi)
has_bits true true true true = record { version = refl; tiled_is = refl; deep_is = refl; multi_is = refl }
has_bits true true true false = record { version = refl; tiled_is = refl; deep_is = refl; multi_is = refl }
has_bits true true false true = record { version = refl; tiled_is = refl; deep_is = refl; multi_is = refl }
has_bits true true false false = record { version = refl; tiled_is = refl; deep_is = refl; multi_is = refl }
has_bits true false true true = record { version = refl; tiled_is = refl; deep_is = refl; multi_is = refl }
has_bits true false true false = record { version = refl; tiled_is = refl; deep_is = refl; multi_is = refl }
has_bits true false false true = record { version = refl; tiled_is = refl; deep_is = refl; multi_is = refl }
has_bits true false false false = record { version = refl; tiled_is = refl; deep_is = refl; multi_is = refl }
has_bits false true true true = record { version = refl; tiled_is = refl; deep_is = refl; multi_is = refl }
has_bits false true true false = record { version = refl; tiled_is = refl; deep_is = refl; multi_is = refl }
has_bits false true false true = record { version = refl; tiled_is = refl; deep_is = refl; multi_is = refl }
has_bits false true false false = record { version = refl; tiled_is = refl; deep_is = refl; multi_is = refl }
has_bits false false true true = record { version = refl; tiled_is = refl; deep_is = refl; multi_is = refl }
has_bits false false true false = record { version = refl; tiled_is = refl; deep_is = refl; multi_is = refl }
has_bits false false false true = record { version = refl; tiled_is = refl; deep_is = refl; multi_is = refl }
has_bits false false false false = record { version = refl; tiled_is = refl; deep_is = refl; multi_is = refl }

pub writer_bits : (h : Head) → HasBits (not h.multi && list_any (λ p. is_tiled_kind p.kind) h.parts) (list_any (λ p. is_deep p.kind) h.parts) h.multi (version_of h)
writer_bits h =
    has_bits (not h.multi && list_any (λ p. is_tiled_kind p.kind) h.parts) (list_any is_long_header h.parts) (list_any (λ p. is_deep p.kind) h.parts) h.multi
