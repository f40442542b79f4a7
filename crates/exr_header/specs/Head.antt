-- The head of a file: reading it from the front with the first fault that is met, and its one spelling by a writer.
-- File Layout, "Components One and Two: Magic Number and Version Field" and "Component Three: Header".
use Rattle.std.specs.Prelude.{◌==◌, ◌+◌, ◌/◌, ◌%◌, ◌^◌, ◌&&◌, ◌||◌, not, nat_lt, nat_le, ℕ, zero, suc, Bool, true, false, List, [], ◌∷◌, ◌++◌, length, slice_index, Result, Ok, Err, if◌then◌else◌}
use Rattle.std.specs.List.{list_any, flat_map}
use Rattle.std.specs.Str.{bytes_eq}
use Rattle.std.specs.Int.{w32, to_le_bytes}
use Rattle.exr_base.specs.Cursor.{Position}
use Rattle.exr_base.specs.Refusal.{◌>>=◌}
use Rattle.exr_base.specs.declared.channel.Channel.{Channel}
use Rattle.exr_attributes.specs.declared.fault.HeaderFault.{HeaderFault}
use Rattle.exr_attributes.specs.declared.fault.HeaderFault.TheVariants.{BadMagic, BadVersion, Missing, BadPartType, Limit}
use Rattle.exr_attributes.specs.declared.fault.Field.TheVariants as field
use Rattle.exr_attributes.specs.declared.fault.Bound.TheVariants as bound
use Rattle.exr_attributes.specs.declared.attribute.Entry.{Entry}
use Rattle.exr_attributes.specs.Reading.{bytes_at, number_at, header_at}
use Rattle.exr_attributes.specs.Spelling.{header_spelling}
use Rattle.exr_judge.specs.declared.kind.PartKind.{PartKind}
use Rattle.exr_judge.specs.declared.kind.PartKind.TheVariants.{Scan, Tiled}
use Rattle.exr_judge.specs.declared.kind.Flags.{Flags}
use Rattle.exr_judge.specs.declared.header.Header.{Header}
use Rattle.exr_judge.specs.Kind.{is_deep, is_kind}
use Rattle.exr_judge.specs.Judging.{typed_kind, judged}

-- a head: whether it is for many parts, and their headers
pub record Head : Type 0 where
  pub multi : Bool
  pub parts : List Header

abbrev pub head_from : Bool → List Header → Head
head_from multi parts = record { multi = multi; parts = parts }

abbrev pub magic : List ℕ
magic = 0x76 ∷ 0x2f ∷ 0x31 ∷ 0x01 ∷ []

-- version 2, and no bit but 9 to 12 above it
abbrev pub is_version : ℕ → Bool
is_version word = word % 512 == 2 && nat_lt (word / 512) 16

-- a bit of the version word, by its weight
abbrev pub has_bit : ℕ → ℕ → Bool
has_bit weight word = (word / weight) % 2 == 1

abbrev pub flags_of : ℕ → Flags
flags_of word = record { multi = has_bit 4096 word; deep = has_bit 2048 word }

-- a version word
unfoldable pub word_at : Position → Result (ℕ × Position) HeaderFault
word_at p = do
  word ← number_at p
  if is_version word.0 then Ok word else Err (BadVersion word.0)

-- the version word behind the magic number
unfoldable pub version_at : Position → Result (ℕ × Position) HeaderFault
version_at p = do
  first ← bytes_at 4 p
  if bytes_eq first.0 magic then word_at first.1 else Err BadMagic

-- the kind of a part: by `type` under bit 11 or 12, else by bit 9
unfoldable pub kind_read : ℕ → ℕ → List Entry → Result PartKind HeaderFault
kind_read word part es =
    if has_bit 4096 word || has_bit 2048 word then typed_kind part es
    else (if has_bit 512 word then Ok Tiled else Ok Scan)

-- the part of a header behind earlier ones
unfoldable pub part_read : ℕ → List Header → List Entry → Result Header HeaderFault
part_read word earlier es = do
  kind ← kind_read word (length earlier) es
  judged (flags_of word) earlier kind es

-- the headers of many parts, of which there is one at least
abbrev pub some_parts : List Header → Result (List Header) HeaderFault
some_parts parts = if length parts == 0 then Err (Missing 0 field.Channels) else Ok parts

abbrev pub ended_parts : List Header → Position → Result (List Header × Position) HeaderFault
ended_parts before p = some_parts before >>= λ parts. Ok (parts, p)

-- behind 1,024 headers only that zero may stand
unfoldable pub last_at : List Header → Position → Result (List Header × Position) HeaderFault
last_at before p = do
  byte ← bytes_at 1 p
  (if slice_index byte.0 0 == 0 then Ok (before, byte.1) else Err (Limit bound.Parts))

-- the headers of many parts behind others, at most n more. A header without attributes is the zero that ends them.
unfoldable pub parts_at : ℕ → ℕ → List Header → Position → Result (List Header × Position) HeaderFault
parts_at zero word before p = last_at before p
parts_at (suc n) word before p = do
  entries ← header_at p
  if length entries.0 == 0 then ended_parts before entries.1 else (do
    part ← part_read word before entries.0
    parts_at n word (before ++ part ∷ []) entries.1)

-- the one header of a file of one part
unfoldable pub single_at : ℕ → Position → Result (Head × Position) HeaderFault
single_at word p = do
  entries ← header_at p
  part ← part_read word [] entries.0
  Ok (record { multi = false; parts = part ∷ [] }, entries.1)

unfoldable pub many_at : ℕ → Position → Result (Head × Position) HeaderFault
many_at word p = do
  parts ← parts_at 1024 word [] p
  Ok (record { multi = true; parts = parts.0 }, parts.1)

unfoldable pub head_at : Position → Result (Head × Position) HeaderFault
head_at p = do
  word ← version_at p
  (if has_bit 4096 word.0 then many_at word.0 word.1 else single_at word.0 word.1)

-- the head that an input begins with and how many bytes it fills, or the first fault
unfoldable pub head_of : List ℕ → Result (Head × ℕ) HeaderFault
head_of input = do
  head ← head_at (record { whole = input; at = 0 })
  Ok (head.0, head.1.at)

-- ---- writing

abbrev pub is_long : List ℕ → Bool
is_long name = nat_lt 31 (length name)

abbrev pub is_long_entry : Entry → Bool
is_long_entry e = is_long e.name || is_long e.attribute.kind

abbrev pub is_long_channel : Channel → Bool
is_long_channel c = is_long c.name

-- whether a name of a header has more than 31 bytes
abbrev pub is_long_header : Header → Bool
is_long_header h = list_any is_long_entry h.attributes || list_any is_long_channel h.channels

abbrev pub is_tiled_kind : PartKind → Bool
is_tiled_kind Tiled = true
is_tiled_kind _ = false

abbrev pub bit_of : Bool → ℕ → ℕ
bit_of set weight = if set then weight else 0

-- the version word that a writer puts
abbrev pub version_of : Head → ℕ
version_of h =
    2 + bit_of (not h.multi && list_any (λ p. is_tiled_kind p.kind) h.parts) 512 + bit_of (list_any is_long_header h.parts) 1024 + bit_of (list_any (λ p. is_deep p.kind) h.parts) 2048 + bit_of h.multi 4096

-- the headers one after the other
abbrev pub parts_spelling : List Header → List ℕ
parts_spelling parts = flat_map (λ p. header_spelling p.attributes) parts

-- and, with the flag for many parts, a zero in place of a header
abbrev pub closing : Bool → List ℕ
closing multi = if multi then 0 ∷ [] else []

-- the spelling of a head under a version word
abbrev pub spelling_under : ℕ → Head → List ℕ
spelling_under word h = (magic ++ to_le_bytes w32 word) ++ (parts_spelling h.parts ++ closing h.multi)

-- the spelling of a head by a writer
abbrev pub head_spelling : Head → List ℕ
head_spelling h = spelling_under (version_of h) h

-- ---- a head of given parts

abbrev pub Given : Type 0
Given = PartKind × List Entry

-- the flags that a writer would set
abbrev pub flags_given : Bool → List Given → Flags
flags_given multi given = record { multi = multi; deep = list_any (λ g. is_deep g.0) given }

unfoldable pub kind_given : Flags → ℕ → Given → Result PartKind HeaderFault
kind_given flags part g =
    if flags.multi || flags.deep
    then (do
      kind ← typed_kind part g.1
      if is_kind kind g.0 then Ok kind else Err (BadPartType part))
    else Ok g.0

unfoldable pub part_given : Flags → List Header → Given → Result Header HeaderFault
part_given flags earlier g = do
  kind ← kind_given flags (length earlier) g
  judged flags earlier kind g.1

-- all parts behind others
unfoldable pub parts_given : Flags → List Header → List Given → Result (List Header) HeaderFault
parts_given flags before [] = Ok before
parts_given flags before (g ∷ gs) = do
  part ← part_given flags before g
  parts_given flags (before ++ part ∷ []) gs

-- a head whose spelling has at most 2^24 bytes
abbrev pub head_within : Head → Result Head HeaderFault
head_within h = if nat_le (length (head_spelling h)) (2 ^ 24) then Ok h else Err (Limit bound.HeadBytes)

unfoldable pub head_given : Bool → List Given → Result Head HeaderFault
head_given multi given =
    if nat_lt 1024 (length given) then Err (Limit bound.Parts)
    else (do
      parts ← parts_given (flags_given multi given) [] given
      head_within (record { multi = multi; parts = parts }))
