-- Reading a header's attributes from the front, with the first fault that is met (the order of faults: own).
use Rattle.std.specs.Prelude.{◌≡◌, ◌≤◌, ◌==◌, ◌+◌, ◌-◌, ◌^◌, nat_lt, nat_le, min, ℕ, zero, suc, List, [], ◌∷◌, ◌++◌, length, take, slice_index, Option, Some, None, Result, Ok, Err, if◌then◌else◌}
use Rattle.std.specs.Int.{w32, from_le_bytes}
use Rattle.exr_base.specs.Cursor.{Position, left_of}
use Rattle.exr_base.specs.Refusal.{◌>>=◌, Refuses}
use Rattle.exr_base.specs.declared.refusal.Refusal.{Refusal}
use Rattle.exr_attributes.specs.declared.fault.HeaderFault.{HeaderFault}
use Rattle.exr_attributes.specs.declared.fault.HeaderFault.TheVariants.{Truncated, BadName, BadSize, Twice, Limit}
use Rattle.exr_attributes.specs.declared.fault.Bound.TheVariants.{HeadBytes}
use Rattle.exr_attributes.specs.declared.attribute.Entry.{Entry}
use Rattle.exr_attributes.specs.Entry.{has_name, AreEntries}
use Rattle.exr_attributes.specs.Spelling.{header_spelling, AreSized}

-- What a call answered, seen by view, and where it left the cursor, is what is defined; want of memory apart.
abbrev pub Reads : {X Y : Type 0} → (X → Y) → Result X (Refusal HeaderFault) → Position → Result (Y × Position) HeaderFault → Type 0
Reads view (Ok x) after defined = defined ≡ Ok (view x, after)
Reads view (Err e) after defined = Refuses e defined

-- the place after n more bytes
abbrev pub moved : ℕ → Position → Position
moved n p = record { whole = p.whole; at = p.at + n }

-- the bytes that are left for a head, which has at most 2^24
abbrev pub room_of : Position → ℕ
room_of p = min (length (left_of p)) (2 ^ 24 - p.at)

-- what wanting a byte past them answers: the input's end, or the limit where the input is longer
abbrev pub past_of : Position → HeaderFault
past_of p =
    if nat_le (p.at + length (left_of p)) (2 ^ 24) then Truncated (p.at + length (left_of p)) else Limit HeadBytes

-- the next n bytes
unfoldable pub bytes_at : ℕ → Position → Result (List ℕ × Position) HeaderFault
bytes_at n p = if nat_le n (room_of p) then Ok (take n (left_of p), moved n p) else Err (past_of p)

-- the next byte
unfoldable pub byte_at : Position → Result (ℕ × Position) HeaderFault
byte_at p = do
  next ← bytes_at 1 p
  Ok (slice_index next.0 0, next.1)

-- a number of four bytes
unfoldable pub number_at : Position → Result (ℕ × Position) HeaderFault
number_at p = do
  next ← bytes_at 4 p
  Ok (from_le_bytes w32 next.0, next.1)

-- the bytes before the next zero, which is among the next `most`, of a text that begins at `start`
unfoldable pub text_from : ℕ → ℕ → Position → Result (List ℕ × Position) HeaderFault
text_from start zero p = Err (BadName start)
text_from start (suc most) p = do
  byte ← byte_at p
  if byte.0 == 0 then Ok ([], byte.1) else (do
    others ← text_from start most byte.1
    Ok (byte.0 ∷ others.0, others.1))

-- a name, empty or of at most 255 bytes, and the zero that ends it
unfoldable pub text_at : Position → Result (List ℕ × Position) HeaderFault
text_at p = text_from p.at 256 p

-- a type's name, which is not empty
unfoldable pub kind_at : Position → Result (List ℕ × Position) HeaderFault
kind_at p = do
  kind ← text_at p
  if length kind.0 == 0 then Err (BadName p.at) else Ok kind

-- a size that is not negative, and that many bytes
unfoldable pub value_at : Position → Result (List ℕ × Position) HeaderFault
value_at p = do
  size ← number_at p
  if nat_lt size.0 (2 ^ 31) then bytes_at size.0 size.1 else Err (BadSize p.at)

-- what follows the name of an attribute
unfoldable pub entry_at : List ℕ → Position → Result (Entry × Position) HeaderFault
entry_at name p = do
  kind ← kind_at p
  value ← value_at kind.1
  Ok (record { name = name; attribute = record { kind = kind.0; value = value.0 } }, value.1)

-- an entry, or the zero in place of a name that closes the header
unfoldable pub next_at : Position → Result (Option Entry × Position) HeaderFault
next_at p = do
  name ← text_at p
  if length name.0 == 0 then Ok (None, name.1) else (do
    entry ← entry_at name.0 name.1
    Ok (Some entry.0, entry.1))

-- the entries before, where the header is closed; else a second one of a name, or what reading on gives
abbrev pub joined : (List Entry → Position → Result (List Entry × Position) HeaderFault) → List Entry → ℕ → Option Entry → Position → Result (List Entry × Position) HeaderFault
joined reading_on before start None p = Ok (before, p)
joined reading_on before start (Some e) p =
    if has_name e.name before then Err (Twice start) else reading_on (before ++ e ∷ []) p

-- the entries up to the closing zero, behind those that stand before; at most n more
unfoldable pub entries_at : ℕ → List Entry → Position → Result (List Entry × Position) HeaderFault
entries_at zero before p = Err (past_of p)
entries_at (suc n) before p = do
  next ← next_at p
  joined (entries_at n) before p.at next.0 next.1

-- one header; it has fewer entries than a head has bytes
unfoldable pub header_at : Position → Result (List Entry × Position) HeaderFault
header_at p = entries_at (2 ^ 24) [] p

-- entries are spelled at a place within the front, and something behind them
pub record IsSpelledAt (p : Position) (es : List Entry) (rest : List ℕ) : Type 0 where
  pub lawful : AreEntries es
  pub sizes : AreSized es
  pub here : left_of p ≡ header_spelling es ++ rest
  pub room : p.at + length (header_spelling es) ≤ 2 ^ 24
