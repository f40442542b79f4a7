-- The text of a head (own).
use Rattle.std.specs.Prelude.{◌==◌, ◌+◌, ◌/◌, ◌%◌, ◌&&◌, not, nat_lt, nat_le, ℕ, ℤ, Bool, List, [], ◌∷◌, ◌++◌, length, codes, Option, Some, None, if◌then◌else◌}
use Rattle.std.specs.List.{flat_map}
use Rattle.std.specs.Fmt.{decimal, signed_decimal}
use Rattle.exr_base.specs.declared.channel.Kind.{Kind}
use Rattle.exr_base.specs.declared.channel.Kind.TheVariants as sample
use Rattle.exr_base.specs.declared.channel.Channel.{Channel}
use Rattle.exr_base.specs.Method.{number_of}
use Rattle.exr_attributes.specs.declared.attribute.Entry.{Entry}
use Rattle.exr_judge.specs.declared.kind.PartKind.{PartKind}
use Rattle.exr_judge.specs.declared.kind.PartKind.TheVariants.{Scan, Tiled, DeepScan, DeepTiled}
use Rattle.exr_judge.specs.declared.kind.LineOrder.{LineOrder}
use Rattle.exr_judge.specs.declared.kind.LineOrder.TheVariants.{Increasing, Decreasing, Random}
use Rattle.exr_judge.specs.declared.kind.Tiles.{Tiles}
use Rattle.exr_judge.specs.declared.header.Header.{Header}
use Rattle.exr_header.specs.Head.{Head}
use Rattle.exr_judge.specs.Name.{part_name_of}
use Rattle.exr_judge.specs.Picture.{chunk_count_of}

-- a digit to the base 16, in lower case
abbrev pub hex_digit : ℕ → ℕ
hex_digit d = if nat_lt d 10 then d + 48 else d + 87

-- bytes that show as they are: 0x21 to 0x7e but the backslash
abbrev pub is_plain : ℕ → Bool
is_plain b = nat_le 0x21 b && nat_le b 0x7e && not (b == 0x5c)

-- a byte of a name, as it is or as \x and two digits
abbrev pub escaped_byte : ℕ → List ℕ
escaped_byte b = if is_plain b then b ∷ [] else 0x5c ∷ 0x78 ∷ hex_digit (b / 16) ∷ hex_digit (b % 16) ∷ []

abbrev pub escaped : List ℕ → List ℕ
escaped text = flat_map escaped_byte text

abbrev pub kind_text : PartKind → List ℕ
kind_text Scan = codes "scan"
kind_text Tiled = codes "tiles"
kind_text DeepScan = codes "deepscan"
kind_text DeepTiled = codes "deeptiles"

abbrev pub order_number : LineOrder → ℕ
order_number Increasing = 0
order_number Decreasing = 1
order_number Random = 2

abbrev pub sample_number : Kind → ℕ
sample_number sample.Uint = 0
sample_number sample.Half = 1
sample_number sample.Float = 2

-- the name of a part, or a dash
abbrev pub name_text : Option (List ℕ) → List ℕ
name_text None = codes "-"
name_text (Some name) = escaped name

-- part P KIND name NAME
abbrev pub part_front : ℕ → Header → List ℕ
part_front p h = codes "part " ++ decimal p ++ codes " " ++ kind_text h.kind ++ codes " name " ++ name_text (part_name_of h.attributes)

--  method M order O
abbrev pub part_method : Header → List ℕ
part_method h = codes " method " ++ decimal (number_of h.method) ++ codes " order " ++ decimal (order_number h.order)

--  X Y
abbrev pub corner : ℤ → ℤ → List ℕ
corner x y = codes " " ++ signed_decimal x ++ codes " " ++ signed_decimal y

--  window X0 Y0 X1 Y1
abbrev pub part_window : Header → List ℕ
part_window h = codes " window" ++ corner h.window.x0 h.window.y0 ++ corner h.window.x1 h.window.y1

--  chunks C
abbrev pub part_chunks : Header → List ℕ
part_chunks h = codes " chunks " ++ decimal (chunk_count_of h) ++ codes "\n"

-- tiles X Y mode M rounding R
abbrev pub tiles_line : Option Tiles → List ℕ
tiles_line None = []
tiles_line (Some t) =
    codes "tiles " ++ decimal t.xsize ++ codes " " ++ decimal t.ysize ++ codes " mode " ++ decimal t.mode ++ codes " rounding " ++ decimal t.rounding ++ codes "\n"

-- channel NAME kind K linear L
abbrev pub channel_front : Channel → List ℕ
channel_front c =
    codes "channel " ++ escaped c.name ++ codes " kind " ++ decimal (sample_number c.kind) ++ codes " linear " ++ decimal c.linear

--  sampling X Y
abbrev pub channel_sampling : Channel → List ℕ
channel_sampling c = codes " sampling " ++ decimal c.xs ++ codes " " ++ decimal c.ys ++ codes "\n"

abbrev pub channel_line : Channel → List ℕ
channel_line c = channel_front c ++ channel_sampling c

-- attribute NAME TYPE SIZE
abbrev pub entry_line : Entry → List ℕ
entry_line e =
    codes "attribute " ++ escaped e.name ++ codes " " ++ escaped e.attribute.kind ++ codes " " ++ decimal (length e.attribute.value) ++ codes "\n"

-- the lines of a part
abbrev pub part_text : ℕ → Header → List ℕ
part_text p h =
    part_front p h ++ part_method h ++ part_window h ++ part_chunks h ++ tiles_line h.tiles ++ flat_map channel_line h.channels ++ flat_map entry_line h.attributes

-- the lines of parts, numbered from one on
abbrev pub parts_text : ℕ → List Header → List ℕ
parts_text p [] = []
parts_text p (h ∷ hs) = part_text p h ++ parts_text (p + 1) hs

-- exr single parts N, or exr multi parts N
abbrev pub head_line : Head → List ℕ
head_line h =
    codes "exr " ++ (if h.multi then codes "multi" else codes "single") ++ codes " parts " ++ decimal (length h.parts) ++ codes "\n"

abbrev pub head_text : Head → List ℕ
head_text h = head_line h ++ parts_text 0 h.parts
