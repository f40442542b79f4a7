-- The raw content of a chunk's data, the data that a writer stores for raw content, and what is kept of raw content that
-- was stored. File Layout, "Chunk Layout" and "Deep Data Blocks"; Technical Introduction, "Data Compression".
use Rattle.std.specs.Prelude.{◌==◌, ◌&&◌, ◌||◌, ◌*◌, not, nat_lt, ℕ, Bool, true, false, List, length, Result, Ok, Err, if◌then◌else◌}
use Rattle.std.specs.List.{list_all}
use Rattle.exr_base.specs.declared.shape.Box2i.{Box2i}
use Rattle.exr_base.specs.declared.channel.Channel.{Channel}
use Rattle.exr_base.specs.declared.channel.Kind.{Kind}
use Rattle.exr_base.specs.declared.channel.Kind.TheVariants as kind
use Rattle.exr_base.specs.declared.method.Method.{Method}
use Rattle.exr_base.specs.declared.method.Method.TheVariants as method
use Rattle.exr_base.specs.Shape.{raw_size_of}
use Rattle.exr_piz.specs.Piz.{piz_of, piz_pack_of}
use Rattle.exr_b44.specs.Block.{b44_of, b44_pack_of}
use Rattle.exr_b44.specs.Block as b44
use Rattle.exr_rle.specs.Unpacked.{rle_of}
use Rattle.exr_rle.specs.Packed.{rle_pack_of}
use Rattle.exr_deep.specs.Body.{DeepBody, DeepContent}
use Rattle.exr_deep.specs.Deep.{pixels_of, deep_of, deep_pack_of, fits as deep_fits}
use Rattle.exr_block.specs.declared.fault.ChunkFault.{ChunkFault}
use Rattle.exr_block.specs.declared.fault.ChunkFault.TheVariants as fault
use Rattle.exr_block.specs.declared.sizes.DeepSizes.{DeepSizes}
use Rattle.exr_block.specs.Body.{Stored, flat_data, deep_data, Content, flat_content, deep_content}
use Rattle.exr_block.specs.Sizes.{sizes_of}

-- ---- channels that B44 and B44A take: any but HALF ones whose pLinear byte is not 0

abbrev pub is_plain : Kind → ℕ → Bool
is_plain kind.Half linear = linear == 0
is_plain _ linear = true

abbrev pub are_plain : List Channel → Bool
are_plain channels = list_all (λ c. is_plain c.kind c.linear) channels

-- ---- reading

-- a method's fault as that of the chunk
abbrev pub as_fault : {A F : Type 0} → (F → ChunkFault) → Result A F → Result A ChunkFault
as_fault of_chunk (Ok raw) = Ok raw
as_fault of_chunk (Err f) = Err (of_chunk f)

-- what data stands for under B44 or B44A
abbrev pub b44_unpacked_of : Method → List Channel → Box2i → List ℕ → Result (List ℕ) ChunkFault
b44_unpacked_of method channels region bytes =
    if are_plain channels then as_fault fault.B44 (b44_of channels region bytes) else Err (fault.Unsupported method)

-- what data that is smaller than the raw data stands for under a method, or why it stands for nothing
unfoldable pub unpacked_of : Method → List Channel → Box2i → List ℕ → Result (List ℕ) ChunkFault
unpacked_of method.Rle channels region bytes = as_fault (λ broken. fault.Rle) (rle_of bytes (raw_size_of channels region))
unpacked_of method.Piz channels region bytes = as_fault fault.Piz (piz_of channels region bytes)
unpacked_of method.B44 channels region bytes = b44_unpacked_of method.B44 channels region bytes
unpacked_of method.B44a channels region bytes = b44_unpacked_of method.B44a channels region bytes
unpacked_of other channels region bytes = Err (fault.Unsupported other)

-- the raw content of the data of a chunk that is not deep: data of the raw size is raw, whatever the method
unfoldable pub raw_of_flat : Method → List Channel → Box2i → List ℕ → Result (List ℕ) ChunkFault
raw_of_flat method channels region body =
    if length body == raw_size_of channels region then Ok body else unpacked_of method channels region body

-- whether deep data of these sizes is packed by a method that is not read: the table is smaller than the raw one, which has
-- so many bytes, or the samples are smaller than unpacked
abbrev pub is_unread : Method → ℕ → DeepSizes → Bool
is_unread method.No raw sizes = false
is_unread method.Rle raw sizes = false
is_unread _ raw sizes = nat_lt sizes.table raw || nat_lt sizes.samples sizes.unpacked

-- the raw content of the data of a deep chunk
unfoldable pub raw_of_deep : Method → List Channel → Box2i → DeepBody → Result DeepContent ChunkFault
raw_of_deep method channels region body =
    if is_unread method (4 * pixels_of region) (sizes_of body)
    then Err (fault.Unsupported method)
    else as_fault fault.Deep (deep_of channels region body)

-- an answer of one form as one of either form
abbrev pub as_content : {A : Type 0} → (A → Content) → Result A ChunkFault → Result Content ChunkFault
as_content of_form (Ok raw) = Ok (of_form raw)
as_content of_form (Err f) = Err f

-- the raw content of stored data, or why it has none
unfoldable pub raw_of_body : Method → List Channel → Box2i → Stored → Result Content ChunkFault
raw_of_body method channels region (flat_data bytes) = as_content flat_content (raw_of_flat method channels region bytes)
raw_of_body method channels region (deep_data body) = as_content deep_content (raw_of_deep method channels region body)

-- ---- writing

-- the raw content has the sizes that the channels have in the region; in a deep chunk also samples that can be counted
abbrev pub fits : List Channel → Box2i → Content → Bool
fits channels region (flat_content raw) = length raw == raw_size_of channels region
fits channels region (deep_content content) = deep_fits channels region content

-- the methods that a writer packs by
abbrev pub can_pack : Method → List Channel → Bool → Bool
can_pack method.No channels deep = true
can_pack method.Rle channels deep = true
can_pack method.Piz channels deep = not deep
can_pack method.B44 channels deep = not deep && are_plain channels
can_pack method.B44a channels deep = not deep && are_plain channels
can_pack _ channels deep = false

-- B44, and with flat cells B44A
abbrev pub b44_method : Bool → Method
b44_method true = method.B44a
b44_method false = method.B44

-- raw data as the method packs it
unfoldable pub packed_of : Method → List Channel → Box2i → List ℕ → List ℕ
packed_of method.Rle channels region raw = rle_pack_of raw
packed_of method.Piz channels region raw = piz_pack_of channels region raw
packed_of method.B44 channels region raw = b44_pack_of channels region false raw
packed_of method.B44a channels region raw = b44_pack_of channels region true raw
packed_of other channels region raw = raw

-- packed data where it is smaller, else the raw data
abbrev pub smaller_of : List ℕ → List ℕ → List ℕ
smaller_of packed raw = if nat_lt (length packed) (length raw) then packed else raw

-- the data that is stored for raw content that is not deep
unfoldable pub pack_of_flat : Method → List Channel → Box2i → List ℕ → List ℕ
pack_of_flat method channels region raw = smaller_of (packed_of method channels region raw) raw

-- the data that is stored
unfoldable pub pack_of : Method → List Channel → Box2i → Content → Stored
pack_of method channels region (flat_content raw) = flat_data (pack_of_flat method channels region raw)
pack_of method channels region (deep_content content) = deep_data (deep_pack_of method region content)

-- what unpacking gives of data that a method packed: the raw data, with each cell of halves as B44 keeps it
unfoldable pub lossy_of : Method → List Channel → Box2i → List ℕ → List ℕ
lossy_of method.B44 channels region raw = b44.kept_of channels region false raw
lossy_of method.B44a channels region raw = b44.kept_of channels region true raw
lossy_of other channels region raw = raw

-- what is kept of raw content that was stored so: all of it where it is stored raw
abbrev pub kept_of_flat : Method → List Channel → Box2i → List ℕ → List ℕ → List ℕ
kept_of_flat method channels region body raw =
    if length body == length raw then raw else lossy_of method channels region raw

-- the same of either form: of deep content all is kept
abbrev pub kept_of : Method → List Channel → Box2i → Stored → Content → Content
kept_of method channels region (flat_data body) (flat_content raw) =
    flat_content (kept_of_flat method channels region body raw)
kept_of method channels region body raw = raw
