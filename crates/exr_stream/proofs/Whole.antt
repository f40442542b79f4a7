-- What is read of a chunk is what the whole file has of it.
use Rattle.std.proofs.Common.{◌≡◌, ℕ, ◌+◌, ◌-◌, ◌^◌, ◌<◌, ◌≤◌, ◌⊎◌, inl, inr, min, bytes_eq, List, length, take, drop, Result, Ok, Err, IfOk, IsTrue, if◌then◌else◌, leb, ◌&&◌, Bool, true, false, refl, sym, ap, ◌∙◌, arith}
use Rattle.std.proofs.lemmas.Bool.{le-leb, lt-leb, leb-true, eqb-true, cases_lt, and_parts}
use Rattle.std.proofs.lemmas.List.{take-take, take_all, take_min, drop-take, drop-drop, length-take, length-drop}
use Rattle.exr_base.specs.declared.method.Method.{Method}
use Rattle.exr_base.specs.declared.method.Method.TheVariants.{No, Rle, Zips, Zip, Piz, Pxr24, B44, B44a, Dwaa, Dwab}
use Rattle.exr_base.specs.Refusal.{◌>>=◌}
use Rattle.exr_block.specs.declared.fault.ChunkFault.{ChunkFault}
use Rattle.exr_block.specs.declared.fault.ChunkFault.TheVariants.{Outside, WrongSize, WrongPlace}
use Rattle.exr_block.specs.declared.sizes.DeepSizes.{DeepSizes}
use Rattle.exr_block.specs.Body.{Stored}
use Rattle.exr_block.specs.Sizes.{is_size, are_sizes}
use Rattle.exr_deep.specs.Body.{DeepBody}
use Rattle.exr_chunks.specs.Heads.{is_deep}
use Rattle.exr_chunks.specs.Region.{chunk_bytes_of, place_of}
use Rattle.exr_chunks.specs.Table.{entry_place}
use Rattle.exr_chunks.specs.Fields.{chunk_fields}
use Rattle.exr_stream.specs.Chunk.{Opened, header_in, tested, first_bytes, written_entry, entry_in, sizes_after, or_wrong_size, size_in, three_sizes, or_wrong_sizes, deep_sizes_in, data_in, body_in, sized_body, deep_in, stored_in, chunk_of}
use Rattle.std.specs.Int.{w32, w64, from_le_bytes}

-- ---- first bytes

pub there : (count : ℕ) (bytes : List ℕ) → count ≤ length bytes → first_bytes count bytes ≡ Ok (take count bytes)
unfolding first_bytes
there count bytes le = ap (λ b. if b then Ok (take count bytes) else Err Outside) (le-leb count (length bytes) le)

pub not_there : (count : ℕ) (bytes : List ℕ) → length bytes < count → first_bytes count bytes ≡ Err Outside
unfolding first_bytes
not_there count bytes lt = ap (λ b. if b then Ok (take count bytes) else Err Outside) (lt-leb count (length bytes) lt)

-- those of a front are those of all
pub first_of_front : (count n : ℕ) (bytes : List ℕ) → count ≤ n → first_bytes count (take n bytes) ≡ first_bytes count bytes
first_of_front count n bytes le = split (cases_lt (length bytes) count)
  where
    split : ((length bytes < count) ⊎ (count ≤ length bytes)) → first_bytes count (take n bytes) ≡ first_bytes count bytes
    split (inl short) = not_there count (take n bytes) (omega (arith, length-take n bytes)) ∙ sym (not_there count bytes short)
    split (inr long) =
        there count (take n bytes) (omega (arith, length-take n bytes)) ∙ ap Ok (take-take count n bytes le) ∙ sym (there count bytes long)

-- ---- an entry

pub entry_of_front : (n : ℕ) (bytes : List ℕ) → 8 ≤ n → entry_in (take n bytes) ≡ entry_in bytes
unfolding entry_in
entry_of_front n bytes le = ap (λ r. r >>= λ eight. written_entry (from_le_bytes w64 eight)) (first_of_front 8 n bytes le)

-- an entry of the tables is that of the file
pub entry_there : (file : List ℕ) (head_bytes total at : ℕ) → at + 8 ≤ total → entry_in (drop at (take total (drop head_bytes file))) ≡ entry_in (drop (head_bytes + at) file)
entry_there file head_bytes total at within =
    let parts : total ≡ at + (total - at) = omega arith in
    ap (λ n. entry_in (drop at (take n (drop head_bytes file)))) parts
    ∙ ap entry_in (drop-take at (total - at) (drop head_bytes file))
    ∙ entry_of_front (total - at) (drop at (drop head_bytes file)) (omega arith)
    ∙ ap entry_in (drop-drop at head_bytes file)

pub entry_past : (file : List ℕ) (head_bytes total at : ℕ) → at + 8 ≤ total → length (take total (drop head_bytes file)) < at → Err Outside ≡ entry_in (drop (head_bytes + at) file)
unfolding entry_in
entry_past file head_bytes total at within short =
    let none : length (drop (head_bytes + at) file) < 8 = omega (arith, length-take total (drop head_bytes file), length-drop head_bytes file, length-drop (head_bytes + at) file) in
    sym (ap (λ r. r >>= λ eight. written_entry (from_le_bytes w64 eight)) (not_there 8 (drop (head_bytes + at) file) none))

-- ---- sizes

-- no size is above the raw one
pub size_within : (m : Method) (raw size : ℕ) → is_size m raw size ≡ true → size ≤ raw
size_within No raw size e = omega (arith, eqb-true size raw e)
size_within Rle raw size e = leb-true size raw e
size_within Zips raw size e = leb-true size raw e
size_within Zip raw size e = leb-true size raw e
size_within Piz raw size e = leb-true size raw e
size_within Pxr24 raw size e = leb-true size raw e
size_within B44 raw size e = leb-true size raw e
size_within B44a raw size e = leb-true size raw e
size_within Dwaa raw size e = leb-true size raw e
size_within Dwab raw size e = leb-true size raw e

-- sizes of deep data are small where that of the raw table is
pub record AreSmall (s : DeepSizes) : Type 0 where
  pub table : s.table ≤ 2 ^ 26
  pub samples : s.samples ≤ 2 ^ 26

pub sizes_small : (m : Method) (raw : ℕ) (s : DeepSizes) → IsTrue (are_sizes m raw s) → raw ≤ 2 ^ 26 → AreSmall s
sizes_small m raw s fit small =
    let first = is_size m raw s.table in
    let second = is_size m s.unpacked s.samples in
    let all = and_parts (first && second) (leb s.unpacked (2 ^ 26)) fit in
    let both = and_parts first second all.0 in
    let few = leb-true s.unpacked (2 ^ 26) all.1 in
    let a = size_within m raw s.table both.0 in
    let b = size_within m s.unpacked s.samples both.1 in
    record { table = omega arith; samples = omega arith }

tested_passes : {A : Type 0} (fault : ChunkFault) (b : Bool) (x : A) → b ≡ true → tested fault b x ≡ Ok x
tested_passes fault b x e = ap (λ b. tested fault b x) e

tested_fails : {A : Type 0} (fault : ChunkFault) (b : Bool) (x : A) → b ≡ false → tested fault b x ≡ Err fault
tested_fails fault b x e = ap (λ b. tested fault b x) e

-- the sizes in the fields of a chunk, which has as many bytes, those for its name being the ones that are expected
pub sizes_here : (fields front : List ℕ) (count : ℕ) (bytes : List ℕ) → first_bytes (length fields + count) bytes ≡ Ok front → bytes_eq (take (length fields) front) fields ≡ true → sizes_after fields count bytes ≡ Ok (drop (length fields) front)
unfolding sizes_after
sizes_here fields front count bytes found same =
    ap (λ r. r >>= λ front. tested WrongPlace (bytes_eq (take (length fields) front) fields) (drop (length fields) front)) found
    ∙ ap (λ b. tested WrongPlace b (drop (length fields) front)) same

pub sizes_elsewhere : (fields front : List ℕ) (count : ℕ) (bytes : List ℕ) → first_bytes (length fields + count) bytes ≡ Ok front → bytes_eq (take (length fields) front) fields ≡ false → sizes_after fields count bytes ≡ Err WrongPlace
unfolding sizes_after
sizes_elsewhere fields front count bytes found other =
    ap (λ r. r >>= λ front. tested WrongPlace (bytes_eq (take (length fields) front) fields) (drop (length fields) front)) found
    ∙ ap (λ b. tested WrongPlace b (drop (length fields) front)) other

pub sizes_outside : (fields : List ℕ) (count : ℕ) (bytes : List ℕ) (fault : ChunkFault) → first_bytes (length fields + count) bytes ≡ Err fault → sizes_after fields count bytes ≡ Err fault
unfolding sizes_after
sizes_outside fields count bytes fault none =
    ap (λ r. r >>= λ front. tested WrongPlace (bytes_eq (take (length fields) front) fields) (drop (length fields) front)) none

-- the sizes in a front are those in all
after_of_front : (fields : List ℕ) (count n : ℕ) (bytes : List ℕ) → length fields + count ≤ n → sizes_after fields count (take n bytes) ≡ sizes_after fields count bytes
unfolding sizes_after
after_of_front fields count n bytes le =
    ap (λ r. r >>= λ front. tested WrongPlace (bytes_eq (take (length fields) front) fields) (drop (length fields) front)) (first_of_front (length fields + count) n bytes le)

-- ---- data that is not deep

size_found : (fields four : List ℕ) (m : Method) (raw : ℕ) (bytes : List ℕ) → sizes_after fields 4 bytes ≡ Ok four → size_in fields m raw bytes ≡ or_wrong_size m raw (from_le_bytes w32 four)
unfolding size_in
size_found fields four m raw bytes found = ap (λ r. r >>= λ four. or_wrong_size m raw (from_le_bytes w32 four)) found

said_in : (four : List ℕ) (size : ℕ) → size ≡ from_le_bytes w32 (take 4 four) → length four ≡ 4 → from_le_bytes w32 four ≡ size
said_in four size is long = ap (from_le_bytes w32) (sym (take_all 4 four (omega arith))) ∙ sym is

pub size_right : (fields four : List ℕ) (m : Method) (raw size : ℕ) (bytes : List ℕ) → sizes_after fields 4 bytes ≡ Ok four → size ≡ from_le_bytes w32 (take 4 four) → length four ≡ 4 → is_size m raw size ≡ true → Ok size ≡ size_in fields m raw bytes
size_right fields four m raw size bytes found is long fits =
    sym (size_found fields four m raw bytes found ∙ ap (or_wrong_size m raw) (said_in four size is long) ∙ tested_passes WrongSize (is_size m raw size) size fits)

pub size_wrong : (fields four : List ℕ) (m : Method) (raw size : ℕ) (bytes : List ℕ) → sizes_after fields 4 bytes ≡ Ok four → size ≡ from_le_bytes w32 (take 4 four) → length four ≡ 4 → is_size m raw size ≡ false → Err WrongSize ≡ size_in fields m raw bytes
size_wrong fields four m raw size bytes found is long other =
    sym (size_found fields four m raw bytes found ∙ ap (or_wrong_size m raw) (said_in four size is long) ∙ tested_fails WrongSize (is_size m raw size) size other)

pub size_not : (fields : List ℕ) (m : Method) (raw : ℕ) (bytes : List ℕ) (fault : ChunkFault) → sizes_after fields 4 bytes ≡ Err fault → size_in fields m raw bytes ≡ Err fault
unfolding size_in
size_not fields m raw bytes fault none = ap (λ r. r >>= λ four. or_wrong_size m raw (from_le_bytes w32 four)) none

pub data_found : (fields : List ℕ) (m : Method) (raw size : ℕ) (bytes : List ℕ) → size_in fields m raw bytes ≡ Ok size → data_in fields m raw bytes ≡ first_bytes size (drop (length fields + 4) bytes)
unfolding data_in
data_found fields m raw size bytes found = ap (λ r. r >>= λ size. first_bytes size (drop (length fields + 4) bytes)) found

pub data_not : (fields : List ℕ) (m : Method) (raw : ℕ) (bytes : List ℕ) (fault : ChunkFault) → size_in fields m raw bytes ≡ Err fault → data_in fields m raw bytes ≡ Err fault
unfolding data_in
data_not fields m raw bytes fault none = ap (λ r. r >>= λ size. first_bytes size (drop (length fields + 4) bytes)) none

size_of_front : (fields : List ℕ) (m : Method) (raw n : ℕ) (bytes : List ℕ) → length fields + 4 ≤ n → size_in fields m raw (take n bytes) ≡ size_in fields m raw bytes
unfolding size_in
size_of_front fields m raw n bytes le =
    ap (λ r. r >>= λ four. or_wrong_size m raw (from_le_bytes w32 four)) (after_of_front fields 4 n bytes le)

tested_within : (b : Bool) (m : Method) (raw size : ℕ) → is_size m raw size ≡ b → IfOk (tested WrongSize b size) (λ n. n ≤ raw)
tested_within true m raw size e = size_within m raw size e
tested_within false m raw size e = tt

said_within : (m : Method) (raw : ℕ) (found : Result (List ℕ) ChunkFault) → IfOk (found >>= λ four. or_wrong_size m raw (from_le_bytes w32 four)) (λ n. n ≤ raw)
said_within m raw (Ok four) = tested_within (is_size m raw (from_le_bytes w32 four)) m raw (from_le_bytes w32 four) refl
said_within m raw (Err f) = tt

in_within : (fields : List ℕ) (m : Method) (raw : ℕ) (bytes : List ℕ) → IfOk (size_in fields m raw bytes) (λ n. n ≤ raw)
unfolding size_in
in_within fields m raw bytes = said_within m raw (sizes_after fields 4 bytes)

sized_of_front : (found : Result ℕ ChunkFault) (raw : ℕ) (rest : List ℕ) → IfOk found (λ n. n ≤ raw) → (found >>= λ size. first_bytes size (take raw rest)) ≡ (found >>= λ size. first_bytes size rest)
sized_of_front (Ok size) raw rest le = first_of_front size raw rest le
sized_of_front (Err f) raw rest le = refl

-- a chunk that is read as far as it can go
pub data_of_front : (fields : List ℕ) (m : Method) (raw : ℕ) (bytes : List ℕ) → data_in fields m raw (take (length fields + 4 + raw) bytes) ≡ data_in fields m raw bytes
unfolding data_in
data_of_front fields m raw bytes =
    let n = length fields + 4 in
    ap (λ r. r >>= λ size. first_bytes size (drop n (take (n + raw) bytes))) (size_of_front fields m raw (n + raw) bytes (omega arith))
    ∙ ap (λ rest. size_in fields m raw bytes >>= λ size. first_bytes size rest) (drop-take n raw bytes)
    ∙ sized_of_front (size_in fields m raw bytes) raw (drop n bytes) (in_within fields m raw bytes)

-- and what is read where a file of some length ends
pub data_of_piece : (fields : List ℕ) (m : Method) (raw most : ℕ) (bytes : List ℕ) → most ≡ min (length bytes) (length fields + 4 + raw) → data_in fields m raw (take most bytes) ≡ data_in fields m raw bytes
data_of_piece fields m raw most bytes is =
    let other : most ≡ min (length fields + 4 + raw) (length bytes) = omega (arith, is) in
    ap (λ n. data_in fields m raw (take n bytes)) other
    ∙ ap (data_in fields m raw) (take_min (length fields + 4 + raw) bytes)
    ∙ data_of_front fields m raw bytes

-- ---- deep data

sizes_found : (fields found : List ℕ) (m : Method) (raw : ℕ) (bytes : List ℕ) → sizes_after fields 24 bytes ≡ Ok found → deep_sizes_in fields m raw bytes ≡ or_wrong_sizes m raw (three_sizes found)
unfolding deep_sizes_in
sizes_found fields found m raw bytes is = ap (λ r. r >>= λ found. or_wrong_sizes m raw (three_sizes found)) is

pub sizes_right : (fields found : List ℕ) (m : Method) (raw : ℕ) (sizes : DeepSizes) (bytes : List ℕ) → sizes_after fields 24 bytes ≡ Ok found → sizes ≡ three_sizes found → are_sizes m raw sizes ≡ true → Ok sizes ≡ deep_sizes_in fields m raw bytes
sizes_right fields found m raw sizes bytes after is fits =
    sym (sizes_found fields found m raw bytes after ∙ ap (or_wrong_sizes m raw) (sym is) ∙ tested_passes WrongSize (are_sizes m raw sizes) sizes fits)

pub sizes_wrong : (fields found : List ℕ) (m : Method) (raw : ℕ) (sizes : DeepSizes) (bytes : List ℕ) → sizes_after fields 24 bytes ≡ Ok found → sizes ≡ three_sizes found → are_sizes m raw sizes ≡ false → Err WrongSize ≡ deep_sizes_in fields m raw bytes
sizes_wrong fields found m raw sizes bytes after is other =
    sym (sizes_found fields found m raw bytes after ∙ ap (or_wrong_sizes m raw) (sym is) ∙ tested_fails WrongSize (are_sizes m raw sizes) sizes other)

pub sizes_not : (fields : List ℕ) (m : Method) (raw : ℕ) (bytes : List ℕ) (fault : ChunkFault) → sizes_after fields 24 bytes ≡ Err fault → deep_sizes_in fields m raw bytes ≡ Err fault
unfolding deep_sizes_in
sizes_not fields m raw bytes fault none = ap (λ r. r >>= λ found. or_wrong_sizes m raw (three_sizes found)) none

-- what is read of the fields and sizes where a file of some length ends
pub sizes_of_piece : (fields : List ℕ) (m : Method) (raw most : ℕ) (bytes : List ℕ) → most ≡ min (length bytes) (length fields + 24) → deep_sizes_in fields m raw (take most bytes) ≡ deep_sizes_in fields m raw bytes
unfolding deep_sizes_in
sizes_of_piece fields m raw most bytes is =
    let n = length fields + 24 in
    let other : most ≡ min n (length bytes) = omega (arith, is) in
    ap (λ r. r >>= λ found. or_wrong_sizes m raw (three_sizes found))
    (ap (λ k. sizes_after fields 24 (take k bytes)) other ∙ ap (sizes_after fields 24) (take_min n bytes) ∙ after_of_front fields 24 n bytes (omega arith))

pub deep_found : (fields : List ℕ) (m : Method) (raw : ℕ) (sizes : DeepSizes) (bytes : List ℕ) → deep_sizes_in fields m raw bytes ≡ Ok sizes → deep_in fields m raw bytes ≡ sized_body sizes (drop (length fields + 24) bytes)
unfolding deep_in
deep_found fields m raw sizes bytes found = ap (λ r. r >>= λ sizes. sized_body sizes (drop (length fields + 24) bytes)) found

-- the table and the samples where they are there
pub body_there : (sizes : DeepSizes) (bytes : List ℕ) → sizes.table + sizes.samples ≤ length bytes
    → sized_body sizes bytes ≡ Ok (record { table = take sizes.table bytes; samples = take sizes.samples (drop sizes.table bytes); unpacked = sizes.unpacked })
unfolding sized_body
body_there sizes bytes le =
    let front = take-take sizes.table (sizes.table + sizes.samples) bytes (omega arith) in
    let rest = drop-take sizes.table sizes.samples bytes in
    let of_lists : List ℕ → List ℕ → DeepBody = λ table samples. record { table = table; samples = samples; unpacked = sizes.unpacked } in
    ap (λ r. r >>= λ found. Ok (body_in sizes found)) (there (sizes.table + sizes.samples) bytes le)
    ∙ (λ i. Ok (of_lists (front i) (rest i)))

pub body_outside : (sizes : DeepSizes) (bytes : List ℕ) → length bytes < sizes.table + sizes.samples → sized_body sizes bytes ≡ Err Outside
unfolding sized_body
body_outside sizes bytes lt = ap (λ r. r >>= λ found. Ok (body_in sizes found)) (not_there (sizes.table + sizes.samples) bytes lt)

pub body_of_front : (sizes : DeepSizes) (bytes : List ℕ) → sized_body sizes (take (sizes.table + sizes.samples) bytes) ≡ sized_body sizes bytes
unfolding sized_body
body_of_front sizes bytes =
    ap (λ r. r >>= λ found. Ok (body_in sizes found)) (first_of_front (sizes.table + sizes.samples) (sizes.table + sizes.samples) bytes (omega arith))

-- ---- a chunk by its entry

-- what a chunk of a file is read by: the fields that name it, and its data from a place on
abbrev pub chunk_data : Opened → ℕ → ℕ → ℕ → Result Stored ChunkFault
chunk_data file part i entry = stored_in (is_deep (header_in file part).kind) (chunk_fields file.head.multi part (place_of (header_in file part) i)) (header_in file part).method (chunk_bytes_of (header_in file part) i) (drop entry file.content)

pub chunk_at : (file : Opened) (part i entry : ℕ) → entry_in (drop (entry_place file.head.parts file.head_bytes part i) file.content) ≡ Ok entry → chunk_of file part i ≡ chunk_data file part i entry
unfolding chunk_of
chunk_at file part i entry e = ap (λ r. r >>= chunk_data file part i) e

pub chunk_not : (file : Opened) (part i : ℕ) (fault : ChunkFault) → entry_in (drop (entry_place file.head.parts file.head_bytes part i) file.content) ≡ Err fault → chunk_of file part i ≡ Err fault
unfolding chunk_of
chunk_not file part i fault e = ap (λ r. r >>= chunk_data file part i) e
