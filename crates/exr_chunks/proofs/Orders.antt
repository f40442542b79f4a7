-- The order of chunks: in rows, in a part, in a file.
use Rattle.std.proofs.Common.{◌≡◌, ℕ, ◌+◌, ◌-◌, ◌*◌, ◌/◌, ◌%◌, ◌<◌, Bool, true, false, List, [], ◌∷◌, length, get_or, take, refl, sym, ap, ◌∙◌, arith}
use Rattle.std.specs.List.{flat_map}
use Rattle.std.proofs.lemmas.Nat.{div-mul-add, mod-mul-add, mul-add-lt, div-add-mod', mod_below, row-Below}
use Rattle.std.proofs.lemmas.List.{get_or-reverse, length-reverse, length-append, length-take-le}
use Rattle.std.proofs.lemmas.List.FromFn.{length-range_with_len, get_or-range_with_len, length-map-range_with_len, get_or-map-range_with_len}
use Rattle.std.proofs.lemmas.List.Concat.{get_or-flat_map}
use Rattle.exr_chunks.specs.Turns.{numbers_below, rows_in_order, row_chunks, mirrored}

-- ---- rows

rows_length : (falling : Bool) (down : ℕ) → length (rows_in_order falling down) ≡ down
rows_length true down = length-reverse (numbers_below down) ∙ length-range_with_len 0 down
rows_length false down = length-range_with_len 0 down

-- the row that stands at a place
abbrev row_at : Bool → ℕ → ℕ → ℕ
row_at true down k = down - 1 - k
row_at false down k = k

rows_at : (falling : Bool) (down k e : ℕ) → k < down → get_or (rows_in_order falling down) k e ≡ row_at falling down k
rows_at true down k e within =
    let n = length-range_with_len 0 down in
    get_or-reverse (numbers_below down) k e (omega (arith, n, within))
    ∙ ap (λ m. get_or (numbers_below down) (m - 1 - k) e) n
    ∙ get_or-range_with_len 0 down (down - 1 - k) e (omega (arith, within)) ∙ omega arith
rows_at false down k e within = get_or-range_with_len 0 down k e within ∙ omega arith

one_row : (across row : ℕ) → length (row_chunks across row) ≡ across
one_row across row = length-map-range_with_len (λ column. row * across + column) 0 across

all_rows : (across : ℕ) (rows : List ℕ) → length (flat_map (row_chunks across) rows) ≡ length rows * across
all_rows across [] = omega arith
all_rows across (r ∷ rs) =
    let a = length-append (row_chunks across r) (flat_map (row_chunks across) rs) in
    let b = one_row across r in
    let c = all_rows across rs in
    a ∙ omega (arith, b, c)

-- the chunks of a part by rows
abbrev pub chunks_by : Bool → ℕ → ℕ → List ℕ
chunks_by falling across down = flat_map (row_chunks across) (rows_in_order falling down)

pub order_length : (falling : Bool) (across down : ℕ) → length (chunks_by falling across down) ≡ across * down
order_length falling across down =
    let a = rows_length falling down in
    all_rows across (rows_in_order falling down) ∙ ap (λ n. n * across) a ∙ omega arith

mirrored_at : (falling : Bool) (across down k : ℕ) → row_at falling down (k / across) * across + k % across ≡ mirrored falling across down k
mirrored_at true across down k = refl
mirrored_at false across down k = div-add-mod' k across

pub order_at : (falling : Bool) (across down k d : ℕ) → 0 < across → k < across * down → get_or (chunks_by falling across down) k d ≡ mirrored falling across down k
order_at falling across down k d some within =
    let rows = rows_in_order falling down in
    let i = k / across in
    let j = k % across in
    let f = row_chunks across in
    let low : j < across = mod_below k across some in
    let above : i < down = (row-Below k across across down within (omega arith)).1 in
    let many = rows_length falling down in
    let inside : i < length rows = omega (arith, many, above) in
    let row = get_or rows i 0 in
    let before : length (flat_map f (take i rows)) + j ≡ k =
    ap (λ n. n + j) (all_rows across (take i rows) ∙ ap (λ n. n * across) (length-take-le i rows (omega (arith, inside)))) ∙ div-add-mod' k across in
    let there = get_or-flat_map f rows i j 0 d inside (omega (arith, one_row across row, low)) in
    ap (λ n. get_or (flat_map f rows) n d) (sym before) ∙ there
    ∙ get_or-map-range_with_len (λ column. row * across + column) 0 across j j d low (omega arith)
    ∙ ap (λ r. r * across + j) (rows_at falling down i 0 above) ∙ mirrored_at falling across down k

-- ---- the closed formula goes there and back

pub mirrored_within : (falling : Bool) (across down k : ℕ) → 0 < across → k < across * down → mirrored falling across down k < across * down
mirrored_within false across down k some within = within
mirrored_within true across down k some within =
    let low : k % across < across = mod_below k across some in
    let above : k / across < down = (row-Below k across across down within (omega arith)).1 in
    let m = mul-add-lt (down - 1 - k / across) across (k % across) down (omega (arith, above)) low in
    omega (arith, m)

pub mirrored_back : (falling : Bool) (across down k : ℕ) → 0 < across → k < across * down → mirrored falling across down (mirrored falling across down k) ≡ k
mirrored_back false across down k some within = refl
mirrored_back true across down k some within =
    let low : k % across < across = mod_below k across some in
    let above : k / across < down = (row-Below k across across down within (omega arith)).1 in
    let r = down - 1 - k / across in
    let q = div-mul-add r across (k % across) low in
    let m = mod-mul-add r across (k % across) low in
    let back : down - 1 - r ≡ k / across = omega (arith, above) in
    ap (λ n. (down - 1 - n) * across + (r * across + k % across) % across) q ∙ ap (λ n. (down - 1 - r) * across + n) m
    ∙ ap (λ n. n * across + k % across) back ∙ div-add-mod' k across
