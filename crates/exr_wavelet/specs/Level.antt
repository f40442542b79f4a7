-- One level of the wavelet, place by place.
use Rattle.std.specs.Prelude.{ℕ, ◌+◌, ◌*◌, ◌/◌, ◌%◌, Bool, ◌==◌, ◌&&◌, nat_le, if◌then◌else◌}
use Rattle.exr_wavelet.specs.declared.pair.Square.{Square}
use Rattle.exr_wavelet.specs.declared.pair.Way.{Way}
use Rattle.exr_wavelet.specs.declared.pair.Way.TheVariants.{Encode, Decode}
use Rattle.exr_wavelet.specs.Pair.{pair_by, square_by}

-- the word in column x of line y
abbrev pub Matrix : Type 0
Matrix = ℕ → ℕ → ℕ

-- the square whose least corner is at (x, y), with its corners p apart
abbrev pub square_at : Matrix → ℕ → ℕ → ℕ → Square
square_at M x y p = record { first = M x y; right = M (x + p) y; below = M x (y + p); across = M (x + p) (y + p) }

-- the matrix with a square's words at its corners
abbrev pub put_square : Matrix → ℕ → ℕ → ℕ → Square → Matrix
put_square M x0 y0 p s x y =
    if y == y0 then (if x == x0 then s.first else if x == x0 + p then s.right else M x y)
    else if y == y0 + p then (if x == x0 then s.below else if x == x0 + p then s.across else M x y)
    else M x y

-- the matrix with a pair's words in a column, p apart
abbrev pub put_column : Matrix → ℕ → ℕ → ℕ → ℕ × ℕ → Matrix
put_column M x0 y0 p pair x y = if x == x0 then (if y == y0 then pair.0 else if y == y0 + p then pair.1 else M x y) else M x y

-- the matrix with a pair's words in a line, p apart
abbrev pub put_line : Matrix → ℕ → ℕ → ℕ → ℕ × ℕ → Matrix
put_line M x0 y0 p pair x y = if y == y0 then (if x == x0 then pair.0 else if x == x0 + p then pair.1 else M x y) else M x y

-- the greatest multiple of 2 p up to a place
abbrev pub start_of : ℕ → ℕ → ℕ
start_of p place = place / (2 * p) * (2 * p)

-- whether the 2 p places from there on lie in a side
abbrev pub is_whole : ℕ → ℕ → ℕ → Bool
is_whole p side place = nat_le (start_of p place + 2 * p) side

-- whether a side has bit p and the place is 2 p * (side div 2 p)
abbrev pub is_odd_end : ℕ → ℕ → ℕ → Bool
is_odd_end p side place = (side / p % 2 == 1) && (place == start_of p side)

-- each whole square of the lines y0 and y0 + p stepped
abbrev pub squares_along : Way → ℕ → ℕ → ℕ → ℕ → Matrix → Matrix
squares_along way max nx p y0 M x y = let x0 = start_of p x in
    if is_whole p nx x then put_square M x0 y0 p (square_by way max (square_at M x0 y0 p)) x y else M x y

-- each whole pair of the line y0 stepped
abbrev pub pairs_along : Way → ℕ → ℕ → ℕ → ℕ → Matrix → Matrix
pairs_along way max nx p y0 M x y = let x0 = start_of p x in
    if is_whole p nx x then put_line M x0 y0 p (pair_by way max (M x0 y0) (M (x0 + p) y0)) x y else M x y

-- the squares of the lines y0 and y0 + p stepped, and the pair there of the odd column
abbrev pub two_lines_of : Way → ℕ → ℕ → ℕ → ℕ → Matrix → Matrix
two_lines_of way max nx p y0 M x y =
    if is_whole p nx x then squares_along way max nx p y0 M x y
    else if is_odd_end p nx x then put_column M x y0 p (pair_by way max (M x y0) (M x (y0 + p))) x y else M x y

-- one level: the place's square, or its pair in the odd line or in the odd column, has been stepped; else the word stays
abbrev pub level_by : Way → ℕ → ℕ → ℕ → ℕ → Matrix → Matrix
level_by way max nx ny p M x y =
    let x0 = start_of p x in
    let y0 = start_of p y in
    if is_whole p nx x
    then (if is_whole p ny y
    then put_square M x0 y0 p (square_by way max (square_at M x0 y0 p)) x y
    else if is_odd_end p ny y then put_line M x0 y p (pair_by way max (M x0 y) (M (x0 + p) y)) x y else M x y)
    else if is_odd_end p nx x && is_whole p ny y
    then put_column M x y0 p (pair_by way max (M x y0) (M x (y0 + p))) x y
    else M x y

abbrev pub wave_level_of : ℕ → ℕ → ℕ → ℕ → Matrix → Matrix
wave_level_of max nx ny p M = level_by Encode max nx ny p M

abbrev pub unwave_level_of : ℕ → ℕ → ℕ → ℕ → Matrix → Matrix
unwave_level_of max nx ny p M = level_by Decode max nx ny p M
