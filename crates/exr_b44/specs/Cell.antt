-- A cell of 4 by 4 halves, places 0 to 15 along its lines, packed and unpacked.
-- Technical Introduction, "Data Compression"; the bytes of a cell are this project's (own).
use Rattle.std.specs.Prelude.{ℕ, zero, suc, ◌+◌, ◌-◌, ◌*◌, ◌/◌, ◌%◌, ◌^◌, max, List, [], ◌∷◌, ◌++◌, map, sum, fold, slice_index, slice_index_or, slice_range, Bool, ◌==◌, ◌&&◌, nat_lt, nat_le, if◌then◌else◌, drop}
use Rattle.std.specs.List.{range_with_len, flat_map, list_all, position_or_len}

-- the pairs of places of which a cell stores the differences, in that order: down the first column, and then from each
-- column to the next
abbrev pub pairs : List (ℕ × ℕ)
pairs =
    (0, 4) ∷ (4, 8) ∷ (8, 12) ∷
    (0, 1) ∷ (4, 5) ∷ (8, 9) ∷ (12, 13) ∷
    (1, 2) ∷ (5, 6) ∷ (9, 10) ∷ (13, 14) ∷
    (2, 3) ∷ (6, 7) ∷ (10, 11) ∷ (14, 15) ∷ []

-- the two bytes of a number, high byte first
abbrev pub two_bytes : ℕ → List ℕ
two_bytes n = n / 256 ∷ n % 256 ∷ []

-- numbers of six bits in bytes, high bit first: four of them in three bytes
abbrev pub bytes_of_sixes : List ℕ → List ℕ
bytes_of_sixes (a ∷ b ∷ c ∷ d ∷ rest) = (a * 4 + b / 16) ∷ (b % 16 * 16 + c / 4) ∷ (c % 4 * 64 + d) ∷ bytes_of_sixes rest
bytes_of_sixes _ = []

-- the numbers of six bits in bytes
abbrev pub sixes_of_bytes : List ℕ → List ℕ
sixes_of_bytes (a ∷ b ∷ c ∷ rest) = a / 4 ∷ (a % 4 * 16 + b / 16) ∷ (b % 16 * 4 + c / 64) ∷ c % 64 ∷ sixes_of_bytes rest
sixes_of_bytes _ = []

-- ---- packing

-- a half as a number that is the greater the greater its value; one whose exponent bits are all set counts as 0
abbrev pub ordered : ℕ → ℕ
ordered s = if s / 1024 % 32 == 31 then 32768 else if nat_lt s 32768 then s + 32768 else 65535 - s

-- x / p, rounded to nearest, ties to even
abbrev pub rounded : ℕ → ℕ → ℕ
rounded x p =
    let quotient = x / p in
    let twice = 2 * (x % p) in
    if nat_lt twice p then quotient else if twice == p then quotient + quotient % 2 else quotient + 1

abbrev pub greatest_of : List ℕ → ℕ
greatest_of numbers = fold max 0 numbers

-- how far each number is below the greatest
unfoldable pub below_of : List ℕ → List ℕ
below_of numbers = map (λ t. greatest_of numbers - t) numbers

-- that in units of 2 ^ shift
unfoldable pub depths_of : List ℕ → ℕ → List ℕ
depths_of below shift = map (λ x. rounded x (2 ^ shift)) below

-- the depth at the first place of a pair minus that at the second, plus 32
abbrev pub difference : List ℕ → ℕ × ℕ → ℕ
difference depths pair = slice_index depths pair.0 + 32 - slice_index depths pair.1

-- whether that lies in 0 to 63
abbrev pub fits : List ℕ → ℕ × ℕ → Bool
fits depths pair = nat_le (slice_index depths pair.1) (slice_index depths pair.0 + 32) && nat_le (slice_index depths pair.0 + 32) (slice_index depths pair.1 + 63)

unfoldable pub differences_of : List ℕ → List ℕ
differences_of depths = map (difference depths) pairs

unfoldable pub all_fit : List ℕ → Bool
all_fit depths = list_all (fits depths) pairs

-- the least shift at which all fifteen lie in 0 to 63
unfoldable pub shift_of : List ℕ → ℕ
shift_of below = position_or_len (λ shift. all_fit (depths_of below shift)) (range_with_len 0 16)

-- the bytes of a cell; `flat` says whether one whose depths are all the same has three of them
unfoldable pub cell_of : List ℕ → Bool → List ℕ
cell_of halves flat =
    let numbers = map ordered halves in
    let below = below_of numbers in
    let shift = shift_of below in
    let depths = depths_of below shift in
    let differences = differences_of depths in
    if flat && list_all (λ d. d == 32) differences
    then two_bytes (slice_index numbers 0) ++ 252 ∷ []
    else two_bytes ((greatest_of numbers + 65536 - slice_index depths 0 * 2 ^ shift) % 65536) ++ bytes_of_sixes (shift ∷ differences)

-- ---- unpacking

-- the length of the cell at the front; a byte that is missing counts as 0, so that a cell that is cut off is longer than
-- what is left of it
abbrev pub cell_len : List ℕ → ℕ
cell_len packed = if nat_le 52 (slice_index packed 2) then 3 else 14

-- where in `pairs` the steps stand that lead from place 0 to a place, the last one first; no way has more than six
abbrev pub way_within : ℕ → ℕ → List ℕ
way_within zero place = []
way_within (suc more) place = if place == 0 then [] else
    let step = position_or_len (λ pair. pair.1 == place) pairs in
    step ∷ way_within more (slice_index_or pairs step (0, 0)).0

abbrev pub way_to : ℕ → List ℕ
way_to place = way_within 6 place

-- the first number plus the sum of the shifted differences along the way to a place, each minus 32 << shift, which is
-- plus 32 * (65536 - 2 ^ shift) modulo 65536
abbrev pub number_along : ℕ → ℕ → List ℕ → ℕ → ℕ
number_along first shift differences place =
    (first + sum (map (λ step. slice_index differences step * 2 ^ shift + 32 * (65536 - 2 ^ shift)) (way_to place))) % 65536

-- a number with bit 15 set has it cleared, another is complemented
abbrev pub half_of : ℕ → ℕ
half_of number = if nat_lt number 32768 then 65535 - number else number - 32768

-- the number at a place of the cell at the front
abbrev pub number_in : List ℕ → ℕ → ℕ
number_in packed place =
    let first = 256 * slice_index packed 0 + slice_index packed 1 in
    let sixes = sixes_of_bytes (slice_range packed 2 14) in
    if nat_le 52 (slice_index packed 2) then first else number_along first (slice_index sixes 0) (drop 1 sixes) place

-- the sixteen halves of the cell at the front
unfoldable pub uncell_of : List ℕ → List ℕ
uncell_of packed = map (λ place. half_of (number_in packed place)) (range_with_len 0 16)

-- halves as bytes, low byte first
abbrev pub bytes_of_halves : List ℕ → List ℕ
bytes_of_halves halves = flat_map (λ half. half % 256 ∷ half / 256 ∷ []) halves
