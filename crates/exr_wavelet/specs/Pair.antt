-- Two words as their mean and their difference, and back; and a square of four words, rows and then columns.
use Rattle.std.specs.Prelude.{ℕ, ◌+◌, ◌-◌, ◌/◌, ◌%◌, nat_lt, if◌then◌else◌}
use Rattle.exr_wavelet.specs.declared.pair.Square.{Square}
use Rattle.exr_wavelet.specs.declared.pair.Way.{Way}
use Rattle.exr_wavelet.specs.declared.pair.Way.TheVariants.{Encode, Decode}

-- a word that is read with sign, counted from the least such word, -32768
abbrev pub above_least : ℕ → ℕ
above_least word = (word + 32768) % 65536

-- for words below 16384: l is (a + b) >> 1 and h is a - b, of words with sign
abbrev pub small_pair_of : ℕ → ℕ → ℕ × ℕ
small_pair_of a b = (((above_least a + above_least b) / 2 + 32768) % 65536, (a + 65536 - b) % 65536)

-- and back: a is l + (h & 1) + (h >> 1), where the shift keeps the sign, and b is a - h
abbrev pub small_back_of : ℕ → ℕ → ℕ × ℕ
small_back_of l h = let a = (l + h % 2 + (above_least h / 2 + 49152)) % 65536 in (a, (a + 65536 - h) % 65536)

-- for all words: with a moved by 32768, l is the half of a + b, moved by 32768 where a - b is negative, and h is a - b
abbrev pub wrapped_pair_of : ℕ → ℕ → ℕ × ℕ
wrapped_pair_of a b = let moved = (a + 32768) % 65536 in
    ((if nat_lt moved b then ((moved + b) / 2 + 32768) % 65536 else (moved + b) / 2), (moved + 65536 - b) % 65536)

-- and back: b is l - (h >> 1), and a is h + b - 32768
abbrev pub wrapped_back_of : ℕ → ℕ → ℕ × ℕ
wrapped_back_of l h = let b = (l + 65536 - h / 2) % 65536 in ((h + b + 32768) % 65536, b)

-- the pair step by the greatest word
abbrev pub pair_of : ℕ → ℕ → ℕ → ℕ × ℕ
pair_of max a b = if nat_lt max 16384 then small_pair_of a b else wrapped_pair_of a b

abbrev pub back_of : ℕ → ℕ → ℕ → ℕ × ℕ
back_of max l h = if nat_lt max 16384 then small_back_of l h else wrapped_back_of l h

-- each of the two rows, then each of the two columns of what they give
abbrev pub square_of : ℕ → Square → Square
square_of max s =
    let top = pair_of max s.first s.right in
    let bottom = pair_of max s.below s.across in
    let left = pair_of max top.0 bottom.0 in
    let right = pair_of max top.1 bottom.1 in
    record { first = left.0; right = right.0; below = left.1; across = right.1 }

-- back: the columns, then the rows
abbrev pub unsquare_of : ℕ → Square → Square
unsquare_of max s =
    let left = back_of max s.first s.below in
    let right = back_of max s.right s.across in
    let top = back_of max left.0 right.0 in
    let bottom = back_of max left.1 right.1 in
    record { first = top.0; right = top.1; below = bottom.0; across = bottom.1 }

-- by the way that is gone
abbrev pub pair_by : Way → ℕ → ℕ → ℕ → ℕ × ℕ
pair_by Encode max a b = pair_of max a b
pair_by Decode max a b = back_of max a b

abbrev pub square_by : Way → ℕ → Square → Square
square_by Encode max s = square_of max s
square_by Decode max s = unsquare_of max s
