-- The value map: which words occur in a block. They are renumbered by their rank among the values that are present.
-- (own, after the method as the public library stores it)
use Rattle.std.specs.Prelude.{ℕ, zero, suc, ◌+◌, ◌++◌, ◌-◌, ◌*◌, ◌/◌, ◌%◌, ◌^◌, Bool, not, ◌&&◌, ◌||◌, ◌==◌, nat_le, if◌then◌else◌, List, length, take, drop, map, slice_index, min}
use Rattle.std.specs.Int.{w16, to_le_bytes}
use Rattle.std.specs.List.{range_with_len, filter, list_any, prefix_len, suffix_len}

-- the numbers below n that pass a test, rising
unfoldable pub passing_below : (ℕ → Bool) → ℕ → List ℕ
passing_below test n = filter test (range_with_len 0 n)

-- ---- a map as it is read: its bytes from byte `first` on

-- the bit of a value: bit v mod 8, where 1 is the low bit, of byte v div 8
abbrev pub is_marked : ℕ → List ℕ → ℕ → Bool
is_marked first bytes v = nat_le first (v / 8) && (slice_index bytes (v / 8 - first) / 2 ^ (v % 8) % 2 == 1)

-- 0 is present whatever its bit says
abbrev pub is_present : ℕ → List ℕ → ℕ → Bool
is_present first bytes v = (v == 0) || is_marked first bytes v

-- the values that are present, rising: a value's place is its rank
unfoldable pub values_of : ℕ → List ℕ → List ℕ
values_of first bytes = passing_below (is_present first bytes) 65536

-- ---- the map of words as it is written

-- a word is among the words
abbrev pub occurs : List ℕ → ℕ → Bool
occurs words v = list_any (λ w. w == v) words

-- the values that count as present: those that occur, and 0
abbrev pub is_used : List ℕ → ℕ → Bool
is_used words v = (v == 0) || occurs words v

-- the bit of a value: whether it occurs; that of 0 is 0
abbrev pub is_set : List ℕ → ℕ → Bool
is_set words v = not (v == 0) && occurs words v

-- the number of which the bits from the low one up are the first n tests
unfoldable pub number_with : (ℕ → Bool) → ℕ → ℕ
number_with test zero = 0
number_with test (suc n) = number_with test n + (if test n then 2 ^ n else 0)

-- byte b of the map
abbrev pub map_byte : List ℕ → ℕ → ℕ
map_byte words b = number_with (λ i. is_set words (8 * b + i)) 8

-- the first n bytes of the map, which has 8,192
unfoldable pub map_bytes : List ℕ → ℕ → List ℕ
map_bytes words n = map (map_byte words) (range_with_len 0 n)

-- the least and the greatest index of a byte that is not zero; 8191 and 0 where all are
unfoldable pub first_byte_of : List ℕ → ℕ
first_byte_of words = min 8191 (prefix_len (λ b. b == 0) (map_bytes words 8192))

unfoldable pub last_byte_of : List ℕ → ℕ
last_byte_of words = 8191 - min 8191 (suffix_len (λ b. b == 0) (map_bytes words 8192))

-- the bytes from one to the other
unfoldable pub stored_map_of : List ℕ → List ℕ
stored_map_of words = take (last_byte_of words + 1 - first_byte_of words) (drop (first_byte_of words) (map_bytes words 8192))

-- how the map of words is stored: the two indexes, and the bytes from one to the other
unfoldable pub map_front_of : List ℕ → List ℕ
map_front_of words = to_le_bytes w16 (first_byte_of words) ++ to_le_bytes w16 (last_byte_of words) ++ stored_map_of words

-- the rank of a value: how many of the values that are present are below it
unfoldable pub rank_of : List ℕ → ℕ → ℕ
rank_of words v = length (passing_below (is_used words) v)

-- the greatest rank
unfoldable pub greatest_rank_of : List ℕ → ℕ
greatest_rank_of words = length (passing_below (is_used words) 65536) - 1
