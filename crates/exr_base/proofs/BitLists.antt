-- Laws of lists of bits: joined, cut, and read back from numbers and bytes.
use Rattle.std.proofs.Common.{◌≡◌, ℕ, zero, suc, ◌+◌, ◌-◌, ◌*◌, ◌/◌, ◌%◌, ◌^◌, ◌<◌, ◌≤◌, Bool, true, false, cond, eqb, List, [], ◌∷◌, ◌++◌, length, take, drop, replicate, get_or, bit_and, bit_or, refl, sym, ap, ◌∙◌, ap₂, subst, arith, suc-add, zero-add, mod-eq_of_lt}
use Rattle.std.proofs.Math.Numerals.{one-add}
use Rattle.std.proofs.Math.Nat.{pow-suc}
use Rattle.std.proofs.Math.Pow.{mod-mod-pow}
use Rattle.std.proofs.Math.Seq.{take-add}
use Rattle.std.proofs.lemmas.List.{length-append, length-take, length-take-le, length-drop, length-replicate, replicate-append-replicate, append-nil, take_at, drop_at, append_assoc, drop-drop, drop-take, drop_all, drop_more, take-append-le, drop-append-le}
use Rattle.std.proofs.lemmas.List.Concat.{flat_map-append}
use Rattle.std.proofs.lemmas.Nat.{pow_pos, pow-add, shr-shr, mod-pow-add, field_of, shr_high, mod_low, mod_below, shl_whole, or_shifted, shl_below, one_shl, and_mask, mul-add-lt}
use Rattle.std.proofs.Math.Pow.{pow_mono}
use Rattle.exr_base.specs.Bits.{number_of, bits_of, bits_of_bytes, first_bytes_of, bytes_of}

pub length-bits_of : (n number : ℕ) → length (bits_of n number) ≡ n
unfolding bits_of
length-bits_of zero number = refl
length-bits_of (suc n) number = ap suc (length-bits_of n number)

pub number_of-append : (front back : List Bool) → number_of (front ++ back) ≡ number_of front * 2 ^ length back + number_of back
unfolding number_of
number_of-append [] back = omega arith
number_of-append (true ∷ front) back =
    rw (length-append front back, number_of-append front back, pow-add 2 (length front) (length back)) (omega arith)
number_of-append (false ∷ front) back = number_of-append front back

pub number_of-below : (bits : List Bool) → number_of bits < 2 ^ length bits
unfolding number_of
number_of-below [] = omega arith
number_of-below (true ∷ bits) = let h = number_of-below bits in rw pow-suc (omega arith)
number_of-below (false ∷ bits) = let h = number_of-below bits in rw pow-suc (omega arith)

bit_worth : (b w : ℕ) → b < 2 → cond (eqb b 1) w 0 ≡ b * w
bit_worth zero w h = omega arith
bit_worth (suc zero) w h = omega arith
bit_worth (suc (suc b)) w h = absurd (omega arith)

number_of-cons : (b : Bool) (bits : List Bool) → number_of (b ∷ bits) ≡ cond b (2 ^ length bits) 0 + number_of bits
unfolding number_of
number_of-cons true bits = refl
number_of-cons false bits = omega arith

-- a number's low bits spell it again
pub number_of-bits_of : (n number : ℕ) → number_of (bits_of n number) ≡ number % 2 ^ n
unfolding bits_of
number_of-bits_of zero number = unfold number_of in omega arith
number_of-bits_of (suc n) number =
    let e : number % 2 ^ suc n ≡ (number / 2 ^ n % 2) * 2 ^ n + number % 2 ^ n = subst (λ (k : ℕ). number % 2 ^ k ≡ (number / 2 ^ n % 2) * 2 ^ n + number % 2 ^ n) (one-add n) (mod-pow-add number 1 n) in
    rw (number_of-cons, number_of-bits_of n number, length-bits_of n number, bit_worth (number / 2 ^ n % 2) (2 ^ n) (mod_below (number / 2 ^ n) 2 (omega arith))) (sym e)

-- the high bits and the low bits
pub bits_of-add : (m n number : ℕ) → bits_of (m + n) number ≡ bits_of m (number / 2 ^ n) ++ bits_of n number
unfolding bits_of
bits_of-add zero n number = ap (λ k. bits_of k number) (zero-add n)
bits_of-add (suc m) n number =
    rw (suc-add m n, bits_of-add m n number, shr-shr number n m) (ap (λ k. eqb (number / 2 ^ k % 2) 1 ∷ (bits_of m (number / 2 ^ n) ++ bits_of n number)) (omega arith))

-- higher bits do not count
pub bits_of-mod : (n j number : ℕ) → bits_of n (number % 2 ^ (j + n)) ≡ bits_of n number
unfolding bits_of
bits_of-mod zero j number = refl
bits_of-mod (suc n) j number =
    let shift : j + suc n ≡ (j + 1) + n = omega arith in
    let e : number % 2 ^ (j + suc n) / 2 ^ n % 2 ≡ number / 2 ^ n % 2 =
    rw (shift, field_of number (j + 1) n) (mod-mod-pow (number / 2 ^ n) j 1) in
    ap₂ ◌∷◌ (ap (λ k. eqb k 1) e) (subst (λ (k : ℕ). bits_of n (number % 2 ^ k) ≡ bits_of n number) (sym shift) (bits_of-mod n (j + 1) number))

pub bits_of-low : (n number : ℕ) → bits_of n (number % 2 ^ n) ≡ bits_of n number
bits_of-low n number = subst (λ (k : ℕ). bits_of n (number % 2 ^ k) ≡ bits_of n number) (zero-add n) (bits_of-mod n 0 number)

-- a list of bits is spelled by its number
pub bits_of-number_of : (bits : List Bool) → bits_of (length bits) (number_of bits) ≡ bits
unfolding bits_of number_of
bits_of-number_of [] = refl
bits_of-number_of (true ∷ bits) =
    let n = length bits in
    let low = number_of bits in
    let below = number_of-below bits in
    let once : 2 ^ n + low ≡ 1 * 2 ^ n + low = omega arith in
    let e : (2 ^ n + low) / 2 ^ n ≡ 1 = rw once (shr_high 1 n low below) in
    let m : (2 ^ n + low) % 2 ^ n ≡ low = rw once (mod_low 1 n low below) in
    ap₂ ◌∷◌ (ap (λ k. eqb (k % 2) 1) e) (sym (bits_of-low n (2 ^ n + low)) ∙ ap (bits_of n) m ∙ bits_of-number_of bits)
bits_of-number_of (false ∷ bits) =
    let n = length bits in
    let low = number_of bits in
    let below = number_of-below bits in
    let once : low ≡ 0 * 2 ^ n + low = omega arith in
    let e : low / 2 ^ n ≡ 0 = subst (λ (k : ℕ). k / 2 ^ n ≡ 0) (sym once) (shr_high 0 n low below) in
    ap₂ ◌∷◌ (ap (λ k. eqb (k % 2) 1) e) (bits_of-number_of bits)

-- two lists of bits that are as long and spell the same number are the same
pub same_from_number_of : (xs ys : List Bool) → length xs ≡ length ys → number_of xs ≡ number_of ys → xs ≡ ys
same_from_number_of xs ys len number = sym (bits_of-number_of xs) ∙ ap₂ bits_of len number ∙ bits_of-number_of ys

-- so many bits behind others, and others behind them
pub bits_within_is : (offset count rest number : ℕ) → take count (drop offset (bits_of (offset + (count + rest)) number)) ≡ bits_of count (number / 2 ^ rest)
bits_within_is offset count rest number =
    let cut : drop offset (bits_of (offset + (count + rest)) number) ≡ bits_of (count + rest) number =
    rw (bits_of-add offset (count + rest) number) (drop_at (bits_of offset (number / 2 ^ (count + rest))) (bits_of (count + rest) number) offset (length-bits_of offset _)) in
    rw (cut, bits_of-add count rest number) (take_at (bits_of count (number / 2 ^ rest)) (bits_of rest number) count (length-bits_of count _))

-- one piece more of a number
pub number_of-take_more : (n more : ℕ) (bits : List Bool) → n + more ≤ length bits → number_of (take (n + more) bits) ≡ number_of (take n bits) * 2 ^ more + number_of (take more (drop n bits))
number_of-take_more n more bits within =
    let len : length (take more (drop n bits)) ≡ more = length-take-le more (drop n bits) (simp length-drop (omega arith)) in
    rw (take-add n more bits, number_of-append, len) refl

-- ---- bytes

pub length-bits_of_bytes : (bytes : List ℕ) → length (bits_of_bytes bytes) ≡ 8 * length bytes
unfolding bits_of_bytes
length-bits_of_bytes [] = refl
length-bits_of_bytes (b ∷ bytes) = rw (length-append, length-bits_of 8 b, length-bits_of_bytes bytes) (omega arith)

pub bits_of_bytes-append : (xs ys : List ℕ) → bits_of_bytes (xs ++ ys) ≡ bits_of_bytes xs ++ bits_of_bytes ys
unfolding bits_of_bytes
bits_of_bytes-append xs ys = flat_map-append (bits_of 8) xs ys

pub bits_of_bytes-cons : (b : ℕ) (bytes : List ℕ) → bits_of_bytes (b ∷ bytes) ≡ bits_of 8 b ++ bits_of_bytes bytes
unfolding bits_of_bytes
bits_of_bytes-cons b bytes = refl

pub drop-bits_of_bytes : (k : ℕ) (bytes : List ℕ) → drop (8 * k) (bits_of_bytes bytes) ≡ bits_of_bytes (drop k bytes)
unfolding bits_of_bytes
drop-bits_of_bytes zero bytes = refl
drop-bits_of_bytes (suc k) [] = drop_all (8 * suc k) (bits_of_bytes []) (rw length-bits_of_bytes (omega arith))
drop-bits_of_bytes (suc k) (b ∷ bytes) =
    let turn : 8 * suc k ≡ 8 + 8 * k = omega arith in
    rw (turn, ← drop-drop (8 * k) 8 (bits_of_bytes (b ∷ bytes)), bits_of_bytes-cons b bytes, drop_at (bits_of 8 b) (bits_of_bytes bytes) 8 (length-bits_of 8 b)) (drop-bits_of_bytes k bytes)

-- bits of one byte among all
pub bits_of_byte_at : (bytes : List ℕ) (place count : ℕ) → place % 8 + count ≤ 8 → place / 8 < length bytes → take count (drop place (bits_of_bytes bytes)) ≡ take count (drop (place % 8) (bits_of 8 (get_or bytes (place / 8) 0)))
bits_of_byte_at bytes place count fits within =
    let k = place / 8 in
    let r = place % 8 in
    let byte = bits_of 8 (get_or bytes k 0) in
    let turn : place ≡ 8 * k + r = omega arith in
    let len = length-bits_of 8 (get_or bytes k 0) in
    let cut : drop place (bits_of_bytes bytes) ≡ drop r byte ++ bits_of_bytes (drop (k + 1) bytes) =
    ap (λ n. drop n (bits_of_bytes bytes)) turn ∙ sym (drop-drop r (8 * k) (bits_of_bytes bytes)) ∙ ap (drop r) (drop-bits_of_bytes k bytes ∙ ap bits_of_bytes (drop_more bytes k 0 within) ∙ bits_of_bytes-cons (get_or bytes k 0) (drop (k + 1) bytes)) ∙ drop-append-le r byte (bits_of_bytes (drop (k + 1) bytes)) (omega arith) in
    ap (take count) cut ∙ take-append-le count (drop r byte) (bits_of_bytes (drop (k + 1) bytes)) (rw length-drop (omega arith))

-- so many bits of a byte behind its first ones
pub number_within_byte : (offset count byte : ℕ) → offset + count ≤ 8 → number_of (take count (drop offset (bits_of 8 byte))) ≡ byte / 2 ^ (8 - offset - count) % 2 ^ count
number_within_byte offset count byte within =
    let rest = 8 - offset - count in
    let whole : offset + (count + rest) ≡ 8 = omega arith in
    let cut : take count (drop offset (bits_of 8 byte)) ≡ bits_of count (byte / 2 ^ rest) =
    subst (λ (k : ℕ). take count (drop offset (bits_of k byte)) ≡ bits_of count (byte / 2 ^ rest)) whole (bits_within_is offset count rest byte) in
    ap number_of cut ∙ number_of-bits_of count (byte / 2 ^ rest)

-- a number made longer by the bits of one piece
pub number_grown : (bytes : List ℕ) (at done count : ℕ) → (at + done) % 8 + count ≤ 8 → (at + done) / 8 < length bytes → at + (done + count) ≤ 8 * length bytes
    → number_of (take (done + count) (drop at (bits_of_bytes bytes))) ≡ number_of (take done (drop at (bits_of_bytes bytes))) * 2 ^ count + number_of (take count (drop ((at + done) % 8) (bits_of 8 (get_or bytes ((at + done) / 8) 0))))
number_grown bytes at done count fits within there =
    let bits = bits_of_bytes bytes in
    let len = length-bits_of_bytes bytes in
    let long : done + count ≤ length (drop at bits) = rw (length-drop, len) (omega arith) in
    number_of-take_more done count (drop at bits) long ∙ ap (λ (part : List Bool). number_of (take done (drop at bits)) * 2 ^ count + number_of part) (ap (take count) (drop-drop done at bits) ∙ bits_of_byte_at bytes (at + done) count fits within)

-- the value so far, moved up, and the next bits laid behind it
pub laid_behind : (value done count part : ℕ) → value < 2 ^ done → done + count ≤ 64 → part < 2 ^ count → bit_or (value * 2 ^ count % 2 ^ 64) part ≡ value * 2 ^ count + part
laid_behind value done count part below fits small =
    rw (shl_whole value done count 64 below fits) (or_shifted value count part small)

pub number_of-take_below : (n : ℕ) (bits : List Bool) → number_of (take n bits) < 2 ^ n
number_of-take_below n bits =
    let h = number_of-below (take n bits) in
    let m : 2 ^ length (take n bits) ≤ 2 ^ n = pow_mono {i = length (take n bits)} {j = n} (omega (arith, length-take n bits)) in
    omega arith

pub number_of-none : (n : ℕ) (bits : List Bool) → number_of (take (n - n) bits) ≡ 0
unfolding number_of
number_of-none n bits = let e : n - n ≡ 0 = omega arith in rw e refl

-- ---- a window of a reader

-- the length of what is left
pub length-left : (bytes : List ℕ) (at end : ℕ) → at ≤ end → end ≤ 8 * length bytes → length (take (end - at) (drop at (bits_of_bytes bytes))) ≡ end - at
length-left bytes at end ordered within =
    let len = length-bits_of_bytes bytes in
    length-take-le (end - at) (drop at (bits_of_bytes bytes)) (rw (length-drop, len) (omega arith))

-- what is left after n bits more
pub left_after : (bits : List Bool) (at end n : ℕ) → at + n ≤ end → take (end - (at + n)) (drop (at + n) bits) ≡ drop n (take (end - at) (drop at bits))
left_after bits at end n within =
    let e : end - at ≡ n + (end - (at + n)) = omega arith in
    rw (e, drop-take n (end - (at + n)) (drop at bits), drop-drop n at bits) refl

-- ---- a writer's bytes

-- the bits of a number and of a piece laid behind it
pub bits_of-laid : (count more number part : ℕ) → part < 2 ^ more → bits_of (count + more) (number * 2 ^ more + part) ≡ bits_of count number ++ bits_of more part
bits_of-laid count more number part small =
    rw (bits_of-add count more (number * 2 ^ more + part), shr_high number more part small) (ap (λ (back : List Bool). bits_of count number ++ back) (sym (bits_of-low more (number * 2 ^ more + part)) ∙ ap (bits_of more) (mod_low number more part small)))

-- what was written, and the next piece of a number
pub bits_of-piece : (done count rest number : ℕ) → bits_of done (number / 2 ^ (count + rest)) ++ bits_of count (number / 2 ^ rest % 2 ^ count) ≡ bits_of (done + count) (number / 2 ^ rest)
bits_of-piece done count rest number =
    sym (bits_of-add done count (number / 2 ^ rest) ∙ ap₂ ◌++◌ (ap (bits_of done) (shr-shr number rest count ∙ ap (λ k. number / 2 ^ k) (omega arith))) (sym (bits_of-low count (number / 2 ^ rest))))

number_of-zeros : (n : ℕ) → number_of (replicate n false) ≡ 0
unfolding number_of
number_of-zeros zero = refl
number_of-zeros (suc n) = number_of-zeros n

first_byte_is : (front back : List Bool) → length front ≡ 8 → take 8 (front ++ back ++ replicate 8 false) ≡ front
first_byte_is front back len = rw (append_assoc front back (replicate 8 false)) (take_at front (back ++ replicate 8 false) 8 len)

first_bytes_of-suc : (n : ℕ) (bits : List Bool) → first_bytes_of (suc n) bits ≡ number_of (take 8 (bits ++ replicate 8 false)) ∷ first_bytes_of n (drop 8 bits)
unfolding first_bytes_of
first_bytes_of-suc n bits = refl

-- whole bytes stand in front
pub first_bytes_of-append : (bytes : List ℕ) (n : ℕ) (rest : List Bool) → ((i : ℕ) → get_or bytes i 0 < 256) → first_bytes_of (length bytes + n) (bits_of_bytes bytes ++ rest) ≡ bytes ++ first_bytes_of n rest
unfolding bits_of_bytes
first_bytes_of-append [] n rest small = ap (λ k. first_bytes_of k rest) (zero-add n)
first_bytes_of-append (b ∷ bytes) n rest small =
    let len = length-bits_of 8 b in
    let behind = bits_of_bytes bytes ++ rest in
    let joined : bits_of_bytes (b ∷ bytes) ++ rest ≡ bits_of 8 b ++ behind = append_assoc (bits_of 8 b) (bits_of_bytes bytes) rest in
    let first : number_of (take 8 (bits_of 8 b ++ behind ++ replicate 8 false)) ≡ b = rw (first_byte_is (bits_of 8 b) behind len, number_of-bits_of 8 b) (mod-eq_of_lt (small 0)) in
    let others : drop 8 (bits_of 8 b ++ behind) ≡ behind = drop_at (bits_of 8 b) behind 8 len in
    ap₂ first_bytes_of (suc-add (length bytes) n) joined ∙ first_bytes_of-suc (length bytes + n) (bits_of 8 b ++ behind) ∙ ap₂ ◌∷◌ first (ap (first_bytes_of (length bytes + n)) others ∙ first_bytes_of-append bytes n rest (λ i. small (suc i)))

-- the last byte, filled with zero bits
first_bytes_of-filled : (count number : ℕ) → count ≤ 8 → number < 2 ^ count → first_bytes_of 1 (bits_of count number) ≡ number * 2 ^ (8 - count) ∷ []
unfolding first_bytes_of
first_bytes_of-filled count number within small =
    let bits = bits_of count number in
    let len = length-bits_of count number in
    let zeros : replicate 8 false ≡ replicate (8 - count) false ++ replicate count false = let e : (8 - count) + count ≡ 8 = omega arith in sym (replicate-append-replicate (8 - count) count false ∙ ap (λ k. replicate k false) e) in
    let whole : length (bits ++ replicate (8 - count) false) ≡ 8 = rw (length-append, length-replicate, len) (omega arith) in
    let filled : take 8 (bits ++ replicate 8 false) ≡ bits ++ replicate (8 - count) false = ap (λ (back : List Bool). take 8 (bits ++ back)) zeros ∙ ap (take 8) (sym (append_assoc bits (replicate (8 - count) false) (replicate count false))) ∙ take_at (bits ++ replicate (8 - count) false) (replicate count false) 8 whole in
    let value : number_of (bits ++ replicate (8 - count) false) ≡ number * 2 ^ (8 - count) = rw (number_of-append, number_of-zeros, length-replicate, number_of-bits_of count number, mod-eq_of_lt small) (omega arith) in
    ap (λ k. k ∷ []) (ap number_of filled ∙ value)

pub bytes_of-whole : (bytes : List ℕ) (count number : ℕ) → ((i : ℕ) → get_or bytes i 0 < 256) → count ≡ 0 → bytes_of (bits_of_bytes bytes ++ bits_of count number) ≡ bytes
unfolding bytes_of bits_of first_bytes_of
bytes_of-whole bytes count number small none =
    let none_behind : bits_of count number ≡ [] = ap (λ k. bits_of k number) none in
    let size : (length (bits_of_bytes bytes ++ bits_of count number) + 7) / 8 ≡ length bytes + 0 = rw (length-append, length-bits_of_bytes bytes, length-bits_of count number) (omega arith) in
    rw size (first_bytes_of-append bytes 0 (bits_of count number) small ∙ append-nil bytes)

pub bytes_of-filled : (bytes : List ℕ) (count number : ℕ) → ((i : ℕ) → get_or bytes i 0 < 256) → 0 < count → count < 8 → number < 2 ^ count → bytes_of (bits_of_bytes bytes ++ bits_of count number) ≡ bytes ++ number * 2 ^ (8 - count) ∷ []
unfolding bytes_of
bytes_of-filled bytes count number small some few below =
    let size : (length (bits_of_bytes bytes ++ bits_of count number) + 7) / 8 ≡ length bytes + 1 = rw (length-append, length-bits_of_bytes bytes, length-bits_of count number) (omega arith) in
    rw size (first_bytes_of-append bytes 1 (bits_of count number) small ∙ ap (λ (back : List ℕ). bytes ++ back) (first_bytes_of-filled count number (omega arith) below))

-- the last byte fits
pub filled_below : (count number : ℕ) → count ≤ 8 → number < 2 ^ count → number * 2 ^ (8 - count) < 256
filled_below count number within below =
    let e : count + (8 - count) ≡ 8 = omega arith in
    subst (λ (k : ℕ). number * 2 ^ (8 - count) < 2 ^ k) e (shl_below number count (8 - count) below)

-- ---- a turn of a writer

-- the bits that wait, moved up, with a piece of a number laid behind them
pub pending_is : (pending count more number : ℕ) → pending < 2 ^ count → count + more ≤ 8 → bit_or (pending * 2 ^ more % 2 ^ 64) (bit_and number (1 * 2 ^ more % 2 ^ 64 - 1)) ≡ pending * 2 ^ more + number % 2 ^ more
pending_is pending count more number below few =
    rw (one_shl more 64 (omega arith), and_mask) (laid_behind pending count more (number % 2 ^ more) below (omega arith) (mod_below number (2 ^ more) (pow_pos more)))

pub pending_below : (pending count more number : ℕ) → pending < 2 ^ count → pending * 2 ^ more + number % 2 ^ more < 2 ^ (count + more)
pending_below pending count more number below =
    rw pow-add (omega (arith, mul-add-lt pending (2 ^ more) (number % 2 ^ more) (2 ^ count) below (mod_below number (2 ^ more) (pow_pos more))))

pub written_more : (whole old : List Bool) (pending count more left n value : ℕ) → more ≤ left → left ≤ n → whole ++ bits_of count pending ≡ old ++ bits_of (n - left) (value / 2 ^ left)
    → whole ++ bits_of (count + more) (pending * 2 ^ more + value / 2 ^ (left - more) % 2 ^ more) ≡ old ++ bits_of (n - (left - more)) (value / 2 ^ (left - more))
written_more whole old pending count more left n value fewer within so_far =
    let rest = left - more in
    let piece = bits_of more (value / 2 ^ rest % 2 ^ more) in
    let split : more + rest ≡ left = omega arith in
    let before : whole ++ bits_of count pending ≡ old ++ bits_of (n - left) (value / 2 ^ (more + rest)) = rw split so_far in
    let more_done : (n - left) + more ≡ n - rest = omega arith in
    rw (bits_of-laid count more pending (value / 2 ^ rest % 2 ^ more) (mod_below (value / 2 ^ rest) (2 ^ more) (pow_pos more)))
    (sym (append_assoc whole (bits_of count pending) piece) ∙ ap (λ (front : List Bool). front ++ piece) before ∙ append_assoc old (bits_of (n - left) (value / 2 ^ (more + rest))) piece ∙ ap (λ (back : List Bool). old ++ back) (bits_of-piece (n - left) more rest value ∙ ap (λ k. bits_of k (value / 2 ^ rest)) more_done))

-- a byte that is full moves to the whole ones
pub byte_moved : (bytes : List ℕ) (count byte : ℕ) → count ≡ 8 → bits_of_bytes (bytes ++ byte ∷ []) ++ bits_of 0 0 ≡ bits_of_bytes bytes ++ bits_of count byte
unfolding bits_of bits_of_bytes
byte_moved bytes count byte full = rw (append-nil, full, flat_map-append (bits_of 8) bytes (byte ∷ []), append-nil) refl

-- nothing is written yet
pub written_none : (whole old : List Bool) (n value : ℕ) → whole ≡ old → whole ≡ old ++ bits_of (n - n) (value / 2 ^ n)
unfolding bits_of
written_none whole old n value same = let e : n - n ≡ 0 = omega arith in rw e (same ∙ sym (append-nil old))
