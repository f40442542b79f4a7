-- One piece after another: what is written, put and read by two calls is what one call of both would leave.
use Rattle.std.proofs.Common.{add-zero, refl, ◌≡◌, ℕ, ◌+◌, ◌-◌, ◌≤◌, List, [], ◌++◌, length, take, drop, sym, ap, subst, ◌∙◌, append_assoc, arith, length-append, length-drop}
use Rattle.std.proofs.Math.Seq.{take-add, take-append_seam, drop-append-add, take-append-add}
use Rattle.std.proofs.lemmas.List.{drop-drop, length-take-le, take-append-le, append-nil, take-append-drop}
use Rattle.std.proofs.Math.ListN.{drop_of_length-le}
use borrow.Rule.Slice.PartMut.{put_mid}
use Rattle.exr_outside.specs.Sink.{replaced}

-- a first part and then a first part of the rest, added at the end
pub append-take : (bytes old now new : List ℕ) (n m : ℕ) → now ≡ old ++ take n bytes → new ≡ now ++ take m (drop n bytes) → new ≡ old ++ take (n + m) bytes
append-take bytes old now new n m held added =
    added ∙ ap (λ (x : List ℕ). x ++ take m (drop n bytes)) held ∙ append_assoc old (take n bytes) (take m (drop n bytes)) ∙ ap (λ (x : List ℕ). old ++ x) (sym (take-add n m bytes))

-- two lists put one behind the other
pub replaced-append : (pos : ℕ) (xs ys old : List ℕ) → pos ≤ length old → replaced (pos + length xs) ys (replaced pos xs old) ≡ replaced pos (xs ++ ys) old
replaced-append pos xs ys old inside =
    let front : List ℕ = take pos old ++ xs in
    let back : List ℕ = drop (pos + length xs) old in
    let size : length (take pos old ++ xs) ≡ pos + length xs = omega (arith, length-append (take pos old) xs, length-take-le pos old inside) in
    let before : take (pos + length xs) (front ++ back) ≡ front = subst (λ (n : ℕ). take n (front ++ back) ≡ front) size (take-append_seam front back) in
    let size_both : pos + length xs + length ys ≡ pos + length (xs ++ ys) = omega (arith, length-append xs ys) in
    let after : drop (pos + length xs + length ys) (front ++ back) ≡ drop (pos + length (xs ++ ys)) old =
    ap (λ (n : ℕ). drop (n + length ys) (front ++ back)) (sym size) ∙ drop-append-add front back (length ys) ∙ drop-drop (length ys) (pos + length xs) old ∙ ap (λ (n : ℕ). drop n old) size_both in
    ap (λ (x : List ℕ). x ++ ys ++ drop (pos + length xs + length ys) (front ++ back)) before
    ∙ ap (λ (x : List ℕ). front ++ ys ++ x) after
    ∙ ap (λ (x : List ℕ). x ++ drop (pos + length (xs ++ ys)) old) (append_assoc (take pos old) xs ys)

-- a list in whose place nothing was put
pub replaced-nothing : (pos : ℕ) (old : List ℕ) → old ≡ replaced pos [] old
replaced-nothing pos old = rw (append-nil, add-zero, take-append-drop) refl

-- a first part and then a first part of the rest, put in the place of what was there
pub replaced-take : (bytes old now new : List ℕ) (pos n m : ℕ) → n ≤ length bytes → pos ≤ length old → now ≡ replaced pos (take n bytes) old → new ≡ replaced (pos + n) (take m (drop n bytes)) now → new ≡ replaced pos (take (n + m) bytes) old
replaced-take bytes old now new pos n m some inside held put =
    let rest : List ℕ = take m (drop n bytes) in
    put ∙ ap (λ (x : List ℕ). replaced (pos + n) rest x) held
    ∙ ap (λ (k : ℕ). replaced (pos + k) rest (replaced pos (take n bytes) old)) (sym (length-take-le n bytes some))
    ∙ replaced-append pos (take n bytes) rest old inside
    ∙ ap (λ (x : List ℕ). replaced pos x old) (sym (take-add n m bytes))

-- a piece read behind what was read before
pub take-read : (content into piece : List ℕ) (pos a k m : ℕ) → a ≤ length into → m ≤ length piece → take a into ≡ take a (drop pos content) → take m piece ≡ take m (drop (pos + a) content) → take (a + m) (put_mid a k into piece) ≡ take (a + m) (drop pos content)
take-read content into piece pos a k m inside whole before read =
    let size = length-take-le a into inside in
    let after : List ℕ = drop k (drop a into) in
    ap (λ (n : ℕ). take (n + m) (take a into ++ (piece ++ after))) (sym size)
    ∙ take-append-add (take a into) (piece ++ after) m
    ∙ ap (λ (x : List ℕ). take a into ++ x) (take-append-le m piece after whole ∙ read ∙ ap (take m) (sym (drop-drop a pos content)))
    ∙ ap (λ (x : List ℕ). x ++ take m (drop a (drop pos content))) before
    ∙ sym (take-add a m (drop pos content))

-- behind a piece that was read everything is as before
pub drop-read : (old into piece : List ℕ) (a m : ℕ) → a ≤ length into → drop a into ≡ drop a old → drop m piece ≡ drop m (drop a into) → drop (a + m) (put_mid a (length into - a) into piece) ≡ drop (a + m) old
drop-read old into piece a m inside before read =
    let size = length-take-le a into inside in
    let post : List ℕ = drop (length into - a) (drop a into) in
    let nothing : post ≡ [] = drop_of_length-le (drop a into) (omega (arith, length-drop a into)) in
    ap (λ (n : ℕ). drop (n + m) (take a into ++ (piece ++ post))) (sym size)
    ∙ drop-append-add (take a into) (piece ++ post) m
    ∙ ap (λ (x : List ℕ). drop m (piece ++ x)) nothing
    ∙ ap (drop m) (append-nil piece)
    ∙ read ∙ ap (drop m) before ∙ drop-drop m a old
