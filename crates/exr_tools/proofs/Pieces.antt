-- Pieces of bytes, one after the other.
use Rattle.std.proofs.Common.{◌≡◌, ℕ, ◌+◌, ◌<◌, ◌≤◌, min, arith, List, [], ◌++◌, length, get_or, take, drop, Vec, Global, sym, ap, ◌∙◌, append_assoc}
use Rattle.std.specs.List.{flat_map}
use Rattle.std.proofs.Math.Seq.{take-append-add}
use Rattle.std.proofs.lemmas.List.{drop_more, flat_map_more, length-append, take-append-drop, take-append-le, take_min, take_more}
use Rattle.std.proofs.lemmas.List.Concat.{flat_map-append}
use Rattle.exr_outside.specs.Sink.{AddsPrefix}

-- the bytes of pieces
abbrev pub bytes_of : List (Vec ℕ Global) → List ℕ
bytes_of pieces = flat_map (λ piece. piece.items) pieces

-- the pieces before number n, that one, and the others
parted : (pieces : List (Vec ℕ Global)) (n : ℕ) (d : Vec ℕ Global) → n < length pieces → bytes_of pieces ≡ bytes_of (take n pieces) ++ ((get_or pieces n d).items ++ bytes_of (drop (n + 1) pieces))
parted pieces n d there =
    ap bytes_of (sym (take-append-drop n pieces))
    ∙ flat_map-append (λ piece. piece.items) (take n pieces) (drop n pieces)
    ∙ ap (λ l. bytes_of (take n pieces) ++ bytes_of l) (drop_more pieces n d there)

-- the first bytes of a piece, behind all before it, are first bytes of all
pub cut_short : (pieces : List (Vec ℕ Global)) (n k : ℕ) (d : Vec ℕ Global) (old between new : List ℕ) → n < length pieces → between ≡ old ++ bytes_of (take n pieces) → new ≡ between ++ take k (get_or pieces n d).items
    → AddsPrefix (bytes_of pieces) old new
cut_short pieces n k d old between new there before is =
    let first = bytes_of (take n pieces) in
    let piece = (get_or pieces n d).items in
    let rest = bytes_of (drop (n + 1) pieces) in
    let m = min k (length piece) in
    let within : m ≤ length piece = omega arith in (
      length first + m,
      is ∙ ap (λ l. l ++ take k piece) before ∙ append_assoc old first (take k piece)
          ∙ ap (λ l. old ++ l)
          (ap (λ l. first ++ l) (sym (take_min k piece) ∙ sym (take-append-le m piece rest within))
          ∙ sym (take-append-add first (piece ++ rest) m)
          ∙ ap (take (length first + m)) (sym (parted pieces n d there))),
    )

-- what was added so far, and the next piece
pub next_added : (pieces : List (Vec ℕ Global)) (n : ℕ) (d : Vec ℕ Global) (old between new : List ℕ) → n < length pieces → between ≡ old ++ bytes_of (take n pieces) → new ≡ between ++ (get_or pieces n d).items
    → new ≡ old ++ bytes_of (take (n + 1) pieces)
next_added pieces n d old between new there before is =
    is ∙ ap (λ l. l ++ (get_or pieces n d).items) before ∙ append_assoc old (bytes_of (take n pieces)) (get_or pieces n d).items
    ∙ ap (λ l. old ++ l) (flat_map_more (λ piece. piece.items) [] (take n pieces) (get_or pieces n d) ∙ ap bytes_of (sym (take_more pieces n d there)))

pub next_counted : (pieces : List (Vec ℕ Global)) (n : ℕ) (d : Vec ℕ Global) (count : ℕ) → n < length pieces → count ≡ length (bytes_of (take n pieces)) → count + length (get_or pieces n d).items ≡ length (bytes_of (take (n + 1) pieces))
next_counted pieces n d count there before =
    ap (λ c. c + length (get_or pieces n d).items) before
    ∙ sym (length-append (bytes_of (take n pieces)) (get_or pieces n d).items)
    ∙ ap length (flat_map_more (λ piece. piece.items) [] (take n pieces) (get_or pieces n d) ∙ ap bytes_of (sym (take_more pieces n d there)))
