-- Texts of one line a number.
use Rattle.std.proofs.Common.{◌≡◌, ℕ, ◌+◌, List, [], ◌∷◌, ◌++◌, length, map, refl, sym, ap, ◌∙◌, arith}
use Rattle.std.specs.Prelude.{codes, slice_index}
use Rattle.std.specs.List.{flat_map, range_with_len}
use Rattle.std.proofs.lemmas.List.{map-id, length-map, flat_map_more}
use Rattle.std.proofs.lemmas.List.FromFn.{map-range_with_len_more}
use Rattle.exr_chunks.specs.Heads.{Header, chunk_count_of}
use Rattle.exr_chunks.specs.Part.{without_attributes}
use Rattle.exr_chunks.specs.Region.{header_at}
use Rattle.exr_stream.proofs.Bare.{bare_at}
use Rattle.exr_tools.specs.Texts.{part_line, line_of_part, report_of}

range_more : (n : ℕ) → range_with_len 0 (n + 1) ≡ range_with_len 0 n ++ n ∷ []
range_more n = sym (map-id (range_with_len 0 (n + 1))) ∙ map-range_with_len_more (λ (k : ℕ). k) 0 n n (omega arith) ∙ ap (λ l. l ++ n ∷ []) (map-id (range_with_len 0 n))

-- one line more
pub lines_more : (f : ℕ → List ℕ) (now line : List ℕ) (n : ℕ) → now ≡ flat_map f (range_with_len 0 n) → line ≡ f n → now ++ line ≡ flat_map f (range_with_len 0 (n + 1))
lines_more f now line n is here = (λ i. is i ++ here i) ∙ flat_map_more f [] (range_with_len 0 n) n ∙ ap (flat_map f) (sym (range_more n))

-- a report is its lines and `ok`
pub reported : (parts : List Header) (unread : List ℕ) → flat_map (line_of_part parts unread) (range_with_len 0 (length parts)) ++ (codes "ok" ++ 10 ∷ []) ≡ report_of parts unread
unfolding report_of
reported parts unread = refl

-- attributes have no part in it
bare_count : (h : Header) → chunk_count_of (without_attributes h) ≡ chunk_count_of h
unfolding chunk_count_of
bare_count h = refl

pub bare_report : (parts : List Header) (unread : List ℕ) → report_of (map without_attributes parts) unread ≡ report_of parts unread
unfolding report_of
bare_report parts unread =
    let count : (n : ℕ) → chunk_count_of (header_at (map without_attributes parts) n) ≡ chunk_count_of (header_at parts n) = λ n. ap chunk_count_of (bare_at parts n) ∙ bare_count (header_at parts n) in
    λ i. flat_map (λ n. part_line n (count n i) (slice_index unread n)) (range_with_len 0 (length-map parts without_attributes i)) ++ (codes "ok" ++ 10 ∷ [])
