-- A table from counts, pixel by pixel.
use Rattle.std.proofs.Common.{◌≡◌, ℕ, ◌+◌, ◌*◌, List, [], ◌∷◌, ◌++◌, length, take, map, refl, sym, ap, ◌∙◌, append-nil, arith}
use Rattle.std.specs.List.{range_with_len, flat_map}
use Rattle.std.specs.Int.{w32, to_le_bytes}
use Rattle.std.proofs.lemmas.List.{take_all}
use Rattle.std.proofs.lemmas.List.FromFn.{map-range_with_len_more}
use Rattle.std.proofs.lemmas.Grind.{flat_map-append}
use Rattle.exr_deep.specs.Counts.{running_at, table_of}
use Rattle.exr_deep.specs.Steps.{entries_of}

pub entries_none : (width : ℕ) (counts : List ℕ) → entries_of width counts 0 ≡ []
unfolding entries_of
entries_none width counts = refl

entries_more : (width : ℕ) (counts : List ℕ) (n : ℕ) → entries_of width counts (n + 1) ≡ entries_of width counts n ++ to_le_bytes w32 (running_at width counts n)
unfolding entries_of
entries_more width counts n =
    ap (flat_map (to_le_bytes w32)) (map-range_with_len_more (running_at width counts) 0 n n (omega arith))
    ∙ flat_map-append (to_le_bytes w32) (map (running_at width counts) (range_with_len 0 n)) (running_at width counts n ∷ [])
    ∙ ap (λ (back : List ℕ). flat_map (to_le_bytes w32) (map (running_at width counts) (range_with_len 0 n)) ++ back) (append-nil (to_le_bytes w32 (running_at width counts n)))

pub entry_put : (width : ℕ) (counts old new : List ℕ) (n samples : ℕ) → take (4 * n) old ≡ entries_of width counts n → take (4 * n + 4) new ≡ take (4 * n) old ++ to_le_bytes w32 samples → samples ≡ running_at width counts n
    → take (4 * (n + 1)) new ≡ entries_of width counts (n + 1)
entry_put width counts old new n samples so_far put is =
    ap (λ k. take k new) (let e : 4 * (n + 1) ≡ 4 * n + 4 = omega arith in e)
    ∙ put ∙ ap (λ (front : List ℕ). front ++ to_le_bytes w32 samples) so_far
    ∙ ap (λ k. entries_of width counts n ++ to_le_bytes w32 k) is
    ∙ sym (entries_more width counts n)

pub table_whole : (width : ℕ) (counts table : List ℕ) (n : ℕ) → length table ≡ 4 * length counts → length counts ≡ n → take (4 * n) table ≡ entries_of width counts n → table ≡ table_of width counts
unfolding entries_of table_of
table_whole width counts table n room long so_far =
    sym (take_all (4 * n) table (omega arith)) ∙ so_far ∙ ap (λ k. flat_map (to_le_bytes w32) (map (running_at width counts) (range_with_len 0 k))) (sym long)
