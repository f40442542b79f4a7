use Rattle.std.proofs.Common.{◌≡◌, ℕ, ◌+◌, ◌*◌, ◌<◌, ◌≤◌, ◌⊎◌, inl, inr, List, ◌++◌, length, get_or, map, refl, ap, ◌∙◌, arith}
use Rattle.std.specs.List.{range_with_len}
use Rattle.std.proofs.lemmas.Simd.{get_or-put_chunk_at, get_or-put_chunk_below, get_or-put_chunk_above, length-put_chunk}
use lib.Lanes.{chunk, put_chunk}
use Rattle.exr_rle.proofs.Places.{lanes_even, lanes_odd, get_or-chunks}
use Rattle.exr_rle.proofs.halves.take_sixteen.Goals as goal

abbrev both : List ℕ → ℕ → List ℕ
both raw even = chunk (2 * even) 16 raw ++ chunk (2 * even + 16) 16 raw

abbrev evens_in : List ℕ → ℕ → List ℕ
evens_in raw even = map (λ j. get_or (both raw even) (2 * j) 0) (range_with_len 0 16)

abbrev odds_in : List ℕ → ℕ → List ℕ
odds_in raw even = map (λ j. get_or (both raw even) (2 * j + 1) 0) (range_with_len 0 16)

outside : (at : ℕ) (xs ys : List ℕ) (k : ℕ) → length ys ≡ 16 → (k < at) ⊎ (at + 16 ≤ k) → get_or (put_chunk at xs ys) k 0 ≡ get_or xs k 0
outside at xs ys k long (inl below) = get_or-put_chunk_below at xs ys k 0 below
outside at xs ys k long (inr above) = get_or-put_chunk_above at xs ys k 0 (omega arith)

pub returns-clause-evens : goal.returns-clause-evens
returns-clause-evens c k inside =
    let raw = c.args.raw.now in
    let even = c.args.even in
    let once = put_chunk even c.args.into.now (evens_in raw even) in
    get_or-put_chunk_below c.args.odd once (odds_in raw even) (even + k) 0 (omega arith)
    ∙ get_or-put_chunk_at even c.args.into.now (evens_in raw even) k 0 inside (omega arith)
    ∙ lanes_even (both raw even) k inside
    ∙ get_or-chunks (2 * even) raw (2 * k) (omega arith) (omega arith)
    ∙ ap (λ i. get_or raw i 0) (omega arith)

pub returns-clause-odds : goal.returns-clause-odds
returns-clause-odds c k inside =
    let raw = c.args.raw.now in
    let even = c.args.even in
    let once = put_chunk even c.args.into.now (evens_in raw even) in
    get_or-put_chunk_at c.args.odd once (odds_in raw even) k 0 inside (omega (arith, length-put_chunk even c.args.into.now (evens_in raw even)))
    ∙ lanes_odd (both raw even) k inside
    ∙ get_or-chunks (2 * even) raw (2 * k + 1) (omega arith) (omega arith)
    ∙ ap (λ i. get_or raw i 0) (omega arith)

pub returns-clause-others : goal.returns-clause-others
returns-clause-others c k even odd =
    let raw = c.args.raw.now in
    outside c.args.odd (put_chunk c.args.even c.args.into.now (evens_in raw c.args.even)) (odds_in raw c.args.even) k refl odd
    ∙ outside c.args.even c.args.into.now (evens_in raw c.args.even) k refl even
