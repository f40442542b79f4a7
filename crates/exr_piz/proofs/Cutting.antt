-- The parts of packed data, by what was read of it.
use Rattle.std.proofs.Common.{◌≡◌, ℕ, ◌+◌, ◌-◌, ◌^◌, ◌<◌, ◌≤◌, ◌⊎◌, inl, inr, Bool, true, false, ◌||◌, cond, ltb, leb, List, length, take, drop, Ok, Err, refl, sym, ap, ◌∙◌}
use Rattle.std.specs.Int.{w32, from_le_bytes}
use Rattle.std.proofs.lemmas.Bool.{le-ltb, lt-ltb, le-leb, lt-leb, or_from}
use Rattle.exr_piz.specs.declared.fault.PizFault.TheVariants.{Short}
use Rattle.exr_piz.specs.Stored.{first_of, last_of, parts_of}

-- what was read up to the length of the block
pub record IsRead (packed : List ℕ) (first last size number : ℕ) : Type 0 where
  pub long : 4 ≤ length packed
  pub first_is : first ≡ first_of packed
  pub last_is : last ≡ last_of packed
  pub first_low : first ≤ 8191
  pub last_low : last ≤ 8191
  pub size_is : size ≡ last + 1 - first
  pub there : 8 + size ≤ length packed
  pub number_is : number ≡ from_le_bytes w32 (take 4 (drop (4 + size) packed))

in_map : (packed : List ℕ) (first last : ℕ) → first ≡ first_of packed → last ≡ last_of packed → first ≤ 8191 → last ≤ 8191 → (ltb 8191 (first_of packed) || ltb 8191 (last_of packed)) ≡ false
in_map packed first last f l low low' = or_from (ltb 8191 (first_of packed)) (ltb 8191 (last_of packed)) (ap (ltb 8191) (sym f) ∙ le-ltb 8191 first low) (ap (ltb 8191) (sym l) ∙ le-ltb 8191 last low')

-- by tests alone
by_tests : (packed : List ℕ) (first last size number : ℕ) → IsRead packed first last size number → parts_of packed
    ≡ cond (leb (2 ^ 31) number || ltb (length packed - (8 + size)) number) (Err Short) (Ok (record { first = first; map = take size (drop 4 packed); block = take number (drop (8 + size) packed) }))
unfolding parts_of
by_tests packed first last size number is =
    rw (
      le-ltb (length packed) 4 is.long,
      in_map packed first last is.first_is is.last_is is.first_low is.last_low,
      ← is.first_is,
      ← is.last_is,
      ← is.size_is,
      le-ltb (length packed) (8 + size) is.there,
      ← is.number_is,
    ) refl

pub cut_whole : (packed map block : List ℕ) (first last size number : ℕ) → IsRead packed first last size number → number < 2 ^ 31 → number ≤ length packed - (8 + size) → map ≡ take size (drop 4 packed) → block ≡ take number (drop (8 + size) packed)
    → parts_of packed ≡ Ok (record { first = first; map = map; block = block })
cut_whole packed map block first last size number is positive fits m b =
    by_tests packed first last size number is
    ∙ ap (λ (t : Bool). cond t (Err Short) (Ok (record { first = first; map = take size (drop 4 packed); block = take number (drop (8 + size) packed) }))) (or_from (leb (2 ^ 31) number) (ltb (length packed - (8 + size)) number) (lt-leb (2 ^ 31) number positive) (le-ltb (length packed - (8 + size)) number fits))
    ∙ rw (m, b) refl

or_left : (a b : Bool) → a ≡ true → (a || b) ≡ true
or_left true b is = refl
or_left false b is = cc

or_right : (a b : Bool) → b ≡ true → (a || b) ≡ true
or_right true b is = refl
or_right false b is = is

pub cut_short : (packed : List ℕ) (first last size number : ℕ) → IsRead packed first last size number → (2 ^ 31 ≤ number) ⊎ (length packed - (8 + size) < number) → parts_of packed ≡ Err Short
cut_short packed first last size number is (inl negative) =
    by_tests packed first last size number is
    ∙ ap (λ (t : Bool). cond t (Err Short) (Ok (record { first = first; map = take size (drop 4 packed); block = take number (drop (8 + size) packed) }))) (or_left (leb (2 ^ 31) number) (ltb (length packed - (8 + size)) number) (le-leb (2 ^ 31) number negative))
cut_short packed first last size number is (inr few) =
    by_tests packed first last size number is
    ∙ ap (λ (t : Bool). cond t (Err Short) (Ok (record { first = first; map = take size (drop 4 packed); block = take number (drop (8 + size) packed) }))) (or_right (leb (2 ^ 31) number) (ltb (length packed - (8 + size)) number) (lt-ltb (length packed - (8 + size)) number few))
