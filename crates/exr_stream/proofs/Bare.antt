-- A geometry keeps the parts of a head without their attributes, which says as much of where chunks lie.
use Rattle.std.proofs.Common.{◌≡◌, ℕ, zero, suc, ◌+◌, ◌*◌, ◌<◌, List, [], ◌∷◌, length, take, map, sum_by, refl, sym, ap, subst, ◌∙◌, arith}
use Rattle.std.proofs.lemmas.List.{take-map, length-map}
use Rattle.std.proofs.lemmas.List.Sums.{sum_by_more, sum_by-take-le}
use Rattle.exr_chunks.specs.Heads.{Header, chunk_count_of}
use Rattle.exr_chunks.specs.Part.{without_attributes}
use Rattle.exr_chunks.specs.Region.{no_header, header_at, chunk_bytes_of, place_of, region_of}
use Rattle.exr_chunks.specs.Table.{chunks_before, entry_place}
use Rattle.exr_chunks.proofs.Parts.{bare_count}
use Rattle.exr_chunks.proofs.Listed.{bare_counts}

pub bare_at : (hs : List Header) (k : ℕ) → header_at (map without_attributes hs) k ≡ without_attributes (header_at hs k)
bare_at [] k = refl
bare_at (h ∷ hs) zero = refl
bare_at (h ∷ hs) (suc k) = bare_at hs k

pub bare_length : (hs : List Header) → length (map without_attributes hs) ≡ length hs
bare_length hs = length-map hs without_attributes

pub bare_chunks : (hs : List Header) (k : ℕ) → chunk_count_of (header_at (map without_attributes hs) k) ≡ chunk_count_of (header_at hs k)
bare_chunks hs k = ap chunk_count_of (bare_at hs k) ∙ bare_count (header_at hs k)

pub bare_before : (hs : List Header) (k : ℕ) → chunks_before (map without_attributes hs) k ≡ chunks_before hs k
bare_before hs k = ap (sum_by chunk_count_of) (take-map without_attributes k hs) ∙ bare_counts (take k hs)

pub bare_entry : (hs : List Header) (head_bytes k i : ℕ) → entry_place (map without_attributes hs) head_bytes k i ≡ entry_place hs head_bytes k i
bare_entry hs head_bytes k i = ap (λ n. head_bytes + 8 * (n + i)) (bare_before hs k)

pub bare_place : (hs : List Header) (k i : ℕ) → place_of (header_at (map without_attributes hs) k) i ≡ place_of (header_at hs k) i
unfolding place_of region_of
bare_place hs k i = ap (λ h. place_of h i) (bare_at hs k)

pub bare_bytes : (hs : List Header) (k i : ℕ) → chunk_bytes_of (header_at (map without_attributes hs) k) i ≡ chunk_bytes_of (header_at hs k) i
unfolding chunk_bytes_of region_of
bare_bytes hs k i = ap (λ h. chunk_bytes_of h i) (bare_at hs k)

-- the entry of a chunk is one of those of all chunks
pub entry_within : (hs : List Header) (k i : ℕ) → k < length hs → i < chunk_count_of (header_at hs k) → chunks_before hs k + i < sum_by chunk_count_of hs
entry_within hs k i part within = omega (arith, sum_by_more chunk_count_of hs k no_header part, sum_by-take-le chunk_count_of hs (k + 1), within)

pub within : (g hs : List Header) (k i : ℕ) → g ≡ map without_attributes hs → i < chunk_count_of (header_at hs k) → i < chunk_count_of (header_at g k)
within g hs k i e lt = subst (λ l. i < chunk_count_of (header_at l k)) (sym e) (subst (λ n. i < n) (sym (bare_chunks hs k)) lt)

pub place_by : (g hs : List Header) (k i : ℕ) → g ≡ map without_attributes hs → place_of (header_at g k) i ≡ place_of (header_at hs k) i
place_by g hs k i e = ap (λ l. place_of (header_at l k) i) e ∙ bare_place hs k i

pub bytes_by : (g hs : List Header) (k i : ℕ) → g ≡ map without_attributes hs → chunk_bytes_of (header_at g k) i ≡ chunk_bytes_of (header_at hs k) i
bytes_by g hs k i e = ap (λ l. chunk_bytes_of (header_at l k) i) e ∙ bare_bytes hs k i

pub entry_by : (g hs : List Header) (k i : ℕ) → g ≡ map without_attributes hs → entry_place g 0 k i ≡ 8 * (chunks_before hs k + i)
entry_by g hs k i e = ap (λ l. entry_place l 0 k i) e ∙ bare_entry hs 0 k i ∙ omega arith

pub region_by : (g hs : List Header) (k i : ℕ) → g ≡ map without_attributes hs → region_of (header_at g k) i ≡ region_of (header_at hs k) i
unfolding region_of
region_by g hs k i e = ap (λ l. region_of (header_at l k) i) e ∙ ap (λ h. region_of h i) (bare_at hs k)

pub window_by : (g hs : List Header) (k : ℕ) → g ≡ map without_attributes hs → (header_at g k).window ≡ (header_at hs k).window
window_by g hs k e = ap (λ l. (header_at l k).window) e ∙ ap (λ h. h.window) (bare_at hs k)

pub chunks_by : (g hs : List Header) (k : ℕ) → g ≡ map without_attributes hs → chunk_count_of (header_at g k) ≡ chunk_count_of (header_at hs k)
chunks_by g hs k e = ap (λ l. chunk_count_of (header_at l k)) e ∙ bare_chunks hs k
