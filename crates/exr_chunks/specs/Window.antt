-- The chunks that a window meets (own): each index of the part is tested.
use Rattle.std.specs.Prelude.{◌≡◌, ◌<◌, ◌≤◌, true, false, ℕ, zero, suc, ℤ, Bool, ◌&&◌, List, [], ◌∷◌, ◌++◌, int_le, if◌then◌else◌}
use Rattle.std.specs.Int.{int_min, int_max}
use Rattle.exr_base.specs.declared.shape.Box2i.{Box2i}
use Rattle.exr_base.specs.Sampling.{span_of}
use Rattle.exr_chunks.specs.declared.part.Part.{Part}
use Rattle.exr_chunks.specs.declared.window.Run.{Run}
use Rattle.exr_chunks.specs.Heads.{Header, pieces, chunk_count_of}
use Rattle.exr_chunks.specs.Region.{start_of, end_of, region_of}

-- two sides have a place in common
abbrev pub sides_meet : ℤ → ℤ → ℤ → ℤ → Bool
sides_meet from to from' to' = int_le (int_max from from') (int_min to to')

-- two boxes have a pixel in common
abbrev pub boxes_meet : Box2i → Box2i → Bool
boxes_meet a b = sides_meet a.x0 a.x1 b.x0 b.x1 && sides_meet a.y0 a.y1 b.y0 b.y1

-- those of the first n indexes whose regions meet a window, increasing
unfoldable pub meeting_among : Header → Box2i → ℕ → List ℕ
meeting_among h window zero = []
meeting_among h window (suc n) =
    meeting_among h window n ++ (if boxes_meet (region_of h n) window then n ∷ [] else [])

abbrev pub chunks_of_window : Header → Box2i → List ℕ
chunks_of_window h window = meeting_among h window (chunk_count_of h)

-- ---- what the search from the corners goes by

-- a piece of a side and a window's side have a place in common
abbrev pub piece_meets : ℤ → ℤ → ℕ → ℤ → ℤ → ℕ → Bool
piece_meets from to size window_from window_to k = sides_meet (start_of from size k) (end_of from to size k) window_from window_to

-- the pieces that a window's side meets are those of a run
pub record IsRun (from to : ℤ) (size : ℕ) (window_from window_to : ℤ) (r : Run) : Type 0 where
  pub ordered : r.first ≤ r.behind
  pub within : r.behind ≤ pieces size (span_of from to)
  pub met : (k : ℕ) → r.first ≤ k → k < r.behind → piece_meets from to size window_from window_to k ≡ true
  pub before : (k : ℕ) → k < r.first → piece_meets from to size window_from window_to k ≡ false
  pub behind_it : (k : ℕ) → r.behind ≤ k → piece_meets from to size window_from window_to k ≡ false

-- the columns and the rows of a part's chunks that a window meets, and a row that it meets
abbrev pub AreColumns : Part → Box2i → Run → Type 0
AreColumns p window r = IsRun p.window.x0 p.window.x1 p.columns window.x0 window.x1 r

abbrev pub AreRows : Part → Box2i → Run → Type 0
AreRows p window r = IsRun p.window.y0 p.window.y1 p.rows window.y0 window.y1 r

pub record IsRow (p : Part) (window : Box2i) (row : ℕ) : Type 0 where
  pub within : row < p.down
  pub met : piece_meets p.window.y0 p.window.y1 p.rows window.y0 window.y1 row ≡ true
