-- A matrix in a slice: which word is which, and what a change leaves.
use Rattle.std.specs.Prelude.{◌≡◌, ◌≢◌, ℕ, ◌+◌, ◌*◌, ◌<◌, List, slice_index}
use Rattle.exr_wavelet.specs.declared.level.Grid.{Grid}
use Rattle.exr_wavelet.specs.Level.{Matrix}

-- where the word in column x of line y stands
abbrev pub place_of : Grid → ℕ → ℕ → ℕ
place_of g x y = g.first + (y * g.nx + x) * g.step

-- two lines of so many words, one after the other
abbrev pub two_lines : ℕ → Grid
two_lines nx = record { first = 0; nx = nx; ny = 2; step = 1 }

-- the words that stand so as a matrix
abbrev pub words_of : List ℕ → ℕ → ℕ → ℕ → Matrix
words_of words first nx step x y = slice_index words (first + (y * nx + x) * step)

-- the words of the slice as a matrix
abbrev pub matrix_of : List ℕ → Grid → Matrix
matrix_of words g x y = slice_index words (place_of g x y)

-- each word's place lies in a slice of so many words
abbrev pub IsWithin : Grid → ℕ → Type 0
IsWithin g len = (x y : ℕ) → x < g.nx → y < g.ny → place_of g x y < len

-- the slice now has this matrix, and every other word as before
pub record Becomes (old new : List ℕ) (g : Grid) (M : Matrix) : Type 0 where
  pub placed : (x y : ℕ) → x < g.nx → y < g.ny → slice_index new (place_of g x y) ≡ M x y
  pub others : (k : ℕ) → ((x y : ℕ) → x < g.nx → y < g.ny → k ≢ place_of g x y) → slice_index new k ≡ slice_index old k
