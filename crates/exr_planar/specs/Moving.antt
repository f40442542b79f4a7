-- What was moved so far, row by row, from raw data to planar data or back.
use Rattle.std.specs.Prelude.{◌≡◌, ◌≢◌, ◌<◌, ℕ, ℤ, pos, ◌+ℤ◌, List, length}
use Rattle.exr_base.specs.declared.shape.Box2i.{Box2i}
use Rattle.exr_base.specs.declared.channel.Channel.{Channel}
use Rattle.exr_base.specs.Shape.{height_of, row_bytes_of, channel_bytes_of}
use Rattle.exr_planar.specs.Planar.{above_bytes_of}
use Rattle.exr_planar.specs.declared.rows.Rows.{Rows}

-- the sizes of a channel's rows, seen from line number n
abbrev pub rows_at : Box2i → ℕ → Channel → Rows
rows_at region n c = record {
  here = row_bytes_of region (region.y0 +ℤ pos n) c;
  above = above_bytes_of region (region.y0 +ℤ pos n) c;
  all = channel_bytes_of region c;
}

-- the rows of the first channels on line number n were moved, and no other row was changed; from and to say where the
-- row of a channel on a line is, in what is read and in what is written
pub record AreMoved (from to : List ℕ → ℕ → ℤ → List ℕ) (channels : List Channel) (region : Box2i) (n count : ℕ) (source old new : List ℕ) : Type 0 where
  pub size : length new ≡ length old
  pub moved : (c : ℕ) → c < count → to new c (region.y0 +ℤ pos n) ≡ from source c (region.y0 +ℤ pos n)
  pub others : (c k : ℕ) → c < length channels → k < height_of region → k ≢ n → to new c (region.y0 +ℤ pos k) ≡ to old c (region.y0 +ℤ pos k)

-- the rows of all channels on the first lines were moved
pub record AreLinesMoved (from to : List ℕ → ℕ → ℤ → List ℕ) (channels : List Channel) (region : Box2i) (lines : ℕ) (source old new : List ℕ) : Type 0 where
  pub size : length new ≡ length old
  pub moved : (c k : ℕ) → c < length channels → k < lines → to new c (region.y0 +ℤ pos k) ≡ from source c (region.y0 +ℤ pos k)
