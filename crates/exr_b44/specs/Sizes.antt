-- How many bytes a row of a channel has, and the least and the most that its samples take when they are packed.
use Rattle.std.specs.Prelude.{◌≡◌, ℕ, ◌*◌, ◌<◌, List, length}
use Rattle.exr_base.specs.declared.shape.Box2i.{Box2i}
use Rattle.exr_base.specs.declared.channel.Channel.{Channel}
use Rattle.exr_base.specs.declared.channel.Kind.{Kind}
use Rattle.exr_base.specs.declared.channel.Kind.TheVariants.{Uint, Half, Float}
use Rattle.exr_base.specs.Channel.{bytes_of, channel_at}
use Rattle.exr_b44.specs.Plane.{cells_for}
use Rattle.exr_b44.specs.Block.{columns_of, rows_of}

-- the bytes of a row of a channel
unfoldable pub row_len_of : Box2i → Channel → ℕ
row_len_of region c = columns_of region c * bytes_of c.kind

-- each channel has samples on each line
pub record AreOnEachLine (channels : List Channel) : Type 0 where
  pub each : (c : ℕ) → c < length channels → (channel_at channels c).ys ≡ 1

-- a cell has 3 bytes or more
abbrev pub least_len : Kind → ℕ → ℕ → ℕ
least_len Uint columns rows = columns * rows * 4
least_len Half columns rows = 3 * (cells_for columns * cells_for rows)
least_len Float columns rows = columns * rows * 4

-- and 14 at most
abbrev pub most_len : Kind → ℕ → ℕ → ℕ
most_len Uint columns rows = columns * rows * 4
most_len Half columns rows = 14 * (cells_for columns * cells_for rows)
most_len Float columns rows = columns * rows * 4

unfoldable pub least_of : Box2i → Channel → ℕ
least_of region c = least_len c.kind (columns_of region c) (rows_of region c)

unfoldable pub most_of : Box2i → Channel → ℕ
most_of region c = most_len c.kind (columns_of region c) (rows_of region c)
