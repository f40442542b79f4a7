-- The planes of a block's words: channel by channel, and of a channel of 32 bits two, which are interleaved. A plane
-- is a matrix of its samples' words.
use Rattle.std.specs.Prelude.{ℕ, ◌*◌, ◌/◌, ◌%◌, List, [], ◌∷◌, ◌++◌, take, drop, map}
use Rattle.std.specs.List.{range_with_len}
use Rattle.exr_base.specs.declared.shape.Box2i.{Box2i}
use Rattle.exr_base.specs.declared.channel.Channel.{Channel}
use Rattle.exr_base.specs.Channel.{bytes_of}
use Rattle.exr_base.specs.Sampling.{multiples_among}
use Rattle.exr_base.specs.Shape.{width_of, height_of}
use Rattle.exr_wavelet.specs.Level.{Matrix}
use Rattle.exr_wavelet.specs.Places.{words_of}

-- the samples of a channel in a line, the lines that have any, and the words of a sample
abbrev pub columns_of : Box2i → Channel → ℕ
columns_of region c = multiples_among c.xs region.x0 (width_of region)

abbrev pub lines_of : Box2i → Channel → ℕ
lines_of region c = multiples_among c.ys region.y0 (height_of region)

abbrev pub sample_words_of : Channel → ℕ
sample_words_of c = bytes_of c.kind / 2

-- the words of a channel
abbrev pub channel_words_of : Box2i → Channel → ℕ
channel_words_of region c = columns_of region c * lines_of region c * sample_words_of c

-- the words of a channel with each of its planes turned into another matrix: word p of sample (x, y) is number
-- (y * nx + x) * step + p
unfoldable pub planes_by : (ℕ → ℕ → Matrix → Matrix) → ℕ → ℕ → ℕ → List ℕ → List ℕ
planes_by turn nx ny step words =
    map (λ k. turn nx ny (words_of words (k % step) nx step) (k / step % nx) (k / step / nx)) (range_with_len 0 (nx * ny * step))

-- the words of all channels with each plane turned so
unfoldable pub channels_by : (ℕ → ℕ → Matrix → Matrix) → Box2i → List Channel → List ℕ → List ℕ
channels_by turn region [] words = []
channels_by turn region (c ∷ channels) words =
    planes_by turn (columns_of region c) (lines_of region c) (sample_words_of c) (take (channel_words_of region c) words)
    ++ channels_by turn region channels (drop (channel_words_of region c) words)
