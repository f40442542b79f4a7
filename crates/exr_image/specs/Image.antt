-- The image of a window of a deep part: the counts pixel by pixel, row by row, and of each channel all samples pixel by
-- pixel, row by row, those of a pixel in their order (own).
use Rattle.std.specs.Prelude.{◌≡◌, ◌<◌, ℕ, zero, suc, ℤ, pos, ◌+ℤ◌, List, [], ◌∷◌, ◌++◌, length, map}
use Rattle.std.specs.List.{HoldsAt, range_with_len}
use Rattle.exr_base.specs.declared.shape.Box2i.{Box2i}
use Rattle.exr_base.specs.declared.channel.Channel.{Channel}
use Rattle.exr_base.specs.Boxes.{IsWithin}
use Rattle.exr_base.specs.Shape.{width_of, height_of}
use Rattle.exr_deep.specs.Body.{content_of}
use Rattle.exr_image.specs.declared.chunk.DeepChunk.{DeepChunk}
use Rattle.exr_image.specs.declared.image.DeepImage.{DeepImage}
use Rattle.exr_image.specs.Pixel.{count_in, pixel_samples_in}

-- the pixels of a part: how many samples each has, and of each channel all samples of a pixel
pub record DeepPixels : Type 0 where
  pub count : ℤ → ℤ → ℕ
  pub samples : ℕ → ℤ → ℤ → List ℕ

-- ---- the image

-- what pixels give along a row, n of them from x on
unfoldable pub along_row : (ℤ → ℤ → List ℕ) → ℤ → ℤ → ℕ → List ℕ
along_row f x y zero = []
along_row f x y (suc n) = along_row f x y n ++ f (x +ℤ pos n) y

-- what they give along the first n rows of a window
unfoldable pub along_rows : (ℤ → ℤ → List ℕ) → Box2i → ℕ → List ℕ
along_rows f window zero = []
along_rows f window (suc n) =
    along_rows f window n ++ along_row f window.x0 (window.y0 +ℤ pos n) (width_of window)

-- the counts of the first n rows of a window, and their samples of channel number c
abbrev pub counts_over : DeepPixels → Box2i → ℕ → List ℕ
counts_over pixels window n = along_rows (λ x y. pixels.count x y ∷ []) window n

abbrev pub samples_over : DeepPixels → Box2i → ℕ → ℕ → List ℕ
samples_over pixels window n c = along_rows (pixels.samples c) window n

-- an image of a window has its first n rows, of pixels that have these channels
pub record HasRows (pixels : DeepPixels) (channels : List Channel) (window : Box2i) (n : ℕ) (image : DeepImage) : Type 0 where
  pub over : image.window ≡ window
  pub counts : image.counts.items ≡ counts_over pixels window n
  pub samples : map (λ plane. plane.items) image.channels.items
      ≡ map (samples_over pixels window n) (range_with_len 0 (length channels))

-- it has all rows
abbrev pub IsImage : DeepPixels → List Channel → Box2i → DeepImage → Type 0
IsImage pixels channels window image = HasRows pixels channels window (height_of window) image

-- rows of a window, from row n on
pub record AreBelow (window : Box2i) (n : ℕ) (rows : Box2i) : Type 0 where
  pub left : rows.x0 ≡ window.x0
  pub right : rows.x1 ≡ window.x1
  pub top : rows.y0 ≡ window.y0 +ℤ pos n

-- ---- the chunks that an image is made of

-- some chunk has the pixel
pub record HasPixel (chunks : List DeepChunk) (x y : ℤ) : Type 0 where
  pub number : ℕ
  pub there : number < length chunks
  pub has : HoldsAt (λ chunk. IsWithin chunk.region x y) chunks number

-- chunks have all pixels of a window
abbrev pub AreCovering : Box2i → List DeepChunk → Type 0
AreCovering window chunks = (x y : ℤ) → IsWithin window x y → HasPixel chunks x y

-- what pixels have is what a chunk says of those in its region
pub record AreFrom (channels : List Channel) (pixels : DeepPixels) (chunk : DeepChunk) : Type 0 where
  pub counts : (x y : ℤ) → IsWithin chunk.region x y → pixels.count x y ≡ count_in chunk.region (content_of chunk.content) x y
  pub samples : (c : ℕ) (x y : ℤ) → c < length channels → IsWithin chunk.region x y
      → pixels.samples c x y ≡ pixel_samples_in channels chunk.region (content_of chunk.content) c x y
