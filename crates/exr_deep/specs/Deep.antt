-- The content of a deep chunk: the count of each pixel, and the samples row by row, in each row channel by channel, of
-- each channel the samples of the row's pixels from left to right.
-- File Layout, "Deep Data Blocks".
use Rattle.std.specs.Prelude.{ℕ, ◌*◌, ◌^◌, ◌==◌, ◌&&◌, nat_lt, nat_le, Bool, List, length, sum, sum_by, Result, Ok, Err, if◌then◌else◌}
use Rattle.std.specs.List.{range_with_len, list_all}
use Rattle.exr_base.specs.declared.shape.Box2i.{Box2i}
use Rattle.exr_base.specs.declared.channel.Channel.{Channel}
use Rattle.exr_base.specs.declared.method.Method.{Method}
use Rattle.exr_base.specs.Channel.{bytes_of}
use Rattle.exr_base.specs.Refusal.{◌>>=◌}
use Rattle.exr_base.specs.Shape.{width_of, height_of}
use Rattle.exr_rle.specs.declared.broken.RleBroken.{RleBroken}
use Rattle.exr_deep.specs.declared.fault.DeepFault.{DeepFault}
use Rattle.exr_deep.specs.declared.fault.DeepFault.TheVariants as fault
use Rattle.exr_deep.specs.Body.{DeepContent, DeepBody}
use Rattle.exr_deep.specs.Counts.{counts_in, running_at, table_of}
use Rattle.exr_deep.specs.Stored.{unpacked_of, stored_of}

-- ---- sizes

abbrev pub pixels_of : Box2i → ℕ
pixels_of region = height_of region * width_of region

-- the bytes of one sample of each channel
abbrev pub sample_bytes_of : List Channel → ℕ
sample_bytes_of channels = sum_by (λ c. bytes_of c.kind) channels

-- the bytes of all samples of pixels with these counts
abbrev pub samples_size_of : List Channel → List ℕ → ℕ
samples_size_of channels counts = sum counts * sample_bytes_of channels

-- whether the running sum of each pixel is below 2^31, and so an int
unfoldable pub are_ints : ℕ → List ℕ → Bool
are_ints width counts = list_all (λ n. nat_lt (running_at width counts n) (2 ^ 31)) (range_with_len 0 (length counts))

-- whether content has a count for each pixel of a region and the samples of these counts, and neither the table nor the
-- samples have more than 2^26 bytes
unfoldable pub fits : List Channel → Box2i → DeepContent → Bool
fits channels region content =
    (length content.counts == pixels_of region)
    && are_ints (width_of region) content.counts
    && (length content.samples == samples_size_of channels content.counts)
    && nat_le (4 * pixels_of region) (2 ^ 26)
    && nat_le (length content.samples) (2 ^ 26)

-- ---- reading

-- broken run lengths as a fault of the chunk
abbrev pub or_broken : DeepFault → Result (List ℕ) RleBroken → Result (List ℕ) DeepFault
or_broken fault (Ok raw) = Ok raw
or_broken fault (Err broken) = Err fault

-- the samples, where the size that is said is the one that the counts make
unfoldable pub samples_in : ℕ → ℕ → List ℕ → Result (List ℕ) DeepFault
samples_in said computed samples =
    if said == computed then or_broken fault.DataBroken (unpacked_of said samples) else Err (fault.SizeDiffers said computed)

-- the content of so many pixels, or its first fault, where a sample of each channel takes so many bytes
unfoldable pub content_in : ℕ → ℕ → ℕ → DeepBody → Result DeepContent DeepFault
content_in width pixels sample_bytes body =
    or_broken fault.TableBroken (unpacked_of (4 * pixels) body.table)
    >>= (λ table. counts_in width table pixels
    >>= (λ counts. samples_in body.unpacked (sum counts * sample_bytes) body.samples
    >>= (λ samples. Ok (record { counts = counts; samples = samples }))))

-- the content that a chunk stands for, or its first fault
abbrev pub deep_of : List Channel → Box2i → DeepBody → Result DeepContent DeepFault
deep_of channels region body = content_in (width_of region) (pixels_of region) (sample_bytes_of channels) body

-- ---- writing

-- the chunk that a writer stores for content whose rows have so many pixels
abbrev pub body_for : Method → ℕ → DeepContent → DeepBody
body_for method width content = record {
  table = stored_of method (table_of width content.counts);
  samples = stored_of method content.samples;
  unpacked = length content.samples;
}

-- the chunk that a writer stores
abbrev pub deep_pack_of : Method → Box2i → DeepContent → DeepBody
deep_pack_of method region content = body_for method (width_of region) content
