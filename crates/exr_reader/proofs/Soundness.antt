-- Chunks and parts that are tested one after the other.
use Rattle.std.proofs.Common.{◌≡◌, ◌+◌, ℕ, Bool, true, cond, inl, inr, refl, ap, ◌∙◌, subst, arith, add-one}
use Rattle.std.proofs.lemmas.Bool.{cases_lt}
use Rattle.exr_block.specs.declared.fault.ChunkFault.{ChunkFault}
use Rattle.exr_chunks.specs.Heads.{chunk_count_of}
use Rattle.exr_stream.specs.Chunk.{Opened, header_in}
use Rattle.exr_reader.specs.declared.sound.CheckStop.{CheckStop}
use Rattle.exr_reader.specs.declared.sound.CheckStop.TheVariants as stop
use Rattle.exr_reader.specs.Sample.{raw_of}
use Rattle.exr_reader.specs.Check.{is_unread, is_sound, unread_among, AreSound, ArePartsSound, HasCheckCause}

pub unread_none : (file : Opened) (part : ℕ) → 0 ≡ unread_among file part 0
unfolding unread_among
unread_none file part = refl

pub unread_more : (file : Opened) (part n before now : ℕ) (b : Bool) → b ≡ is_unread (raw_of file part n) → before ≡ unread_among file part n → now ≡ before + cond b 1 0 → now ≡ unread_among file part (n + 1)
unfolding unread_among
unread_more file part n before now b is so_far more =
    rw add-one (more ∙ ap (λ m. m + cond b 1 0) so_far ∙ ap (λ (t : Bool). unread_among file part n + cond t 1 0) is)

pub sound_more : (file : Opened) (part n : ℕ) → AreSound file part n → is_sound (raw_of file part n) ≡ true → AreSound file part (n + 1)
sound_more file part n before here = λ i lt.
    elim (cases_lt i n) [
      | inl low ↦ before i low
      | inr le ↦ subst (λ k. is_sound (raw_of file part k) ≡ true) (omega (arith, le, lt)) here
    ]

pub parts_more : (file : Opened) (n : ℕ) → ArePartsSound file n → AreSound file n (chunk_count_of (header_in file n)) → ArePartsSound file (n + 1)
parts_more file n before here = λ part lt.
    elim (cases_lt part n) [
      | inl low ↦ before part low
      | inr le ↦ subst (λ k. AreSound file k (chunk_count_of (header_in file k))) (omega (arith, le, lt)) here
    ]

-- what a stop says of one call, said of more
pub stop_by : (s : CheckStop) (P Q : ℕ → ℕ → ChunkFault → Type 0) (rose rose' : Type 0) → ((p i : ℕ) (f : ChunkFault) → P p i f → Q p i f) → (rose → rose') → HasCheckCause s P rose → HasCheckCause s Q rose'
stop_by stop.NoMemory P Q rose rose' f up has = has
stop_by stop.Read P Q rose rose' f up has = up has
stop_by (stop.Chunk part index fault) P Q rose rose' f up has = f part index fault has
