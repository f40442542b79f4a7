-- The input of a test calls for one stop at the most, and for none where its chunks are sound.
use Rattle.std.proofs.Common.{◌≡◌, inl, inr, ℕ, true, false, List, Err, sym, ap, subst, ◌∙◌, arith}
use Rattle.std.proofs.lemmas.Bool.{cases_lt}
use Rattle.exr_attributes.specs.declared.fault.HeaderFault.{HeaderFault}
use Rattle.exr_block.specs.declared.fault.ChunkFault.{ChunkFault}
use Rattle.exr_header.specs.Head.{Head, head_of}
use Rattle.exr_stream.specs.Chunk.{Opened}
use Rattle.exr_reader.specs.Sample.{raw_of}
use Rattle.exr_reader.specs.Check.{is_sound, IsFirstUnsoundOf, IsFirstUnsound}
use Rattle.exr_tools.specs.declared.stop.Stop.{Stop}
use Rattle.exr_tools.specs.declared.stop.Stop.TheVariants.{NoMemory, Words, File, Read, Write, Request}
use Rattle.exr_tools.specs.declared.stop.FileFault.TheVariants as fault
use Rattle.exr_tools.specs.Run.{with_head, IsWhole, HasFirstUnsound, IsBroken}
use Rattle.exr_tools.proofs.Answered.{IsOne, IsNone, one_value, one_error, not_both}

-- ---- the first chunk that is not sound is one

clash : (file : Opened) (part i : ℕ) → is_sound (raw_of file part i) ≡ true → is_sound (raw_of file part i) ≡ false → ⊥
clash file part i sound unsound = absurd (cc)

one_of_part : (file : Opened) (part i j : ℕ) (f g : ChunkFault) → IsFirstUnsoundOf file part i f → IsFirstUnsoundOf file part j g → (i ≡ j) × (f ≡ g)
one_of_part file part i j f g a b =
    elim (cases_lt i j) [
      | inl lt ↦ absurd (clash file part i (b.before i lt) a.broken.unsound)
      | inr le ↦
          elim (cases_lt j i) [
            | inl lt ↦ absurd (clash file part j (a.before j lt) b.broken.unsound)
            | inr ge ↦
                let same : i ≡ j = omega (arith, le, ge) in
                (same, one_error (raw_of file part j) f g (subst (λ n. raw_of file part n ≡ Err f) same a.broken.found) b.broken.found)
          ]
    ]

one_of_file : (file : Opened) (p q i j : ℕ) (f g : ChunkFault) → IsFirstUnsound file p i f → IsFirstUnsound file q j g → (p ≡ q) × ((i ≡ j) × (f ≡ g))
one_of_file file p q i j f g a b =
    elim (cases_lt p q) [
      | inl lt ↦ absurd (clash file p i (b.earlier p lt i a.chunk.within) a.chunk.broken.unsound)
      | inr le ↦
          elim (cases_lt q p) [
            | inl lt ↦ absurd (clash file q j (a.earlier q lt j b.chunk.within) b.chunk.broken.unsound)
            | inr ge ↦
                let same : p ≡ q = omega (arith, le, ge) in
                (same, one_of_part file q i j f g (subst (λ n. IsFirstUnsoundOf file n i f) same a.chunk) b.chunk)
          ]
    ]

same_unsound : (file : List ℕ) (p q i j : ℕ) (f g : ChunkFault) → HasFirstUnsound file p i f → HasFirstUnsound file q j g → (p ≡ q) × ((i ≡ j) × (f ≡ g))
same_unsound file p q i j f g a b =
    let heads = one_value (head_of file) (b.head, b.bytes) (a.head, a.bytes) b.found a.found in
    one_of_file (with_head file a.head a.bytes) p q i j f g a.first
    (subst (λ (x : Head × ℕ). IsFirstUnsound (with_head file x.0 x.1) q j g) heads b.first)

-- ---- stops that a file calls for

-- one of two
data Seen (i : ℕ) (file : List ℕ) (stop : Stop) : Type 0 where
  no_head : (f : HeaderFault) → stop ≡ File i (fault.Head f) → head_of file ≡ Err f → Seen i file stop
  unsound : (part index : ℕ) (f : ChunkFault) → stop ≡ File i (fault.Chunk part index f) → HasFirstUnsound file part index f → Seen i file stop

seen : (i : ℕ) (file : List ℕ) (stop : Stop) → IsBroken stop i file → Seen i file stop
seen i file NoMemory due = absurd due
seen i file (Words position) due = absurd due
seen i file (File m (fault.Head f)) due = no_head f (ap (λ n. File n (fault.Head f)) due.0) due.1
seen i file (File m (fault.Chunk p k f)) due = unsound p k f (ap (λ n. File n (fault.Chunk p k f)) due.0) due.1
seen i file Read due = absurd due
seen i file Write due = absurd due
seen i file (Request r) due = absurd due

same_seen : (i : ℕ) (file : List ℕ) (a b : Stop) → Seen i file a → Seen i file b → a ≡ b
same_seen i file a b (no_head f is bad) (no_head g is' bad') =
    is ∙ ap (λ h. File i (fault.Head h)) (one_error (head_of file) f g bad bad') ∙ sym is'
same_seen i file a b (no_head f is bad) (unsound q j g is' first) = absurd (not_both (head_of file) (first.head, first.bytes) f first.found bad)
same_seen i file a b (unsound p k f is first) (no_head g is' bad) = absurd (not_both (head_of file) (first.head, first.bytes) g first.found bad)
same_seen i file a b (unsound p k f is first) (unsound q j g is' second) =
    let same = same_unsound file p q k j f g first second in
    is ∙ ap (λ l. File i (fault.Chunk l k f)) same.0 ∙ ap (λ l. File i (fault.Chunk q l f)) (same.1).0
    ∙ ap (λ h. File i (fault.Chunk q j h)) (same.1).1 ∙ sym is'

pub broken_alone : (i : ℕ) (file : List ℕ) → IsOne (λ stop. IsBroken stop i file)
broken_alone i file a b first second = same_seen i file a b (seen i file a first) (seen i file b second)

not_seen : (i : ℕ) (file : List ℕ) (stop : Stop) → IsWhole file → Seen i file stop → ⊥
not_seen i file stop whole (no_head f is bad) = not_both (head_of file) (whole.head, whole.bytes) f whole.found bad
not_seen i file stop whole (unsound p k f is bad) =
    let heads = one_value (head_of file) (bad.head, bad.bytes) (whole.head, whole.bytes) bad.found whole.found in
    let first = subst (λ (x : Head × ℕ). IsFirstUnsound (with_head file x.0 x.1) p k f) heads bad.first in
    clash (with_head file whole.head whole.bytes) p k (whole.sound p first.there k first.chunk.within) first.chunk.broken.unsound

pub whole_not_broken : (i : ℕ) (file : List ℕ) → IsWhole file → IsNone (λ stop. IsBroken stop i file)
whole_not_broken i file whole stop due = not_seen i file stop whole (seen i file stop due)
