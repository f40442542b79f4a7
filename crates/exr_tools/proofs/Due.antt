-- The input of a command calls for one stop at the most, and for none where its samples can be read.
use Rattle.std.proofs.Common.{◌≡◌, ◌⊎◌, inl, inr, ℕ, ◌+◌, ◌<◌, ◌≤◌, List, length, slice_index, Ok, Err, refl, sym, ap, subst, ◌∙◌, arith}
use Rattle.std.proofs.lemmas.Bool.{cases_lt}
use Rattle.exr_base.specs.declared.shape.Box2i.{Box2i}
use Rattle.exr_attributes.specs.declared.fault.HeaderFault.{HeaderFault}
use Rattle.exr_block.specs.declared.fault.ChunkFault.{ChunkFault}
use Rattle.exr_header.specs.Head.{Head, head_of}
use Rattle.exr_chunks.specs.Region.{header_at}
use Rattle.exr_chunks.specs.Window.{chunks_of_window}
use Rattle.exr_stream.specs.Chunk.{Opened}
use Rattle.exr_layout.specs.Plan.{Matching}
use Rattle.exr_layout.specs.Validation.{Frame}
use Rattle.exr_asked.specs.Demand.{Demand}
use Rattle.exr_request.specs.declared.fault.RequestFault.{RequestFault}
use Rattle.exr_request.specs.declared.fault.RequestFault.TheVariants.{NoPart, DeepWords, Window, Mixed, Layout, TooLarge, Match, DeepTooLarge}
use Rattle.exr_request.specs.Request.{window_asked, part_asked, IsGranted, IsDeepGranted, IsRefused}
use Rattle.exr_request.proofs.Once.{one_refusal, not_both as granted_not_refused, not_both_deep, flat_or_deep, one_window}
use Rattle.exr_reader.specs.Sample.{raw_of}
use Rattle.exr_reader.specs.Window.{HaveDataOf, IsFirstFaultOf}
use Rattle.exr_reader.specs.Deep.{AreSmall, IsDeepFault, IsTooLarge}
use Rattle.exr_tools.specs.declared.stop.Stop.{Stop}
use Rattle.exr_tools.specs.declared.stop.Stop.TheVariants.{NoMemory, Words, File, Read, Write, Request}
use Rattle.exr_tools.specs.declared.stop.FileFault.TheVariants as fault
use Rattle.exr_tools.specs.Run.{with_head, chunks_over, chunks_asked, IsFlatReadable, IsDeepReadable, IsReadable, IsExtracted, IsRefusedBy, HasFirstFault, HasFirstDeepFault, IsTooMuch, IsUnread}
use Rattle.exr_tools.proofs.Answered.{one_value, one_error, not_both}

-- ---- what is granted

-- two frames of what is asked for have one window
window_is : (head : Head) (d : Demand) (f g : Frame) (p q : Matching) → IsGranted head d f p → IsGranted head d g q → f.window ≡ g.window
window_is head d f g p q first second =
    first.fit.arranged.window
    ∙ ap (window_asked d) (one_value (part_asked head d) first.part second.part first.asked second.asked)
    ∙ sym second.fit.arranged.window

chunks_are : (head : Head) (d : Demand) (f g : Frame) (p q : Matching) → IsGranted head d f p → IsGranted head d g q → chunks_asked head d f ≡ chunks_asked head d g
chunks_are head d f g p q first second =
    ap (chunks_of_window (header_at head.parts d.part)) (window_is head d f g p q first second)

-- ---- stops that what is asked of a file calls for

-- why a window of a deep part cannot be read, and the stop of that
data DeepWhy (i : ℕ) (file : Opened) (part : ℕ) (window : Box2i) (chunks : List ℕ) (stop : Stop) : Type 0 where
  faulty : (n : ℕ) (f : ChunkFault) → stop ≡ File i (fault.Chunk part n f) → IsDeepFault file part window chunks n f → DeepWhy i file part window chunks stop
  large : (n : ℕ) → stop ≡ Request (DeepTooLarge n) → IsTooLarge file part window chunks n → DeepWhy i file part window chunks stop

record HasDeepStop (i : ℕ) (file : List ℕ) (d : Demand) (stop : Stop) : Type 0 where
  head : Head
  bytes : ℕ
  window : Box2i
  found : head_of file ≡ Ok (head, bytes)
  granted : IsDeepGranted head d window
  reason : DeepWhy i (with_head file head bytes) d.part window (chunks_over head d window) stop

-- one of four
data Seen (i : ℕ) (file : List ℕ) (d : Demand) (stop : Stop) : Type 0 where
  no_head : (f : HeaderFault) → stop ≡ File i (fault.Head f) → head_of file ≡ Err f → Seen i file d stop
  refused : (r : RequestFault) → stop ≡ Request r → IsRefusedBy r file d → Seen i file d stop
  broken : (index : ℕ) (f : ChunkFault) → stop ≡ File i (fault.Chunk d.part index f) → HasFirstFault file d index f → Seen i file d stop
  deep : HasDeepStop i file d stop → Seen i file d stop

seen_chunk : (i : ℕ) (file : List ℕ) (d : Demand) (index p n : ℕ) (f : ChunkFault) → index ≡ i → p ≡ d.part → HasFirstFault file d n f ⊎ HasFirstDeepFault file d n f → Seen i file d (File index (fault.Chunk p n f))
seen_chunk i file d index p n f same part (inl has) = broken n f (ap (λ m. File m (fault.Chunk p n f)) same ∙ ap (λ q. File i (fault.Chunk q n f)) part) has
seen_chunk i file d index p n f same part (inr has) = deep (record {
  head = has.head;
  bytes = has.bytes;
  window = has.window;
  found = has.found;
  granted = has.granted;
  reason = faulty n f (ap (λ m. File m (fault.Chunk p n f)) same ∙ ap (λ q. File i (fault.Chunk q n f)) part) has.first;
})

seen_much : (i : ℕ) (file : List ℕ) (d : Demand) (r : RequestFault) → IsTooMuch r file d → Seen i file d (Request r)
seen_much i file d NoPart has = absurd has
seen_much i file d DeepWords has = absurd has
seen_much i file d Window has = absurd has
seen_much i file d (Mixed slice) has = absurd has
seen_much i file d (Layout f) has = absurd has
seen_much i file d TooLarge has = absurd has
seen_much i file d (Match f) has = absurd has
seen_much i file d (DeepTooLarge n) has = deep (record { head = has.head; bytes = has.bytes; window = has.window; found = has.found; granted = has.granted; reason = large n refl has.large })

seen_request : (i : ℕ) (file : List ℕ) (d : Demand) (r : RequestFault) → IsRefusedBy r file d ⊎ IsTooMuch r file d → Seen i file d (Request r)
seen_request i file d r (inl has) = refused r refl has
seen_request i file d r (inr has) = seen_much i file d r has

seen : (i : ℕ) (file : List ℕ) (d : Demand) (stop : Stop) → IsUnread stop i file d → Seen i file d stop
seen i file d NoMemory due = absurd due
seen i file d (Words position) due = absurd due
seen i file d (File index (fault.Head f)) due = no_head f (ap (λ n. File n (fault.Head f)) due.0) due.1
seen i file d (File index (fault.Chunk p n f)) due = seen_chunk i file d index p n f due.0 (due.1).0 (due.1).1
seen i file d Read due = absurd due
seen i file d Write due = absurd due
seen i file d (Request r) due = seen_request i file d r due

-- a fault of the chunks of one frame, of the same head and file
moved : (file : List ℕ) (d : Demand) (n : ℕ) (g : ChunkFault) (head : Head) (bytes : ℕ) (frame : Frame) (plan : Matching) → head_of file ≡ Ok (head, bytes) → IsGranted head d frame plan
    → (second : HasFirstFault file d n g) → IsFirstFaultOf (with_head file head bytes) d.part (chunks_asked head d frame) second.rank n g
moved file d n g head bytes frame plan found granted second =
    let heads = one_value (head_of file) (second.head, second.bytes) (head, bytes) second.found found in
    let other : IsGranted head d second.frame second.plan = subst (λ (x : Head × ℕ). IsGranted x.0 d second.frame second.plan) heads second.granted in
    let same_head : IsFirstFaultOf (with_head file head bytes) d.part (chunks_asked head d second.frame) second.rank n g =
    subst (λ (x : Head × ℕ). IsFirstFaultOf (with_head file x.0 x.1) d.part (chunks_asked x.0 d second.frame) second.rank n g) heads second.first in
    subst (λ chunks. IsFirstFaultOf (with_head file head bytes) d.part chunks second.rank n g) (chunks_are head d second.frame frame second.plan plan other granted) same_head

-- a first fault is one
one_fault : (file : Opened) (part : ℕ) (chunks : List ℕ) (r s m n : ℕ) (f g : ChunkFault) → IsFirstFaultOf file part chunks r m f → IsFirstFaultOf file part chunks s n g → (m ≡ n) × (f ≡ g)
one_fault file part chunks r s m n f g first second =
    elim (cases_lt r s) [
      | inl lt ↦
          let has = second.before r first.within lt in
          absurd (not_both (raw_of file part (slice_index chunks r)) has.0 f has.1 (ap (λ i. raw_of file part i) first.index ∙ first.found))
      | inr le ↦
          elim (cases_lt s r) [
            | inl lt ↦
                let has = first.before s second.within lt in
                absurd (not_both (raw_of file part (slice_index chunks s)) has.0 g has.1 (ap (λ i. raw_of file part i) second.index ∙ second.found))
            | inr ge ↦
                let e : r ≡ s = omega (arith, le, ge) in
                let same : m ≡ n = sym first.index ∙ ap (slice_index chunks) e ∙ second.index in
                (same, one_error (raw_of file part n) f g (subst (λ i. raw_of file part i ≡ Err f) same first.found) second.found)
          ]
    ]

same_fault : (file : List ℕ) (d : Demand) (m n : ℕ) (f g : ChunkFault) → HasFirstFault file d m f → HasFirstFault file d n g → (m ≡ n) × (f ≡ g)
same_fault file d m n f g first second =
    one_fault (with_head file first.head first.bytes) d.part (chunks_asked first.head d first.frame) first.rank second.rank m n f g first.first
    (moved file d n g first.head first.bytes first.frame first.plan first.found first.granted second)

-- what is refused is not granted
refused_not_read : (file : List ℕ) (d : Demand) (r : RequestFault) (head : Head) (bytes : ℕ) (frame : Frame) (plan : Matching) → head_of file ≡ Ok (head, bytes) → IsGranted head d frame plan → IsRefusedBy r file d → ⊥
refused_not_read file d r head bytes frame plan found granted bad =
    let heads = one_value (head_of file) (bad.head, bad.bytes) (head, bytes) bad.found found in
    granted_not_refused head d frame plan r granted (subst (λ (x : Head × ℕ). IsRefused x.0 d r) heads bad.refused)

refused_not_deep : (file : List ℕ) (d : Demand) (r : RequestFault) (head : Head) (bytes : ℕ) (window : Box2i) → head_of file ≡ Ok (head, bytes) → IsDeepGranted head d window → IsRefusedBy r file d → ⊥
refused_not_deep file d r head bytes window found granted bad =
    let heads = one_value (head_of file) (bad.head, bad.bytes) (head, bytes) bad.found found in
    not_both_deep head d window r granted (subst (λ (x : Head × ℕ). IsRefused x.0 d r) heads bad.refused)

-- a part is not flat and deep
flat_not_deep : (file : List ℕ) (d : Demand) (head other : Head) (bytes count : ℕ) (frame : Frame) (plan : Matching) (window : Box2i) → head_of file ≡ Ok (head, bytes) → head_of file ≡ Ok (other, count)
    → IsGranted head d frame plan → IsDeepGranted other d window → ⊥
flat_not_deep file d head other bytes count frame plan window found also flat deep_one =
    let heads = one_value (head_of file) (other, count) (head, bytes) also found in
    flat_or_deep head d frame plan window flat (subst (λ (x : Head × ℕ). IsDeepGranted x.0 d window) heads deep_one)

-- ---- stops of deep parts

-- of two ranks neither of which is before the other
one_rank : (r s : ℕ) → (r < s → ⊥) → (s < r → ⊥) → r ≡ s
one_rank r s not_less not_more =
    elim (cases_lt r s) [
      | inl lt ↦ absurd (not_less lt)
      | inr le ↦ elim (cases_lt s r) [ inl lt ↦ absurd (not_more lt) | inr ge ↦ omega (arith, le, ge) ]
    ]

-- a chunk with a fault is none of the first that have content
not_content : (file : Opened) (part : ℕ) (chunks : List ℕ) (r s n : ℕ) (f : ChunkFault) → IsFirstFaultOf file part chunks r n f → HaveDataOf file part chunks s → r < s → ⊥
not_content file part chunks r s n f first content lt =
    let has = content r first.within lt in
    not_both (raw_of file part (slice_index chunks r)) has.0 f has.1 (ap (λ i. raw_of file part i) first.index ∙ first.found)

-- a chunk with too many bytes is none of the first that have not
not_small : (file : Opened) (part : ℕ) (window : Box2i) (chunks : List ℕ) (s n : ℕ) (it : IsTooLarge file part window chunks n) → AreSmall file part window chunks s → it.rank < s → ⊥
not_small file part window chunks s n it small lt =
    let few = small it.rank lt in
    let many = it.large in
    absurd (omega (arith, few, many))

content_front : (file : Opened) (part : ℕ) (chunks : List ℕ) (m n : ℕ) → m ≤ n → HaveDataOf file part chunks n → HaveDataOf file part chunks m
content_front file part chunks m n le has = λ r there lt. has r there (omega (arith, le, lt))

one_why : (i : ℕ) (file : Opened) (part : ℕ) (window : Box2i) (chunks : List ℕ) (a b : Stop) → DeepWhy i file part window chunks a → DeepWhy i file part window chunks b → a ≡ b
one_why i file part window chunks a b (faulty m f is first) (faulty n g is' second) =
    let same = one_fault file part chunks first.rank second.rank m n f g first.first second.first in
    is ∙ ap (λ k. File i (fault.Chunk part k f)) same.0 ∙ ap (λ h. File i (fault.Chunk part n h)) same.1 ∙ sym is'
one_why i file part window chunks a b (faulty m f is first) (large n is' second) =
    let e = one_rank first.rank second.rank
    (not_content file part chunks first.rank second.rank m f first.first (content_front file part chunks second.rank (second.rank + 1) (omega arith) second.content))
    (not_small file part window chunks first.rank n second first.small) in
    absurd (not_content file part chunks first.rank (second.rank + 1) m f first.first second.content (omega (arith, e)))
one_why i file part window chunks a b (large m is first) (faulty n g is' second) =
    let e = one_rank second.rank first.rank
    (not_content file part chunks second.rank first.rank n g second.first (content_front file part chunks first.rank (first.rank + 1) (omega arith) first.content))
    (not_small file part window chunks second.rank m first second.small) in
    absurd (not_content file part chunks second.rank (first.rank + 1) n g second.first first.content (omega (arith, e)))
one_why i file part window chunks a b (large m is first) (large n is' second) =
    let e = one_rank first.rank second.rank (not_small file part window chunks second.rank m first second.small) (not_small file part window chunks first.rank n second first.small) in
    is ∙ ap (λ k. Request (DeepTooLarge k)) (sym first.index ∙ ap (slice_index chunks) e ∙ second.index) ∙ sym is'

-- the reason, told of one head and one window
moved_deep : (i : ℕ) (file : List ℕ) (d : Demand) (head : Head) (bytes : ℕ) (window : Box2i) (stop : Stop) → head_of file ≡ Ok (head, bytes) → IsDeepGranted head d window → (has : HasDeepStop i file d stop)
    → DeepWhy i (with_head file head bytes) d.part window (chunks_over head d window) stop
moved_deep i file d head bytes window stop found granted has =
    let heads = one_value (head_of file) (has.head, has.bytes) (head, bytes) has.found found in
    let other = subst (λ (x : Head × ℕ). IsDeepGranted x.0 d has.window) heads has.granted in
    subst (λ (w : Box2i). DeepWhy i (with_head file head bytes) d.part w (chunks_over head d w) stop) (one_window head d has.window window other granted)
    (subst (λ (x : Head × ℕ). DeepWhy i (with_head file x.0 x.1) d.part has.window (chunks_over x.0 d has.window) stop) heads has.reason)

-- ---- a stop is one

head_not : (file : List ℕ) (head : Head) (bytes : ℕ) (f : HeaderFault) → head_of file ≡ Ok (head, bytes) → head_of file ≡ Err f → ⊥
head_not file head bytes f found bad = not_both (head_of file) (head, bytes) f found bad

same_seen : (i : ℕ) (file : List ℕ) (d : Demand) (a b : Stop) → Seen i file d a → Seen i file d b → a ≡ b
same_seen i file d a b (no_head f is bad) (no_head g is' bad') = is ∙ ap (λ h. File i (fault.Head h)) (one_error (head_of file) f g bad bad') ∙ sym is'
same_seen i file d a b (no_head f is bad) (refused r is' s) = absurd (head_not file s.head s.bytes f s.found bad)
same_seen i file d a b (no_head f is bad) (broken n g is' s) = absurd (head_not file s.head s.bytes f s.found bad)
same_seen i file d a b (no_head f is bad) (deep s) = absurd (head_not file s.head s.bytes f s.found bad)
same_seen i file d a b (refused r is s) (no_head f is' bad) = absurd (head_not file s.head s.bytes f s.found bad)
same_seen i file d a b (refused r is s) (refused q is' t) =
    let heads = one_value (head_of file) (s.head, s.bytes) (t.head, t.bytes) s.found t.found in
    is ∙ ap (λ w. Request w) (one_refusal t.head d r q (subst (λ (x : Head × ℕ). IsRefused x.0 d r) heads s.refused) t.refused) ∙ sym is'
same_seen i file d a b (refused r is s) (broken n g is' t) = absurd (refused_not_read file d r t.head t.bytes t.frame t.plan t.found t.granted s)
same_seen i file d a b (refused r is s) (deep t) = absurd (refused_not_deep file d r t.head t.bytes t.window t.found t.granted s)
same_seen i file d a b (broken n g is t) (no_head f is' bad) = absurd (head_not file t.head t.bytes f t.found bad)
same_seen i file d a b (broken n g is t) (refused r is' s) = absurd (refused_not_read file d r t.head t.bytes t.frame t.plan t.found t.granted s)
same_seen i file d a b (broken m f is first) (broken n g is' second) =
    let same = same_fault file d m n f g first second in
    is ∙ ap (λ k. File i (fault.Chunk d.part k f)) same.0 ∙ ap (λ h. File i (fault.Chunk d.part n h)) same.1 ∙ sym is'
same_seen i file d a b (broken n g is t) (deep s) = absurd (flat_not_deep file d t.head s.head t.bytes s.bytes t.frame t.plan s.window t.found s.found t.granted s.granted)
same_seen i file d a b (deep s) (no_head f is' bad) = absurd (head_not file s.head s.bytes f s.found bad)
same_seen i file d a b (deep s) (refused r is' t) = absurd (refused_not_deep file d r s.head s.bytes s.window s.found s.granted t)
same_seen i file d a b (deep s) (broken n g is' t) = absurd (flat_not_deep file d t.head s.head t.bytes s.bytes t.frame t.plan s.window t.found s.found t.granted s.granted)
same_seen i file d a b (deep s) (deep t) =
    one_why i (with_head file s.head s.bytes) d.part s.window (chunks_over s.head d s.window) a b s.reason (moved_deep i file d s.head s.bytes s.window b s.found s.granted t)

pub due_alone : (i : ℕ) (file : List ℕ) (d : Demand) (a b : Stop) → IsUnread a i file d → IsUnread b i file d → a ≡ b
due_alone i file d a b first second = same_seen i file d a b (seen i file d a first) (seen i file d b second)

-- ---- what can be read calls for none

-- chunks that all have content and few bytes give no reason to stop
no_why : (i : ℕ) (file : Opened) (part : ℕ) (window : Box2i) (chunks : List ℕ) (stop : Stop) → HaveDataOf file part chunks (length chunks) → AreSmall file part window chunks (length chunks) → DeepWhy i file part window chunks stop → ⊥
no_why i file part window chunks stop content small (faulty n f is first) = not_content file part chunks first.rank (length chunks) n f first.first content first.first.within
no_why i file part window chunks stop content small (large n is it) = not_small file part window chunks (length chunks) n it small it.within

flat_not_seen : (i : ℕ) (file : List ℕ) (d : Demand) (stop : Stop) → IsFlatReadable file d → Seen i file d stop → ⊥
flat_not_seen i file d stop it (no_head f is bad) = head_not file it.head it.bytes f it.found bad
flat_not_seen i file d stop it (refused r is s) = refused_not_read file d r it.head it.bytes it.frame it.plan it.found it.granted s
flat_not_seen i file d stop it (broken n f is first) =
    let here = moved file d n f it.head it.bytes it.frame it.plan it.found it.granted first in
    let chunks = chunks_asked it.head d it.frame in
    not_content (with_head file it.head it.bytes) d.part chunks first.rank (length chunks) n f here it.chunks here.within
flat_not_seen i file d stop it (deep s) = flat_not_deep file d it.head s.head it.bytes s.bytes it.frame it.plan s.window it.found s.found it.granted s.granted

deep_not_seen : (i : ℕ) (file : List ℕ) (d : Demand) (stop : Stop) → IsDeepReadable file d → Seen i file d stop → ⊥
deep_not_seen i file d stop it (no_head f is bad) = head_not file it.head it.bytes f it.found bad
deep_not_seen i file d stop it (refused r is s) = refused_not_deep file d r it.head it.bytes it.window it.found it.granted s
deep_not_seen i file d stop it (broken n f is t) = flat_not_deep file d t.head it.head t.bytes it.bytes t.frame t.plan it.window t.found it.found t.granted it.granted
deep_not_seen i file d stop it (deep s) =
    no_why i (with_head file it.head it.bytes) d.part it.window (chunks_over it.head d it.window) stop it.chunks it.small (moved_deep i file d it.head it.bytes it.window stop it.found it.granted s)

read_not_seen : (i : ℕ) (file : List ℕ) (d : Demand) (stop : Stop) → IsReadable file d → Seen i file d stop → ⊥
read_not_seen i file d stop (inl it) has = flat_not_seen i file d stop it has
read_not_seen i file d stop (inr it) has = deep_not_seen i file d stop it has

pub read_not_due : (i : ℕ) (file : List ℕ) (d : Demand) (stop : Stop) → IsReadable file d → IsUnread stop i file d → ⊥
read_not_due i file d stop it due = read_not_seen i file d stop it (seen i file d stop due)

-- what was extracted can be read
pub extracted_read : (file : List ℕ) (d : Demand) (byte : ℕ) (buffer : List ℕ) → IsExtracted file d byte buffer → IsReadable file d
extracted_read file d byte buffer (inl it) = inl it.from
extracted_read file d byte buffer (inr it) = inr it.from
