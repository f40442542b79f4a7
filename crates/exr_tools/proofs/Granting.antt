-- What a grant says of its part, of the window and of the layout; and stops of what is asked.
use Rattle.std.proofs.Common.{◌≡◌, ◌<◌, ◌≤◌, ◌^◌, ℕ, true, false, not, inl, inr, IsTrue, List, ◌++◌, take, drop, length, Ok, refl, sym, subst}
use Rattle.std.specs.Prelude.{int_lt}
use Rattle.std.proofs.lemmas.Bool.{and_parts}
use Rattle.std.proofs.lemmas.List.{take_at}
use Rattle.exr_base.proofs.Logic.{not_either, lt_false}
use Rattle.exr_base.proofs.Sides.{inside_is}
use Rattle.exr_base.specs.declared.shape.Box2i.{Box2i}
use Rattle.exr_base.specs.declared.refusal.Refusal.{Refusal}
use Rattle.exr_base.specs.declared.refusal.Refusal.TheVariants as refusal
use Rattle.exr_header.specs.Head.{Head, head_of}
use Rattle.exr_chunks.specs.Heads.{Header, is_deep}
use Rattle.exr_chunks.specs.Region.{no_header, header_at}
use Rattle.exr_layout.specs.Plan.{Matching}
use Rattle.exr_layout.specs.Validation.{Frame}
use Rattle.exr_base.specs.Boxes.{is_empty, is_inside, IsInside}
use Rattle.exr_layout.specs.Plan.{IsPlanOf}
use Rattle.exr_request.specs.declared.fault.RequestFault.{RequestFault}
use Rattle.exr_asked.specs.Demand.{Demand}
use Rattle.exr_request.specs.Request.{is_window_of, window_asked, IsGranted, IsDeepGranted, IsRefusal}
use Rattle.exr_request.proofs.Passed.{readable, matched}
use Rattle.exr_block.specs.declared.fault.ChunkFault.{ChunkFault}
use Rattle.exr_outside.specs.Source.{SourceMeaning}
use Rattle.exr_stream.specs.Chunk.{Opened}
use Rattle.exr_stream.specs.Stream.{StreamView, file_of, IsSameStream}
use Rattle.exr_reader.specs.declared.deep.DeepStop.{DeepStop}
use Rattle.exr_reader.specs.declared.deep.DeepStop.TheVariants as deep
use Rattle.exr_reader.specs.declared.cause.ReadCause.{ReadCause}
use Rattle.exr_reader.specs.declared.cause.ReadCause.TheVariants as why
use Rattle.exr_reader.specs.Reading.{HasCause}
use Rattle.exr_reader.specs.Window.{IsFirstFaultOf}
use Rattle.exr_reader.specs.Deep.{HasDeepCause}
use Rattle.exr_tools.specs.Stops.{stop_of_request, stop_of_reading, stop_of_deep}
use Rattle.exr_tools.specs.Run.{with_head, chunks_asked, HasFirstFault, HasFirstDeepFault, HasTooMuch, IsUnread, HasReason}

-- ---- windows

inside_of : (h : Header) (w : Box2i) → IsTrue (is_window_of h w) → IsInside h.window w
inside_of h w within =
    let a = and_parts (not (is_empty w)) (is_inside w h.window) within in
    let b = not_either (int_lt w.x1 w.x0) (int_lt w.y1 w.y0) a.0 in
    inside_is h.window w (lt_false w.x0 w.x1 b.0) (lt_false w.y0 w.y1 b.1) a.1

-- ---- grants

pub record IsGround (head : Head) (d : Demand) (f : Frame) (plan : Matching) : Type 0 where
  pub there : d.part < length head.parts
  pub flat : is_deep (header_at head.parts d.part).kind ≡ false
  pub inside : IsInside (header_at head.parts d.part).window f.window
  pub planned : IsPlanOf f (header_at head.parts d.part).channels plan
  pub small : f.buffer ≤ 2 ^ 30

pub ground : (head : Head) (d : Demand) (f : Frame) (plan : Matching) → IsGranted head d f plan → IsGround head d f plan
ground head d f plan granted =
    let h = granted.part in
    let r = readable head d h granted.asked in
    let same : h ≡ header_at head.parts d.part = sym (r.here no_header) in
    let m = matched h f plan.channels granted.fit.tested in
    let window : window_asked d h ≡ f.window = sym granted.fit.arranged.window in
    record {
      there = r.there;
      flat = subst (λ (x : Header). is_deep x.kind ≡ false) same granted.flat;
      inside = subst (λ (x : Header). IsInside x.window f.window) same (inside_of h f.window (subst (λ w. IsTrue (is_window_of h w)) window r.within));
      planned = subst (λ (x : Header). IsPlanOf f x.channels plan) same granted.fit.planned;
      small = m.small;
    }

-- the window of a deep part
pub record IsDeepGround (head : Head) (d : Demand) (window : Box2i) : Type 0 where
  pub there : d.part < length head.parts
  pub deep : is_deep (header_at head.parts d.part).kind ≡ true
  pub inside : IsInside (header_at head.parts d.part).window window

pub deep_ground : (head : Head) (d : Demand) (window : Box2i) → IsDeepGranted head d window → IsDeepGround head d window
deep_ground head d window granted =
    let h = granted.part in
    let r = readable head d h granted.asked in
    let same : h ≡ header_at head.parts d.part = sym (r.here no_header) in
    record {
      there = r.there;
      deep = subst (λ (x : Header). is_deep x.kind ≡ true) same granted.deep;
      inside = subst (λ (x : Header). IsInside x.window window) same (inside_of h window (subst (λ w. IsTrue (is_window_of h w)) (sym granted.over) r.within));
    }

-- ---- stops

-- the reason of a request's refusal
pub refused_reason : (r : Refusal RequestFault) (i : ℕ) (file : List ℕ) (d : Demand) (head : Head) (bytes : ℕ) (T read : Type 0) → (T → head_of file ≡ Ok (head, bytes)) → IsRefusal head d r
    → HasReason (stop_of_request r) (λ _. ⊥) (λ due. T → IsUnread due i file d) read ⊥
refused_reason (refusal.Fault why) i file d head bytes T read found refused = λ told. inl (record { head = head; bytes = bytes; found = found told; refused = refused })
refused_reason refusal.NoMemory i file d head bytes T read found refused = tt

-- the reason of a cause of reading
pub reading_reason : (cause : ReadCause) (i part : ℕ) (file : List ℕ) (d : Demand) (T rose rose' : Type 0) (P : ℕ → ChunkFault → Type 0) → part ≡ d.part → (rose → rose')
    → ((n : ℕ) (f : ChunkFault) → P n f → T → HasFirstFault file d n f) → HasCause cause P rose
    → HasReason (stop_of_reading i part cause) (λ _. ⊥) (λ due. T → IsUnread due i file d) rose' ⊥
reading_reason why.NoMemory i part file d T rose rose' P same up first has = tt
reading_reason why.Read i part file d T rose rose' P same up first has = up has
reading_reason (why.Chunk n f) i part file d T rose rose' P same up first has = λ told. (refl, (same, inl (first n f has told)))

-- the reason of a stop of reading a deep part
pub deep_reason : (stop : DeepStop) (i part : ℕ) (file : List ℕ) (d : Demand) (T rose rose' : Type 0) (P : ℕ → ChunkFault → Type 0) (Q : ℕ → Type 0) → part ≡ d.part → (rose → rose')
    → ((n : ℕ) (f : ChunkFault) → P n f → T → HasFirstDeepFault file d n f) → ((n : ℕ) → Q n → T → HasTooMuch file d n) → HasDeepCause stop P Q rose
    → HasReason (stop_of_deep i part stop) (λ _. ⊥) (λ due. T → IsUnread due i file d) rose' ⊥
deep_reason deep.NoMemory i part file d T rose rose' P Q same up first large has = tt
deep_reason deep.Read i part file d T rose rose' P Q same up first large has = up has
deep_reason (deep.Chunk n f) i part file d T rose rose' P Q same up first large has = λ told. (refl, (same, inr (first n f has told)))
deep_reason (deep.TooLarge n) i part file d T rose rose' P Q same up first large has = λ told. inr (large n has told)

-- the first fault of a granted window
pub first_of_window : (file : List ℕ) (head : Head) (bytes : ℕ) (d : Demand) (frame : Frame) (plan : Matching) (rank n : ℕ) (f : ChunkFault) → head_of file ≡ Ok (head, bytes) → IsGranted head d frame plan
    → IsFirstFaultOf (with_head file head bytes) d.part (chunks_asked head d frame) rank n f → HasFirstFault file d n f
first_of_window file head bytes d frame plan rank n f found granted first =
    record { head = head; bytes = bytes; frame = frame; plan = plan; found = found; granted = granted; rank = rank; first = first }

-- a buffer that was given back whole
pub given_back : (given items : List ℕ) (n : ℕ) → length given ≡ n → take n (given ++ drop (length given) items) ≡ given
given_back given items n e = take_at given (drop (length given) items) n e

-- what holds of the file of a stream of the same file
pub carried_back : {S : Type 0} (means : SourceMeaning S) (old new : StreamView S) (P : Opened → Type 0) → IsSameStream means old new → IsTrue means.tells → P (file_of means new) → P (file_of means old)
carried_back means old new P same told has =
    subst (λ bytes. P (with_head (means.content old.source) old.head bytes)) same.head_bytes
    (subst (λ head. P (with_head (means.content old.source) head new.head_bytes)) same.head
    (subst (λ file. P (with_head file new.head new.head_bytes)) (same.source.content told) has))
