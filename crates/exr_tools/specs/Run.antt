-- What the top call leaves, and why it stops.
use Rattle.std.specs.Prelude.{◌≡◌, ◌⊎◌, ℕ, List, [], ◌∷◌, ◌++◌, length, map, take, replicate, unwrap_or, Result, Ok, Err, MatchResult}
use Rattle.std.specs.List.{range_with_len}
use Rattle.exr_header.specs.Head.{Head, head_of}
use Rattle.exr_header.specs.Show.{head_text}
use Rattle.exr_asked.specs.Choices.{Choices}
use Rattle.exr_asked.specs.Demand.{Demand, demand_in}
use Rattle.exr_words.specs.Command.{Command, header, check, extract, first_of}
use Rattle.exr_words.specs.Words.{command_of}
use Rattle.exr_tools.specs.declared.stop.Stop.{Stop}
use Rattle.exr_tools.specs.declared.stop.Stop.TheVariants.{NoMemory, Words, File, Read, Write, Request}
use Rattle.exr_tools.specs.declared.stop.FileFault.TheVariants as fault
use Rattle.exr_base.specs.declared.shape.Box2i.{Box2i}
use Rattle.exr_base.specs.Shape.{height_of}
use Rattle.exr_block.specs.declared.fault.ChunkFault.{ChunkFault}
use Rattle.exr_image.specs.Bytes.{bytes_in}
use Rattle.exr_image.specs.Image.{counts_over, samples_over}
use Rattle.exr_chunks.specs.Region.{header_at}
use Rattle.exr_chunks.specs.Window.{chunks_of_window}
use Rattle.exr_layout.specs.Plan.{Matching}
use Rattle.exr_layout.specs.Validation.{Frame}
use Rattle.exr_request.specs.declared.fault.RequestFault.{RequestFault}
use Rattle.exr_request.specs.declared.fault.RequestFault.TheVariants.{DeepTooLarge}
use Rattle.exr_request.specs.Request.{IsGranted, IsDeepGranted, IsRefused}
use Rattle.exr_stream.specs.Chunk.{Opened, header_in}
use Rattle.exr_reader.specs.Window.{Target, IsFilled, HaveDataOf, IsFirstFaultOf}
use Rattle.exr_reader.specs.Deep.{pixels_in, AreSmall, IsDeepFault, IsTooLarge}
use Rattle.exr_reader.specs.Check.{unread_counts, IsSoundFile, IsFirstUnsound}
use Rattle.exr_tools.specs.Output.{Output, text_alone, buffer_under, Does}
use Rattle.exr_tools.specs.Scene.{Told, Scene}
use Rattle.exr_tools.specs.Texts.{report_of}

-- ---- what is asked of a file

-- what each byte of a buffer begins as
abbrev pub byte_in : Choices → ℕ
byte_in choices = unwrap_or choices.byte 0

-- a file, with its head and how many bytes that fills
abbrev pub with_head : List ℕ → Head → ℕ → Opened
with_head file head bytes = record { content = file; head = head; head_bytes = bytes }

-- a part of it, for the buffer of a layout
abbrev pub target_in : Opened → Demand → Frame → Matching → Target
target_in file d frame plan = record { file = file; part = d.part; frame = frame; places = plan.channels }

-- the chunks of that part that a window meets, and the window of a frame
abbrev pub chunks_over : Head → Demand → Box2i → List ℕ
chunks_over head d window = chunks_of_window (header_at head.parts d.part) window

abbrev pub chunks_asked : Head → Demand → Frame → List ℕ
chunks_asked head d frame = chunks_over head d frame.window

-- the bytes of the image of a window of a deep part: the counts, then of each channel all samples
abbrev pub image_bytes : Opened → ℕ → Box2i → List ℕ
image_bytes file part window =
    bytes_in (counts_over (pixels_in file part) window (height_of window))
    (map (samples_over (pixels_in file part) window (height_of window)) (range_with_len 0 (length (header_in file part).channels)))

-- ---- what a command gives

-- the text is that of the file's head
pub record IsTextOf (file text : List ℕ) : Type 0 where
  pub head : Head
  pub bytes : ℕ
  pub found : head_of file ≡ Ok (head, bytes)
  pub shown : text ≡ head_text head

-- a file with a head, whose chunks are all sound
pub record IsWhole (file : List ℕ) : Type 0 where
  pub head : Head
  pub bytes : ℕ
  pub found : head_of file ≡ Ok (head, bytes)
  pub sound : IsSoundFile (with_head file head bytes)

-- the report on such a file
pub record IsReport (file report : List ℕ) : Type 0 where
  pub of : IsWhole file
  pub shown : report ≡ report_of of.head.parts (unread_counts (with_head file of.head of.bytes))

-- the head of a file grants what is asked of a flat part, and each chunk that its window meets has content
pub record IsFlatReadable (file : List ℕ) (d : Demand) : Type 0 where
  pub head : Head
  pub bytes : ℕ
  pub found : head_of file ≡ Ok (head, bytes)
  pub frame : Frame
  pub plan : Matching
  pub granted : IsGranted head d frame plan
  pub chunks : HaveDataOf (with_head file head bytes) d.part (chunks_asked head d frame) (length (chunks_asked head d frame))

-- it grants what is asked of a deep part, each chunk that its window meets has content, and these are not too many bytes
pub record IsDeepReadable (file : List ℕ) (d : Demand) : Type 0 where
  pub head : Head
  pub bytes : ℕ
  pub found : head_of file ≡ Ok (head, bytes)
  pub window : Box2i
  pub granted : IsDeepGranted head d window
  pub chunks : HaveDataOf (with_head file head bytes) d.part (chunks_over head d window) (length (chunks_over head d window))
  pub small : AreSmall (with_head file head bytes) d.part window (chunks_over head d window) (length (chunks_over head d window))

abbrev pub IsReadable : List ℕ → Demand → Type 0
IsReadable file d = IsFlatReadable file d ⊎ IsDeepReadable file d

-- the buffer holds the samples of the window in their places, and elsewhere the byte that all begin as
pub record IsFlatExtracted (file : List ℕ) (d : Demand) (byte : ℕ) (buffer : List ℕ) : Type 0 where
  pub from : IsFlatReadable file d
  pub size : length buffer ≡ from.frame.buffer
  pub filled : IsFilled (target_in (with_head file from.head from.bytes) d from.frame from.plan) (replicate from.frame.buffer byte) buffer

-- the buffer holds the image of the window
pub record IsDeepExtracted (file : List ℕ) (d : Demand) (buffer : List ℕ) : Type 0 where
  pub from : IsDeepReadable file d
  pub image : buffer ≡ image_bytes (with_head file from.head from.bytes) d.part from.window

abbrev pub IsExtracted : List ℕ → Demand → ℕ → List ℕ → Type 0
IsExtracted file d byte buffer = IsFlatExtracted file d byte buffer ⊎ IsDeepExtracted file d buffer

-- the text of a file's head, and no file
pub record GivesText (file : List ℕ) (o : Output) : Type 0 where
  pub text : List ℕ
  pub shown : IsTextOf file text
  pub is : o ≡ text_alone text

-- the report on a file, and no file
pub record GivesReport (file : List ℕ) (o : Output) : Type 0 where
  pub report : List ℕ
  pub reported : IsReport file report
  pub is : o ≡ text_alone report

-- the buffer of what is asked of a file, under a name, and its line
pub record GivesBuffer (file : List ℕ) (d : Demand) (byte : ℕ) (name : List ℕ) (o : Output) : Type 0 where
  pub buffer : List ℕ
  pub extracted : IsExtracted file d byte buffer
  pub is : o ≡ buffer_under name buffer

-- what a command gives, command by command
abbrev pub Gives : Command → (List ℕ → List ℕ) → Output → Type 0
Gives (header inputs) bytes_of = GivesText (bytes_of (first_of inputs))
Gives (check inputs workers) bytes_of = GivesReport (bytes_of (first_of inputs))
Gives (extract inputs output choices) bytes_of =
    GivesBuffer (bytes_of (first_of inputs)) (demand_in choices) (byte_in choices) output

-- the words have a command, and what it gives was done
pub record Obeys (t : Told) (bytes_of : List ℕ → List ℕ) (words : List (List ℕ)) (before after : Scene) : Type 0 where
  pub command : Command
  pub order : command_of words ≡ Ok command
  pub does : Does t (Gives command bytes_of) before after

-- ---- stops that the input calls for

-- the stop is that of the fault of the head of the input of a number, which is this file
abbrev pub IsFaulty : Stop → ℕ → List ℕ → Type 0
IsFaulty (File number (fault.Head f)) input file = (number ≡ input) × (head_of file ≡ Err f)
IsFaulty stop input file = ⊥

-- the first chunk of a file that is not sound
pub record HasFirstUnsound (file : List ℕ) (part index : ℕ) (f : ChunkFault) : Type 0 where
  pub head : Head
  pub bytes : ℕ
  pub found : head_of file ≡ Ok (head, bytes)
  pub first : IsFirstUnsound (with_head file head bytes) part index f

-- the stop is that of a fault of such a head, or of the first chunk that is not sound
abbrev pub IsBroken : Stop → ℕ → List ℕ → Type 0
IsBroken (File number (fault.Head f)) input file = (number ≡ input) × (head_of file ≡ Err f)
IsBroken (File number (fault.Chunk p i f)) input file = (number ≡ input) × HasFirstUnsound file p i f
IsBroken stop input file = ⊥

-- the head of a file does not grant what is asked for
pub record IsRefusedBy (why : RequestFault) (file : List ℕ) (d : Demand) : Type 0 where
  pub head : Head
  pub bytes : ℕ
  pub found : head_of file ≡ Ok (head, bytes)
  pub refused : IsRefused head d why

-- the first fault of the chunks that a window of a flat part meets
pub record HasFirstFault (file : List ℕ) (d : Demand) (index : ℕ) (f : ChunkFault) : Type 0 where
  pub head : Head
  pub bytes : ℕ
  pub frame : Frame
  pub plan : Matching
  pub found : head_of file ≡ Ok (head, bytes)
  pub granted : IsGranted head d frame plan
  pub rank : ℕ
  pub first : IsFirstFaultOf (with_head file head bytes) d.part (chunks_asked head d frame) rank index f

-- the first of a window of a deep part, before which there are not too many bytes
pub record HasFirstDeepFault (file : List ℕ) (d : Demand) (index : ℕ) (f : ChunkFault) : Type 0 where
  pub head : Head
  pub bytes : ℕ
  pub window : Box2i
  pub found : head_of file ≡ Ok (head, bytes)
  pub granted : IsDeepGranted head d window
  pub first : IsDeepFault (with_head file head bytes) d.part window (chunks_over head d window) index f

-- the first chunk of such a window with which there are too many bytes
pub record HasTooMuch (file : List ℕ) (d : Demand) (index : ℕ) : Type 0 where
  pub head : Head
  pub bytes : ℕ
  pub window : Box2i
  pub found : head_of file ≡ Ok (head, bytes)
  pub granted : IsDeepGranted head d window
  pub large : IsTooLarge (with_head file head bytes) d.part window (chunks_over head d window) index

abbrev pub IsTooMuch : RequestFault → List ℕ → Demand → Type 0
IsTooMuch (DeepTooLarge index) file d = HasTooMuch file d index
IsTooMuch why file d = ⊥

-- the stop is that of a fault of such a head, of what is asked of it, or of the window's first chunk with a fault, or that of
-- the chunk with which a deep part has too many bytes
abbrev pub IsUnread : Stop → ℕ → List ℕ → Demand → Type 0
IsUnread (File number (fault.Head f)) input file d = (number ≡ input) × (head_of file ≡ Err f)
IsUnread (File number (fault.Chunk p i f)) input file d =
    (number ≡ input) × ((p ≡ d.part) × (HasFirstFault file d i f ⊎ HasFirstDeepFault file d i f))
IsUnread (Request r) input file d = IsRefusedBy r file d ⊎ IsTooMuch r file d
IsUnread stop input file d = ⊥

-- the stop that the input of a command calls for
abbrev pub IsDue : Command → (List ℕ → List ℕ) → Stop → Type 0
IsDue (header inputs) bytes_of stop = IsFaulty stop 0 (bytes_of (first_of inputs))
IsDue (check inputs workers) bytes_of stop = IsBroken stop 0 (bytes_of (first_of inputs))
IsDue (extract inputs output choices) bytes_of stop = IsUnread stop 0 (bytes_of (first_of inputs)) (demand_in choices)

-- the input calls for no stop
abbrev pub IsSound : Command → (List ℕ → List ℕ) → Type 0
IsSound (header inputs) bytes_of = (text : List ℕ) × IsTextOf (bytes_of (first_of inputs)) text
IsSound (check inputs workers) bytes_of = IsWhole (bytes_of (first_of inputs))
IsSound (extract inputs output choices) bytes_of = IsReadable (bytes_of (first_of inputs)) (demand_in choices)

-- the fact that goes with each stop; want of memory needs none
abbrev pub HasReason : Stop → (ℕ → Type 0) → (Stop → Type 0) → Type 0 → Type 0 → Type 0
HasReason NoMemory words due read write = Unit {0}
HasReason (Words position) words due read write = words position
HasReason (File file f) words due read write = due (File file f)
HasReason Read words due read write = read
HasReason Write words due read write = write
HasReason (Request r) words due read write = due (Request r)

-- a stop other than want of memory owes one of two rises
abbrev pub OwesRise : Stop → Type 0 → Type 0 → Type 0
OwesRise NoMemory read write = Unit {0}
OwesRise stop read write = read ⊎ write

-- the answer is this stop, or another that owes a rise
abbrev pub StopsOr : Result (Unit {0}) Stop → Stop → Type 0 → Type 0 → Type 0
StopsOr (Ok done) due read write = ⊥
StopsOr (Err stop) due read write = (stop ≡ due) ⊎ OwesRise stop read write

-- ---- what is asked of the outside

-- a name was asked once at the most
abbrev pub AsksAtMost : List (List ℕ) → List (List ℕ) → List ℕ → Type 0
AsksAtMost old new name = (new ≡ old) ⊎ (new ≡ old ++ name ∷ [])

-- one pair of a name was gained at the most
abbrev pub KeepsAtMost : List (List ℕ × List ℕ) → List (List ℕ × List ℕ) → List ℕ → Type 0
KeepsAtMost old new name = (new ≡ old) ⊎ ((bytes : List ℕ) × (new ≡ old ++ (name, bytes) ∷ []))

-- one pair of a name was gained, with the first of some bytes, or none
abbrev pub KeepsFirst : List (List ℕ × List ℕ) → List (List ℕ × List ℕ) → List ℕ → List ℕ → Type 0
KeepsFirst old new name bytes = (new ≡ old) ⊎ ((count : ℕ) × (new ≡ old ++ (name, take count bytes) ∷ []))

-- a fact of what the words ask for, and another where they are faulty
abbrev pub ByCommand : List (List ℕ) → (Command → Type 0) → Type 0 → Type 0
ByCommand words fact other = MatchResult (command_of words) fact (λ _. other)

-- the names of inputs that a command opens
abbrev pub Opens : Command → List (List ℕ) → List (List ℕ) → Type 0
Opens (header inputs) old new = AsksAtMost old new (first_of inputs)
Opens (check inputs workers) old new = AsksAtMost old new (first_of inputs)
Opens (extract inputs output choices) old new = AsksAtMost old new (first_of inputs)

-- the names that a command creates
abbrev pub Creates : Command → List (List ℕ) → List (List ℕ) → Type 0
Creates (header inputs) old new = new ≡ old
Creates (check inputs workers) old new = new ≡ old
Creates (extract inputs output choices) old new = AsksAtMost old new output

-- the pairs that a command keeps
abbrev pub Keeps : Command → List (List ℕ × List ℕ) → List (List ℕ × List ℕ) → Type 0
Keeps (header inputs) old new = new ≡ old
Keeps (check inputs workers) old new = new ≡ old
Keeps (extract inputs output choices) old new = KeepsAtMost old new output
