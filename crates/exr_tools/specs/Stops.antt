-- The stops that refusals of the layers below become.
use Rattle.std.specs.Prelude.{ℕ}
use Rattle.exr_base.specs.declared.refusal.Refusal.{Refusal}
use Rattle.exr_base.specs.declared.refusal.Refusal.TheVariants as refusal
use Rattle.exr_opening.specs.declared.opening.OpenFault.{OpenFault}
use Rattle.exr_opening.specs.declared.opening.OpenFault.TheVariants as opening
use Rattle.exr_request.specs.declared.fault.RequestFault.{RequestFault}
use Rattle.exr_request.specs.declared.fault.RequestFault.TheVariants.{DeepTooLarge}
use Rattle.exr_words.specs.declared.order.WordFault.{WordFault}
use Rattle.exr_tools.specs.declared.stop.Stop.{Stop}
use Rattle.exr_tools.specs.declared.stop.Stop.TheVariants.{NoMemory, Words, File, Read, Request}
use Rattle.exr_tools.specs.declared.stop.FileFault.TheVariants.{Head, Chunk}
use Rattle.exr_reader.specs.declared.cause.ReadCause.{ReadCause}
use Rattle.exr_reader.specs.declared.cause.ReadCause.TheVariants as cause
use Rattle.exr_reader.specs.declared.deep.DeepStop.{DeepStop}
use Rattle.exr_reader.specs.declared.deep.DeepStop.TheVariants as deep
use Rattle.exr_reader.specs.declared.sound.CheckStop.{CheckStop}
use Rattle.exr_reader.specs.declared.sound.CheckStop.TheVariants as check

abbrev pub stop_of_words : Refusal WordFault → Stop
stop_of_words (refusal.Fault f) = Words f.position
stop_of_words refusal.NoMemory = NoMemory

-- of the input of a number
abbrev pub stop_of_opening : ℕ → Refusal OpenFault → Stop
stop_of_opening input (refusal.Fault opening.Read) = Read
stop_of_opening input (refusal.Fault (opening.Head f)) = File input (Head f)
stop_of_opening input refusal.NoMemory = NoMemory

-- of what is asked of a head
abbrev pub stop_of_request : Refusal RequestFault → Stop
stop_of_request (refusal.Fault fault) = Request fault
stop_of_request refusal.NoMemory = NoMemory

-- of a part of such an input
abbrev pub stop_of_reading : ℕ → ℕ → ReadCause → Stop
stop_of_reading input part cause.NoMemory = NoMemory
stop_of_reading input part cause.Read = Read
stop_of_reading input part (cause.Chunk index f) = File input (Chunk part index f)

-- of a test of such an input
abbrev pub stop_of_check : ℕ → CheckStop → Stop
stop_of_check input check.NoMemory = NoMemory
stop_of_check input check.Read = Read
stop_of_check input (check.Chunk part index f) = File input (Chunk part index f)

-- of a window of a deep part of such an input
abbrev pub stop_of_deep : ℕ → ℕ → DeepStop → Stop
stop_of_deep input part deep.NoMemory = NoMemory
stop_of_deep input part deep.Read = Read
stop_of_deep input part (deep.Chunk index f) = File input (Chunk part index f)
stop_of_deep input part (deep.TooLarge index) = Request (DeepTooLarge index)
