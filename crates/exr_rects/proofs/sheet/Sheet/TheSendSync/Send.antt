-- A sheet may cross threads as its elements may.
use Rattle.std.specs.Prelude.{ℕ, ◌+◌, Bool, true, false, List, [], ◌∷◌}
use base.Fraction.{full_share}
use base.Shift.{Keyless}
use denote.RattleType.{RattleType}
use denote.RawPtr.{Ptr, block_ptr, null_ptr}
use denote.Struct.Struct.{exits_of}
use denote.Struct.Owning.{shape, fields, to}
use denote.Param.Send.{IsSend, AllSend, part_keyless, owning_send, struct_send, sendable}
use Rattle.std_alloc.proofs.SendSync.{quiet}
use Rattle.core.specs.Mem.Slots.Ownership.{bytes_of}
use Rattle.exr_rects.specs.Ownership.{pieces, owned}
use Rattle.exr_rects.specs.contracts.sheet.Sheet as Sheet

module _ (R : RattleType) (s : IsSend R) where
  pieces-Keyless : (b o : ℕ) (xs : List R.Denot) (ms : List Bool) → Keyless (pieces R (block_ptr b o) xs ms)
  pieces-Keyless b o [] ms = tt
  pieces-Keyless b o (x ∷ xs) [] = tt
  pieces-Keyless b o (x ∷ xs) (true ∷ ms) = (part_keyless R s full_share x b o, pieces-Keyless b (o + bytes_of R) xs ms)
  pieces-Keyless b o (x ∷ xs) (false ∷ ms) = (tt, pieces-Keyless b (o + bytes_of R) xs ms)

  owned-Keyless : (p : Ptr) (n : ℕ) (xs : List R.Denot) (ms : List Bool) → Keyless (owned R p n xs ms)
  owned-Keyless (block_ptr b o) n xs ms = (tt, pieces-Keyless b o xs ms)
  owned-Keyless null_ptr n xs ms = (tt, tt)

pub send : (R : RattleType) → IsSend R → IsSend (Sheet.the_row R)
send R s =
    let O = Sheet.the_type R in let all : AllSend (fields O) = (search sendable, (search sendable, tt)) in
    owning_send O all (λ d. owned-Keyless R s d.at d.len d.items d.mine) (λ k. quiet (to O) (exits_of k (fields O)) ((struct_send (shape O) all).leaving k))
