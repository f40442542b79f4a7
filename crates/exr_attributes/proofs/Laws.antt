-- The two laws of a header: what is read is spelled so, and what is spelled so is read.
use Rattle.std.proofs.Common.{◌≡◌, ℕ, ◌++◌, List, length, Result, Ok, Err, subst}
use Rattle.std.specs.Prelude.{IfOk}
use Rattle.exr_base.specs.Cursor.{Position, left_of}
use Rattle.exr_base.specs.declared.refusal.Refusal.{Refusal}
use Rattle.exr_attributes.specs.declared.fault.HeaderFault.{HeaderFault}
use Rattle.exr_attributes.specs.declared.attribute.Entry.{Entry}
use Rattle.exr_attributes.specs.Spelling.{header_spelling, IsBytes}
use Rattle.exr_attributes.specs.Reading.{Reads, moved, header_at, IsSpelledAt}
use Rattle.exr_attributes.proofs.Again.{header_again}
use Rattle.exr_attributes.proofs.Takes.{header_takes}

pub is_found : (p q : Position) (r : Result (List Entry) (Refusal HeaderFault)) → IsBytes p.whole → Reads (λ map. map) r q (header_at p) → IfOk r (λ map. left_of p ≡ header_spelling map ++ left_of q)
is_found p q (Ok map) bytes given = (header_takes p (map, q) bytes given).taken.here
is_found p q (Err e) bytes given = tt

pub is_again : (p q : Position) (es : List Entry) (rest : List ℕ) (r : Result (List Entry) (Refusal HeaderFault)) → IsSpelledAt p es rest → Reads (λ map. map) r q (header_at p)
    → Reads (λ map. map) r q (Ok (es, moved (length (header_spelling es)) p))
is_again p q es rest r s given =
    subst (Reads {X = List Entry} (λ map. map) r q) (header_again es rest p s.lawful s.sizes (record { here = s.here; room = s.room })) given
