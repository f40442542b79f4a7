-- Answers to a command whose input calls for one stop at the most.
use Rattle.std.proofs.Common.{◌≡◌, ◌⊎◌, inl, inr, Result, Ok, Err, OnOk, IfErr, sym, ap, ◌∙◌}
use Rattle.exr_tools.specs.declared.stop.Stop.{Stop}
use Rattle.exr_tools.specs.declared.stop.Stop.TheVariants.{NoMemory, Words, File, Read, Write, Request}
use Rattle.exr_tools.specs.Run.{HasReason, OwesRise, StopsOr}

-- ---- results

-- a result is one thing
the_value : {A E : Type 0} → Result A E → A → A
the_value (Ok x) other = x
the_value (Err e) other = other

the_error : {A E : Type 0} → Result A E → E → E
the_error (Ok x) other = other
the_error (Err e) other = e

pub one_value : {A E : Type 0} (r : Result A E) (x y : A) → r ≡ Ok x → r ≡ Ok y → x ≡ y
unfolding the_value
one_value r x y first second = ap (λ z. the_value z x) (sym first ∙ second)

pub one_error : {A E : Type 0} (r : Result A E) (x y : E) → r ≡ Err x → r ≡ Err y → x ≡ y
unfolding the_error
one_error r x y first second = ap (λ z. the_error z x) (sym first ∙ second)

pub not_both : {A E : Type 0} (r : Result A E) (x : A) (e : E) → r ≡ Ok x → r ≡ Err e → ⊥
not_both r x e ok err = absurd (cc (sym ok ∙ err))

-- ---- stops, where P are those that the input calls for

-- P holds of one stop at the most
abbrev pub IsOne : (Stop → Type 0) → Type 0
IsOne P = (a b : Stop) → P a → P b → a ≡ b

abbrev pub IsNone : (Stop → Type 0) → Type 0
IsNone P = (stop : Stop) → P stop → ⊥

-- a stop with its reason, where the input calls for another
stops_by : (P : Stop → Type 0) (stop due : Stop) (read write : Type 0) → IsOne P → HasReason stop (λ _. ⊥) P read write → P due → (stop ≡ due) ⊎ OwesRise stop read write
stops_by P NoMemory due read write one reason is = inr tt
stops_by P (Words position) due read write one reason is = absurd reason
stops_by P (File n f) due read write one reason is = inl (one (File n f) due reason is)
stops_by P Read due read write one reason is = inr (inl reason)
stops_by P Write due read write one reason is = inr (inr reason)
stops_by P (Request r) due read write one reason is = inl (one (Request r) due reason is)

owes_by : (P : Stop → Type 0) (stop : Stop) (read write : Type 0) → IsNone P → HasReason stop (λ _. ⊥) P read write → OwesRise stop read write
owes_by P NoMemory read write none reason = tt
owes_by P (Words position) read write none reason = absurd reason
owes_by P (File n f) read write none reason = absurd (none (File n f) reason)
owes_by P Read read write none reason = inl reason
owes_by P Write read write none reason = inr reason
owes_by P (Request r) read write none reason = absurd (none (Request r) reason)

-- what holds where the content is told
told_reason : (P : Stop → Type 0) (stop : Stop) (T read write : Type 0) → T → HasReason stop (λ _. ⊥) (λ x. T → P x) read write → HasReason stop (λ _. ⊥) P read write
told_reason P NoMemory T read write told reason = tt
told_reason P (Words position) T read write told reason = reason
told_reason P (File n f) T read write told reason = reason told
told_reason P Read T read write told reason = reason
told_reason P Write T read write told reason = reason
told_reason P (Request r) T read write told reason = reason told

-- the stop that the input calls for, or another that owes a rise
pub stops_or : (r : Result (Unit {0}) Stop) (P : Stop → Type 0) (due : Stop) (T done read write : Type 0) → IsOne P → (done → IsNone P) → T → OnOk r done
    → IfErr r (λ stop. HasReason stop (λ _. ⊥) (λ x. T → P x) read write) → P due → StopsOr r due read write
stops_or (Ok x) P due T done read write one none told ok reason is = none ok due is
stops_or (Err stop) P due T done read write one none told ok reason is = stops_by P stop due read write one (told_reason P stop T read write told reason) is

-- and where it calls for none, a rise
pub owes_or : (r : Result (Unit {0}) Stop) (P : Stop → Type 0) (T read write : Type 0) → IsNone P → T → IfErr r (λ stop. HasReason stop (λ _. ⊥) (λ x. T → P x) read write)
    → IfErr r (λ stop. OwesRise stop read write)
owes_or (Ok x) P T read write none told reason = tt
owes_or (Err stop) P T read write none told reason = owes_by P stop read write none (told_reason P stop T read write told reason)

-- ---- a rise of one of two counts, where the one is known

rise_wider : (read write more : Type 0) → (write → more) → read ⊎ write → read ⊎ more
rise_wider read write more up (inl rose) = inl rose
rise_wider read write more up (inr rose) = inr (up rose)

owes_wider : (stop : Stop) (read write more : Type 0) → (write → more) → OwesRise stop read write → OwesRise stop read more
owes_wider NoMemory read write more up owes = tt
owes_wider (Words position) read write more up owes = rise_wider read write more up owes
owes_wider (File n f) read write more up owes = rise_wider read write more up owes
owes_wider Read read write more up owes = rise_wider read write more up owes
owes_wider Write read write more up owes = rise_wider read write more up owes
owes_wider (Request r) read write more up owes = rise_wider read write more up owes

pub stops_or_wider : (r : Result (Unit {0}) Stop) (due : Stop) (read write more : Type 0) → (write → more) → StopsOr r due read write → StopsOr r due read more
stops_or_wider (Ok x) due read write more up stops = stops
stops_or_wider (Err stop) due read write more up (inl same) = inl same
stops_or_wider (Err stop) due read write more up (inr owes) = inr (owes_wider stop read write more up owes)

pub owes_or_wider : (r : Result (Unit {0}) Stop) (read write more : Type 0) → (write → more) → IfErr r (λ stop. OwesRise stop read write) → IfErr r (λ stop. OwesRise stop read more)
owes_or_wider (Ok x) read write more up owes = tt
owes_or_wider (Err stop) read write more up owes = owes_wider stop read write more up owes
