-- What a call answers against what is defined: the same value or the same fault, want of memory apart.
use Rattle.std.specs.Prelude.{◌≡◌, Result, Ok, Err}
use Rattle.exr_base.specs.declared.refusal.Refusal.{Refusal}
use Rattle.exr_base.specs.declared.refusal.Refusal.TheVariants as refusal

-- first one reading and then the next; the first fault is the answer
infixl 10 ◌>>=◌
abbrev pub ◌>>=◌ : {A B F : Type 0} → Result A F → (A → Result B F) → Result B F
(Ok x) >>= f = f x
(Err e) >>= f = Err e

-- a refusal is the fault that is defined; want of memory says nothing
abbrev pub Refuses : {Y F : Type 0} → Refusal F → Result Y F → Type 0
Refuses (refusal.Fault f) defined = defined ≡ Err f
Refuses refusal.NoMemory defined = Unit {0}

-- what a call answered, seen by view, is what is defined
abbrev pub Gives : {X Y F : Type 0} → (X → Y) → Result X (Refusal F) → Result Y F → Type 0
Gives view (Ok x) defined = defined ≡ Ok (view x)
Gives view (Err e) defined = Refuses e defined
