-- What is done or left of a file that is whole, and of its line.
use Rattle.std.proofs.Common.{◌≡◌, ◌⊎◌, inl, inr, ℕ, IsTrue, Result, Ok, Err, OnOk, IfErr, sym, subst, ap, ◌∙◌, List, ◌++◌, ◌∷◌, [], length, OnErr}
use Rattle.std.proofs.Math.Seq.{take-length}
use Rattle.exr_outside.specs.Count.{Rose}
use Rattle.exr_outside.specs.Sink.{AddsPrefix}
use Rattle.exr_tools.specs.declared.stop.Stop.{Stop}
use Rattle.exr_tools.specs.declared.stop.Stop.TheVariants.{NoMemory, Words, File, Read, Write, Request}
use Rattle.exr_tools.specs.Scene.{Told, Scene}
use Rattle.exr_tools.specs.Output.{Output, buffer_under, names_of, first_bytes, IsDone, Does, IsBegun, IsPrinting, IsLeft, Leaves}
use Rattle.exr_tools.specs.Run.{HasReason}

-- ---- a file that is whole, with its line

-- the file is whole, and nothing was printed
begun_whole : (t : Told) (name bytes : List ℕ) (before after : Scene) → (IsTrue t.files → after.created ≡ before.created ++ name ∷ []) → (IsTrue t.files → IsTrue t.sinks → after.kept ≡ before.kept ++ (name, bytes) ∷ [])
    → (IsTrue t.printer → after.printed ≡ before.printed) → IsBegun t (buffer_under name bytes) before after
begun_whole t name bytes before after created kept printed = record {
  created = λ tell. inr (created tell);
  kept = λ tell sinks. inr (length bytes, kept tell sinks ∙ ap (λ x. before.kept ++ (name, x) ∷ []) (sym (take-length bytes)));
  printed = printed;
}

-- memory ran out for the line
pub left_without_line : (r : Result (Unit {0}) Stop) (t : Told) (name bytes : List ℕ) (before after : Scene) → (IsTrue t.files → after.created ≡ before.created ++ name ∷ []) → (IsTrue t.files → IsTrue t.sinks → after.kept ≡ before.kept ++ (name, bytes) ∷ [])
    → (IsTrue t.printer → after.printed ≡ before.printed) → IfErr r (λ stop. stop ≡ NoMemory) → IfErr r (λ stop. IsLeft stop t (buffer_under name bytes) before after)
left_without_line (Ok x) t name bytes before after created kept printed none = tt
left_without_line (Err stop) t name bytes before after created kept printed none =
    subst (λ s. IsLeft s t (buffer_under name bytes) before after) (sym none) (begun_whole t name bytes before after created kept printed)

-- ---- printing, once all else is done

pub done_by_printing : (r : Result (Unit {0}) Stop) (t : Told) (o : Output) (before after : Scene) (text : List ℕ) → text ≡ o.text → (IsTrue t.files → after.created ≡ before.created ++ names_of o.files)
    → (IsTrue t.files → IsTrue t.sinks → after.kept ≡ before.kept ++ o.files) → (IsTrue t.printer → OnOk r (after.printed ≡ before.printed ++ text)) → OnOk r (IsDone t o before after)
done_by_printing (Ok x) t o before after text is created kept printed = record { created = created; kept = kept; printed = λ tell. printed tell ∙ ap (λ more. before.printed ++ more) is }
done_by_printing (Err stop) t o before after text is created kept printed = tt

pub left_by_printing : (r : Result (Unit {0}) Stop) (t : Told) (o : Output) (before after : Scene) (text : List ℕ) → text ≡ o.text → (IsTrue t.files → after.created ≡ before.created ++ names_of o.files)
    → (IsTrue t.files → IsTrue t.sinks → after.kept ≡ before.kept ++ o.files) → (IsTrue t.printer → OnErr r (AddsPrefix text before.printed after.printed)) → IfErr r (λ stop. stop ≡ Write)
    → IfErr r (λ stop. HasReason stop (λ _. ⊥) (λ _. ⊥) ⊥ (Rose before.print_faults after.print_faults)) → IfErr r (λ stop. IsLeft stop t o before after)
left_by_printing (Ok x) t o before after text is created kept printed write reason = tt
left_by_printing (Err stop) t o before after text is created kept printed write reason =
    subst (λ s. IsLeft s t o before after) (sym write) (inr (record {
      created = created;
      kept = kept;
      printed = λ tell. subst (λ more. AddsPrefix more before.printed after.printed) is (printed tell);
      failed = subst (λ s. HasReason s (λ _. ⊥) (λ _. ⊥) ⊥ (Rose before.print_faults after.print_faults)) write reason;
    }))

-- ---- an output that is given, behind a call that created, kept and printed nothing

-- nothing was created, kept or printed, and no printing failed
pub record IsSame (t : Told) (before after : Scene) : Type 0 where
  pub created : IsTrue t.files → after.created ≡ before.created
  pub kept : IsTrue t.files → after.kept ≡ before.kept
  pub printed : after.printed ≡ before.printed
  pub faults : after.print_faults ≡ before.print_faults

done_behind : (t : Told) (o : Output) (before mid after : Scene) → IsSame t before mid → IsDone t o mid after → IsDone t o before after
done_behind t o before mid after same done = record {
  created = λ tell. subst (λ x. after.created ≡ x ++ names_of o.files) (same.created tell) (done.created tell);
  kept = λ tell sinks. subst (λ x. after.kept ≡ x ++ o.files) (same.kept tell) (done.kept tell sinks);
  printed = λ tell. subst (λ x. after.printed ≡ x ++ o.text) same.printed (done.printed tell);
}

begun_behind : (t : Told) (o : Output) (before mid after : Scene) → IsSame t before mid → IsBegun t o mid after → IsBegun t o before after
begun_behind t o before mid after same begun = record {
  created = λ tell. subst (λ x. (after.created ≡ x) ⊎ (after.created ≡ x ++ names_of o.files)) (same.created tell) (begun.created tell);
  kept = λ tell sinks. subst (λ x. (after.kept ≡ x) ⊎ ((count : ℕ) × (after.kept ≡ x ++ first_bytes count o.files))) (same.kept tell) (begun.kept tell sinks);
  printed = λ tell. begun.printed tell ∙ same.printed;
}

printing_behind : (t : Told) (o : Output) (before mid after : Scene) → IsSame t before mid → IsPrinting t o mid after → IsPrinting t o before after
printing_behind t o before mid after same printing = record {
  created = λ tell. subst (λ x. after.created ≡ x ++ names_of o.files) (same.created tell) (printing.created tell);
  kept = λ tell sinks. subst (λ x. after.kept ≡ x ++ o.files) (same.kept tell) (printing.kept tell sinks);
  printed = λ tell. subst (λ x. AddsPrefix o.text x after.printed) same.printed (printing.printed tell);
  failed = subst (λ x. Rose x after.print_faults) same.faults printing.failed;
}

left_behind : (stop : Stop) (t : Told) (o : Output) (before mid after : Scene) → IsSame t before mid → IsLeft stop t o mid after → IsLeft stop t o before after
left_behind NoMemory t o before mid after same left = begun_behind t o before mid after same left
left_behind (Words position) t o before mid after same left = absurd left
left_behind (File file f) t o before mid after same left = absurd left
left_behind Read t o before mid after same left = absurd left
left_behind Write t o before mid after same (inl begun) = inl (begun_behind t o before mid after same begun)
left_behind Write t o before mid after same (inr printing) = inr (printing_behind t o before mid after same printing)
left_behind (Request r) t o before mid after same left = absurd left

pub does_behind : (r : Result (Unit {0}) Stop) (t : Told) (gives : Output → Type 0) (o : Output) (before mid after : Scene) → IsSame t before mid → (IsTrue t.sources → gives o) → OnOk r (IsDone t o mid after)
    → OnOk r (Does t gives before after)
does_behind (Ok x) t gives o before mid after same given done = record { output = o; given = given; done = done_behind t o before mid after same done }
does_behind (Err stop) t gives o before mid after same given done = tt

pub leaves_behind : (r : Result (Unit {0}) Stop) (t : Told) (gives : Output → Type 0) (o : Output) (before mid after : Scene) → IsSame t before mid → (IsTrue t.sources → gives o)
    → IfErr r (λ stop. IsLeft stop t o mid after) → IfErr r (λ stop. Leaves stop t gives before after)
leaves_behind (Ok x) t gives o before mid after same given left = tt
leaves_behind (Err stop) t gives o before mid after same given left = inr (record { output = o; given = given; left = left_behind stop t o before mid after same left })
