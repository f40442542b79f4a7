-- What a look-up by name finds, and when a call that may fail for two reasons fails.
use Rattle.std.proofs.Common.{◌≡◌, ℕ, Bool, true, false, cond, List, [], ◌∷◌, Some, option_map, bytes_eq, find, refl, ◌⊎◌, ⊎_elim, inl, inr, ◌+◌, subst, arith, ◌<◌, ◌∙◌, ap, sym, get_or, length, String, Vec, Global, string_bytes, Result, Ok, Err}
use Rattle.std.proofs.lemmas.Bool.{cases_lt}
use Rattle.std.proofs.lemmas.List.{get_or-map, length-map}
use Rattle.std.proofs.lemmas.List.Elements.{All-head, All-tail}
use Rattle.std.proofs.lemmas.Slice.Eq.{bytes_eq-Decides}
use Rattle.exr_base.specs.declared.refusal.Refusal.{Refusal}
use Rattle.exr_base.specs.declared.refusal.Refusal.TheVariants as refusal
use Rattle.exr_outside.specs.Fakes.{AreOf, FailsWhere, file_of, named_files}

-- the bytes that stand under a name are those of the world, where those of every file are
pub file_of-world : (bytes_of : List ℕ → List ℕ) (files : List (List ℕ × List ℕ)) (name bytes : List ℕ) → AreOf bytes_of files → file_of files name ≡ Some bytes → bytes ≡ bytes_of name
file_of-world bytes_of [] name bytes all found = cc
file_of-world bytes_of (file ∷ files) name bytes all found =
    let known : List ℕ × List ℕ → Type 0 = λ f. f.1 ≡ bytes_of f.0 in
    let head : file.1 ≡ bytes_of file.0 = All-head known file files all in
    let again = file_of-world bytes_of files name bytes (All-tail known file files all) in
    let Goal : Bool → Type 0 = λ b. (b ≡ true → file.0 ≡ name) → option_map (λ (f : List ℕ × List ℕ). f.1) (cond b (Some file) (find (λ (f : List ℕ × List ℕ). bytes_eq f.0 name) files)) ≡ Some bytes → bytes ≡ bytes_of name in
    elim (bytes_eq file.0 name) as Goal [
      | true ↦ λ same here. let named : file.0 ≡ name = same refl in cc
      | false ↦ λ same later. again later
    ] ((bytes_eq-Decides file.0 name).0) found

-- a call that fails where the second fact holds fails where either holds, if the first does not
pub FailsWhere-either : {T F : Type 0} (r : Result T (Refusal F)) (A B : Type 0) → (A → ⊥) → FailsWhere r B → FailsWhere r (A ⊎ B)
FailsWhere-either (Ok x) A B never fails = λ either. ⊎_elim never fails either
FailsWhere-either (Err (refusal.Fault f)) A B never fails = inr fails
FailsWhere-either (Err refusal.NoMemory) A B never fails = tt

-- the file at a place, as a pair of lists
pub named_files-at : (files : List (String Global × Vec ℕ Global)) (i : ℕ) (file : String Global × Vec ℕ Global) (d : List ℕ × List ℕ) → i < length files → file ≡ get_or files i file → get_or (named_files files) i d ≡ (string_bytes file.0, file.1.items)
named_files-at files i file d below here =
    get_or-map (λ (f : String Global × Vec ℕ Global). (string_bytes f.0, f.1.items)) files i file d below
    ∙ ap (λ (f : String Global × Vec ℕ Global). (string_bytes f.0, f.1.items)) (sym here)

-- what holds of each file below a place, and of the one there, holds of each below the next place
pub named_files-more : (bytes_of : List ℕ → List ℕ) (files : List (List ℕ × List ℕ)) (i : ℕ) (file : List ℕ × List ℕ) → ((k : ℕ) (d : List ℕ × List ℕ) → k < i → (get_or files k d).1 ≡ bytes_of (get_or files k d).0) → ((d : List ℕ × List ℕ) → get_or files i d ≡ file) → file.1 ≡ bytes_of file.0 → (k : ℕ) (d : List ℕ × List ℕ) → k < i + 1 → (get_or files k d).1 ≡ bytes_of (get_or files k d).0
named_files-more bytes_of files i file before here right k d below =
    elim (cases_lt k i) [
      | inl less ↦ before k d less
      | inr more ↦
          let same : k ≡ i = omega arith in
          let P : List ℕ × List ℕ → Type 0 = λ f. f.1 ≡ bytes_of f.0 in
          subst P (sym (ap (λ (n : ℕ). get_or files n d) same ∙ here d)) right
    ]

pub length-named_files : (files : List (String Global × Vec ℕ Global)) → length (named_files files) ≡ length files
length-named_files files = length-map files (λ (f : String Global × Vec ℕ Global). (string_bytes f.0, f.1.items))
