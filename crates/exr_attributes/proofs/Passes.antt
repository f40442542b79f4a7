-- Names that stand twice: of a list in order, of a list that grows, and of a pass over a header.
use Rattle.std.proofs.Common.{◌≡◌, ℕ, ◌+◌, ◌-◌, ◌^◌, ◌<◌, ◌≤◌, Bool, true, false, List, [], ◌∷◌, ◌++◌, length, get_or, take, map, Some, None, Ok, Err, Less, IsPermutation, refl, sym, ap, ap₂, subst, true≢false, ◌∙◌, inl, inr, arith}
use Rattle.std.specs.Prelude.{Option}
use Rattle.std.specs.List.{AllByRecursion, IsDistinct}
use Rattle.std.specs.List.Sorted.{IsStrictlySortedBy}
use Rattle.std.specs.Ordering.{nat_cmp, eq_by_cmp}
use Rattle.std.specs.Cmp.{nat_cmp_is}
use Rattle.std.specs.Str.{bytes_eq}
use Rattle.std.proofs.lemmas.Bool.{cases_lt}
use Rattle.std.proofs.lemmas.Cmp.{nat_cmp_total, eq_by_cmp_equiv}
use Rattle.std.proofs.lemmas.Slice.Eq.{bytes_eq-Decides}
use Rattle.std.proofs.lemmas.List.{map_push, get_or_default, take_more, take-append-le, take_all, length_push, get_or_push, get_or_append_left}
use Rattle.std.proofs.lemmas.List.Sorted.{IsPermutation-sym}
use Rattle.std.proofs.lemmas.Map.Keys.{sorted_from_all_adjacent, IsDistinct-from_sorted, IsDistinct-head, IsDistinct-tail, IsDistinct-IsPermutation}
use Rattle.exr_base.specs.Cursor.{Position}
use Rattle.exr_base.specs.Name.{IsName}
use Rattle.exr_base.specs.declared.refusal.Refusal.TheVariants as refusal
use Rattle.exr_base.proofs.Logic.{neither}
use Rattle.exr_attributes.specs.declared.fault.HeaderFault.{HeaderFault}
use Rattle.exr_attributes.specs.declared.fault.HeaderFault.TheVariants.{Twice}
use Rattle.exr_attributes.specs.declared.attribute.Entry.{Entry}
use Rattle.exr_attributes.specs.Entry.{is_named, has_name, AreEntries}
use Rattle.exr_attributes.specs.Spelling.{HasSize, AreSized, AreAttributes}
use Rattle.exr_attributes.specs.Reading.{next_at, entries_at, header_at, past_of}
use Rattle.exr_attributes.specs.Number.{name_number}
use Rattle.exr_attributes.specs.Pass.{AreDistinct, AreRising, AreRead, IsSecond, IsFirstSecond, ended_by, IsPass}
use Rattle.exr_attributes.proofs.Entries.{bytes_eq-comm, has_name-push, has_name-push_false}
use Rattle.exr_attributes.proofs.Heads.{goes_on, repeats, closes, fails, runs_out}

-- ---- names told apart by their numbers

abbrev pub numbers_of : List Entry → List ℕ
numbers_of es = map (λ e. name_number e.name) es

abbrev same : ℕ → ℕ → Bool
same = eq_by_cmp nat_cmp

same_itself : (n : ℕ) → same n n ≡ true
same_itself n = (eq_by_cmp_equiv nat_cmp_total).refl n

same_back : (m n : ℕ) → same m n ≡ same n m
same_back m n = (eq_by_cmp_equiv nat_cmp_total).symm m n

differs : (name other : List ℕ) (b : Bool) → bytes_eq name other ≡ b → same (name_number name) (name_number other) ≡ false → b ≡ false
differs name other false is h = refl
differs name other true is h =
    let equal : name ≡ other = (bytes_eq-Decides name other).0 is in
    absurd (true≢false (sym (same_itself (name_number name)) ∙ ap (λ (n : List ℕ). same (name_number name) (name_number n)) equal ∙ h))

none_named : (name : List ℕ) (es : List Entry) → AllByRecursion (λ n. same (name_number name) n ≡ false) (numbers_of es) → has_name name es ≡ false
none_named name [] h = refl
none_named name (e ∷ es) h =
    rw (differs name e.name (bytes_eq name e.name) refl h.0, none_named name es h.1) refl

apart : (es : List Entry) → IsDistinct same (numbers_of es) → AreDistinct es
apart [] h = tt
apart (e ∷ es) h =
    (none_named e.name es (IsDistinct-head same (name_number e.name) (numbers_of es) h), apart es (IsDistinct-tail same (name_number e.name) (numbers_of es) h))

rising : (ns : List ℕ) → AreRising ns → IsStrictlySortedBy nat_cmp ns
rising ns h = sorted_from_all_adjacent nat_cmp_total ns 0 (λ k within. sym (nat_cmp_is (get_or ns k 0) (get_or ns (k + 1) 0) Less (h k within)))

-- numbers that rise once they were put in order
pub distinct : (es : List Entry) (old new : List ℕ) → old ≡ numbers_of es → IsPermutation old new → AreRising new → AreDistinct es
distinct es old new numbers moved rise =
    let there = IsDistinct-from_sorted nat_cmp new (rising new rise) in
    let back = IsPermutation-sym old new moved in
    apart es (subst (IsDistinct same) numbers (IsDistinct-IsPermutation same same_back new old back there))

-- the numbers of the entries so far, and of one more
pub numbers_more : (ns : List ℕ) (es : List Entry) (i n : ℕ) (e : Entry) → ns ≡ numbers_of (take i es) → i < length es → n ≡ name_number e.name → e ≡ get_or es i e → ns ++ n ∷ [] ≡ numbers_of (take (i + 1) es)
numbers_more ns es i n e so_far within number read =
    let more : take (i + 1) es ≡ take i es ++ e ∷ [] = take_more es i e within ∙ ap (λ (x : Entry). take i es ++ x ∷ []) (sym read) in
    ap₂ (λ (ms : List ℕ) (m : ℕ). ms ++ m ∷ []) so_far number
    ∙ sym (map_push (λ (e : Entry). name_number e.name) (take i es) e) ∙ ap numbers_of (sym more)

-- ---- one more entry

pub AreDistinct-push : (es : List Entry) (e : Entry) → AreDistinct es → has_name e.name es ≡ false → AreDistinct (es ++ e ∷ [])
AreDistinct-push [] e h new = (refl, tt)
AreDistinct-push (x ∷ xs) e h new =
    let n = neither (is_named e.name x) (has_name e.name xs) new in
    (has_name-push_false x.name xs e h.0 (bytes_eq-comm x.name e.name ∙ n.0), AreDistinct-push xs e h.1 n.1)

pub pushed : (es : List Entry) (e : Entry) → AreDistinct (es ++ e ∷ []) → AreDistinct es × (has_name e.name es ≡ false)
pushed [] e h = (tt, refl)
pushed (x ∷ xs) e h =
    let n = neither (has_name x.name xs) (is_named x.name e) (sym (has_name-push x.name xs e) ∙ h.0) in
    let rest = pushed xs e h.1 in
    ((n.0, rest.0), rw (bytes_eq-comm e.name x.name ∙ n.1, rest.1) refl)

pub AreRead-push : (es : List Entry) (e : Entry) → AreRead es → IsName e.name → IsName e.attribute.kind → HasSize e → AreRead (es ++ e ∷ [])
AreRead-push [] e h name kind size = (name, kind, size, tt)
AreRead-push (x ∷ xs) e h name kind size = (h.0, h.1, h.2, AreRead-push xs e h.3 name kind size)

lawful : (es : List Entry) → AreRead es → AreDistinct es → AreEntries es
lawful [] h d = tt
lawful (e ∷ es) h d = (h.0, h.1, d.0, lawful es h.3 d.1)

sized : (es : List Entry) → AreRead es → AreSized es
sized [] h = tt
sized (e ∷ es) h = (h.2, sized es h.3)

pub attributes : (es : List Entry) → AreRead es → AreDistinct es → AreAttributes es
attributes es h d = record { lawful = lawful es h d; sizes = sized es h }

-- ---- a pass

-- what a pass knows after i entries: it began at `from`, and stands at `to`
pub record IsUnderWay (from to : Position) (i : ℕ) (es : List Entry) (starts : List ℕ) : Type 0 where
  pub read : AreRead es
  pub many : length starts ≡ length es
  pub seconds : (k : ℕ) → IsSecond es k → header_at from ≡ Err (Twice (get_or starts k 0))
  pub so_far : AreDistinct es → entries_at (2 ^ 24 - i) es to ≡ header_at from

pub sets_out : (p : Position) (es : List Entry) (starts : List ℕ) → es ≡ [] → starts ≡ [] → IsUnderWay p p 0 es starts
unfolding header_at
sets_out p es starts e s =
    rw (e, s) (record { read = tt; many = refl; seconds = λ k second. absurd (omega (arith, second.within)); so_far = λ d. refl })

-- the front of a list that has one more
front : (es : List Entry) (e : Entry) (k : ℕ) → k < length es → IsSecond (es ++ e ∷ []) k → IsSecond es k
front es e k lt second =
    let same_front : take k (es ++ e ∷ []) ≡ take k es = take-append-le k es (e ∷ []) (omega (arith, lt)) in
    record {
      within = lt;
      earlier = subst AreDistinct same_front second.earlier;
      second = λ d. ap₂ (λ (x : Entry) (xs : List Entry). has_name x.name xs) (sym (get_or_append_left es (e ∷ []) d k lt)) (sym same_front) ∙ second.second d;
    }

last_front : (es : List Entry) (e : Entry) → take (length es) (es ++ e ∷ []) ≡ es
last_front es e = take-append-le (length es) es (e ∷ []) (omega arith) ∙ take_all (length es) es (omega arith)

seconds_more : (from to after : Position) (i : ℕ) (es : List Entry) (starts : List ℕ) (e : Entry) → i < 2 ^ 24 → IsUnderWay from to i es starts → next_at to ≡ Ok (Some e, after)
    → (k : ℕ) → IsSecond (es ++ e ∷ []) k → header_at from ≡ Err (Twice (get_or (starts ++ to.at ∷ []) k 0))
seconds_more from to after i es starts e lt way next k second =
    let many = way.many in
    elim (cases_lt k (length es)) [
      | inl below ↦
          way.seconds k (front es e k below second) ∙ ap (λ (n : ℕ). Err (Twice n)) (sym (get_or_append_left starts (to.at ∷ []) 0 k (omega (arith, below, many))))
      | inr le ↦
          let here : k ≡ length es = omega (arith, le, length_push es e, second.within) in
          let at_end : take k (es ++ e ∷ []) ≡ es = ap (λ n. take n (es ++ e ∷ [])) here ∙ last_front es e in
          let there : get_or (es ++ e ∷ []) k e ≡ e = get_or_push es e e k (sym here) in
          let old : has_name e.name es ≡ true = ap₂ (λ (x : Entry) (xs : List Entry). has_name x.name xs) (sym there) (sym at_end) ∙ second.second e in
          let place : get_or (starts ++ to.at ∷ []) k 0 ≡ to.at = get_or_push starts to.at 0 k (omega (arith, here, many)) in
          repeats i es to after e (header_at from) lt next old (way.so_far (subst AreDistinct at_end second.earlier)) ∙ ap (λ (n : ℕ). Err (Twice n)) (sym place)
    ]

pub takes_in : (from to after : Position) (i : ℕ) (es : List Entry) (starts : List ℕ) (e : Entry) → i < 2 ^ 24 → IsUnderWay from to i es starts → next_at to ≡ Ok (Some e, after)
    → IsName e.name → IsName e.attribute.kind → HasSize e → IsUnderWay from after (i + 1) (es ++ e ∷ []) (starts ++ to.at ∷ [])
takes_in from to after i es starts e lt way next name kind size =
    let a = length_push es e in
    let b = length_push starts to.at in
    let many = way.many in
    record {
      read = AreRead-push es e way.read name kind size;
      many = omega (arith, a, b, many);
      seconds = seconds_more from to after i es starts e lt way next;
      so_far = λ d. let both = pushed es e d in goes_on i es to after e (header_at from) lt next both.1 (way.so_far both.0);
    }

pub ends_closed : (from to after : Position) (i : ℕ) (es : List Entry) (starts : List ℕ) → i < 2 ^ 24 → IsUnderWay from to i es starts → next_at to ≡ Ok (None, after) → IsPass from after es starts None
ends_closed from to after i es starts lt way next =
    record { read = way.read; many = way.many; seconds = way.seconds; end = λ d. closes i es to after (header_at from) lt next (way.so_far d) }

pub ends_broken : (from to after : Position) (i : ℕ) (es : List Entry) (starts : List ℕ) (f : HeaderFault) → i < 2 ^ 24 → IsUnderWay from to i es starts → next_at to ≡ Err f → IsPass from after es starts (Some f)
ends_broken from to after i es starts f lt way next =
    record { read = way.read; many = way.many; seconds = way.seconds; end = λ d. fails i es to (refusal.Fault f) (header_at from) lt next (way.so_far d) }

pub ends_past : (from to : Position) (i : ℕ) (es : List Entry) (starts : List ℕ) (f : HeaderFault) → 2 ^ 24 ≤ i → IsUnderWay from to i es starts → f ≡ past_of to → IsPass from to es starts (Some f)
ends_past from to i es starts f le way e =
    record { read = way.read; many = way.many; seconds = way.seconds; end = λ d. runs_out i es to (header_at from) le (way.so_far d) ∙ ap (λ (f : HeaderFault). Err f) (sym e) }

-- ---- what a header is by a pass, and by the first second one of a name

none_second : (items slice : List Entry) (o : Option ℕ) → slice ≡ items → IsFirstSecond slice o → o ≡ None → AreDistinct items
none_second items slice o same first e =
    subst AreDistinct same (subst (IsFirstSecond slice) e first)

pub closed_is : (from to : Position) (items slice : List Entry) (starts : List ℕ) (fault : Option HeaderFault) (o : Option ℕ) → IsPass from to items starts fault → slice ≡ items → IsFirstSecond slice o → o ≡ None → fault ≡ None → header_at from ≡ ended_by items None to
closed_is from to items slice starts fault o pass same first e none =
    pass.end (none_second items slice o same first e) ∙ ap (λ (f : Option HeaderFault). ended_by items f to) none

pub closed_lawful : (from to : Position) (items slice : List Entry) (starts : List ℕ) (fault : Option HeaderFault) (o : Option ℕ) → IsPass from to items starts fault → slice ≡ items → IsFirstSecond slice o → o ≡ None → AreAttributes items
closed_lawful from to items slice starts fault o pass same first e =
    attributes items pass.read (none_second items slice o same first e)

pub broken_is : (from to : Position) (items slice : List Entry) (starts : List ℕ) (fault : Option HeaderFault) (o : Option ℕ) (f : HeaderFault) → IsPass from to items starts fault → slice ≡ items → IsFirstSecond slice o → o ≡ None → fault ≡ Some f → header_at from ≡ ended_by items (Some f) to
broken_is from to items slice starts fault o f pass same first e some =
    pass.end (none_second items slice o same first e) ∙ ap (λ (f : Option HeaderFault). ended_by items f to) some

second_here : (items slice : List Entry) (o : Option ℕ) (k : ℕ) → slice ≡ items → IsFirstSecond slice o → o ≡ Some k → IsSecond items k
second_here items slice o k same first e =
    subst (λ (l : List Entry). IsSecond l k) same (subst (IsFirstSecond slice) e first)

pub second_is : (from to : Position) (items slice : List Entry) (starts : List ℕ) (fault : Option HeaderFault) (o : Option ℕ) (k place : ℕ) → IsPass from to items starts fault → slice ≡ items → IsFirstSecond slice o → o ≡ Some k → place ≡ get_or starts k place → header_at from ≡ Err (Twice place)
second_is from to items slice starts fault o k place pass same first e read =
    let second = second_here items slice o k same first e in
    let within : k < length starts = omega (arith, second.within, pass.many) in
    pass.seconds k second ∙ ap (λ (n : ℕ). Err (Twice n)) (get_or_default starts k 0 place within ∙ sym read)

pub second_within : (from to : Position) (items slice : List Entry) (starts : List ℕ) (fault : Option HeaderFault) (o : Option ℕ) (k : ℕ) → IsPass from to items starts fault → slice ≡ items → IsFirstSecond slice o → o ≡ Some k → k < length starts
second_within from to items slice starts fault o k pass same first e =
    let second = second_here items slice o k same first e in
    omega (arith, second.within, pass.many)
