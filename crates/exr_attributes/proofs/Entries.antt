-- The first entry of a name: what is looked up, put and taken away there.
use Rattle.std.proofs.Common.{◌≡◌, ℕ, zero, suc, ◌<◌, ◌^◌, Bool, true, false, cond, ◌||◌, List, [], ◌∷◌, ◌++◌, length, get_or, set, take, Some, None, refl, sym, ap, subst, ◌∙◌, arith, eqb}
use Rattle.std.specs.List.{remove}
use Rattle.std.proofs.lemmas.Bool.Decides.{nat_tests}
use Rattle.std.specs.Str.{bytes_eq}
use Rattle.exr_base.proofs.Logic.{neither}
use Rattle.exr_base.specs.Name.{IsName}
use Rattle.exr_attributes.specs.declared.attribute.Attribute.{Attribute}
use Rattle.exr_attributes.specs.declared.attribute.Entry.{Entry}
use Rattle.exr_attributes.specs.Spelling.{HasSize, AreSized, AreAttributes}
use Rattle.exr_attributes.specs.Entry.{is_named, has_name, attribute_of, with_attribute, without, AreEntries, IsFirst}

or_false : (a : Bool) → (a || false) ≡ (false || a)
or_false true = refl
or_false false = refl

or_assoc : (a b c : Bool) → (a || (b || c)) ≡ ((a || b) || c)
or_assoc true b c = refl
or_assoc false b c = refl

-- a list that begins with another name
rest_first : (name : List ℕ) (e : Entry) (es : List Entry) (i : ℕ) → IsFirst name (e ∷ es) (suc i) → (is_named name e ≡ false) × IsFirst name es i
rest_first name e es i f =
    let n = neither (is_named name e) (has_name name (take i es)) f.before in
    (n.0, record { within = omega (arith, f.within); before = n.1; here = f.here })

pub attribute_at_first : (name : List ℕ) (es : List Entry) (i : ℕ) (d : Entry) → IsFirst name es i → attribute_of name es ≡ Some (get_or es i d).attribute
attribute_at_first name [] i d f = absurd (omega (arith, f.within))
attribute_at_first name (e ∷ es) zero d f = rw (f.here d) refl
attribute_at_first name (e ∷ es) (suc i) d f =
    let r = rest_first name e es i f in
    rw (r.0) (attribute_at_first name es i d r.1)

pub attribute_nowhere : (name : List ℕ) (es : List Entry) → has_name name es ≡ false → attribute_of name es ≡ None
attribute_nowhere name [] h = refl
attribute_nowhere name (e ∷ es) h =
    let n = neither (is_named name e) (has_name name es) h in
    rw (n.0) (attribute_nowhere name es n.1)

pub put_at_first : (name : List ℕ) (a : Attribute) (es : List Entry) (i : ℕ) (d : Entry) → IsFirst name es i → with_attribute name a es ≡ set es i (record { name = (get_or es i d).name; attribute = a })
put_at_first name a [] i d f = absurd (omega (arith, f.within))
put_at_first name a (e ∷ es) zero d f = rw (f.here d) refl
put_at_first name a (e ∷ es) (suc i) d f =
    let r = rest_first name e es i f in
    rw (r.0) (ap (λ (xs : List Entry). e ∷ xs) (put_at_first name a es i d r.1))

pub put_at_end : (name : List ℕ) (a : Attribute) (es : List Entry) → has_name name es ≡ false → with_attribute name a es ≡ es ++ record { name = name; attribute = a } ∷ []
put_at_end name a [] h = refl
put_at_end name a (e ∷ es) h =
    let n = neither (is_named name e) (has_name name es) h in
    rw (n.0) (ap (λ (xs : List Entry). e ∷ xs) (put_at_end name a es n.1))

pub taken_at_first : (name : List ℕ) (es : List Entry) (i : ℕ) → IsFirst name es i → without name es ≡ remove es i
taken_at_first name [] i f = absurd (omega (arith, f.within))
taken_at_first name (e ∷ es) zero f = rw (f.here e) refl
taken_at_first name (e ∷ es) (suc i) f =
    let r = rest_first name e es i f in
    rw (r.0) (ap (λ (xs : List Entry). e ∷ xs) (taken_at_first name es i r.1))

pub taken_nowhere : (name : List ℕ) (es : List Entry) → has_name name es ≡ false → without name es ≡ es
taken_nowhere name [] h = refl
taken_nowhere name (e ∷ es) h =
    let n = neither (is_named name e) (has_name name es) h in
    rw (n.0) (ap (λ (xs : List Entry). e ∷ xs) (taken_nowhere name es n.1))

pub there_at_first : (name : List ℕ) (es : List Entry) (i : ℕ) → IsFirst name es i → has_name name es ≡ true
there_at_first name [] i f = absurd (omega (arith, f.within))
there_at_first name (e ∷ es) zero f = rw (f.here e) refl
there_at_first name (e ∷ es) (suc i) f =
    let r = rest_first name e es i f in
    rw (r.0) (there_at_first name es i r.1)

pub has_name-push : (name : List ℕ) (es : List Entry) (e : Entry) → has_name name (es ++ e ∷ []) ≡ (has_name name es || is_named name e)
has_name-push name [] e = or_false (is_named name e)
has_name-push name (x ∷ xs) e = ap (λ (b : Bool). is_named name x || b) (has_name-push name xs e) ∙ or_assoc (is_named name x) (has_name name xs) (is_named name e)

pub has_name-push_false : (name : List ℕ) (es : List Entry) (e : Entry) → has_name name es ≡ false → is_named name e ≡ false → has_name name (es ++ e ∷ []) ≡ false
has_name-push_false name es e p q = has_name-push name es e ∙ rw (p, q) refl

-- ---- names that are equal

eqb-comm : (x y : ℕ) → eqb x y ≡ eqb y x
eqb-comm x y = grind (arith, nat_tests)

pub bytes_eq-comm : (xs ys : List ℕ) → bytes_eq xs ys ≡ bytes_eq ys xs
bytes_eq-comm [] [] = refl
bytes_eq-comm [] (y ∷ ys) = refl
bytes_eq-comm (x ∷ xs) [] = refl
bytes_eq-comm (x ∷ xs) (y ∷ ys) = rw (eqb-comm x y, bytes_eq-comm xs ys) refl

pub AreEntries-push : (es : List Entry) (e : Entry) → AreEntries es → IsName e.name → IsName e.attribute.kind → has_name e.name es ≡ false → AreEntries (es ++ e ∷ [])
AreEntries-push [] e h name kind new = (name, kind, refl, tt)
AreEntries-push (x ∷ xs) e h name kind new =
    let n = neither (is_named e.name x) (has_name e.name xs) new in
    (h.0, h.1, has_name-push_false x.name xs e h.2 (bytes_eq-comm x.name e.name ∙ n.0), AreEntries-push xs e h.3 name kind n.1)

-- ---- a map stays lawful

has_name-with_false : (q name : List ℕ) (a : Attribute) (es : List Entry) → has_name q es ≡ false → bytes_eq q name ≡ false → has_name q (with_attribute name a es) ≡ false
has_name-with_false q name a [] h n = rw n refl
has_name-with_false q name a (e ∷ es) h n =
    let w = neither (is_named q e) (has_name q es) h in
    with_false_at q name a e es (is_named name e) h w.0 (has_name-with_false q name a es w.1 n) where
      with_false_at : (q name : List ℕ) (a : Attribute) (e : Entry) (es : List Entry) (b : Bool) → has_name q (e ∷ es) ≡ false → is_named q e ≡ false → has_name q (with_attribute name a es) ≡ false → has_name q (cond b (record { name = e.name; attribute = a } ∷ es) (e ∷ with_attribute name a es)) ≡ false
      with_false_at q name a e es true h first rest = h
      with_false_at q name a e es false h first rest = rw (first, rest) refl

AreEntries-with : (name : List ℕ) (a : Attribute) (es : List Entry) → AreEntries es → IsName name → IsName a.kind → AreEntries (with_attribute name a es)
AreEntries-with name a [] h named kind = (named, kind, refl, tt)
AreEntries-with name a (e ∷ es) h named kind =
    with_at name a e es (is_named name e) refl h kind (AreEntries-with name a es h.3 named kind) where
      with_at : (name : List ℕ) (a : Attribute) (e : Entry) (es : List Entry) (b : Bool) → is_named name e ≡ b → AreEntries (e ∷ es) → IsName a.kind → AreEntries (with_attribute name a es) → AreEntries (cond b (record { name = e.name; attribute = a } ∷ es) (e ∷ with_attribute name a es))
      with_at name a e es true is h kind rest = (h.0, kind, h.2, h.3)
      with_at name a e es false is h kind rest =
          (h.0, h.1, has_name-with_false e.name name a es h.2 (bytes_eq-comm e.name name ∙ is), rest)

has_name-without_false : (q name : List ℕ) (es : List Entry) → has_name q es ≡ false → has_name q (without name es) ≡ false
has_name-without_false q name [] h = refl
has_name-without_false q name (e ∷ es) h =
    let w = neither (is_named q e) (has_name q es) h in
    without_false_at q name e es (is_named name e) w.0 w.1 (has_name-without_false q name es w.1) where
      without_false_at : (q name : List ℕ) (e : Entry) (es : List Entry) (b : Bool) → is_named q e ≡ false → has_name q es ≡ false → has_name q (without name es) ≡ false → has_name q (cond b es (e ∷ without name es)) ≡ false
      without_false_at q name e es true first others rest = others
      without_false_at q name e es false first others rest = rw (first, rest) refl

AreEntries-without : (name : List ℕ) (es : List Entry) → AreEntries es → AreEntries (without name es)
AreEntries-without name [] h = tt
AreEntries-without name (e ∷ es) h = without_at name e es (is_named name e) h (AreEntries-without name es h.3) where
  without_at : (name : List ℕ) (e : Entry) (es : List Entry) (b : Bool) → AreEntries (e ∷ es) → AreEntries (without name es) → AreEntries (cond b es (e ∷ without name es))
  without_at name e es true h rest = h.3
  without_at name e es false h rest = (h.0, h.1, has_name-without_false e.name name es h.2, rest)

-- ---- sizes stay ints

AreSized-push : (es : List Entry) (e : Entry) → AreSized es → HasSize e → AreSized (es ++ e ∷ [])
AreSized-push [] e h size = (size, tt)
AreSized-push (x ∷ xs) e h size = (h.0, AreSized-push xs e h.1 size)

AreSized-with : (name : List ℕ) (a : Attribute) (es : List Entry) → AreSized es → length a.value < 2 ^ 31 → AreSized (with_attribute name a es)
AreSized-with name a [] h size = (size, tt)
AreSized-with name a (e ∷ es) h size = sized_with_at name a e es (is_named name e) h size (AreSized-with name a es h.1 size) where
  sized_with_at : (name : List ℕ) (a : Attribute) (e : Entry) (es : List Entry) (b : Bool) → AreSized (e ∷ es) → length a.value < 2 ^ 31 → AreSized (with_attribute name a es) → AreSized (cond b (record { name = e.name; attribute = a } ∷ es) (e ∷ with_attribute name a es))
  sized_with_at name a e es true h size rest = (size, h.1)
  sized_with_at name a e es false h size rest = (h.0, rest)

AreSized-without : (name : List ℕ) (es : List Entry) → AreSized es → AreSized (without name es)
AreSized-without name [] h = tt
AreSized-without name (e ∷ es) h = sized_without_at name e es (is_named name e) h (AreSized-without name es h.1) where
  sized_without_at : (name : List ℕ) (e : Entry) (es : List Entry) (b : Bool) → AreSized (e ∷ es) → AreSized (without name es) → AreSized (cond b es (e ∷ without name es))
  sized_without_at name e es true h rest = h.1
  sized_without_at name e es false h rest = (h.0, rest)

pub AreAttributes-push : (es : List Entry) (e : Entry) → AreAttributes es → IsName e.name → IsName e.attribute.kind → HasSize e → has_name e.name es ≡ false → AreAttributes (es ++ e ∷ [])
AreAttributes-push es e h name kind size new =
    record { lawful = AreEntries-push es e h.lawful name kind new; sizes = AreSized-push es e h.sizes size }

-- ---- the same, as calls say it: of the list behind a slice, seen as the map

pub found : (name : List ℕ) (slice items es : List Entry) (i : ℕ) (x : Entry) → slice ≡ items → items ≡ es → IsFirst name slice i → x ≡ get_or items i x → Some x.attribute ≡ attribute_of name es
found name slice items es i x s v f at =
    let g : IsFirst name items i = subst (λ (l : List Entry). IsFirst name l i) s f in
    sym (subst (λ (l : List Entry). attribute_of name l ≡ Some x.attribute) v (attribute_at_first name items i x g ∙ ap (λ (e : Entry). Some e.attribute) (sym at)))

pub nowhere : (name : List ℕ) (slice items es : List Entry) → slice ≡ items → items ≡ es → has_name name slice ≡ false → None ≡ attribute_of name es
nowhere name slice items es s v h = sym (attribute_nowhere name es (ap (has_name name) (sym (s ∙ v)) ∙ h))

pub put_is : (name : List ℕ) (a : Attribute) (slice items es : List Entry) (i : ℕ) (x : Entry) → slice ≡ items → items ≡ es → IsFirst name slice i → x ≡ get_or items i x → set items i (record { name = x.name; attribute = a }) ≡ with_attribute name a es
put_is name a slice items es i x s v f at =
    let g : IsFirst name items i = subst (λ (l : List Entry). IsFirst name l i) s f in
    ap (λ (e : Entry). set items i (record { name = e.name; attribute = a })) at ∙ sym (put_at_first name a items i x g) ∙ ap (with_attribute name a) v

pub put_lawful : (name : List ℕ) (a : Attribute) (slice items : List Entry) (i : ℕ) (x : Entry) → slice ≡ items → IsFirst name slice i → x ≡ get_or items i x → AreAttributes items → IsName name → IsName a.kind → length a.value < 2 ^ 31 → AreAttributes (set items i (record { name = x.name; attribute = a }))
put_lawful name a slice items i x s f at h named kind size =
    let all : AreAttributes (with_attribute name a items) = record { lawful = AreEntries-with name a items h.lawful named kind; sizes = AreSized-with name a items h.sizes size } in
    subst AreAttributes (sym (put_is name a slice items items i x s refl f at)) all

pub end_is : (name : List ℕ) (a : Attribute) (slice items es new : List Entry) → slice ≡ items → items ≡ es → has_name name slice ≡ false → new ≡ items ++ record { name = name; attribute = a } ∷ [] → new ≡ with_attribute name a es
end_is name a slice items es new s v h n =
    n ∙ sym (put_at_end name a items (ap (has_name name) (sym s) ∙ h)) ∙ ap (with_attribute name a) v

pub end_lawful : (name : List ℕ) (a : Attribute) (slice items new : List Entry) → slice ≡ items → has_name name slice ≡ false → AreAttributes items → IsName name → IsName a.kind → length a.value < 2 ^ 31 → new ≡ items ++ record { name = name; attribute = a } ∷ [] → AreAttributes new
end_lawful name a slice items new s h lawful named kind size n =
    subst AreAttributes (sym n) (AreAttributes-push items (record { name = name; attribute = a }) lawful named kind size (ap (has_name name) (sym s) ∙ h))

pub rest_is : (name : List ℕ) (slice items es new : List Entry) (i : ℕ) → slice ≡ items → items ≡ es → IsFirst name slice i → new ≡ remove items i → new ≡ without name es
rest_is name slice items es new i s v f n =
    let g : IsFirst name items i = subst (λ (l : List Entry). IsFirst name l i) s f in
    n ∙ sym (taken_at_first name items i g) ∙ ap (without name) v

pub rest_lawful : (name : List ℕ) (slice items new : List Entry) (i : ℕ) → slice ≡ items → IsFirst name slice i → AreAttributes items → new ≡ remove items i → AreAttributes new
rest_lawful name slice items new i s f h n =
    let all : AreAttributes (without name items) = record { lawful = AreEntries-without name items h.lawful; sizes = AreSized-without name items h.sizes } in
    subst AreAttributes (sym (rest_is name slice items items new i s refl f n)) all

pub same_without : (name : List ℕ) (slice items es : List Entry) → slice ≡ items → items ≡ es → has_name name slice ≡ false → es ≡ without name es
same_without name slice items es s v h = sym (taken_nowhere name es (ap (has_name name) (sym (s ∙ v)) ∙ h))
