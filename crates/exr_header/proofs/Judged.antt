-- What judging keeps, and on which bits of the version word it depends.
use Rattle.std.proofs.Common.{◌≡◌, ℕ, Bool, true, false, cond, ◌||◌, eqb, List, [], ◌∷◌, length, Option, Result, Ok, Err, refl, sym, ap, subst, ◌∙◌, arith}
use Rattle.std.proofs.lemmas.Bool.Decides.{nat_tests}
use Rattle.std.specs.Prelude.{IfOk}
use Rattle.exr_base.specs.Refusal.{◌>>=◌, Gives}
use Rattle.exr_base.specs.declared.refusal.Refusal.{Refusal}
use Rattle.exr_base.specs.declared.channel.Channel.{Channel}
use Rattle.exr_base.specs.declared.method.Method.{Method}
use Rattle.exr_base.specs.declared.shape.Box2i.{Box2i}
use Rattle.exr_attributes.specs.declared.fault.HeaderFault.{HeaderFault}
use Rattle.exr_attributes.specs.declared.fault.HeaderFault.TheVariants.{Missing, BadPartType}
use Rattle.exr_attributes.specs.declared.fault.Field.TheVariants as field
use Rattle.exr_attributes.specs.declared.attribute.Entry.{Entry}
use Rattle.exr_attributes.specs.Spelling.{AreAttributes}
use Rattle.exr_attributes.proofs.Texts.{bind_ok}
use Rattle.exr_attributes.proofs.Takes.{ok_is, went_in}
use Rattle.exr_judge.specs.declared.kind.PartKind.{PartKind}
use Rattle.exr_judge.specs.declared.kind.PartKind.TheVariants.{Scan, Tiled, DeepScan, DeepTiled}
use Rattle.exr_judge.specs.declared.kind.LineOrder.{LineOrder}
use Rattle.exr_judge.specs.declared.kind.Tiles.{Tiles}
use Rattle.exr_judge.specs.declared.kind.Flags.{Flags}
use Rattle.exr_judge.specs.declared.header.Header.{Header}
use Rattle.exr_judge.specs.Kind.{is_tiled, is_deep, is_kind}
use Rattle.exr_judge.specs.Fields.{value_of, needed_at, optional_at, first_fields, other_fields, file_fields, all_fields}
use Rattle.exr_judge.specs.Judging.{typed_kind, channels_judged, picture_of, samplings_judged, version_judged, sizes_judged, count_judged, name_judged, header_judged, judged}
use Rattle.exr_header.specs.Head.{has_bit, flags_of, is_tiled_kind, kind_read, part_read, Given, kind_given, part_given}

-- ---- the steps of judging

pub record Passed (flags : Flags) (earlier : List Header) (kind : PartKind) (es : List Entry) (h : Header) : Type 0 where
  pub fields : List ℕ
  pub has_fields : all_fields flags (length earlier) kind es ≡ Ok fields
  pub picture : picture_of (length earlier) kind es ≡ Ok h
  pub unit : Unit {0}
  pub header : header_judged flags earlier h ≡ Ok unit

pub passed_from : (flags : Flags) (earlier : List Header) (kind : PartKind) (es : List Entry) (y : Header) → judged flags earlier kind es ≡ Ok y → Passed flags earlier kind es y
unfolding judged
passed_from flags earlier kind es y e =
    let a = bind_ok (all_fields flags (length earlier) kind es) (λ fields. picture_of (length earlier) kind es >>= λ h. header_judged flags earlier h >>= λ passed. Ok h) y e in
    let b = bind_ok (picture_of (length earlier) kind es) (λ h. header_judged flags earlier h >>= λ passed. Ok h) y a.2 in
    let c = bind_ok (header_judged flags earlier b.0) (λ passed. Ok b.0) y b.2 in
    subst (Passed flags earlier kind es) (ok_is b.0 y c.2) (record { fields = a.0; has_fields = a.1; picture = b.1; unit = c.0; header = c.1 })

pub judged_from : (flags : Flags) (earlier : List Header) (kind : PartKind) (es : List Entry) (h : Header) → Passed flags earlier kind es h → judged flags earlier kind es ≡ Ok h
unfolding judged
judged_from flags earlier kind es h p = rw (p.has_fields, p.picture, p.header) refl

-- ---- a header has the kind and the attributes that were judged

pub record Keeps (k : PartKind) (es : List Entry) (h : Header) : Type 0 where
  pub kind : h.kind ≡ k
  pub attributes : h.attributes ≡ es

picture_made : (kind : PartKind) (es : List Entry) (c : Result (List Channel) HeaderFault) (m : Result Method HeaderFault) (o : Result LineOrder HeaderFault) (w : Result Box2i HeaderFault) (t : Result (Option Tiles) HeaderFault) (y : Header)
    → (c >>= λ channels. m >>= λ method. o >>= λ order. w >>= λ window. t >>= λ tiles. Ok (record { attributes = es; kind = kind; channels = channels; method = method; window = window; order = order; tiles = tiles })) ≡ Ok y → Keeps kind es y
picture_made kind es (Err f) m o w t y e = absurd cc
picture_made kind es (Ok c) (Err f) o w t y e = absurd cc
picture_made kind es (Ok c) (Ok m) (Err f) w t y e = absurd cc
picture_made kind es (Ok c) (Ok m) (Ok o) (Err f) t y e = absurd cc
picture_made kind es (Ok c) (Ok m) (Ok o) (Ok w) (Err f) y e = absurd cc
picture_made kind es (Ok c) (Ok m) (Ok o) (Ok w) (Ok t) y e =
    let made : Header = record { attributes = es; kind = kind; channels = c; method = m; window = w; order = o; tiles = t } in
    let same : made ≡ y = ok_is made y e in
    record { kind = sym (ap (λ (h : Header). h.kind) same); attributes = sym (ap (λ (h : Header). h.attributes) same) }

picture_keeps : (part : ℕ) (kind : PartKind) (es : List Entry) (y : Header) → picture_of part kind es ≡ Ok y → Keeps kind es y
unfolding picture_of
picture_keeps part kind es y e =
    picture_made kind es (channels_judged part (value_of field.Channels es)) _ _ _ _ y e

pub judged_keeps : (flags : Flags) (earlier : List Header) (kind : PartKind) (es : List Entry) (y : Header) → judged flags earlier kind es ≡ Ok y → Keeps kind es y
judged_keeps flags earlier kind es y e =
    picture_keeps (length earlier) kind es y (passed_from flags earlier kind es y e).picture

pub judged_attributes : (flags : Flags) (earlier : List Header) (kind : PartKind) (es : List Entry) (r : Result Header (Refusal HeaderFault)) → AreAttributes es → Gives (λ h. h) r (judged flags earlier kind es) → IfOk r (λ h. AreAttributes h.attributes)
judged_attributes flags earlier kind es (Ok h) all g = subst AreAttributes (sym (judged_keeps flags earlier kind es h g).attributes) all
judged_attributes flags earlier kind es (Err e) all g = tt

-- ---- a part by the bits that matter

abbrev pub kind_by : Bool → Bool → List Header → List Entry → Result PartKind HeaderFault
kind_by typed tiled before es = cond typed (typed_kind (length before) es) (cond tiled (Ok Tiled) (Ok Scan))

abbrev pub part_by : Bool → Bool → Bool → List Header → List Entry → Result Header HeaderFault
part_by multi deep tiled before es =
    kind_by (multi || deep) tiled before es >>= λ kind. judged (record { multi = multi; deep = deep }) before kind es

pub part_by_word : (word : ℕ) (before : List Header) (es : List Entry) → part_read word before es ≡ part_by (has_bit 4096 word) (has_bit 2048 word) (has_bit 512 word) before es
unfolding part_read kind_read
part_by_word word before es = refl

pub record IsPart (multi deep tiled : Bool) (before : List Header) (es : List Entry) (h : Header) : Type 0 where
  pub kind : kind_by (multi || deep) tiled before es ≡ Ok h.kind
  pub attributes : h.attributes ≡ es
  pub passes : judged (record { multi = multi; deep = deep }) before h.kind es ≡ Ok h

pub is_part : (multi deep tiled : Bool) (before : List Header) (es : List Entry) (h : Header) → part_by multi deep tiled before es ≡ Ok h → IsPart multi deep tiled before es h
is_part multi deep tiled before es h e =
    let flags : Flags = record { multi = multi; deep = deep } in
    let a = bind_ok (kind_by (multi || deep) tiled before es) (λ kind. judged flags before kind es) h e in
    let k = judged_keeps flags before a.0 es h a.2 in
    record {
      kind = a.1 ∙ ap (λ (kind : PartKind). Ok kind) (sym k.kind);
      attributes = k.attributes;
      passes = ap (λ (kind : PartKind). judged flags before kind es) k.kind ∙ a.2;
    }

-- ---- a header has attributes

judged_nothing : (flags : Flags) (before : List Header) (kind : PartKind) → judged flags before kind [] ≡ Err (Missing (length before) field.Channels)
unfolding judged all_fields first_fields needed_at
judged_nothing flags before kind = refl

pub has_entries : (word : ℕ) (before : List Header) (es : List Entry) (h : Header) → part_read word before es ≡ Ok h → eqb (length es) 0 ≡ false
unfolding part_read
has_entries word before [] h e =
    let a = bind_ok (kind_read word (length before) []) (λ kind. judged (flags_of word) before kind []) h e in
    let n = judged_nothing (flags_of word) before a.0 in
    let both : Err (Missing (length before) field.Channels) ≡ Ok h = sym n ∙ a.2 in
    absurd cc
has_entries word before (x ∷ xs) h e = grind (arith, nat_tests)

-- ---- with the flag for many parts, no other bit matters

judged_multi : (a b : Bool) (before : List Header) (kind : PartKind) (es : List Entry) → judged (record { multi = true; deep = a }) before kind es ≡ judged (record { multi = true; deep = b }) before kind es
unfolding judged all_fields file_fields header_judged count_judged name_judged
judged_multi a b before kind es = refl

pub part_by_multi : (a b s t : Bool) (before : List Header) (es : List Entry) → part_by true a s before es ≡ part_by true b t before es
unfolding judged all_fields file_fields header_judged count_judged name_judged
part_by_multi a b s t before es = refl

-- ---- a flat part needs no bit for deep data

abbrev done : {A : Type 0} → A → Result A HeaderFault
done x = Ok x

-- a step that passed, left out
without_fourth : {A B C D E : Type 0} (a : Result A HeaderFault) (b : Result B HeaderFault) (c : Result C HeaderFault) (d : Result D HeaderFault) (x : D) (r : Result E HeaderFault) (y : E)
    → (a >>= λ _. b >>= λ _. c >>= λ _. d >>= λ _. r) ≡ Ok y → (a >>= λ _. b >>= λ _. c >>= λ _. done x >>= λ _. r) ≡ Ok y
without_fourth (Err f) b c d x r y e = e
without_fourth (Ok a) (Err f) c d x r y e = e
without_fourth (Ok a) (Ok b) (Err f) d x r y e = e
without_fourth (Ok a) (Ok b) (Ok c) (Err f) x r y e = absurd cc
without_fourth (Ok a) (Ok b) (Ok c) (Ok d) x r y e = e

fields_flat : (part : ℕ) (kind : PartKind) (es : List Entry) (y : List ℕ) → all_fields (record { multi = false; deep = true }) part kind es ≡ Ok y → all_fields (record { multi = false; deep = false }) part kind es ≡ Ok y
unfolding all_fields file_fields
fields_flat part kind es y e =
    without_fourth (first_fields part es) (other_fields part es) (cond (is_tiled kind) (needed_at part field.Tiles es) (Ok [])) (optional_at part field.PartName es >>= λ name. optional_at part field.ChunkCount es) [] (cond (is_deep kind) (needed_at part field.Version es) (Ok [])) y e

header_flat : (before : List Header) (h : Header) (y : Unit {0}) → header_judged (record { multi = false; deep = true }) before h ≡ Ok y → header_judged (record { multi = false; deep = false }) before h ≡ Ok y
unfolding header_judged count_judged name_judged
header_flat before h y e =
    without_fourth (samplings_judged (length before) h) (version_judged (length before) h) (sizes_judged before h) (count_judged (record { multi = false; deep = true }) (length before) h) tt (name_judged (record { multi = false; deep = false }) before h) y e

flat_part : (before : List Header) (kind : PartKind) (es : List Entry) (h : Header) → judged (record { multi = false; deep = true }) before kind es ≡ Ok h → judged (record { multi = false; deep = false }) before kind es ≡ Ok h
flat_part before kind es h e =
    let p = passed_from (record { multi = false; deep = true }) before kind es h e in
    judged_from (record { multi = false; deep = false }) before kind es h (record {
      fields = p.fields;
      has_fields = fields_flat (length before) kind es p.fields p.has_fields;
      picture = p.picture;
      unit = p.unit;
      header = header_flat before h p.unit p.header;
    })

-- a part that was read alone passes again under the bits that a writer sets by its kind
pub alone_again : (k : PartKind) (deep tiled : Bool) (before : List Header) (es : List Entry) (h : Header) → kind_by deep tiled before es ≡ Ok k → judged (record { multi = false; deep = deep }) before k es ≡ Ok h
    → part_by false (is_deep k) (is_tiled_kind k) before es ≡ Ok h
alone_again Scan true tiled before es h typed j = flat_part before Scan es h j
alone_again Tiled true tiled before es h typed j = flat_part before Tiled es h j
alone_again DeepScan true tiled before es h typed j = rw typed j
alone_again DeepTiled true tiled before es h typed j = rw typed j
alone_again Scan false tiled before es h typed j = j
alone_again Tiled false tiled before es h typed j = j
alone_again DeepScan false true before es h typed j = absurd cc
alone_again DeepScan false false before es h typed j = absurd cc
alone_again DeepTiled false true before es h typed j = absurd cc
alone_again DeepTiled false false before es h typed j = absurd cc

-- ---- given parts

pub record IsMade (multi deep : Bool) (before : List Header) (h : Header) : Type 0 where
  pub typed : (multi || deep) ≡ true → typed_kind (length before) h.attributes ≡ Ok h.kind
  pub passes : judged (record { multi = multi; deep = deep }) before h.kind h.attributes ≡ Ok h

is_kind_true : (k g : PartKind) → is_kind k g ≡ true → k ≡ g
is_kind_true Scan Scan e = refl
is_kind_true Scan Tiled e = absurd cc
is_kind_true Scan DeepScan e = absurd cc
is_kind_true Scan DeepTiled e = absurd cc
is_kind_true Tiled Scan e = absurd cc
is_kind_true Tiled Tiled e = refl
is_kind_true Tiled DeepScan e = absurd cc
is_kind_true Tiled DeepTiled e = absurd cc
is_kind_true DeepScan Scan e = absurd cc
is_kind_true DeepScan Tiled e = absurd cc
is_kind_true DeepScan DeepScan e = refl
is_kind_true DeepScan DeepTiled e = absurd cc
is_kind_true DeepTiled Scan e = absurd cc
is_kind_true DeepTiled Tiled e = absurd cc
is_kind_true DeepTiled DeepScan e = absurd cc
is_kind_true DeepTiled DeepTiled e = refl

-- the kind is the given one, and `type` names it where it is looked at
kind_of_given : (part : ℕ) (typed : Bool) (g : Given) (k : PartKind) → cond typed (typed_kind part g.1 >>= λ kind. cond (is_kind kind g.0) (Ok kind) (Err (BadPartType part))) (Ok g.0) ≡ Ok k
    → (k ≡ g.0) × (typed ≡ true → typed_kind part g.1 ≡ Ok k)
kind_of_given part true g k e =
    let a = bind_ok (typed_kind part g.1) (λ kind. cond (is_kind kind g.0) (Ok kind) (Err (BadPartType part))) k e in
    let t = went_in (is_kind a.0 g.0) (BadPartType part) (done a.0) k a.2 in
    let same : a.0 ≡ k = ok_is a.0 k t.1 in
    (sym same ∙ is_kind_true a.0 g.0 t.0, λ _. a.1 ∙ ap (λ (kind : PartKind). done kind) same)
kind_of_given part false g k e =
    (sym (ok_is g.0 k e), λ f. absurd cc)

pub record FromGiven (multi deep : Bool) (before : List Header) (g : Given) (h : Header) : Type 0 where
  pub kind : h.kind ≡ g.0
  pub attributes : h.attributes ≡ g.1
  pub made : IsMade multi deep before h

pub from_given : (multi deep : Bool) (before : List Header) (g : Given) (h : Header) → part_given (record { multi = multi; deep = deep }) before g ≡ Ok h → FromGiven multi deep before g h
unfolding part_given kind_given
from_given multi deep before g h e =
    let flags : Flags = record { multi = multi; deep = deep } in
    let a = bind_ok (kind_given flags (length before) g) (λ kind. judged flags before kind g.1) h e in
    let given = kind_of_given (length before) (multi || deep) g a.0 a.1 in
    let k = judged_keeps flags before a.0 g.1 h a.2 in
    let typed : (multi || deep) ≡ true → typed_kind (length before) h.attributes ≡ Ok h.kind =
    λ t. ap (typed_kind (length before)) k.attributes ∙ given.1 t ∙ ap (λ (kind : PartKind). done kind) (sym k.kind) in
    record {
      kind = k.kind ∙ given.0;
      attributes = k.attributes;
      made = record {
        typed = typed;
        passes = ap (λ (kind : PartKind). judged flags before kind h.attributes) k.kind ∙ ap (judged flags before a.0) k.attributes ∙ a.2;
      };
    }

-- a part that was given alone passes under the bits that a writer sets by its kind
pub alone_given : (k : PartKind) (before : List Header) (es : List Entry) (h : Header) → (is_deep k ≡ true → typed_kind (length before) es ≡ Ok k) → judged (record { multi = false; deep = is_deep k }) before k es ≡ Ok h
    → part_by false (is_deep k) (is_tiled_kind k) before es ≡ Ok h
alone_given Scan before es h typed j = j
alone_given Tiled before es h typed j = j
alone_given DeepScan before es h typed j = rw (typed refl) j
alone_given DeepTiled before es h typed j = rw (typed refl) j

-- and one of many under the flag
pub many_given : (deep tiled : Bool) (before : List Header) (h : Header) → IsMade true deep before h → part_by true deep tiled before h.attributes ≡ Ok h
many_given deep tiled before h m = rw (m.typed refl) m.passes
