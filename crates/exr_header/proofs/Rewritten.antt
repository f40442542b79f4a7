-- What a writer puts for a head spells it: its parts pass again under the bits that the writer sets.
use Rattle.std.proofs.Common.{◌≡◌, ℕ, ◌^◌, ◌≤◌, Bool, true, false, ◌&&◌, ◌||◌, List, [], ◌∷◌, ◌++◌, length, Ok, refl, sym, ap, subst, ◌∙◌, append_assoc, arith}
use Rattle.std.specs.Prelude.{not}
use Rattle.std.specs.List.{list_any}
use Rattle.std.specs.Int.{w32, to_le_bytes}
use Rattle.std.proofs.lemmas.List.{length-append, append-nil}
use Rattle.exr_attributes.specs.declared.attribute.Entry.{Entry}
use Rattle.exr_attributes.proofs.Texts.{bind_ok}
use Rattle.exr_attributes.proofs.Takes.{ok_is}
use Rattle.exr_judge.specs.declared.kind.PartKind.{PartKind}
use Rattle.exr_judge.specs.declared.kind.Flags.{Flags}
use Rattle.exr_judge.specs.declared.header.Header.{Header}
use Rattle.exr_judge.specs.Kind.{is_deep}
use Rattle.exr_header.specs.Head.{Head, magic, has_bit, is_tiled_kind, version_of, parts_spelling, closing, spelling_under, head_spelling, part_read, Given, flags_given, part_given, parts_given}
use Rattle.exr_header.specs.Spells.{AreHeaders, AreJudged, Spells}
use Rattle.exr_header.proofs.Judged.{part_by, part_by_word, is_part, part_by_multi, alone_again, IsMade, from_given, alone_given, many_given}
use Rattle.exr_header.proofs.Version.{writer_bits}

-- ---- what a writer's bits are in a head of one part

or_false : (a : Bool) → (a || false) ≡ a
or_false true = refl
or_false false = refl

-- a part passes under a word that has certain bits
part_under : (word : ℕ) (multi deep tiled : Bool) (before : List Header) (es : List Entry) (h : Header) → has_bit 4096 word ≡ multi → has_bit 2048 word ≡ deep → has_bit 512 word ≡ tiled → part_by multi deep tiled before es ≡ Ok h → part_read word before es ≡ Ok h
part_under word multi deep tiled before es h m d t p =
    part_by_word word before es
    ∙ ap (λ (b : Bool). part_by b (has_bit 2048 word) (has_bit 512 word) before es) m
    ∙ ap (λ (b : Bool). part_by multi b (has_bit 512 word) before es) d
    ∙ ap (λ (b : Bool). part_by multi deep b before es) t
    ∙ p

-- and the other way round
part_over : (word : ℕ) (multi : Bool) (before : List Header) (es : List Entry) (h : Header) → has_bit 4096 word ≡ multi → part_read word before es ≡ Ok h → part_by multi (has_bit 2048 word) (has_bit 512 word) before es ≡ Ok h
part_over word multi before es h m p =
    sym (ap (λ (b : Bool). part_by b (has_bit 2048 word) (has_bit 512 word) before es) m) ∙ sym (part_by_word word before es) ∙ p

-- the bits of the word that a writer puts for parts
pub record WriterBits (multi : Bool) (parts : List Header) (word : ℕ) : Type 0 where
  pub flag : has_bit 4096 word ≡ multi
  pub deep : has_bit 2048 word ≡ list_any (λ p. is_deep p.kind) parts
  pub tiled : has_bit 512 word ≡ (not multi && list_any (λ p. is_tiled_kind p.kind) parts)

bits_of_head : (h : Head) → WriterBits h.multi h.parts (version_of h)
bits_of_head h = let b = writer_bits h in record { flag = b.multi_is; deep = b.deep_is; tiled = b.tiled_is }

alone_under : (word : ℕ) (h : Header) → WriterBits false (h ∷ []) word → part_by false (is_deep h.kind) (is_tiled_kind h.kind) [] h.attributes ≡ Ok h → part_read word [] h.attributes ≡ Ok h
alone_under word h b p =
    part_under word false (is_deep h.kind) (is_tiled_kind h.kind) [] h.attributes h b.flag (b.deep ∙ or_false (is_deep h.kind)) (b.tiled ∙ or_false (is_tiled_kind h.kind)) p

-- ---- parts that were read

many_again : (old new : ℕ) (before hs : List Header) → has_bit 4096 old ≡ true → has_bit 4096 new ≡ true → AreJudged old before hs → AreJudged new before hs
many_again old new before [] e f j = tt
many_again old new before (h ∷ hs) e f j =
    let p = part_over old true before h.attributes h e j.0 in
    let q : part_by true (has_bit 2048 new) (has_bit 512 new) before h.attributes ≡ Ok h =
    part_by_multi (has_bit 2048 new) (has_bit 2048 old) (has_bit 512 new) (has_bit 512 old) before h.attributes ∙ p in
    (part_under new true (has_bit 2048 new) (has_bit 512 new) before h.attributes h f refl refl q, many_again old new (before ++ h ∷ []) hs e f j.1)

one_again : (old new : ℕ) (parts : List Header) → length parts ≡ 1 → has_bit 4096 old ≡ false → WriterBits false parts new → AreJudged old [] parts → AreJudged new [] parts
one_again old new [] one e b j = absurd (omega (arith, one))
one_again old new (h ∷ []) one e b j =
    let p = is_part false (has_bit 2048 old) (has_bit 512 old) [] h.attributes h (part_over old false [] h.attributes h e j.0) in
    let q = alone_again h.kind (has_bit 2048 old) (has_bit 512 old) [] h.attributes h p.kind p.passes in
    (alone_under new h b q, tt)
one_again old new (h ∷ k ∷ hs) one e b j = absurd (omega (arith, one))

again_under : (multi : Bool) (old new : ℕ) (parts : List Header) → (multi ≡ false → length parts ≡ 1) → has_bit 4096 old ≡ multi → WriterBits multi parts new → AreJudged old [] parts → AreJudged new [] parts
again_under true old new parts one e b j = many_again old new [] parts e b.flag j
again_under false old new parts one e b j = one_again old new parts (one refl) e b j

length_under : (w v : ℕ) (h : Head) → length (spelling_under w h) ≡ length (spelling_under v h)
length_under w v h =
    let end = parts_spelling h.parts ++ closing h.multi in
    omega (arith, length-append (magic ++ to_le_bytes w32 w) end, length-append (magic ++ to_le_bytes w32 v) end)

-- a head that is spelled is spelled again by a writer
pub written_again : (bytes : List ℕ) (h : Head) → Spells bytes h → Spells (head_spelling h) h
written_again bytes h s =
    let b = bits_of_head h in
    let long = s.short in
    record {
      word = version_of h;
      here = refl;
      version = (writer_bits h).version;
      multi = b.flag;
      headers = s.headers;
      judged = again_under h.multi s.word (version_of h) h.parts s.one s.multi b s.judged;
      some = s.some;
      one = s.one;
      few = s.few;
      short = omega (arith, long, ap length s.here, length_under s.word (version_of h) h);
    }

-- ---- parts that were given

abbrev pub AreMade : Bool → Bool → List Header → List Header → Type 0
AreMade multi deep before [] = Unit {0}
AreMade multi deep before (h ∷ hs) = IsMade multi deep before h × AreMade multi deep (before ++ h ∷ []) hs

pub record Made (multi deep : Bool) (before : List Header) (gs : List Given) (y : List Header) : Type 0 where
  pub hs : List Header
  pub all : y ≡ before ++ hs
  pub few : length hs ≡ length gs
  pub parts : AreMade multi deep before hs
  pub kinds : list_any (λ p. is_deep p.kind) hs ≡ list_any (λ g. is_deep g.0) gs

parts_made : (multi deep : Bool) (before : List Header) (gs : List Given) (y : List Header) → parts_given (record { multi = multi; deep = deep }) before gs ≡ Ok y → Made multi deep before gs y
unfolding parts_given
parts_made multi deep before [] y e =
    record { hs = []; all = sym (ok_is before y e) ∙ sym (append-nil before); few = refl; parts = tt; kinds = refl }
parts_made multi deep before (g ∷ gs) y e =
    let flags : Flags = record { multi = multi; deep = deep } in
    let a = bind_ok (part_given flags before g) (λ part. parts_given flags (before ++ part ∷ []) gs) y e in
    let first = from_given multi deep before g a.0 a.1 in
    let others = parts_made multi deep (before ++ a.0 ∷ []) gs y a.2 in
    record {
      hs = a.0 ∷ others.hs;
      all = others.all ∙ append_assoc before (a.0 ∷ []) others.hs;
      few = omega (arith, others.few);
      parts = (first.made, others.parts);
      kinds = ap (λ (k : PartKind). is_deep k || list_any (λ p. is_deep p.kind) others.hs) first.kind ∙ ap (λ (b : Bool). is_deep g.0 || b) others.kinds;
    }

many_made : (deep : Bool) (word : ℕ) (before hs : List Header) → has_bit 4096 word ≡ true → AreMade true deep before hs → AreJudged word before hs
many_made deep word before [] e m = tt
many_made deep word before (h ∷ hs) e m =
    let p = many_given deep (has_bit 512 word) before h m.0 in
    let q : part_by true (has_bit 2048 word) (has_bit 512 word) before h.attributes ≡ Ok h =
    part_by_multi (has_bit 2048 word) deep (has_bit 512 word) (has_bit 512 word) before h.attributes ∙ p in
    (part_under word true (has_bit 2048 word) (has_bit 512 word) before h.attributes h e refl refl q, many_made deep word (before ++ h ∷ []) hs e m.1)

one_made : (deep : Bool) (word : ℕ) (parts : List Header) → length parts ≡ 1 → deep ≡ list_any (λ p. is_deep p.kind) parts → WriterBits false parts word → AreMade false deep [] parts → AreJudged word [] parts
one_made deep word [] one d b m = absurd (omega (arith, one))
one_made deep word (h ∷ []) one d b m =
    let e : deep ≡ is_deep h.kind = d ∙ or_false (is_deep h.kind) in
    let k : IsMade false (is_deep h.kind) [] h = subst (λ (x : Bool). IsMade false x [] h) e m.0 in
    (alone_under word h b (alone_given h.kind [] h.attributes h k.typed k.passes), tt)
one_made deep word (h ∷ k ∷ hs) one d b m = absurd (omega (arith, one))

made_under : (multi deep : Bool) (word : ℕ) (parts : List Header) → (multi ≡ false → length parts ≡ 1) → deep ≡ list_any (λ p. is_deep p.kind) parts → WriterBits multi parts word → AreMade multi deep [] parts → AreJudged word [] parts
made_under true deep word parts one d b m = many_made deep word [] parts b.flag m
made_under false deep word parts one d b m = one_made deep word parts (one refl) d b m

-- a head of given parts is spelled by a writer
pub given_spelled : (multi : Bool) (gs : List Given) (parts : List Header) → 1 ≤ length gs → (multi ≡ false → length gs ≡ 1) → length gs ≤ 1024 → parts_given (flags_given multi gs) [] gs ≡ Ok parts → AreHeaders parts
    → length (head_spelling (record { multi = multi; parts = parts })) ≤ 2 ^ 24 → Spells (head_spelling (record { multi = multi; parts = parts })) (record { multi = multi; parts = parts })
given_spelled multi gs parts some one few given headers short =
    let deep = list_any (λ g. is_deep g.0) gs in
    let h : Head = record { multi = multi; parts = parts } in
    let m = parts_made multi deep [] gs parts given in
    let same : m.hs ≡ parts = sym m.all in
    let count : length parts ≡ length gs = ap length m.all ∙ m.few in
    let alone : multi ≡ false → length parts ≡ 1 = λ f. count ∙ one f in
    let kinds : deep ≡ list_any (λ p. is_deep p.kind) parts = sym m.kinds ∙ ap (λ (l : List Header). list_any (λ p. is_deep p.kind) l) same in
    let b = bits_of_head h in
    record {
      word = version_of h;
      here = refl;
      version = (writer_bits h).version;
      multi = b.flag;
      headers = headers;
      judged = made_under multi deep (version_of h) parts alone kinds b (subst (AreMade multi deep []) same m.parts);
      some = omega (arith, count, some);
      one = alone;
      few = omega (arith, count, few);
      short = short;
    }
