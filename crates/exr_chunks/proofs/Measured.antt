-- The headers of a head were measured: their samplings fit, and their first chunks are small.
use Rattle.std.proofs.Common.{◌≡◌, ℕ, ◌+◌, ◌≤◌, ◌^◌, Bool, true, false, cond, not, List, [], ◌∷◌, ◌++◌, length, Option, Some, None, Result, Ok, Err, sum_by, eqb, refl, sym, subst}
use Rattle.std.specs.Prelude.{IsTrue, All, nat_le}
use Rattle.std.specs.List.{position_from}
use Rattle.std.proofs.lemmas.List.Elements.{All-nil, All-cons}
use Rattle.exr_base.specs.Refusal.{◌>>=◌}
use Rattle.exr_base.specs.declared.channel.Channel.{Channel}
use Rattle.exr_base.specs.declared.method.Method.{Method}
use Rattle.exr_base.specs.declared.shape.Box2i.{Box2i}
use Rattle.exr_attributes.specs.declared.fault.HeaderFault.{HeaderFault}
use Rattle.exr_attributes.specs.declared.fault.HeaderFault.TheVariants.{BadTiles, Limit, Levels}
use Rattle.exr_attributes.specs.declared.fault.Field.TheVariants as field
use Rattle.exr_attributes.specs.declared.fault.Bound.TheVariants as bound
use Rattle.exr_attributes.specs.declared.attribute.Entry.{Entry}
use Rattle.exr_attributes.proofs.Takes.{ok_is}
use Rattle.exr_attributes.proofs.Texts.{bind_ok}
use Rattle.exr_judge.specs.declared.kind.PartKind.{PartKind}
use Rattle.exr_judge.specs.declared.kind.LineOrder.{LineOrder}
use Rattle.exr_judge.specs.declared.kind.Tiles.{Tiles}
use Rattle.exr_judge.specs.Fields.{value_of}
use Rattle.exr_judge.specs.Kind.{is_tiled}
use Rattle.exr_judge.specs.Picture.{tiles_of, is_tiles}
use Rattle.exr_judge.specs.Judging.{tested, sampling_fault, tiles_judged, picture_of, judged, header_judged, samplings_judged, version_judged, sizes_judged, count_judged, name_judged}
use Rattle.exr_header.specs.Head.{Head, flags_of, kind_read, part_read}
use Rattle.exr_header.specs.Spells.{AreJudged, IsHead}
use Rattle.exr_header.proofs.Judged.{passed_from}
use Rattle.exr_chunks.specs.Heads.{Header, is_sampled_well, chunk_count_of, raw_chunk_of}
use Rattle.exr_chunks.specs.Part.{without_attributes}
use Rattle.exr_chunks.specs.Sizes.{AreSampledWell, IsMeasured}
use Rattle.exr_chunks.proofs.Few.{passed_test, is_within}

-- where no channel fails a test, all pass it
all_pass : (t : Channel → Bool) (i : ℕ) (cs : List Channel) → position_from (λ c. not (t c)) i cs ≡ None → All (λ c. IsTrue (t c)) cs
all_pass t i [] e = All-nil (λ c. IsTrue (t c))
all_pass t i (c ∷ cs) e =
    let P : Bool → Type 0 = λ b. t c ≡ b → cond (not b) (Some i) (position_from (λ c. not (t c)) (i + 1) cs) ≡ None → All (λ c. IsTrue (t c)) (c ∷ cs) in
    (elim (t c) as P [
      | true ↦ λ here rest. All-cons (λ c. IsTrue (t c)) c cs here (all_pass t (i + 1) cs rest)
      | false ↦ λ here rest. absurd cc
    ]) refl e

no_fault : (part : ℕ) (found : Option ℕ) (u : Unit {0}) → sampling_fault part found ≡ Ok u → found ≡ None
no_fault part None u e = refl
no_fault part (Some channel) u e = absurd cc

well_sampled : (part : ℕ) (h : Header) (u : Unit {0}) → samplings_judged part h ≡ Ok u → AreSampledWell h
unfolding samplings_judged
well_sampled part h u e =
    all_pass (is_sampled_well h) 0 h.channels (no_fault part (position_from (λ c. not (is_sampled_well h c)) 0 h.channels) u e)

first_small : (earlier : List Header) (h : Header) (u : Unit {0}) → sizes_judged earlier h ≡ Ok u → raw_chunk_of h ≤ 2 ^ 26
unfolding sizes_judged
first_small earlier h u e =
    let m = sum_by chunk_count_of earlier + chunk_count_of h in
    let a = bind_ok (tested (nat_le m (2 ^ 20)) (Limit bound.Chunks)) (λ few. tested (nat_le (raw_chunk_of h) (2 ^ 26)) (Limit bound.RawChunk)) u e in
    is_within (raw_chunk_of h) (2 ^ 26) (passed_test (nat_le (raw_chunk_of h) (2 ^ 26)) (Limit bound.RawChunk) u a.2)

-- only the kinds in tiles have tiles
untiled : (part : ℕ) (kind : PartKind) (t : Tiles) (found : Option Tiles) → tiles_judged part kind t ≡ Ok found → is_tiled kind ≡ false → found ≡ None
unfolding tiles_judged
untiled part kind t found e flat =
    let P : Bool → Type 0 = λ b. cond (not b) (Ok None) (cond (not (is_tiles t)) (Err (BadTiles part)) (cond (eqb t.mode 0) (Ok (Some t)) (Err (Levels part)))) ≡ Ok found in
    sym (ok_is None found (subst P flat e))

lines_made : (part : ℕ) (kind : PartKind) (es : List Entry) (v : Tiles) (c : Result (List Channel) HeaderFault) (m : Result Method HeaderFault) (o : Result LineOrder HeaderFault) (w : Result Box2i HeaderFault) (y : Header)
    → (c >>= λ channels. m >>= λ method. o >>= λ order. w >>= λ window. tiles_judged part kind v >>= λ tiles. Ok (record { attributes = es; kind = kind; channels = channels; method = method; window = window; order = order; tiles = tiles })) ≡ Ok y → is_tiled y.kind ≡ false → y.tiles ≡ None
lines_made part kind es v (Err f) m o w y e = absurd cc
lines_made part kind es v (Ok c) (Err f) o w y e = absurd cc
lines_made part kind es v (Ok c) (Ok m) (Err f) w y e = absurd cc
lines_made part kind es v (Ok c) (Ok m) (Ok o) (Err f) y e = absurd cc
lines_made part kind es v (Ok c) (Ok m) (Ok o) (Ok w) y e =
    let t = bind_ok (tiles_judged part kind v) (λ tiles. Ok (record { attributes = es; kind = kind; channels = c; method = m; window = w; order = o; tiles = tiles })) y e in
    let made : Header = record { attributes = es; kind = kind; channels = c; method = m; window = w; order = o; tiles = t.0 } in
    let same : made ≡ y = ok_is made y t.2 in
    subst (λ (h : Header). is_tiled h.kind ≡ false → h.tiles ≡ None) same (untiled part kind v t.0 t.1)

lines_untiled : (part : ℕ) (kind : PartKind) (es : List Entry) (y : Header) → picture_of part kind es ≡ Ok y → is_tiled y.kind ≡ false → y.tiles ≡ None
unfolding picture_of
lines_untiled part kind es y e = lines_made part kind es (tiles_of (value_of field.Tiles es)) _ _ _ _ y e

header_measured : (word : ℕ) (earlier : List Header) (h : Header) (u : Unit {0}) → header_judged (flags_of word) earlier h ≡ Ok u → (is_tiled h.kind ≡ false → h.tiles ≡ None) → IsMeasured h
unfolding header_judged
header_measured word earlier h u e lines =
    let flags = flags_of word in
    let part = length earlier in
    let a = bind_ok (samplings_judged part h) (λ s. version_judged part h >>= λ v. sizes_judged earlier h >>= λ z. count_judged flags part h >>= λ n. name_judged flags earlier h) u e in
    let b = bind_ok (version_judged part h) (λ v. sizes_judged earlier h >>= λ z. count_judged flags part h >>= λ n. name_judged flags earlier h) u a.2 in
    let c = bind_ok (sizes_judged earlier h) (λ z. count_judged flags part h >>= λ n. name_judged flags earlier h) u b.2 in
    record { sampled = well_sampled part h a.0 a.1; lines = lines; small = first_small earlier h c.0 c.1 }

read_measured : (word : ℕ) (before : List Header) (es : List Entry) (h : Header) → part_read word before es ≡ Ok h → IsMeasured h
unfolding part_read
read_measured word before es h e =
    let a = bind_ok (kind_read word (length before) es) (λ kind. judged (flags_of word) before kind es) h e in
    let p = passed_from (flags_of word) before a.0 es h a.2 in
    header_measured word before h p.unit p.header (lines_untiled (length before) a.0 es h p.picture)

judged_measured : (word : ℕ) (before hs : List Header) → AreJudged word before hs → All IsMeasured hs
judged_measured word before [] j = All-nil IsMeasured
judged_measured word before (h ∷ hs) j =
    All-cons IsMeasured h hs (read_measured word before h.attributes h j.0) (judged_measured word (before ++ h ∷ []) hs j.1)

pub head_measured : (h : Head) → IsHead h → All IsMeasured h.parts
head_measured h head = judged_measured head.spelled.word [] h.parts head.spelled.judged

-- attributes do not matter
pub bare_measured : (h : Header) → IsMeasured h → IsMeasured (without_attributes h)
unfolding raw_chunk_of
bare_measured h measured = record { sampled = measured.sampled; lines = measured.lines; small = measured.small }
