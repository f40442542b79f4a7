-- Chunks read and put round by round.
use Rattle.std.proofs.Common.{◌≡◌, ℕ, ◌+◌, ◌-◌, ◌*◌, ◌/◌, ◌<◌, ◌≤◌, Vec, Global, get_or, List, [], ◌∷◌, ◌++◌, length, map, slice_index, slice_index_or, Ok, Err, IsTrue, inl, inr, sym, ap, ◌∙◌, subst, arith}
use Rattle.std.proofs.lemmas.Bool.{cases_lt}
use Rattle.std.proofs.lemmas.Nat.{mul-le, div-add-mod', mod_below, div-mul-add}
use Rattle.std.proofs.lemmas.List.{get_or-map, get_or_append_left, get_or_push, length_push}
use Rattle.exr_base.specs.Shape.{raw_size_of}
use Rattle.exr_block.specs.declared.fault.ChunkFault.{ChunkFault}
use Rattle.exr_block.specs.Body.{flat_content}
use Rattle.exr_chunks.specs.Region.{region_of}
use Rattle.exr_outside.specs.Source.{SourceMeaning}
use Rattle.exr_stream.specs.Chunk.{Opened, header_in}
use Rattle.exr_stream.specs.Stream.{StreamView, file_of, IsSameStream}
use Rattle.exr_reader.specs.declared.cause.ReadCause.{ReadCause}
use Rattle.exr_reader.specs.declared.cause.ReadCause.TheVariants as why
use Rattle.exr_reader.specs.Sample.{raw_of}
use Rattle.exr_reader.specs.Reading.{HasData, HasCause}
use Rattle.exr_reader.proofs.Same.{file_same}
use Rattle.exr_reader.specs.Window.{AreRaw, HaveDataOf, IsFaultFrom, IsStopAt}

-- ---- a round that is read

pub raw_none : (told : Type 0) (file : Opened) (part : ℕ) (chunks : List ℕ) (from : ℕ) → AreRaw told file part chunks from []
raw_none told file part chunks from = record {
  sizes = λ k lt. absurd (omega (arith, lt));
  bytes = λ t k lt. absurd (omega (arith, lt));
}

pub raw_more : (told : Type 0) (file : Opened) (part : ℕ) (chunks : List ℕ) (from rank : ℕ) (raws : List (List ℕ)) (raw : List ℕ) → rank ≡ from + length raws
    → length raw ≡ raw_size_of (header_in file part).channels (region_of (header_in file part) (slice_index chunks rank))
    → (told → raw_of file part (slice_index chunks rank) ≡ Ok (flat_content raw))
    → AreRaw told file part chunks from raws → AreRaw told file part chunks from (raws ++ raw ∷ [])
raw_more told file part chunks from rank raws raw here size bytes are =
    let h = header_in file part in
    let more = length_push raws raw in
    record {
      sizes = λ k lt. elim (cases_lt k (length raws)) [
        | inl before ↦ ap length (get_or_append_left raws (raw ∷ []) [] k before) ∙ are.sizes k before
        | inr le ↦
            let last : k ≡ length raws = omega (arith, le, lt, more) in
            let at : from + k ≡ rank = omega (arith, last, here) in
            ap length (get_or_push raws raw [] k (sym last)) ∙ size ∙ ap (λ r. raw_size_of h.channels (region_of h (slice_index chunks r))) (sym at)
      ];
      bytes = λ t k lt. elim (cases_lt k (length raws)) [
        | inl before ↦ are.bytes t k before ∙ ap (λ (r : List ℕ). Ok (flat_content r)) (sym (get_or_append_left raws (raw ∷ []) [] k before))
        | inr le ↦
            let last : k ≡ length raws = omega (arith, le, lt, more) in
            let at : from + k ≡ rank = omega (arith, last, here) in
            ap (λ r. raw_of file part (slice_index chunks r)) at ∙ bytes t ∙ ap (λ (r : List ℕ). Ok (flat_content r)) (sym (get_or_push raws raw [] k (sym last)))
      ];
    }

-- what was read has data
pub raw_data : (told : Type 0) (file : Opened) (part : ℕ) (chunks : List ℕ) (from : ℕ) (raws : List (List ℕ)) → told → AreRaw told file part chunks from raws
    → (r : ℕ) → from ≤ r → r < from + length raws → HasData file part (slice_index chunks r)
raw_data told file part chunks from raws t are r behind within =
    let k = r - from in
    let at : from + k ≡ r = omega (arith, behind) in
    let has = are.bytes t k (omega (arith, behind, within)) in
    (flat_content (slice_index_or raws k []), ap (λ m. raw_of file part (slice_index chunks m)) (sym at) ∙ has)

-- the bytes of an item of a list of vectors
pub item_at : (raws : List (Vec ℕ Global)) (k : ℕ) (v : Vec ℕ Global) → k < length raws → v ≡ get_or raws k v → v.items ≡ slice_index_or (map (λ raw. raw.items) raws) k []
item_at raws k v lt is = ap (λ (w : Vec ℕ Global). w.items) is ∙ sym (get_or-map (λ (raw : Vec ℕ Global). raw.items) raws k v [] lt)

-- ---- rounds

-- the data of the rounds so far and of one more
pub data_more : (file : Opened) (part : ℕ) (chunks : List ℕ) (from to : ℕ) → HaveDataOf file part chunks from
    → ((r : ℕ) → r < length chunks → from ≤ r → r < to → HasData file part (slice_index chunks r))
    → HaveDataOf file part chunks to
data_more file part chunks from to before here = λ r there within.
    elim (cases_lt r from) [
      | inl early ↦ before r there early
      | inr le ↦ here r there le within
    ]

-- a round's fault is the first of all
pub stop_at : (file : Opened) (part : ℕ) (chunks : List ℕ) (round rounds to i : ℕ) (fault : ChunkFault) → 0 < round → to ≤ length chunks → to ≤ rounds * round + round
    → HaveDataOf file part chunks (rounds * round) → IsFaultFrom file part chunks (rounds * round) to i fault
    → IsStopAt file part chunks round rounds i fault
stop_at file part chunks round rounds to i fault some there most before bad =
    let k = bad.rank - rounds * round in
    let low : k < round = let w = bad.within in omega (arith, w, most, bad.behind, some) in
    let is : bad.rank ≡ rounds * round + k = omega (arith, bad.behind) in
    record {
      rank = bad.rank;
      first = record {
        within = let w = bad.within in omega (arith, w, there);
        index = bad.index;
        found = bad.found;
        before = data_more file part chunks (rounds * round) bad.rank before (λ r there behind early. bad.before r behind early);
      };
      rounds_before = sym (ap (λ n. n / round) is ∙ div-mul-add rounds round k low);
    }

-- ---- causes

-- what a cause says of one call, said of more
pub cause_by : (cause : ReadCause) (P Q : ℕ → ChunkFault → Type 0) (rose rose' : Type 0) → ((n : ℕ) (fault : ChunkFault) → P n fault → Q n fault) → (rose → rose') → HasCause cause P rose → HasCause cause Q rose'
cause_by why.NoMemory P Q rose rose' f up has = has
cause_by why.Read P Q rose rose' f up has = up has
cause_by (why.Chunk index fault) P Q rose rose' f up has = f index fault has

-- the fault of the chunk that is read next
pub fault_here : (told : Type 0) (file : Opened) (part : ℕ) (chunks : List ℕ) (from to rank i n : ℕ) (raws : List (List ℕ)) (fault : ChunkFault) → told → rank ≡ from + length raws → rank < to → i ≡ slice_index chunks rank
    → AreRaw told file part chunks from raws → n ≡ i → raw_of file part i ≡ Err fault → IsFaultFrom file part chunks from to n fault
fault_here told file part chunks from to rank i n raws fault t here within at are is found = record {
  rank = rank;
  behind = omega (arith, here);
  within = within;
  index = sym at ∙ sym is;
  found = ap (λ m. raw_of file part m) is ∙ found;
  before = λ r behind early. raw_data told file part chunks from raws t are r behind (omega (arith, early, here));
}

-- ---- how many rounds

-- a round that is begun has a chunk
pub round_begun : (q n size : ℕ) → 1 ≤ size → q < (n + size - 1) / size → q * size < n
round_begun q n size some lt =
    let whole = div-add-mod' (n + size - 1) size in
    let more : (q + 1) * size ≤ (n + size - 1) / size * size = mul-le (q + 1) size ((n + size - 1) / size) size (omega (arith, lt)) (omega arith) in
    omega (arith, whole, more, some)

-- all rounds have all chunks
pub rounds_ended : (q n size : ℕ) → 1 ≤ size → (n + size - 1) / size ≤ q → n ≤ q * size
rounds_ended q n size some le =
    let whole = div-add-mod' (n + size - 1) size in
    let rest = mod_below (n + size - 1) size (omega (arith, some)) in
    let more : (n + size - 1) / size * size ≤ q * size = mul-le ((n + size - 1) / size) size q size le (omega arith) in
    omega (arith, whole, rest, more, some)

-- ---- of the same file

-- what is said of a stream's file, of a later stream of it
pub carried : {S : Type 0} (means : SourceMeaning S) (old new : StreamView S) (P : Opened → Type 0) → IsSameStream means old new → IsTrue means.tells → P (file_of means old) → P (file_of means new)
carried means old new P same told has = subst P (sym (file_same means old new same told)) has

-- and of the earlier one
pub carried_back : {S : Type 0} (means : SourceMeaning S) (old new : StreamView S) (P : Opened → Type 0) → IsSameStream means old new → IsTrue means.tells → P (file_of means new) → P (file_of means old)
carried_back means old new P same told has = subst P (file_same means old new same told) has
