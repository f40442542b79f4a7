-- A head has few chunks: each part was judged with those before it.
use Rattle.std.proofs.Common.{◌≡◌, ℕ, ◌+◌, ◌≤◌, ◌^◌, Bool, true, false, List, [], ◌∷◌, ◌++◌, length, Ok, sum_by, refl, subst, arith}
use Rattle.std.specs.Prelude.{nat_le}
use Rattle.std.proofs.lemmas.Bool.Decides.{nat_tests}
use Rattle.std.proofs.lemmas.List.{append-nil, append_assoc}
use Rattle.std.proofs.lemmas.List.Sums.{sum_by-append}
use Rattle.exr_base.specs.Refusal.{◌>>=◌}
use Rattle.exr_attributes.specs.declared.fault.HeaderFault.{HeaderFault}
use Rattle.exr_attributes.specs.declared.fault.HeaderFault.TheVariants.{Limit}
use Rattle.exr_attributes.specs.declared.fault.Bound.TheVariants as bound
use Rattle.exr_attributes.specs.declared.attribute.Entry.{Entry}
use Rattle.exr_attributes.proofs.Texts.{bind_ok}
use Rattle.exr_judge.specs.declared.header.Header.{Header}
use Rattle.exr_judge.specs.Picture.{chunk_count_of, raw_chunk_of}
use Rattle.exr_judge.specs.Judging.{tested, judged, header_judged, samplings_judged, version_judged, sizes_judged, count_judged, name_judged}
use Rattle.exr_header.specs.Head.{Head, flags_of, kind_read, part_read}
use Rattle.exr_header.specs.Spells.{AreJudged, IsHead}
use Rattle.exr_header.proofs.Judged.{passed_from}

pub passed_test : (b : Bool) (f : HeaderFault) (u : Unit {0}) → tested b f ≡ Ok u → b ≡ true
passed_test true f u e = refl
passed_test false f u e = absurd cc

pub is_within : (m n : ℕ) → nat_le m n ≡ true → m ≤ n
is_within m n e = grind (arith, nat_tests)

sizes_few : (earlier : List Header) (h : Header) (u : Unit {0}) → sizes_judged earlier h ≡ Ok u → sum_by chunk_count_of earlier + chunk_count_of h ≤ 2 ^ 20
unfolding sizes_judged
sizes_few earlier h u e =
    let m = sum_by chunk_count_of earlier + chunk_count_of h in
    let a = bind_ok (tested (nat_le m (2 ^ 20)) (Limit bound.Chunks)) (λ few. tested (nat_le (raw_chunk_of h) (2 ^ 26)) (Limit bound.RawChunk)) u e in
    is_within m (2 ^ 20) (passed_test (nat_le m (2 ^ 20)) (Limit bound.Chunks) a.0 a.1)

header_few : (word : ℕ) (earlier : List Header) (h : Header) (u : Unit {0}) → header_judged (flags_of word) earlier h ≡ Ok u → sum_by chunk_count_of earlier + chunk_count_of h ≤ 2 ^ 20
unfolding header_judged
header_few word earlier h u e =
    let flags = flags_of word in
    let part = length earlier in
    let a = bind_ok (samplings_judged part h) (λ s. version_judged part h >>= λ v. sizes_judged earlier h >>= λ z. count_judged flags part h >>= λ n. name_judged flags earlier h) u e in
    let b = bind_ok (version_judged part h) (λ v. sizes_judged earlier h >>= λ z. count_judged flags part h >>= λ n. name_judged flags earlier h) u a.2 in
    let c = bind_ok (sizes_judged earlier h) (λ z. count_judged flags part h >>= λ n. name_judged flags earlier h) u b.2 in
    sizes_few earlier h c.0 c.1

read_few : (word : ℕ) (before : List Header) (es : List Entry) (h : Header) → part_read word before es ≡ Ok h → sum_by chunk_count_of before + chunk_count_of h ≤ 2 ^ 20
unfolding part_read
read_few word before es h e =
    let a = bind_ok (kind_read word (length before) es) (λ kind. judged (flags_of word) before kind es) h e in
    let p = passed_from (flags_of word) before a.0 es h a.2 in
    header_few word before h p.unit p.header

judged_few : (word : ℕ) (before hs : List Header) → sum_by chunk_count_of before ≤ 2 ^ 20 → AreJudged word before hs → sum_by chunk_count_of (before ++ hs) ≤ 2 ^ 20
judged_few word before [] few j = rw (append-nil before) few
judged_few word before (h ∷ hs) few j =
    let one : sum_by chunk_count_of (before ++ h ∷ []) ≤ 2 ^ 20 = omega (arith, sum_by-append chunk_count_of before (h ∷ []), read_few word before h.attributes h j.0) in
    subst (λ l. sum_by chunk_count_of l ≤ 2 ^ 20) (append_assoc before (h ∷ []) hs) (judged_few word (before ++ h ∷ []) hs one j.1)

pub head_few : (h : Head) → IsHead h → sum_by chunk_count_of h.parts ≤ 2 ^ 20
head_few h head = judged_few head.spelled.word [] h.parts (omega arith) head.spelled.judged
