use Rattle.std.proofs.Common.{◌≡◌, ℕ, inl, inr, List, length, get_or, replicate, sym, ap, ◌∙◌, arith}
use Rattle.std.proofs.lemmas.Simd.{get_or-put_chunk_at, get_or-put_chunk_below, get_or-put_chunk_above, length-zip2, length-chunk}
use Rattle.std.proofs.lemmas.List.{get_or_append_left}
use lib.Lanes.{zip2, chunk}
use Rattle.exr_rle.proofs.Sixteen.{wrapping_sum, restored_at_place}
use Rattle.exr_rle.proofs.restore.restore_sixteen.Goals as goal

length-sums : (sums before : List ℕ) (b : ℕ) → length sums ≡ 16 → before ≡ replicate 16 b → length (zip2 wrapping_sum sums before) ≡ 16
length-sums sums before b long same = length-zip2 wrapping_sum sums before (long ∙ sym (ap length same)) ∙ long

pub with_first-requires : goal.with_first-requires
with_first-requires c =
    let long = length-chunk c.args.at 16 c.args.bytes.now c.requires.room in
    length-zip2 wrapping_sum (chunk c.args.at 16 c.args.bytes.now) (replicate 16 128) long ∙ long

pub returns-clause-restored : goal.returns-clause-restored
returns-clause-restored c k inside =
    let bytes = c.args.bytes.now in
    let before = c.args.before in
    let sums = c.with_eighth-sums.result in
    let long = length-sums sums before (get_or before 0 0) c.with_eighth-sums.ensures.long c.requires.lanes in
    get_or-put_chunk_at c.args.at bytes (zip2 wrapping_sum sums before) k 0 (omega arith) (omega (arith, c.requires.room))
    ∙ restored_at_place c.args.at (get_or before 0 0) bytes c.with_first.result c.with_second.result c.with_fourth.result sums before c.requires.room
    c.with_first.ensures c.with_second.ensures c.with_fourth.ensures c.with_eighth-sums.ensures c.requires.lanes k inside

pub returns-clause-others : goal.returns-clause-others
returns-clause-others c k outside =
    let bytes = c.args.bytes.now in
    let before = c.args.before in
    let sums = c.with_eighth-sums.result in
    let long = length-sums sums before (get_or before 0 0) c.with_eighth-sums.ensures.long c.requires.lanes in
    elim outside [
      | inl below ↦ get_or-put_chunk_below c.args.at bytes (zip2 wrapping_sum sums before) k 0 below
      | inr above ↦ get_or-put_chunk_above c.args.at bytes (zip2 wrapping_sum sums before) k 0 (omega arith)
    ]

pub returns-clause-carried : goal.returns-clause-carried
returns-clause-carried c =
    let before = c.args.before in
    let sums = c.with_eighth-sums.result in
    let restored = zip2 wrapping_sum sums before in
    let long = length-sums sums before (get_or before 0 0) c.with_eighth-sums.ensures.long c.requires.lanes in
    ap (replicate 16) (get_or_append_left restored restored 0 15 (omega arith)
    ∙ restored_at_place c.args.at (get_or before 0 0) c.args.bytes.now c.with_first.result c.with_second.result c.with_fourth.result sums before c.requires.room
    c.with_first.ensures c.with_second.ensures c.with_fourth.ensures c.with_eighth-sums.ensures c.requires.lanes 15 (omega arith))
