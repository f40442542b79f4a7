-- Round after round.
use Rattle.std.proofs.Common.{rules, ◌≡◌, ◌+◌, ◌*◌, ◌<◌, ◌≤◌, ℕ, List, length, map, slice_index, IsTrue, ap, arith}
use Rattle.std.proofs.lemmas.List.{length-map}
use Rattle.exr_outside.specs.Count.{Rose}
use Rattle.exr_stream.specs.Chunk.{Opened}
use Rattle.exr_stream.specs.Stream.{file_of}
use Rattle.exr_reader.specs.Reading.{HasData}
use Rattle.exr_reader.specs.Window.{Target, target_of, ArePut, IsFaultFrom, IsStopAt}
use Rattle.exr_reader.proofs.Same.{same_still}
use Rattle.exr_reader.proofs.Filling.{put_as_far}
use Rattle.exr_reader.proofs.InRounds.{raw_data, data_more, stop_at, cause_by, round_begun, rounds_ended, carried, carried_back}
use Rattle.exr_reader.proofs.rounds.read_rounds.Goals as goal

pub returns-in-Err-clause-cause : goal.returns-in-Err-clause-cause
returns-in-Err-clause-cause g c =
    let means = g.S.Source.means in
    let s = c.args.stream.now in
    let file = file_of means s in
    let part = c.args.target.now.part in
    let chunks = c.args.chunks.now in
    let q = c.loop-rounds.rounds in
    let way = c.loop-rounds.invariant in
    cause_by c.in-Err.cause _ (λ n fault. IsTrue means.tells → IsStopAt file part chunks c.args.round q n fault)
    _ (Rose (means.faults s.source) (means.faults c.read_round.new.stream.source))
    (λ n fault has told.
    stop_at file part chunks c.args.round q c.min-to.result n fault c.requires.round (let least = c.min-to.ensures in omega (arith, least)) (let least = c.min-to.ensures in omega (arith, least)) (way.chunks told)
    (carried_back means s c.loop-rounds.stream (λ (file : Opened). IsFaultFrom file part chunks (q * c.args.round) c.min-to.result n fault) way.same told (has told)))
    (λ rose. let later = way.later in omega (arith, rose, later))
    c.in-Err.ensures.cause

pub loop-rounds-preserved : goal.loop-rounds-preserved
loop-rounds-preserved g c =
    let means = g.S.Source.means in
    let s = c.args.stream.now in
    let t = c.read_round.new.stream in
    let part = c.args.target.now.part in
    let target = λ (file : Opened). (let whole : Target = record { file = file; part = part; frame = c.args.target.now.layout.now; places = c.args.target.now.plan.now.channels } in whole) in
    let chunks = c.args.chunks.now in
    let size = c.args.round in
    let q = c.loop-rounds.rounds in
    let from = q * size in
    let to = c.min-to.result in
    let raws = c.in-Ok.raws in
    let way = c.loop-rounds.invariant in
    let same = same_still means s c.loop-rounds.stream t way.same c.read_round.ensures.same in
    let begun : from < length chunks = round_begun q (length chunks) size c.requires.round (let count = c.round_count-rounds-end.ensures in let lt = c.loop-rounds-test.true in omega (arith, count, lt)) in
    let least = c.min-to.ensures in
    let raw_count : length c.as_slice.result.now ≡ length raws.items = ap length c.as_slice.ensures.value in
    let many : from + length c.as_slice.result.now ≡ to = let m = c.in-Ok.ensures.many in omega (arith, m, raw_count, least, begun) in
    let there : (r : ℕ) → r < length chunks → r < from + length c.as_slice.result.now → r < (q + 1) * size = λ r in_list early. omega (arith, least, many, early, in_list) in
    let back : (r : ℕ) → r < length chunks → r < (q + 1) * size → r < from + length c.as_slice.result.now = λ r in_list early. omega (arith, least, many, early, in_list) in
    let P : ℕ → List ℕ → Opened → Type 0 = λ n new file. ArePut (target file) chunks n c.args.into.now new in
    record {
      put = λ told.
          put_as_far (target (file_of means s)) chunks (from + length c.as_slice.result.now) ((q + 1) * size) c.args.into.now c.put_round.new.into there back
          (carried_back means s t (P (from + length c.as_slice.result.now) c.put_round.new.into) same told
          (c.put_round.ensures told c.args.into.now (carried means s t (P from c.loop-rounds.into) same told (way.put told))));
      chunks = λ told.
          data_more (file_of means s) part chunks from ((q + 1) * size) (way.chunks told)
          (λ r in_list behind early. carried_back means s c.loop-rounds.stream (λ (file : Opened). HasData file part (slice_index chunks r)) way.same told
          (raw_data (IsTrue means.tells) (file_of means c.loop-rounds.stream) part chunks from (map (λ raw. raw.items) raws.items) told c.in-Ok.ensures.raws r behind (let m = length-map raws.items (λ raw. raw.items) in let n = c.in-Ok.ensures.many in omega (arith, m, n, least, begun, early, in_list))));
      same = same;
      later = let a = way.later in let b = c.read_round.ensures.later in omega (arith, a, b);
      size = search rules;
      done = c.read_round.ensures.done;
    }

pub returns-clause-put : goal.returns-clause-put
returns-clause-put g c = λ told.
    let t = target_of g.S.Source.means c.args.stream.now c.args.target.now.part c.args.target.now.layout.now c.args.target.now.plan.now in
    let chunks = c.args.chunks.now in
    let q = c.loop-rounds.rounds in
    let all : length chunks ≤ q * c.args.round = rounds_ended q (length chunks) c.args.round c.requires.round (let count = c.round_count-rounds-end.ensures in let ge = c.loop-rounds-test.false in omega (arith, count, ge)) in
    put_as_far t chunks (q * c.args.round) (length chunks) c.args.into.now c.loop-rounds.into (λ r there early. there) (λ r there early. omega (arith, all, there)) (c.loop-rounds.invariant.put told)
