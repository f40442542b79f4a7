-- A fault of the chunk that is read next is the round's first.
use Rattle.std.proofs.Common.{IsTrue, map, slice_index, refl, sym, ap, ◌∙◌, arith}
use Rattle.std.proofs.lemmas.List.{length-map}
use Rattle.exr_outside.specs.Count.{Rose}
use Rattle.exr_stream.specs.Chunk.{Opened}
use Rattle.exr_stream.specs.Stream.{file_of}
use Rattle.exr_reader.specs.Sample.{raw_of}
use Rattle.exr_reader.specs.Window.{IsFaultFrom}
use Rattle.exr_reader.proofs.Same.{file_same}
use Rattle.exr_reader.proofs.InRounds.{cause_by, fault_here}
use Rattle.exr_reader.proofs.rounds.read_round.Goals as goal

pub returns-in-Err-clause-cause : goal.returns-in-Err-clause-cause
returns-in-Err-clause-cause g c =
    let means = g.S.Source.means in
    let s = c.args.stream.now in
    let file = file_of means s in
    let rank = c.loop-rank.rank in
    let i = slice_index c.args.chunks.now rank in
    let way = c.loop-rank.invariant in
    cause_by c.in-Err.cause _ (λ n fault. IsTrue means.tells → IsFaultFrom file c.args.part c.args.chunks.now c.args.from c.args.to n fault)
    _ (Rose (means.faults s.source) (means.faults c.read_bytes-raw.new.stream.source))
    (λ n fault has told.
    fault_here (IsTrue means.tells) file c.args.part c.args.chunks.now c.args.from c.args.to rank i n (map (λ raw. raw.items) c.loop-rank.raws.items) fault
    told (let size = length-map c.loop-rank.raws.items (λ raw. raw.items) in let many = way.many in omega (arith, size, many)) c.loop-rank-test.true refl way.raws has.0 (sym (ap (λ (f : Opened). raw_of f c.args.part i) (file_same means s c.loop-rank.stream way.same told)) ∙ has.1 told))
    (λ rose. let later = way.later in omega (arith, rose, later))
    c.in-Err.ensures.cause
