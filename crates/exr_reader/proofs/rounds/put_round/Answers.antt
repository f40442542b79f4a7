-- The chunks of a round, one after the other.
use Rattle.std.proofs.Common.{rules, ◌≡◌, ◌+◌, ◌<◌, ℕ, List, [], length, map, slice_index_or, Ok, sym, ap, subst, ◌∙◌, arith}
use Rattle.std.proofs.lemmas.List.{length-map}
use Rattle.exr_block.specs.Body.{flat_content}
use Rattle.exr_chunks.specs.Region.{header_at}
use Rattle.exr_reader.specs.Window.{target_of, ArePut}
use Rattle.exr_reader.proofs.Filling.{ground, put_next}
use Rattle.exr_reader.proofs.InRounds.{item_at}
use Rattle.exr_reader.proofs.rounds.put_round.Goals as goal

pub loop-k-preserved : goal.loop-k-preserved
loop-k-preserved g c =
    let s = c.args.stream.now in
    let t = target_of g.S.Source.means s c.args.target.now.part c.args.target.now.layout.now c.args.target.now.plan.now in
    let h = header_at s.head.parts c.args.target.now.part in
    let chunks = c.args.chunks.now in
    let raws = c.args.raws.now in
    let k = c.loop-k.k in
    let n = c.args.from + k in
    let raw = c.as_slice.result.now in
    let lt : k < length raws = c.loop-k-test.true in
    let there : n < length chunks = let w = c.requires.within in omega (arith, lt, w) in
    let base = ground h c.args.target.now.layout.now c.args.target.now.plan.now c.requires.picture c.requires.window c.requires.plan c.requires.valid in
    record {
      put = λ told first p.
          let is : raw ≡ slice_index_or (map (λ raw. raw.items) raws) k [] = c.as_slice.ensures.value ∙ item_at raws k c.index-raws-k.result lt c.index-raws-k.is in
          let size : k < length (map (λ raw. raw.items) raws) = let m = length-map raws (λ raw. raw.items) in omega (arith, lt, m) in
          let chunk = c.requires.raws.bytes told k size ∙ ap (λ (r : List ℕ). Ok (flat_content r)) (sym is) in
          let next : n + 1 ≡ c.args.from + (k + 1) = omega arith in
          subst (λ m. ArePut t chunks m first c.put_chunk.new.into) next
          (put_next t chunks n raw first c.loop-k.into c.put_chunk.new.into base there (c.requires.chunks n there) chunk c.put_chunk.ensures (c.loop-k.invariant.put told first p));
      size = search rules;
    }

pub returns : goal.returns
returns g c = λ told first p.
    let t = target_of g.S.Source.means c.args.stream.now c.args.target.now.part c.args.target.now.layout.now c.args.target.now.plan.now in
    let end : c.args.from + c.loop-k.k ≡ c.args.from + length c.args.raws.now = omega (arith, c.loop-k-test.false, c.loop-k.auto.k-end) in
    subst (λ m. ArePut t c.args.chunks.now m first c.loop-k.into) end (c.loop-k.invariant.put told first p)
