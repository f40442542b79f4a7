use Rattle.std.proofs.Common.{◌≡◌, ◌+◌, ℕ, List, length, IsTrue}
use Rattle.exr_reader.specs.Window.{target_of, ArePut}
use Rattle.exr_reader.proofs.rounds.put_round.Given as goal

-- as many chunks more were put
abbrev pub invariant-loop-k : goal.invariant-loop-k
invariant-loop-k g l = record {
  put : IsTrue g.S.Source.means.tells → (first : List ℕ)
      → ArePut (target_of g.S.Source.means l.stream l.target.part l.target.layout.now l.target.plan.now) l.chunks l.from first l.initial.into
      → ArePut (target_of g.S.Source.means l.stream l.target.part l.target.layout.now l.target.plan.now) l.chunks (l.from + l.k) first l.into;
  size : length l.into ≡ l.target.layout.now.buffer;
}
