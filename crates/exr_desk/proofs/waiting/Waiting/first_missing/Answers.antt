use Rattle.std.proofs.Common.{ap, sym, ◌∙◌, arith}
use Rattle.std.proofs.lemmas.Bool.{false≢true}
use Rattle.exr_desk.specs.Waiting.{WaitingState}
use Rattle.exr_desk.specs.Accepted.{chunk_of}
use Rattle.exr_desk.proofs.Chunks.{none_from}
use Rattle.exr_desk.proofs.waiting.Waiting.first_missing.Goals as goal

pub returns-then-not-is_accepted-clause-some : goal.returns-then-not-is_accepted-clause-some
returns-then-not-is_accepted-clause-some c = record {
  below = omega (arith, c.loop-turn-test.true, c.len-turn-end.ensures, ap (λ (s : WaitingState). s.turns) c.self.view_is);
  missing = none_from (chunk_of c.args.self.now.accepted c.loop-turn.turn) (λ there. false≢true (sym c.if-not-is_accepted.true ∙ c.is_accepted.ensures.1 there));
  earlier = c.loop-turn.invariant;
}
