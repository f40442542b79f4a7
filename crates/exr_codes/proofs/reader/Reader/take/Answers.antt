use Rattle.std.proofs.Common.{◌≡◌, ◌-◌, ◌*◌, length, refl, ap, ◌∙◌, arith}
use Rattle.exr_codes.proofs.Rests.{length-bits_from, number_from_window}
use Rattle.exr_codes.proofs.reader.Reader.take.Goals as goal
use Rattle.exr_codes.proofs.reader.Reader.take.Goals.{then-self-n-2, else-self-n-2}

pub returns-then-self-n-clause-none : goal.returns-then-self-n-clause-none
returns-then-self-n-clause-none c =
    let w = c.self.inside.window in
    let size : length c.args.self.now ≡ 8 * length w.bytes.now - w.at = rw (← c.self.view_is) (length-bits_from w.bytes.now w.at) in
    (λ none. omega (arith, size, c.if-self-n.true), λ less. refl)

pub returns-clause-none : goal.returns-clause-none
returns-clause-none c =
    let w = c.self.inside.window in
    let size : length c.args.self.now ≡ 8 * length w.bytes.now - w.at = rw (← c.self.view_is) (length-bits_from w.bytes.now w.at) in
    (λ none. absurd cc, λ less. absurd (omega (arith, size, c.if-self-n.false)))

pub returns-clause-value : goal.returns-clause-value
returns-clause-value c =
    let w = c.self.inside.window in
    let n = c.args.n in
    elim c.if-self-n-2.branch [
      | then-self-n-2 v ↦
          let bytes = ap (λ x. x.window.bytes.now) v.self-inside-is ∙ v.refill.ensures.bytes in
          let at = ap (λ x. x.window.at) v.self-inside-is ∙ v.refill.ensures.at in
          let have = ap (λ x. x.window.have) v.self-inside-is ∙ v.refill.ensures.have in
          let z = c.if-self-n-2.self-inside.window in
          rw (← c.self.view_is, ← bytes, ← at) (number_from_window z.bytes.now z.at z.have z.window n (rw (bytes, at) (omega (arith, c.if-self-n.false))) (omega (arith, have)) z.filled)
      | else-self-n-2 v ↦
          let bytes = ap (λ x. x.window.bytes.now) v.self-inside-is in
          let at = ap (λ x. x.window.at) v.self-inside-is in
          let have = ap (λ x. x.window.have) v.self-inside-is in
          let z = c.if-self-n-2.self-inside.window in
          rw (← c.self.view_is, ← bytes, ← at) (number_from_window z.bytes.now z.at z.have z.window n (rw (bytes, at) (omega (arith, c.if-self-n.false))) (omega (arith, have, v.if-self-n-2.false)) z.filled)
    ]
