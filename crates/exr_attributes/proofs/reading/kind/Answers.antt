use Rattle.std.proofs.Common.{ℕ, ap, sym}
use Rattle.exr_attributes.specs.declared.fault.HeaderFault.TheVariants.{BadName}
use Rattle.exr_attributes.specs.Reading.{kind_at}
use Rattle.exr_attributes.proofs.Texts.{empty_text, stopped}
use Rattle.exr_attributes.proofs.reading.kind.Goals as goal

pub returns-in-None : goal.returns-in-None
unfolding kind_at
returns-in-None c =
    let empty = empty_text c.args.from.now c.text.new.from c.in_ok-text.text.items c.in_ok-text.ensures c.in-None.ensures in
    rw (c.in_ok-text.ensures, empty) (ap (λ (k : ℕ). stopped (BadName k)) (sym c.at-start.ensures))
