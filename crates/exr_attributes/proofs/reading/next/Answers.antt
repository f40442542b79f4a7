use Rattle.std.proofs.Common.{refl}
use Rattle.exr_attributes.specs.Reading.{next_at}
use Rattle.exr_attributes.proofs.Texts.{empty_text}
use Rattle.exr_attributes.proofs.reading.next.Goals as goal

pub returns-in-None : goal.returns-in-None
unfolding next_at
returns-in-None c =
    let empty = empty_text c.args.from.now c.text.new.from c.in_ok-text.text.items c.in_ok-text.ensures c.in-None.ensures in
    rw (c.in_ok-text.ensures, empty) refl
