use Rattle.std.proofs.Common.{◌≡◌, ◌-◌}
use Rattle.exr_attributes.specs.Reading.{text_from, text_at}
use Rattle.exr_attributes.proofs.Texts.{behind}
use Rattle.exr_attributes.proofs.reading.text.Given as goal

abbrev pub invariant-loop-i : goal.invariant-loop-i
invariant-loop-i l = behind l.text.items (text_from l.start (256 - l._i) l.from) ≡ text_at l.fn.from
