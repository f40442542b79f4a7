use Rattle.std.proofs.Common.{refl, rules}
use Rattle.atomic_table.specs.Table.{keeps}
use Rattle.exr_desk.proofs.accepted.note.Goals as goal

pub compare_exchange_with-found-requires : goal.compare_exchange_with-found-requires
compare_exchange_with-found-requires c = (search rules, search rules, λ s holds homes seen small. (_, keeps, tt, tt, refl))
