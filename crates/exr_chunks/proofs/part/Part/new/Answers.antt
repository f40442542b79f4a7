use Rattle.std.proofs.Common.{◌*◌, ◌∙◌, arith}
use Rattle.exr_chunks.specs.declared.part.Part.{Part}
use Rattle.exr_chunks.proofs.Parts.{counts_are, header_is, part_is}
use Rattle.exr_chunks.proofs.part.Part.new.Goals as goal

pub overflow_mul-count : goal.overflow_mul-count
overflow_mul-count c =
    let h = c.args.header.now in
    let counts = counts_are h c.window-window.result c.columns-columns.result c.rows-rows.result c.width.result c.height.result c.pieces-across.result c.pieces-down.result c.window-window.ensures c.columns-columns.ensures.exact c.rows-rows.ensures.exact c.width.ensures.exact c.height.ensures.exact c.pieces-across.ensures.exact c.pieces-down.ensures.exact in
    let all = counts.all in
    let few = c.requires.few in
    omega (arith, all, few)

pub new-requires-clause-count : goal.new-requires-clause-count
new-requires-clause-count c =
    let h = c.args.header.now in
    (counts_are h c.window-window.result c.columns-columns.result c.rows-rows.result c.width.result c.height.result c.pieces-across.result c.pieces-down.result c.window-window.ensures c.columns-columns.ensures.exact c.rows-rows.ensures.exact c.width.ensures.exact c.height.ensures.exact c.pieces-across.ensures.exact c.pieces-down.ensures.exact).all

pub returns-clause-header : goal.returns-clause-header
returns-clause-header c =
    let part : Part = record { kind = c.kind.result; channels = c.in_ok-copy_channels.field-0; method = c.method.result; window = c.window-window.result; order = c.order.result; tiles = c.tiles.result; columns = c.columns-columns.result; rows = c.rows-rows.result; sizes = c.in_ok-new.field-0; across = c.pieces-across.result; down = c.pieces-down.result; count = c.pieces-across.result * c.pieces-down.result; first = c.args.first } in
    header_is c.args.header.now part c.kind.ensures (c.in_ok-copy_channels.ensures ∙ c.channels.ensures) c.method.ensures c.window-window.ensures c.order.ensures c.tiles.ensures

pub returns-clause-part : goal.returns-clause-part
returns-clause-part c =
    let h = c.args.header.now in
    let counts = counts_are h c.window-window.result c.columns-columns.result c.rows-rows.result c.width.result c.height.result c.pieces-across.result c.pieces-down.result c.window-window.ensures c.columns-columns.ensures.exact c.rows-rows.ensures.exact c.width.ensures.exact c.height.ensures.exact c.pieces-across.ensures.exact c.pieces-down.ensures.exact in
    let part : Part = record { kind = c.kind.result; channels = c.in_ok-copy_channels.field-0; method = c.method.result; window = c.window-window.result; order = c.order.result; tiles = c.tiles.result; columns = c.columns-columns.result; rows = c.rows-rows.result; sizes = c.in_ok-new.field-0; across = c.pieces-across.result; down = c.pieces-down.result; count = c.pieces-across.result * c.pieces-down.result; first = c.args.first } in
    let header = header_is h part c.kind.ensures (c.in_ok-copy_channels.ensures ∙ c.channels.ensures) c.method.ensures c.window-window.ensures c.order.ensures c.tiles.ensures in
    part_is h part c.requires.picture c.requires.measured header c.columns-columns.ensures.exact c.rows-rows.ensures.exact counts.beside counts.below counts.all c.in_ok-new.ensures c.requires.few
