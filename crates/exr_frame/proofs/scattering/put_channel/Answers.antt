use Rattle.std.proofs.Common.{rules, arith, ap, sym, subst, w32, ◌≡◌, ◌∙◌, ◌≤◌, ◌+◌, ◌-◌, ℤ, length, take, drop, to_z, of_z}
use Rattle.exr_layout.specs.Place.{placements_of, place_of}
use Rattle.exr_frame.specs.Buffer.{IsCopied, chunk_byte}
use Rattle.exr_frame.specs.Rows.{IsInRow, IsSliceOf, HasNoSlice, line_byte}
use Rattle.exr_frame.proofs.Channelled.{channel_multiple, channel_nothing, channel_put, row_size, part_long, part_of, row_bytes_are}
use Rattle.exr_frame.proofs.scattering.put_channel.Goals as goal

pub returns-in_default : goal.returns-in_default
returns-in_default c =
    let same : to_z w32 (of_z w32 c.args.y) ≡ c.args.y = search rules in
    let none : HasNoSlice c.args.layout.now c.args.plan.now c.args.c (to_z w32 (of_z w32 c.args.y)) = search rules in
    channel_nothing c.args.layout.now c.args.shape.now.channels.now c.args.plan.now c.args.shape.now.region c.args.c c.args.y (chunk_byte c.args.shape.now.channels.now c.args.shape.now.region c.args.raw.now (placements_of c.args.layout.now.planes) c.args.plan.now.channels) c.args.into.now c.requires.plan (subst (HasNoSlice c.args.layout.now c.args.plan.now c.args.c) same none)

pub row_bytes-requires-clause-sampled : goal.row_bytes-requires-clause-sampled
row_bytes-requires-clause-sampled c = c.requires.shape.sampled c.args.c _ c.requires.channel

pub overflow_add-row : goal.overflow_add-row
overflow_add-row c =
    let same : to_z w32 (of_z w32 c.args.y) ≡ c.args.y = search rules in
    let bytes = row_bytes_are c.args.shape.now.region c.args.shape.now.channels.now c.args.y (to_z w32 (of_z w32 c.args.y)) c.args.c c.row_bytes.result c.index-shape-c.result c.requires.channel same c.row_bytes.ensures in
    let ends : c.args.at + c.row_bytes.result ≤ length c.args.raw.now = subst (λ n. c.args.at + n ≤ length c.args.raw.now) (sym bytes) c.requires.raw in
    omega (arith, ends)

pub slice_bounds-row-end : goal.slice_bounds-row-end
slice_bounds-row-end c =
    let same : to_z w32 (of_z w32 c.args.y) ≡ c.args.y = search rules in
    let bytes = row_bytes_are c.args.shape.now.region c.args.shape.now.channels.now c.args.y (to_z w32 (of_z w32 c.args.y)) c.args.c c.row_bytes.result c.index-shape-c.result c.requires.channel same c.row_bytes.ensures in
    let ends : c.args.at + c.row_bytes.result ≤ length c.args.raw.now = subst (λ n. c.args.at + n ≤ length c.args.raw.now) (sym bytes) c.requires.raw in
    search rules

pub put_row-requires-clause-line : goal.put_row-requires-clause-line
put_row-requires-clause-line c =
    let found : IsSliceOf c.args.layout.now c.args.shape.now.region c.args.plan.now c.args.c (to_z w32 (of_z w32 c.args.y)) c.in-Some.number = search rules in
    found.on_line

pub put_row-requires-clause-row : goal.put_row-requires-clause-row
put_row-requires-clause-row c =
    let part = c.args.shape.now.channels.now in
    let found : IsSliceOf c.args.layout.now c.args.shape.now.region c.args.plan.now c.args.c (to_z w32 (of_z w32 c.args.y)) c.in-Some.number = search rules in
    let same : to_z w32 (of_z w32 c.args.y) ≡ c.args.y = search rules in
    let here = subst (λ (z : ℤ). IsSliceOf c.args.layout.now c.args.shape.now.region c.args.plan.now c.args.c z c.in-Some.number) same found in
    let multiple = channel_multiple c.args.layout.now part c.args.plan.now c.args.shape.now.region c.args.c c.in-Some.number c.args.y c.requires.plan here in
    let bytes = row_bytes_are c.args.shape.now.region part c.args.y (to_z w32 (of_z w32 c.args.y)) c.args.c c.row_bytes.result c.index-shape-c.result c.requires.channel same c.row_bytes.ensures in
    let ends : c.args.at + c.row_bytes.result ≤ length c.args.raw.now = subst (λ n. c.args.at + n ≤ length c.args.raw.now) (sym bytes) c.requires.raw in
    part_long c.args.at c.row_bytes.result c.args.raw.now ends ∙ bytes ∙ row_size c.args.layout.now part c.args.plan.now c.args.shape.now.region c.in-Some.number c.args.c c.args.y c.requires.plan here.held multiple

pub returns : goal.returns
returns c =
    let part = c.args.shape.now.channels.now in
    let found : IsSliceOf c.args.layout.now c.args.shape.now.region c.args.plan.now c.args.c (to_z w32 (of_z w32 c.args.y)) c.in-Some.number = search rules in
    let same : to_z w32 (of_z w32 c.args.y) ≡ c.args.y = search rules in
    let here = subst (λ (z : ℤ). IsSliceOf c.args.layout.now c.args.shape.now.region c.args.plan.now c.args.c z c.in-Some.number) same found in
    let multiple = channel_multiple c.args.layout.now part c.args.plan.now c.args.shape.now.region c.args.c c.in-Some.number c.args.y c.requires.plan here in
    let bytes = row_bytes_are c.args.shape.now.region part c.args.y (to_z w32 (of_z w32 c.args.y)) c.args.c c.row_bytes.result c.index-shape-c.result c.requires.channel same c.row_bytes.ensures in
    let row = take (c.args.at + c.row_bytes.result - c.args.at) (drop c.args.at c.args.raw.now) in
    channel_put c.args.layout.now part c.args.plan.now c.args.shape.now.region c.in-Some.number c.args.c c.args.y c.args.at c.args.raw.now row c.args.into.now c.put_row.new.into c.requires.plan here.held multiple c.requires.at
    (part_of c.args.at c.row_bytes.result c.args.raw.now ∙ ap (λ n. take n (drop c.args.at c.args.raw.now)) bytes)
    (subst (λ (z : ℤ). IsCopied (IsInRow c.args.layout.now.window (placements_of c.args.layout.now.planes) c.args.shape.now.region c.in-Some.number z) (place_of c.args.layout.now.window (placements_of c.args.layout.now.planes)) (line_byte (placements_of c.args.layout.now.planes) c.args.shape.now.region row) c.args.into.now c.put_row.new.into) same c.put_row.ensures)
