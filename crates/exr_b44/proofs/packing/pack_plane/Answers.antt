use Rattle.std.proofs.Common.{◌≡◌, ◌+◌, ◌*◌, ◌++◌, ℕ, take, refl, ap, ◌∙◌, arith}
use Rattle.std.specs.List.{flat_map, range_with_len}
use Rattle.exr_b44.specs.Cell.{cell_of}
use Rattle.exr_b44.specs.Plane.{cells_for, cell_in, cells_of}
use Rattle.exr_b44.proofs.Taken.{lines_of_cells}
use Rattle.exr_b44.proofs.packing.pack_plane.Goals as goal

pub loop-line-preserved : goal.loop-line-preserved
loop-line-preserved c =
    let rows = c.args.rows.now in
    let nx = c.args.nx in
    let ny = c.args.ny in
    let l = c.loop-line in
    let across = cells_for nx in
    let front = take c.args.to c.args.into.now in
    let f = λ (n : ℕ). cell_of (cell_in nx ny rows n) c.args.flat in
    let more : l.line * across + across ≡ (l.line + 1) * across = omega arith in
    record {
      few = omega (arith, l.invariant.few, c.pack_band-at.ensures.few);
      cells = c.pack_band-at.ensures.cells
          ∙ lines_of_cells f front (take l.at l.into) (flat_map f (range_with_len (l.line * across) across)) (l.line * across) across l.invariant.cells refl
          ∙ ap (λ n. front ++ flat_map f (range_with_len 0 n)) more;
    }

pub returns-clause-cells : goal.returns-clause-cells
unfolding cells_of
returns-clause-cells c =
    let rows = c.args.rows.now in
    let l = c.loop-line in
    let across = cells_for c.args.nx in
    let last : l.line ≡ cells_for c.args.ny = omega arith in
    let all : l.line * across ≡ across * cells_for c.args.ny = ap (λ n. n * across) last ∙ omega arith in
    l.invariant.cells ∙ ap (λ n. take c.args.to c.args.into.now ++ flat_map (λ (n : ℕ). cell_of (cell_in c.args.nx c.args.ny rows n) c.args.flat) (range_with_len 0 n)) all
