use Rattle.std.proofs.Common.{◌≡◌, ◌+◌, ◌*◌, ◌≤◌, get_or, drop, replicate, refl, sym, ap, ◌∙◌, arith}
use Rattle.std.proofs.lemmas.Bool.{le-leb}
use Rattle.std.proofs.lemmas.List.{get_or-drop}
use Rattle.exr_b44.specs.Cell.{half_of, cell_len, bytes_of_halves}
use Rattle.exr_b44.specs.Plane.{cells_len, cell_at}
use Rattle.exr_b44.proofs.Cells.{first_of, flat_cell}
use Rattle.exr_b44.proofs.Planes.{cells_len-none, one_more, cell_there, band_none, band_more}
use Rattle.exr_b44.proofs.flats.unpack_flats.Goals as goal

pub cells-init : goal.cells-init
cells-init c =
    let z = drop c.args.from c.args.packed.now in
    record {
      few = omega arith;
      at = omega arith;
      within = c.requires.within;
      taken = cells_len-none z;
      put = band_none c.args.lines.now z c.args.stripe.line c.args.stripe.first (8 * c.args.most) 4;
    }

pub cells-preserved : goal.cells-preserved
cells-preserved c =
    let packed = c.args.packed.now in
    let from = c.args.from in
    let l = c.cells in
    let z = drop from packed in
    let here = drop l.at packed in
    let begins : l.at ≡ from + cells_len l.cells z = omega (arith, l.invariant.at, l.invariant.taken) in
    let third : get_or here 2 0 ≡ get_or packed (l.at + 2) 0 = get_or-drop l.at packed 2 0 in
    let flat : 52 ≤ get_or here 2 0 = omega (arith, third, c.if-packed-at-ge52.true) in
    let len : cell_len here ≡ 3 = rw (le-leb 52 (get_or here 2 0) flat) refl in
    let at_front : l.at + 0 ≡ l.at = omega arith in
    let first : get_or here 0 0 ≡ get_or packed l.at 0 = get_or-drop l.at packed 0 0 ∙ ap (λ k. get_or packed k 0) at_front in
    let number : c.from.result * 256 + c.from-in-cells.result ≡ first_of here =
    omega (arith, c.from.ensures, c.from-in-cells.ensures, first, get_or-drop l.at packed 1 0) in
    let is : bytes_of_halves (replicate 16 c.half_from.result) ≡ bytes_of_halves (cell_at z l.cells) =
    ap (λ h. bytes_of_halves (replicate 16 h)) (c.half_from.ensures ∙ ap half_of number)
    ∙ ap bytes_of_halves (sym (flat_cell here flat) ∙ cell_there packed from l.cells l.at begins) in
    record {
      few = omega arith;
      at = omega (arith, l.invariant.at);
      within = omega (arith, c.if-packed-at-ge3.true);
      taken = omega (arith, one_more packed from l.cells l.at begins, len, l.invariant.at);
      put = band_more (bytes_of_halves (replicate 16 c.half_from.result)) c.args.lines.now l.lines c.put_flat.new.lines z c.args.stripe.line c.args.stripe.first (8 * c.args.most) 4 l.cells 8
          is c.requires.fits (omega arith) (omega arith) l.invariant.put c.put_flat.ensures;
    }
