use Rattle.std.proofs.Common.{◌≡◌, ◌+◌, ◌-◌, ◌*◌, ◌/◌, ◌≤◌, drop, ap, subst, ◌∙◌, sym, arith}
use Rattle.exr_b44.specs.Cell.{bytes_of_halves}
use Rattle.exr_b44.specs.Plane.{cells_len}
use Rattle.exr_b44.proofs.Planes.{BandPut, cells_len-none, cells_len_grows, one_more, cell_there, band_none, band_more, band_flats, band_end}
use Rattle.exr_b44.proofs.unpacking.unpack_band.Goals as goal

pub cells-init : goal.cells-init
cells-init c =
    let z = drop c.args.from c.args.packed.now in
    record {
      within = c.requires.within;
      upto = omega arith;
      cells = omega (arith, cells_len-none z);
      put = band_none c.args.lines.now z c.args.stripe.line c.args.stripe.first c.args.wide c.args.count;
    }

pub returns-in_default-clause-none : goal.returns-in_default-clause-none
returns-in_default-clause-none c =
    let packed = c.args.packed.now in
    let from = c.args.from in
    let l = c.cells in
    let next = one_more packed from l.i l.at l.invariant.cells in
    let last : l.i + 1 ≤ (c.args.wide + 7) / 8 = omega (arith, c.cells-test.true) in
    omega (arith, c.in_default.ensures.none, next, cells_len_grows (l.i + 1) ((c.args.wide + 7) / 8) (drop from packed) last)

pub cells-preserved-then-i-wide : goal.cells-preserved-then-i-wide
cells-preserved-then-i-wide c =
    let packed = c.args.packed.now in
    let from = c.args.from in
    let l = c.cells in
    let n = c.unpack_flats-flats.result in
    let at = l.at + c.in-Some.taken in
    let next : at ≡ from + cells_len (l.i + 1) (drop from packed) =
    omega (arith, one_more packed from l.i l.at l.invariant.cells, c.in-Some.ensures.taken) in
    let one = band_more c.read_cell.new.into c.args.lines.now l.lines c.put_cell.new.lines (drop from packed) c.args.stripe.line c.args.stripe.first c.args.wide c.args.count l.i c.min-size.result
    (c.in-Some.ensures.unpacked ∙ ap bytes_of_halves (cell_there packed from l.i l.at l.invariant.cells)) c.requires.fits (omega arith) (omega arith) l.invariant.put c.put_cell.ensures in
    let four : c.args.count ≡ 4 = c.if-count-eq4.true in
    record {
      within = omega (arith, c.unpack_flats-flats.ensures.within);
      upto = omega (arith, c.unpack_flats-flats.ensures.few, c.if-i-wide.true);
      cells = omega (arith, band_end packed from (l.i + 1) n at next, c.unpack_flats-flats.ensures.taken);
      put = subst (λ count. BandPut c.args.lines.now c.unpack_flats-flats.new.lines (drop from packed) c.args.stripe.line c.args.stripe.first c.args.wide count (8 * (l.i + 1 + n))) (sym four)
          (band_flats packed c.args.lines.now c.put_cell.new.lines c.unpack_flats-flats.new.lines from at c.args.stripe.line c.args.stripe.first c.args.wide (l.i + 1) n (c.args.wide / 8 - (l.i + 1))
          next c.requires.fits (omega arith) c.unpack_flats-flats.ensures.few
          (subst (λ count. BandPut c.args.lines.now c.put_cell.new.lines (drop from packed) c.args.stripe.line c.args.stripe.first c.args.wide count (8 * (l.i + 1))) four one)
          c.unpack_flats-flats.ensures.placed c.unpack_flats-flats.ensures.others);
    }

pub cells-preserved : goal.cells-preserved
cells-preserved c =
    let packed = c.args.packed.now in
    let from = c.args.from in
    let l = c.cells in
    let next = one_more packed from l.i l.at l.invariant.cells in
    record {
      within = omega (arith, c.in-Some.ensures.none, c.in-Some.ensures.taken);
      upto = omega (arith, c.cells-test.true);
      cells = omega (arith, next, c.in-Some.ensures.taken);
      put = band_more c.read_cell.new.into c.args.lines.now l.lines c.put_cell.new.lines (drop from packed) c.args.stripe.line c.args.stripe.first c.args.wide c.args.count l.i c.min-size.result
          (c.in-Some.ensures.unpacked ∙ ap bytes_of_halves (cell_there packed from l.i l.at l.invariant.cells)) c.requires.fits (omega arith) (omega arith) l.invariant.put c.put_cell.ensures;
    }
