use Rattle.std.proofs.Common.{◌≡◌, ◌+◌, ◌-◌, ◌*◌, ◌/◌, ◌≤◌, min, drop, refl, sym, ap, subst, arith}
use Rattle.std.proofs.Math.Nat.{mul-le-mul_right}
use Rattle.exr_b44.specs.Plane.{cells_for, cells_len}
use Rattle.exr_b44.proofs.Planes.{PlanePut, cells_len-none, cells_len_grows, band_end, plane_none, plane_more, plane_rows}
use Rattle.exr_b44.proofs.unpacking.unpack_halves.Goals as goal

pub loop-band-init : goal.loop-band-init
loop-band-init c =
    let z = drop c.args.from c.args.packed.now in
    let none : 0 * cells_for c.args.nx ≡ 0 = omega arith in
    let most : min c.args.ny 0 ≡ 0 = omega arith in
    let s = c.args.stripe in
    record {
      within = c.requires.within;
      cells = omega (arith, cells_len-none z, ap (λ k. cells_len k z) none);
      put = subst (λ k. PlanePut c.args.lines.now c.args.lines.now z s.line s.first (2 * c.args.nx) (cells_for c.args.nx) k) (sym most) (plane_none c.args.lines.now z s.line s.first (2 * c.args.nx) (cells_for c.args.nx));
    }

pub overflow_mul-top : goal.overflow_mul-top
overflow_mul-top c =
    let lines : 4 * c.loop-band.band * c.args.stripe.line ≤ c.args.ny * c.args.stripe.line = mul-le-mul_right c.args.stripe.line (omega arith) in
    omega (arith, c.requires.room, c.requires.few)

pub slice_bounds-here-end : goal.slice_bounds-here-end
slice_bounds-here-end c =
    let lines : (4 * c.loop-band.band + c.min-count.result) * c.args.stripe.line ≤ c.args.ny * c.args.stripe.line = mul-le-mul_right c.args.stripe.line (omega arith) in
    omega arith

pub returns-in-None-clause-none : goal.returns-in-None-clause-none
returns-in-None-clause-none c =
    let packed = c.args.packed.now in
    let from = c.args.from in
    let l = c.loop-band in
    let across = cells_for c.args.nx in
    let down = cells_for c.args.ny in
    let here : (2 * c.args.nx + 7) / 8 ≡ across = omega arith in
    let end = band_end packed from (l.band * across) across l.at l.invariant.cells in
    let rows : (l.band + 1) * across ≤ down * across = mul-le-mul_right across (omega arith) in
    let fewer : l.band * across + across ≤ across * down = omega arith in
    omega (arith, c.in-None.ensures.none, ap (λ k. cells_len k (drop l.at packed)) here, end, cells_len_grows (l.band * across + across) (across * down) (drop from packed) fewer)

pub loop-band-preserved : goal.loop-band-preserved
loop-band-preserved c =
    let packed = c.args.packed.now in
    let from = c.args.from in
    let z = drop from packed in
    let l = c.loop-band in
    let s = c.args.stripe in
    let nx = c.args.nx in
    let across = cells_for nx in
    let count = c.min-count.result in
    let top = 4 * l.band * s.line in
    let here : (2 * nx + 7) / 8 ≡ across = omega arith in
    let end = band_end packed from (l.band * across) across l.at l.invariant.cells in
    let more : (l.band + 1) * across ≡ l.band * across + across = omega arith in
    let so_far : min c.args.ny (4 * l.band) ≡ 4 * l.band = omega arith in
    let rows : (4 * l.band + count) * s.line ≤ c.args.ny * s.line = mul-le-mul_right s.line (omega arith) in
    record {
      within = omega (arith, c.in-Some.ensures.none);
      cells = omega (arith, c.in-Some.ensures.end, ap (λ k. cells_len k (drop l.at packed)) here, end, ap (λ k. cells_len k z) more);
      put = plane_more packed c.args.lines.now l.lines _ c.unpack_band.new.lines from l.at s.line s.first (2 * nx) across l.band count top (top + count * s.line - top) (min c.args.ny (4 * (l.band + 1))) l.invariant.cells
          refl (omega arith) (omega arith) (omega arith) c.requires.fits (omega arith) (omega arith) refl
          (subst (λ k. PlanePut c.args.lines.now l.lines z s.line s.first (2 * nx) across k) so_far l.invariant.put)
          (record { placed = λ y b lt narrow upto. c.in-Some.ensures.placed y b lt narrow; others = c.in-Some.ensures.others });
    }

pub returns-clause-rows : goal.returns-clause-rows
returns-clause-rows c =
    let z = drop c.args.from c.args.packed.now in
    let l = c.loop-band in
    let s = c.args.stripe in
    let all : min c.args.ny (4 * l.band) ≡ c.args.ny = omega arith in
    plane_rows c.args.lines.now l.lines z s.line s.first c.args.nx c.args.ny (subst (λ k. PlanePut c.args.lines.now l.lines z s.line s.first (2 * c.args.nx) (cells_for c.args.nx) k) all l.invariant.put)
