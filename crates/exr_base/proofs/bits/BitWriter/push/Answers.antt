use Rattle.std.proofs.Common.{◌≡◌, ◌+◌, ◌-◌, ◌*◌, ◌/◌, ◌%◌, ◌^◌, ◌<◌, ◌≤◌, ◌∙◌, subst, arith}
use Rattle.exr_base.specs.Bits.{bits_of_bytes}
use Rattle.exr_base.proofs.BitLists.{pending_is, pending_below, written_more, byte_moved, written_none}
use Rattle.exr_base.proofs.bits.BitWriter.push.Goals as goal

pub bits-init : goal.bits-init
bits-init c =
    let w = c.self.inside in
    record {
      within = omega arith;
      below = c.self.invariant.0;
      small = c.self.invariant.1;
      room = omega (arith, c.in_ok-reserve.ensures.ok, c.self.invariant.0, c.requires.width);
      so_far = rw c.in_ok-reserve.ensures.items (written_none _ c.args.self.now c.args.n c.args.value c.self.view_is);
    }

pub overflow_cast-self-inside : goal.overflow_cast-self-inside
overflow_cast-self-inside c =
    let w = c.bits.self-inside in
    let known = c.bits.invariant in
    let more = c.min-count.result in
    let number = c.args.value / 2 ^ (c.bits.left - more) in
    let full : w.count + more ≡ 8 = c.if-self-eq8.true in
    let is = pending_is w.pending w.count more number known.small (omega arith) in
    let below : w.pending * 2 ^ more + number % 2 ^ more < 256 = subst (λ k. w.pending * 2 ^ more + number % 2 ^ more < 2 ^ k) full (pending_below w.pending w.count more number known.small) in
    rw is (omega (arith, below))

pub bits-preserved-then-self-eq8 : goal.bits-preserved-then-self-eq8
bits-preserved-then-self-eq8 c =
    let w = c.bits.self-inside in
    let known = c.bits.invariant in
    let left = c.bits.left in
    let more = c.min-count.result in
    let number = c.args.value / 2 ^ (left - more) in
    let full : w.count + more ≡ 8 = c.if-self-eq8.true in
    let is = pending_is w.pending w.count more number known.small (omega arith) in
    record {
      within = omega (arith, known.within);
      below = omega arith;
      small = omega arith;
      room = omega (arith, known.room, c.push_reserved.ensures.len, c.push_reserved.ensures.capacity);
      so_far = rw c.push_reserved.ensures.items (byte_moved w.bytes.items (w.count + more) _ full ∙ rw is (written_more (bits_of_bytes w.bytes.items) c.args.self.now w.pending w.count more left c.args.n c.args.value (omega arith) known.within known.so_far));
    }

pub bits-preserved : goal.bits-preserved
bits-preserved c =
    let w = c.bits.self-inside in
    let known = c.bits.invariant in
    let left = c.bits.left in
    let more = c.min-count.result in
    let number = c.args.value / 2 ^ (left - more) in
    let few : w.count + more ≤ 8 = omega (arith, known.below) in
    let is = pending_is w.pending w.count more number known.small few in
    record {
      within = omega (arith, known.within);
      below = omega (arith, c.if-self-eq8.false);
      small = rw is (pending_below w.pending w.count more number known.small);
      room = omega (arith, known.room);
      so_far = rw is (written_more (bits_of_bytes w.bytes.items) c.args.self.now w.pending w.count more left c.args.n c.args.value (omega arith) known.within known.so_far);
    }
