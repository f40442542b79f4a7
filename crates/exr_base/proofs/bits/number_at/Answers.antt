use Rattle.std.proofs.Common.{◌≡◌, ◌+◌, ◌-◌, ◌*◌, ◌/◌, ◌%◌, ◌^◌, ◌<◌, ◌≤◌, length, take, drop, get_or, ap₂, sym, ◌∙◌, arith}
use Rattle.exr_base.specs.Bits.{number_of, bits_of, bits_of_bytes}
use Rattle.exr_base.proofs.BitLists.{number_of-none, number_grown, laid_behind, number_of-take_below}
use Rattle.exr_base.proofs.bits.number_at.Goals as goal

pub bytes-init : goal.bytes-init
bytes-init c = record { within = omega arith; behind = omega arith; so_far = sym (number_of-none c.args.n (drop c.args.at (bits_of_bytes c.args.bytes.now))) }

pub bytes-preserved : goal.bytes-preserved
bytes-preserved c =
    let at = c.args.at in
    let bytes = c.args.bytes.now in
    let n = c.args.n in
    let left = c.bytes.left in
    let count = c.min-count.result in
    let known = c.bytes.invariant in
    let done = n - left in
    let fewer : count ≤ left = omega arith in
    let further : n - (left - count) ≡ done + count = omega (arith, known.within) in
    let place : c.bytes.place ≡ at + done = known.behind in
    let in_byte : (at + done) % 8 + count ≤ 8 = omega arith in
    let there : at + (done + count) ≤ 8 * length bytes = omega (arith, known.within) in
    let within : (at + done) / 8 < length bytes = omega (arith, known.within) in
    let below = number_of-take_below done (drop at (bits_of_bytes bytes)) in
    let part : c.bits_within.result ≡ number_of (take count (drop ((at + done) % 8) (bits_of 8 (get_or bytes ((at + done) / 8) 0)))) = rw (← place) c.bits_within.ensures.value in
    let grown = number_grown bytes at done count in_byte within there in
    record {
      within = omega (arith, known.within);
      behind = rw further (omega arith);
      so_far = rw further (laid_behind c.bytes.value done count c.bits_within.result (rw known.so_far below) (omega (arith, known.within, c.requires.width)) c.bits_within.ensures.below ∙ ap₂ (λ x y. x * 2 ^ count + y) known.so_far part ∙ sym grown);
    }
