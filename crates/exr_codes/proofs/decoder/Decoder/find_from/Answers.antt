use Rattle.std.proofs.Common.{◌≡◌, ◌+◌, ◌-◌, ◌/◌, ◌^◌, ◌≤◌, ap, ◌∙◌, arith, get_or}
use Rattle.std.proofs.lemmas.List.{get_or_read}
use Rattle.std.proofs.Common.{refl}
use Rattle.exr_codes.specs.Codes.{weight_above}
use Rattle.exr_codes.specs.Decoding.{count_above}
use Rattle.exr_codes.proofs.Orders.{longer_is_small}
use Rattle.exr_codes.proofs.Finding.{rank_below, found_ranked, place_below}
use Rattle.exr_codes.proofs.decoder.Decoder.find_from.Goals as goal

pub longer-smaller : goal.longer-smaller
longer-smaller c =
    let d = c.self.inside in
    let is = c.self.invariant in
    omega (arith, longer_is_small d.lengths.items d.firsts d.places c.longer.len (c.args.window / 64) is.complete is.starts c.longer.invariant.small c.longer-test.true)

pub longer-preserved : goal.longer-preserved
longer-preserved c =
    let d = c.self.inside in
    let is = c.self.invariant in
    let len = c.longer.len in
    let back : len + 1 - 1 ≡ len = omega arith in
    record {
      some = omega arith;
      small = omega (arith, longer_is_small d.lengths.items d.firsts d.places len (c.args.window / 64) is.complete is.starts c.longer.invariant.small c.longer-test.true);
      above = rw (back, ← is.starts.first len c.longer.invariant.small) c.longer-test.true;
    }

pub index-entry-requires : goal.index-entry-requires
index-entry-requires c =
    let d = c.self.inside in
    let is = c.self.invariant in
    let known = c.longer.invariant in
    let len = c.longer.len in
    let first = is.starts.first len known.small in
    let from : weight_above len d.lengths.items ≤ c.args.window / 2 ^ 6 = rw (← first) c.longer-test.false in
    let below = rank_below d.lengths.items is.complete c.args.window len known.some known.small from known.above in
    rw (first, is.starts.place len known.small) (omega (arith, place_below d.lengths.items d.sorted.items len ((c.args.window / 2 ^ 6 - weight_above len d.lengths.items) / 2 ^ (58 - len)) is.in_order known.some below, d.sorted.ok.0))

pub returns : goal.returns
returns c =
    let d = c.self.inside in
    let is = c.self.invariant in
    let known = c.longer.invariant in
    let len = c.longer.len in
    let lengths = d.lengths.items in
    let first = is.starts.first len known.small in
    let from : weight_above len lengths ≤ c.args.window / 2 ^ 6 = rw (← first) c.longer-test.false in
    let below = rank_below lengths is.complete c.args.window len known.some known.small from known.above in
    let rank = (c.args.window / 2 ^ 6 - weight_above len lengths) / 2 ^ (58 - len) in
    let ranked = is.in_order.ranked len rank known.some known.small below in
    let within = place_below lengths d.sorted.items len rank is.in_order known.some below in
    let place : get_or d.places len 0 + (c.args.window / 64 - get_or d.firsts len 0) / 2 ^ (58 - len) ≡ count_above len lengths + rank = rw (first, is.starts.place len known.small) refl in
    let entry : c.index-entry.result.now ≡ get_or d.sorted.items (count_above len lengths + rank) 0 = get_or_read d.sorted.items (count_above len lengths + rank) c.index-entry.result.now within (c.index-entry.ensures ∙ ap (λ n. get_or d.sorted.items n c.index-entry.result.now) place) 0 in
    rw (← c.self.view_is, entry) (found_ranked lengths is.complete c.args.window len known.some known.small from known.above (get_or d.sorted.items (count_above len lengths + rank) 0) ranked)
