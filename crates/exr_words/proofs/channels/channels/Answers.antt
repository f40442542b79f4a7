-- Each item was read as the definition reads it.
use Rattle.std.proofs.Common.{◌≡◌, ◌+◌, [], ◌∷◌, ◌++◌, length, lit<, sym, ap, ◌∙◌, arith}
use Rattle.std.proofs.lemmas.Iterator.Splits.{YieldsList-from_str_split}
use Rattle.std.proofs.lemmas.Iterator.Consumers.{YieldsList-turn, YieldsList-end}
use Rattle.std.proofs.lemmas.List.{length_push}
use Rattle.exr_words.specs.Channels.{items_of, wanted_of}
use Rattle.exr_words.proofs.Items.{all_more, unread, too_many, all_read}
use Rattle.exr_words.proofs.channels.channels.Goals as goal

pub returns-then-len-eq-MOST_CHANNELS : goal.returns-then-len-eq-MOST_CHANNELS
returns-then-len-eq-MOST_CHANNELS c =
    let t = YieldsList-turn (YieldsList-from_str_split 44 c.args.text.now (lit< tt) (cc) (cc) (cc)) c.loop-item.yielded _ c.loop-item.yielded_by _ _ c.in-Some.item c.in-Some.is c.next.ensures.steps in
    sym (too_many c.args.text.now (length c.loop-item.yielded) t.0 (omega (arith, c.loop-item.invariant.counts, c.len.ensures)))

pub returns-in_default : goal.returns-in_default
returns-in_default c =
    let t = YieldsList-turn (YieldsList-from_str_split 44 c.args.text.now (lit< tt) (cc) (cc) (cc)) c.loop-item.yielded _ c.loop-item.yielded_by _ _ c.in-Some.item c.in-Some.is c.next.ensures.steps in
    sym (unread c.args.text.now (length c.loop-item.yielded) c.in-Some.item.now t.0 t.1 (sym c.in_default.ensures))

pub loop-item-preserved : goal.loop-item-preserved
loop-item-preserved c =
    let t = YieldsList-turn (YieldsList-from_str_split 44 c.args.text.now (lit< tt) (cc) (cc) (cc)) c.loop-item.yielded _ c.loop-item.yielded_by _ _ c.in-Some.item c.in-Some.is c.next.ensures.steps in
    let more : length (c.loop-item.yielded ++ c.in-Some.item ∷ []) ≡ length c.loop-item.yielded + 1 = length_push c.loop-item.yielded c.in-Some.item in
    record {
      counts = ap length c.in_ok-push.ensures.items ∙ length_push c.loop-item.channels.items c.in-Some-wanted.channel ∙ ap (λ n. n + 1) c.loop-item.invariant.counts ∙ sym more;
      few = rw more (omega (arith, c.loop-item.invariant.counts, c.loop-item.invariant.few, c.len.ensures, c.if-len-eq-MOST_CHANNELS.false));
      so_far = rw (more, c.in_ok-push.ensures.items) (all_more wanted_of (items_of c.args.text.now) c.loop-item.channels.items (length c.loop-item.yielded) c.in-Some.item.now c.in-Some-wanted.channel t.0 t.1 (sym c.in-Some-wanted.ensures) c.loop-item.invariant.so_far);
    }

pub returns : goal.returns
returns c =
    let t = YieldsList-end (YieldsList-from_str_split 44 c.args.text.now (lit< tt) (cc) (cc) (cc)) c.loop-item.yielded _ c.loop-item.yielded_by _ _ c.in-None.is c.next.ensures.steps in
    sym (all_read c.args.text.now (length c.loop-item.yielded) c.loop-item.channels.items (omega (arith, t)) c.loop-item.invariant.few c.loop-item.invariant.so_far)
