use Rattle.std.proofs.Common.{[], ◌∷◌, ◌++◌, ◌∙◌, ap, length}
use Rattle.std.proofs.lemmas.List.Elements.{All-same, All-nil, All-push}
use Rattle.exr_base.specs.Shape.{IsSampled}
use Rattle.exr_judge.specs.Channels.{last_name, channels_of}
use Rattle.exr_judge.proofs.Lists.{begins, goes_on, closes, breaks, runs_out}
use Rattle.exr_judge.proofs.channels.channels_of.Goals as goal

pub loop-i-init : goal.loop-i-init
loop-i-init c = record {
  sampled = All-same IsSampled c.new-all.result.items [] c.new-all.ensures.items (All-nil IsSampled);
  so_far = begins c.args.value.now c.new-all.result.items c.new-all.ensures.items;
}

pub returns-in-Broken : goal.returns-in-Broken
returns-in-Broken c =
    breaks (length c.args.value.now) c.loop-i._i c.loop-i.all.items c.last_name.result.now c.loop-i.rest.now (channels_of c.args.value.now) c.loop-i-test.true (c.last_name.ensures ∙ ap last_name c.as_slice.ensures.value) c.in-Broken.ensures.exact c.loop-i.invariant.so_far

pub returns-in-Closed : goal.returns-in-Closed
returns-in-Closed c =
    closes (length c.args.value.now) c.loop-i._i c.loop-i.all.items c.last_name.result.now c.loop-i.rest.now (channels_of c.args.value.now) c.loop-i-test.true (c.last_name.ensures ∙ ap last_name c.as_slice.ensures.value) c.in-Closed.ensures.exact c.loop-i.invariant.so_far

pub loop-i-preserved : goal.loop-i-preserved
loop-i-preserved c = record {
  sampled = All-same IsSampled c.push.new.self.items (c.loop-i.all.items ++ c.in-Channel.channel ∷ []) c.in_ok-push-in-Channel.ensures.items (All-push IsSampled c.loop-i.all.items c.in-Channel.channel c.loop-i.invariant.sampled c.in-Channel.ensures.sampled);
  so_far = rw c.in_ok-push-in-Channel.ensures.items (goes_on (length c.args.value.now) c.loop-i._i c.loop-i.all.items c.last_name.result.now c.loop-i.rest.now c.in-Channel.behind.now c.in-Channel.channel (channels_of c.args.value.now) c.loop-i-test.true (c.last_name.ensures ∙ ap last_name c.as_slice.ensures.value) c.in-Channel.ensures.exact c.loop-i.invariant.so_far);
}

pub returns : goal.returns
returns c =
    runs_out (length c.args.value.now) c.loop-i._i c.loop-i.all.items c.loop-i.rest.now (channels_of c.args.value.now) c.loop-i-test.false c.loop-i.invariant.so_far
