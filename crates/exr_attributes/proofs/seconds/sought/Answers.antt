use Rattle.std.proofs.Common.{◌≡◌, ◌+◌, [], ◌∷◌, ◌++◌, take, ap, sym, subst, ◌∙◌, arith}
use Rattle.std.specs.BTreeSet.{contains}
use Rattle.std.specs.Cmp.Lexicographic.{slice_cmp}
use Rattle.std.specs.Ordering.{nat_cmp}
use Rattle.std.proofs.lemmas.List.{take_all, take_more, get_or_default}
use Rattle.exr_attributes.specs.declared.attribute.Entry.{Entry}
use Rattle.exr_attributes.specs.Entry.{has_name}
use Rattle.exr_attributes.specs.Pass.{AreDistinct}
use Rattle.exr_attributes.proofs.Heads.{known_more, was_there, was_new}
use Rattle.exr_attributes.proofs.Passes.{AreDistinct-push}
use Rattle.exr_attributes.proofs.seconds.sought.Goals as goal

pub loop-k-preserved : goal.loop-k-preserved
loop-k-preserved c =
    let es = c.args.entries.now in
    let k = c.loop-k.k in
    let e = c.index-entries-k.result in
    let key = c.in_ok-name.name in
    let before = contains (slice_cmp nat_cmp) c.loop-k.names in
    let name : key ≡ e.name = c.in_ok-name.ensures ∙ ap (λ (x : Entry). x.name) (sym c.index-entries-k.is) in
    let new = was_new e (take k es) key c.in_ok-insert.field-0 (before key) name c.in_ok-insert.ensures.added c.if-not-branch.false (c.loop-k.invariant.known key) in
    let more : take (k + 1) es ≡ take k es ++ e ∷ [] = take_more es k e c.loop-k-test.true ∙ ap (λ (x : Entry). take k es ++ x ∷ []) (sym c.index-entries-k.is) in
    record {
      known = λ q.
          known_more q key (take k es) e (before q) (contains (slice_cmp nat_cmp) c.insert.new.self q) name (c.loop-k.invariant.known q) (c.in_ok-insert.ensures.updates.0 q)
          ∙ ap (has_name q) (sym more);
      earlier = subst AreDistinct (sym more) (AreDistinct-push (take k es) e c.loop-k.invariant.earlier new);
    }

pub returns-then-not-branch : goal.returns-then-not-branch
returns-then-not-branch c =
    let es = c.args.entries.now in
    let k = c.loop-k.k in
    let e = c.index-entries-k.result in
    let key = c.in_ok-name.name in
    let name : key ≡ e.name = c.in_ok-name.ensures ∙ ap (λ (x : Entry). x.name) (sym c.index-entries-k.is) in
    let old = was_there e (take k es) key c.in_ok-insert.field-0 (contains (slice_cmp nat_cmp) c.loop-k.names key) name c.in_ok-insert.ensures.added c.if-not-branch.true (c.loop-k.invariant.known key) in
    record {
      within = c.loop-k-test.true;
      earlier = c.loop-k.invariant.earlier;
      second = λ d. ap (λ (x : Entry). has_name x.name (take k es)) (get_or_default es k d e c.loop-k-test.true ∙ sym c.index-entries-k.is) ∙ old;
    }

pub returns : goal.returns
returns c =
    subst AreDistinct (take_all c.loop-k.k c.args.entries.now (omega arith)) c.loop-k.invariant.earlier
