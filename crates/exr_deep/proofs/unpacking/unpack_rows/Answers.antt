use Rattle.std.proofs.Common.{◌≡◌, ℕ, ◌*◌, List, Ok, ap, subst, ◌∙◌, rules}
use Rattle.exr_base.specs.Refusal.{Refuses}
use Rattle.exr_deep.specs.Body.{body_of}
use Rattle.exr_deep.specs.Counts.{counts_in}
use Rattle.exr_deep.specs.Deep.{content_in}
use Rattle.exr_deep.proofs.Chain.{table_refused, counts_refused, samples_refused, content_found}
use Rattle.exr_deep.proofs.unpacking.unpack_rows.Goals as goal

pub returns-in_err-table-clause-exact : goal.returns-in_err-table-clause-exact
returns-in_err-table-clause-exact c =
    let pixels = c.args.rows * c.args.width in
    let e = c.in_err-table.field-0.0 in
    let refused : Refuses e (content_in c.args.width pixels c.args.sample_bytes (body_of c.args.body)) =
    table_refused e c.args.width pixels c.args.sample_bytes (body_of c.args.body) c.in_err-table.ensures.exact in
    search (rules, refused)

pub returns-in_err-counted-clause-exact : goal.returns-in_err-counted-clause-exact
returns-in_err-counted-clause-exact c =
    let pixels = c.args.rows * c.args.width in
    let e = c.in_err-counted.field-0.0 in
    let table = c.in_ok-table.table.items in
    let counts : Refuses e (counts_in c.args.width table pixels) = subst (λ (t : List ℕ). Refuses e (counts_in c.args.width t pixels)) c.deref.ensures.value c.in_err-counted.ensures.exact in
    let refused : Refuses e (content_in c.args.width pixels c.args.sample_bytes (body_of c.args.body)) =
    counts_refused e c.args.width pixels c.args.sample_bytes (body_of c.args.body) table c.in_ok-table.ensures.exact counts in
    search (rules, refused)

pub returns-in_err-samples-clause-exact : goal.returns-in_err-samples-clause-exact
returns-in_err-samples-clause-exact c =
    let pixels = c.args.rows * c.args.width in
    let e = c.in_err-samples.field-0.0 in
    let table = c.in_ok-table.table.items in
    let counted = c.in_ok-counted.counted in
    let counts : counts_in c.args.width table pixels ≡ Ok counted.counts.items = subst (λ (t : List ℕ). counts_in c.args.width t pixels ≡ Ok counted.counts.items) c.deref.ensures.value c.in_ok-counted.ensures.exact in
    let refused : Refuses e (content_in c.args.width pixels c.args.sample_bytes (body_of c.args.body)) =
    samples_refused e c.args.width pixels c.args.sample_bytes (counted.samples * c.args.sample_bytes) (body_of c.args.body) table counted.counts.items c.in_ok-table.ensures.exact counts
    (ap (λ n. n * c.args.sample_bytes) c.in_ok-counted.ensures.samples) c.in_err-samples.ensures.exact in
    search (rules, refused)

pub returns-clause-exact : goal.returns-clause-exact
returns-clause-exact c =
    let pixels = c.args.rows * c.args.width in
    let table = c.in_ok-table.table.items in
    let counted = c.in_ok-counted.counted in
    let counts : counts_in c.args.width table pixels ≡ Ok counted.counts.items = subst (λ (t : List ℕ). counts_in c.args.width t pixels ≡ Ok counted.counts.items) c.deref.ensures.value c.in_ok-counted.ensures.exact in
    content_found c.args.width pixels c.args.sample_bytes (counted.samples * c.args.sample_bytes) (body_of c.args.body) table counted.counts.items c.in_ok-samples.samples.items c.in_ok-table.ensures.exact counts
    (ap (λ n. n * c.args.sample_bytes) c.in_ok-counted.ensures.samples) c.in_ok-samples.ensures.exact

pub returns-clause-whole : goal.returns-clause-whole
returns-clause-whole c = record {
  long = c.in_ok-counted.ensures.size;
  ints = c.in_ok-counted.ensures.ints;
  sized = c.in_ok-samples.ensures.size ∙ c.in_ok-samples.ensures.same ∙ ap (λ n. n * c.args.sample_bytes) c.in_ok-counted.ensures.samples;
  said = c.in_ok-samples.ensures.size;
}
