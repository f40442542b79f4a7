-- The content of a chunk, step by step, and what was packed unpacked again.
use Rattle.std.proofs.Common.{◌≡◌, ℕ, ◌*◌, ◌^◌, ◌≤◌, Bool, true, eqb, leb, ◌&&◌, List, length, sum, Result, Ok, Err, IfOk, refl, sym, ap, subst, ◌∙◌, arith}
use Rattle.std.proofs.lemmas.Bool.{eq-eqb, le-leb, eqb-true, leb-true, and_parts}
use Rattle.exr_base.specs.declared.refusal.Refusal.{Refusal}
use Rattle.exr_base.specs.declared.refusal.Refusal.TheVariants as refusal
use Rattle.exr_base.specs.declared.shape.Box2i.{Box2i}
use Rattle.exr_base.specs.declared.channel.Channel.{Channel}
use Rattle.exr_base.specs.Refusal.{◌>>=◌, Refuses}
use Rattle.exr_base.specs.Shape.{width_of}
use Rattle.exr_deep.specs.declared.fault.DeepFault.{DeepFault}
use Rattle.exr_deep.specs.declared.fault.DeepFault.TheVariants as fault
use Rattle.exr_base.specs.declared.refusal.NoMemory.{NoMemory}
use Rattle.exr_base.specs.declared.method.Method.{Method}
use Rattle.exr_deep.specs.declared.block.DeepBlock.{DeepBlock}
use Rattle.exr_deep.specs.declared.block.DeepPacked.{DeepPacked}
use Rattle.exr_deep.specs.Body.{DeepContent, DeepBody, content_of, body_of}
use Rattle.exr_deep.specs.Counts.{counts_in, table_of}
use Rattle.exr_deep.specs.Deep.{or_broken, samples_in, content_in, body_for, fits, are_ints, pixels_of, sample_bytes_of, samples_size_of}
use Rattle.exr_deep.specs.Steps.{IsWhole}
use Rattle.exr_deep.specs.Stored.{unpacked_of}
use Rattle.exr_deep.proofs.Fitting.{fits_by_sizes}
use Rattle.exr_deep.proofs.Running.{each_int}
use Rattle.exr_deep.proofs.Again.{counts_again}

refuses_first : {A B F : Type 0} (e : Refusal F) (first : Result A F) (next : A → Result B F) → Refuses e first → Refuses e (first >>= next)
refuses_first (refusal.Fault f) first next is = ap (λ r. r >>= next) is
refuses_first refusal.NoMemory first next is = is

refuses_next : {A B F : Type 0} (e : Refusal F) (first : Result A F) (a : A) (next : A → Result B F) → first ≡ Ok a → Refuses e (next a) → Refuses e (first >>= next)
refuses_next (refusal.Fault f) first a next found is = ap (λ r. r >>= next) found ∙ is
refuses_next refusal.NoMemory first a next found is = is

pub table_refused : (e : Refusal DeepFault) (width pixels bytes : ℕ) (body : DeepBody) → Refuses e (or_broken fault.TableBroken (unpacked_of (4 * pixels) body.table)) → Refuses e (content_in width pixels bytes body)
unfolding content_in
table_refused e width pixels bytes body is = refuses_first e _ _ is

pub counts_refused : (e : Refusal DeepFault) (width pixels bytes : ℕ) (body : DeepBody) (table : List ℕ) → or_broken fault.TableBroken (unpacked_of (4 * pixels) body.table) ≡ Ok table → Refuses e (counts_in width table pixels)
    → Refuses e (content_in width pixels bytes body)
unfolding content_in
counts_refused e width pixels bytes body table found is = refuses_next e _ table _ found (refuses_first e _ _ is)

pub samples_refused : (e : Refusal DeepFault) (width pixels bytes computed : ℕ) (body : DeepBody) (table counts : List ℕ) → or_broken fault.TableBroken (unpacked_of (4 * pixels) body.table) ≡ Ok table → counts_in width table pixels ≡ Ok counts
    → computed ≡ sum counts * bytes → Refuses e (samples_in body.unpacked computed body.samples) → Refuses e (content_in width pixels bytes body)
unfolding content_in
samples_refused e width pixels bytes computed body table counts found counted size is =
    refuses_next e _ table _ found (refuses_next e _ counts _ counted (refuses_first e _ _ (subst (λ (n : ℕ). Refuses e (samples_in body.unpacked n body.samples)) size is)))

pub content_found : (width pixels bytes computed : ℕ) (body : DeepBody) (table counts samples : List ℕ) → or_broken fault.TableBroken (unpacked_of (4 * pixels) body.table) ≡ Ok table → counts_in width table pixels ≡ Ok counts
    → computed ≡ sum counts * bytes → samples_in body.unpacked computed body.samples ≡ Ok samples → content_in width pixels bytes body ≡ Ok (record { counts = counts; samples = samples })
unfolding content_in
content_found width pixels bytes computed body table counts samples found counted size unpacked =
    ap (λ r. r >>= (λ table. counts_in width table pixels >>= (λ counts. samples_in body.unpacked (sum counts * bytes) body.samples >>= (λ samples. Ok (record { counts = counts; samples = samples }))))) found
    ∙ ap (λ r. r >>= (λ counts. samples_in body.unpacked (sum counts * bytes) body.samples >>= (λ samples. Ok (record { counts = counts; samples = samples })))) counted
    ∙ ap (λ r. r >>= (λ samples. Ok (record { counts = counts; samples = samples }))) (ap (λ n. samples_in body.unpacked n body.samples) (sym size) ∙ unpacked)

-- ---- content that was read fits

three : (a b d : Bool) → a ≡ true → b ≡ true → d ≡ true → ((a && b) && d) ≡ true
three a b d x y z = rw (x, y, z) refl

pub whole_fits : (channels : List Channel) (region : Box2i) (said : ℕ) (content : DeepContent) → IsWhole (width_of region) (pixels_of region) (sample_bytes_of channels) said content → 4 * pixels_of region ≤ 2 ^ 26 → said ≤ 2 ^ 26
    → fits channels region content ≡ true
whole_fits channels region said content is small few =
    let sized = is.said in
    fits_by_sizes channels region content is.long is.ints
    ∙ three _ _ _ (eq-eqb (length content.samples) (sum content.counts * sample_bytes_of channels) is.sized) (le-leb (4 * pixels_of region) (2 ^ 26) small) (le-leb (length content.samples) (2 ^ 26) (omega arith))

pub fits_if_ok : (channels : List Channel) (region : Box2i) (said width pixels bytes : ℕ) (r : Result DeepBlock (Refusal DeepFault)) → width ≡ width_of region → pixels ≡ pixels_of region → bytes ≡ sample_bytes_of channels
    → IfOk r (λ block. IsWhole width pixels bytes said (content_of block)) → 4 * pixels_of region ≤ 2 ^ 26 → said ≤ 2 ^ 26 → IfOk r (λ block. fits channels region (content_of block) ≡ true)
fits_if_ok channels region said width pixels bytes (Ok block) w p b is small few =
    whole_fits channels region said (content_of block)
    (subst (λ (w : ℕ). IsWhole w (pixels_of region) (sample_bytes_of channels) said (content_of block)) w
    (subst (λ (p : ℕ). IsWhole width p (sample_bytes_of channels) said (content_of block)) p
    (subst (λ (b : ℕ). IsWhole width pixels b said (content_of block)) b is))) small few
fits_if_ok channels region said width pixels bytes (Err e) w p b is small few = tt

-- ---- content that fits is packed and unpacked again

pub record Fits (channels : List Channel) (region : Box2i) (content : DeepContent) : Type 0 where
  pub whole : IsWhole (width_of region) (pixels_of region) (sample_bytes_of channels) (length content.samples) content
  pub small : 4 * pixels_of region ≤ 2 ^ 26

pub fits_whole : (channels : List Channel) (region : Box2i) (content : DeepContent) → fits channels region content ≡ true → Fits channels region content
unfolding fits
fits_whole channels region content is =
    let counted = eqb (length content.counts) (pixels_of region) in
    let ints = are_ints (width_of region) content.counts in
    let sized = eqb (length content.samples) (samples_size_of channels content.counts) in
    let small = leb (4 * pixels_of region) (2 ^ 26) in
    let few = leb (length content.samples) (2 ^ 26) in
    let a = and_parts (((counted && ints) && sized) && small) few is in
    let b = and_parts ((counted && ints) && sized) small a.0 in
    let d = and_parts (counted && ints) sized b.0 in
    let e = and_parts counted ints d.0 in
    record {
      whole = record {
        long = eqb-true (length content.counts) (pixels_of region) e.0;
        ints = e.1;
        sized = eqb-true (length content.samples) (samples_size_of channels content.counts) d.1;
        said = refl;
      };
      small = leb-true (4 * pixels_of region) (2 ^ 26) b.1;
    }

samples_again : (n : ℕ) (samples stored : List ℕ) → unpacked_of n stored ≡ Ok samples → samples_in n n stored ≡ Ok samples
unfolding samples_in
samples_again n samples stored is = let same : eqb n n ≡ true = eq-eqb n n refl in rw same (ap (or_broken fault.DataBroken) is)

pub content_again : (method : Method) (width rows bytes : ℕ) (content : DeepContent) (r : Result DeepPacked NoMemory) → IsWhole width (rows * width) bytes (length content.samples) content
    → IfOk r (λ body. body_of body ≡ body_for method width content)
    → IfOk r (λ body. unpacked_of (4 * (rows * width)) body.table.items ≡ Ok (table_of width content.counts))
    → IfOk r (λ body. unpacked_of (length content.samples) body.samples.items ≡ Ok content.samples)
    → IfOk r (λ body. content_in width (rows * width) bytes (body_of body) ≡ Ok content)
content_again method width rows bytes content (Ok body) is exact table samples =
    let ints = each_int width content.counts is.ints in
    content_found width (rows * width) bytes (length content.samples) (body_of body) (table_of width content.counts) content.counts content.samples
    (ap (or_broken fault.TableBroken) table)
    (counts_again width rows content.counts is.long ints)
    is.sized
    (ap (λ (b : DeepBody). samples_in b.unpacked (length content.samples) body.samples.items) exact ∙ samples_again (length content.samples) content.samples body.samples.items samples)
content_again method width rows bytes content (Err e) is exact table samples = tt
