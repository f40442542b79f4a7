-- The data of a chunk that is deep, or is not, and what a refused read says of it.
use Rattle.std.proofs.Common.{◌≡◌, ℕ, ◌+◌, ◌≤◌, Bool, true, false, IsTrue, IfOk, List, length, drop, Result, Ok, Err, sym, ap, subst, ◌∙◌, arith}
use Rattle.exr_base.specs.declared.method.Method.{Method}
use Rattle.exr_base.specs.declared.refusal.Refusal.{Refusal}
use Rattle.exr_base.specs.declared.refusal.Refusal.TheVariants.{Fault, NoMemory}
use Rattle.exr_base.specs.Refusal.{◌>>=◌}
use Rattle.exr_deep.specs.Body.{DeepBody}
use Rattle.exr_block.specs.declared.body.Body.{Body}
use Rattle.exr_block.specs.declared.fault.ChunkFault.{ChunkFault}
use Rattle.exr_block.specs.Body.{flat_data, deep_data, is_deep_data, data_of}
use Rattle.exr_block.specs.Sizes.{raw_bytes_of, has_size, sizes_fit}
use Rattle.exr_chunks.specs.Heads.{Header, is_deep}
use Rattle.exr_chunks.specs.Region.{region_of, chunk_bytes_of}
use Rattle.exr_outside.specs.Count.{Rose}
use Rattle.exr_stream.specs.declared.fault.FetchFault.{FetchFault}
use Rattle.exr_stream.specs.declared.fault.FetchFault.TheVariants as fetch
use Rattle.exr_stream.specs.Chunk.{deep_sizes_in, sized_body, data_in, deep_in, stored_in}
use Rattle.exr_stream.specs.Stream.{RefusesFetch, OwesFetch}
use Rattle.exr_stream.proofs.Shapes.{bytes_of_form}

-- ---- refusals

refuses_first : {A B : Type 0} (e : Refusal FetchFault) (first : Result A ChunkFault) (next : A → Result B ChunkFault) → RefusesFetch e first → RefusesFetch e (first >>= next)
refuses_first (Fault (fetch.Chunk f)) first next is = ap (λ r. r >>= next) is
refuses_first (Fault fetch.Read) first next is = is
refuses_first NoMemory first next is = is

pub deep_refused : (e : Refusal FetchFault) (fields : List ℕ) (m : Method) (raw : ℕ) (bytes : List ℕ) → RefusesFetch e (deep_sizes_in fields m raw bytes) → RefusesFetch e (deep_in fields m raw bytes)
unfolding deep_in
deep_refused e fields m raw bytes is = refuses_first e (deep_sizes_in fields m raw bytes) (λ sizes. sized_body sizes (drop (length fields + 24) bytes)) is

later_rise : (before between now : ℕ) → before ≤ between → Rose between now → Rose before now
later_rise before between now le rose = omega arith

-- a failed read after others owes a rise since before them
pub owes_since : {T : Type 0} (r : Result T (Refusal FetchFault)) (before between now : ℕ) → before ≤ between → OwesFetch r (Rose between now) → OwesFetch r (Rose before now)
owes_since (Ok x) before between now le owes = owes
owes_since (Err (Fault (fetch.Chunk f))) before between now le owes = owes
owes_since (Err (Fault fetch.Read)) before between now le owes = later_rise before between now le owes
owes_since (Err NoMemory) before between now le owes = owes

-- ---- of either form

module _ (deep : Bool) (fields : List ℕ) (m : Method) (raw : ℕ) (bytes : List ℕ) where
  pub stored_deep : (body : DeepBody) → deep ≡ true → deep_in fields m raw bytes ≡ Ok body → stored_in deep fields m raw bytes ≡ Ok (deep_data body)
  unfolding stored_in
  stored_deep body is found =
      ap (λ b. stored_in b fields m raw bytes) is ∙ ap (λ r. r >>= λ found. Ok (deep_data found)) found

  pub stored_flat : (data_bytes : List ℕ) → deep ≡ false → data_in fields m raw bytes ≡ Ok data_bytes → stored_in deep fields m raw bytes ≡ Ok (flat_data data_bytes)
  unfolding stored_in
  stored_flat data_bytes is found =
      ap (λ b. stored_in b fields m raw bytes) is ∙ ap (λ r. r >>= λ found. Ok (flat_data found)) found

  pub refused_deep : (e : Refusal FetchFault) → deep ≡ true → RefusesFetch e (deep_in fields m raw bytes) → RefusesFetch e (stored_in deep fields m raw bytes)
  unfolding stored_in
  refused_deep e is refused =
      subst (λ b. RefusesFetch e (stored_in b fields m raw bytes)) (sym is) (refuses_first e (deep_in fields m raw bytes) (λ found. Ok (deep_data found)) refused)

  pub refused_flat : (e : Refusal FetchFault) → deep ≡ false → RefusesFetch e (data_in fields m raw bytes) → RefusesFetch e (stored_in deep fields m raw bytes)
  unfolding stored_in
  refused_flat e is refused =
      subst (λ b. RefusesFetch e (stored_in b fields m raw bytes)) (sym is) (refuses_first e (data_in fields m raw bytes) (λ found. Ok (flat_data found)) refused)

-- ---- sizes

-- data of the part's form has sizes that it may have for the channels and the chunk's region
pub body_fits : (r : Result Body (Refusal FetchFault)) (m : Method) (raw : ℕ) (h : Header) (i : ℕ) → m ≡ h.method → raw ≡ chunk_bytes_of h i
    → IfOk r (λ body. is_deep_data (data_of body) ≡ is_deep h.kind)
    → IfOk r (λ body. IsTrue (has_size m raw (data_of body)))
    → IfOk r (λ body. IsTrue (sizes_fit h.method h.channels (region_of h i) (data_of body)))
body_fits (Ok body) m raw h i method bytes form has =
    let whole : raw ≡ raw_bytes_of (is_deep_data (data_of body)) h.channels (region_of h i) =
    bytes ∙ bytes_of_form h i ∙ ap (λ b. raw_bytes_of b h.channels (region_of h i)) (sym form) in
    subst (λ n. IsTrue (has_size h.method n (data_of body))) whole (subst (λ (m : Method). IsTrue (has_size m raw (data_of body))) method has)
body_fits (Err e) m raw h i method bytes form has = tt
