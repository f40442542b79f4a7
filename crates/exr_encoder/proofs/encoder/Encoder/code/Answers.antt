use Rattle.std.proofs.Common.{◌≡◌, ℕ, ◌+◌, ◌<◌, List, get_or, ap, ap₂, ◌∙◌, arith}
use Rattle.std.proofs.lemmas.List.{get_or_read}
use Rattle.exr_codes.specs.Codes.{code_number}
use Rattle.exr_encoder.specs.Encoding.{IsEncoder}
use Rattle.exr_encoder.proofs.Codes.{coded_within, number_from, number_small}
use Rattle.exr_encoder.proofs.encoder.Encoder.code.Goals as goal

-- the sum of two entries that were read
read_number : (lengths firsts ranks : List ℕ) (k len rank : ℕ) → IsEncoder lengths firsts ranks → 0 < get_or lengths k 0 → len ≡ get_or lengths k len → rank ≡ get_or ranks k rank → get_or firsts len 0 + rank ≡ code_number lengths k
read_number lengths firsts ranks k len rank is some len_is rank_is =
    let within = coded_within lengths k some in
    ap₂ (λ l r. get_or firsts l 0 + r) (get_or_read lengths k len within len_is 0) (get_or_read ranks k rank (omega (arith, is.ranks_size)) rank_is 0) ∙ number_from lengths firsts ranks k is some

pub overflow_add-result : goal.overflow_add-result
overflow_add-result c =
    let inside = c.self.inside in
    let some : 0 < get_or inside.lengths.items c.args.entry 0 = rw c.self.view_is c.requires in
    let is = read_number inside.lengths.items inside.firsts inside.ranks.items c.args.entry c.index-len.result.now c.index.result.now c.self.invariant some c.index-len.ensures c.index.ensures in
    rw is (omega (arith, number_small inside.lengths.items c.args.entry c.self.invariant.complete some))

pub returns-clause-number : goal.returns-clause-number
returns-clause-number c =
    let inside = c.self.inside in
    let some : 0 < get_or inside.lengths.items c.args.entry 0 = rw c.self.view_is c.requires in
    read_number inside.lengths.items inside.firsts inside.ranks.items c.args.entry c.index-len.result.now c.index.result.now c.self.invariant some c.index-len.ensures c.index.ensures ∙ ap (λ (ls : List ℕ). code_number ls c.args.entry) c.self.view_is
