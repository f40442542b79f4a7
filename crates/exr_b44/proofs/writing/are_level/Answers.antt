use Rattle.std.proofs.Common.{◌≡◌, ℕ, true, false, eqb, ◌&&◌, not, sym, ap, ◌∙◌}
use Rattle.std.specs.List.{list_all}
use Rattle.std.proofs.lemmas.Bool.{eq-eqb, ne_eqb}
use Rattle.exr_b44.proofs.Depths.{no_lane, none_other, all-append}
use Rattle.exr_b44.proofs.writing.are_level.Goals as goal

pub returns-then-near-bias-eq0 : goal.returns-then-near-bias-eq0
returns-then-near-bias-eq0 c =
    let near = c.args.near in
    let far = c.args.far in
    let t = λ (a b : ℕ). not (eqb a b) in
    let first : list_all (λ x. eqb x 32) near ≡ true = sym (no_lane t near 32 c.fits-near.0 ∙ none_other near) ∙ eq-eqb _ 0 c.if-near-bias-eq0.true in
    no_lane t far 32 c.fits-far.0 ∙ none_other far ∙ sym (all-append (λ x. eqb x 32) near far ∙ ap (λ b. b && list_all (λ x. eqb x 32) far) first)

pub returns-else-near-bias-eq0 : goal.returns-else-near-bias-eq0
returns-else-near-bias-eq0 c =
    let near = c.args.near in
    let far = c.args.far in
    let t = λ (a b : ℕ). not (eqb a b) in
    let same = no_lane t near 32 c.fits-near.0 ∙ none_other near in
    let none : list_all (λ x. eqb x 32) near ≡ false = sym same ∙ ne_eqb _ 0 c.if-near-bias-eq0.false in
    same ∙ none ∙ sym (all-append (λ x. eqb x 32) near far ∙ ap (λ b. b && list_all (λ x. eqb x 32) far) none)
