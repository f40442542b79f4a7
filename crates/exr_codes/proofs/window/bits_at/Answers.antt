use Rattle.std.proofs.Common.{ℕ, ◌<◌, ◌≤◌, ◌++◌, List, length, ap, sym, ◌∙◌, take, drop, ◌%◌, ◌/◌, ◌-◌, replicate}
use Rattle.std.proofs.lemmas.List.{take_rest}
use Rattle.exr_base.specs.Bits.{number_of, bits_of_bytes}
use Rattle.exr_codes.proofs.Rests.{rest_long, rest_short}
use Rattle.exr_codes.proofs.window.bits_at.Goals as goal

pub returns-then-rest-ge9 : goal.returns-then-rest-ge9
returns-then-rest-ge9 c =
    let bytes = c.args.bytes.now in
    let at = c.args.at in
    let rest = take_rest bytes (at / 8) in
    let long : 9 ≤ length (drop (at / 8) bytes) = rw (← rest) c.if-rest-ge9.true in
    c.bits_of_nine.ensures ∙ ap (λ (xs : List ℕ). number_of (take 64 (drop (at % 8) (bits_of_bytes xs)))) rest ∙ ap number_of (sym (rest_long bytes at c.requires long))

pub returns-else-rest-ge9 : goal.returns-else-rest-ge9
returns-else-rest-ge9 c =
    let bytes = c.args.bytes.now in
    let at = c.args.at in
    let rest = take_rest bytes (at / 8) in
    let short : length (drop (at / 8) bytes) < 9 = rw (← rest) c.if-rest-ge9.false in
    c.bits_of_nine-else-rest-ge9.ensures ∙ ap (λ (xs : List ℕ). number_of (take 64 (drop (at % 8) (bits_of_bytes xs)))) (c.filled_up.ensures ∙ ap (λ (xs : List ℕ). xs ++ replicate (9 - length xs) 0) rest) ∙ ap number_of (sym (rest_short bytes at c.requires short))
