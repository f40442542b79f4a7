use Rattle.std.proofs.Common.{length, drop, ap, ◌∙◌, arith}
use Rattle.std.proofs.lemmas.List.{take_at, length-take-le}
use Rattle.exr_rle.specs.Token.{spelling_of}
use Rattle.exr_rle.specs.Packed.{rle_pack_of, tokens_of, differences_of}
use Rattle.exr_rle.proofs.packing.pack_into.Goals as goal

pub returns : goal.returns
unfolding rle_pack_of
returns c =
    let count = length c.args.raw.now in
    let halves = c.take_apart.new.into in
    let front = take_at halves (drop count c.args.into.now) count (c.take_apart.auto.into ∙ length-take-le count c.args.into.now (omega arith)) in
    c.write_tokens.ensures ∙ ap (λ bytes. spelling_of (tokens_of bytes)) (c.put_differences.ensures ∙ ap differences_of (front ∙ c.take_apart.ensures))
