use Rattle.std.proofs.Common.{◌≡◌, ◌+◌, ◌*◌, ◌%◌, ◌^◌, ◌≤◌, arith}
use Rattle.exr_huffman.proofs.ByFronts.{first_word, second_word}
use Rattle.exr_huffman.proofs.fronts.front_of.Goals as goal

pub returns-then-second-run : goal.returns-then-second-run
returns-then-second-run c =
    let a = c.args in
    let first = c.find-first.result in
    let window = a.front * 2 ^ 52 % 2 ^ 64 in
    let is : window ≡ a.front * 2 ^ 52 = omega (arith, c.requires.small) in
    let short : first.len ≤ 12 = omega (arith, c.if-first-gt12.false) in
    record {
      small = short;
      few = omega arith;
      some = λ h. c.find-first.ensures.has_bits;
      none = λ h. absurd (omega arith);
      len = first.len;
      one = λ bits begins h. first_word a.least a.decoder.now c.requires.complete a.run c.requires.run a.front window first.entry first.len is c.find-first.ensures short c.if-first-run.false bits begins;
      two = λ bits begins h. absurd (omega arith);
    }

pub returns : goal.returns
returns c =
    let a = c.args in
    let first = c.find-first.result in
    let second = c.find-second.result in
    let window = a.front * 2 ^ 52 % 2 ^ 64 in
    let is : window ≡ a.front * 2 ^ 52 = omega (arith, c.requires.small) in
    let short : first.len ≤ 12 = omega (arith, c.if-first-gt12.false) in
    let fits : first.len + second.len ≤ 12 = omega (arith, c.if-second-first.false) in
    record {
      small = fits;
      few = omega arith;
      some = λ h. omega (arith, c.find-first.ensures.has_bits);
      none = λ h. absurd (omega arith);
      len = first.len;
      one = λ bits begins h. absurd (omega arith);
      two = λ bits begins h. (
        first_word a.least a.decoder.now c.requires.complete a.run c.requires.run a.front window first.entry first.len is c.find-first.ensures short c.if-first-run.false bits begins,
        second_word a.least a.decoder.now c.requires.complete a.run c.requires.run a.front window first.entry first.len is c.find-first.ensures second.entry second.len c.find-second.ensures fits c.if-second-run.false bits begins,
      );
    }
