use Rattle.std.proofs.Common.{arith}
use Rattle.exr_piz.proofs.Mapping.{AreMarksOf, map_of_marks, greatest_by_marks, renumbered}
use Rattle.exr_piz.proofs.value_map.renumber_by.Goals as goal

pub returns-clause-bytes : goal.returns-clause-bytes
returns-clause-bytes c =
    let are : AreMarksOf c.args.words.now c.put_marks.new.marks = record { marks_are = c.put_marks.ensures; within = λ k low. omega (arith, c.requires.within k low, c.put_marks.auto.marks) } in
    map_of_marks c.args.words.now c.put_marks.new.marks c.put_map.new.map are (omega (arith, c.requires.marks, c.put_marks.auto.marks, c.put_map.auto.map)) c.put_map.ensures

pub returns-clause-greatest : goal.returns-clause-greatest
returns-clause-greatest c =
    let are : AreMarksOf c.args.words.now c.put_marks.new.marks = record { marks_are = c.put_marks.ensures; within = λ k low. omega (arith, c.requires.within k low, c.put_marks.auto.marks) } in
    greatest_by_marks c.args.words.now c.put_marks.new.marks c.put_ranks-greatest.result are (omega (arith, c.requires.marks, c.put_marks.auto.marks)) (omega (arith, c.requires.marks, c.put_marks.auto.marks)) c.put_ranks-greatest.ensures.greatest

pub returns-clause-ranks : goal.returns-clause-ranks
returns-clause-ranks c =
    let are : AreMarksOf c.args.words.now c.put_marks.new.marks = record { marks_are = c.put_marks.ensures; within = λ k low. omega (arith, c.requires.within k low, c.put_marks.auto.marks) } in
    renumbered c.args.words.now c.put_marks.new.marks c.put_ranks-greatest.new.ranks c.renumber.new.words are (omega (arith, c.requires.marks, c.requires.ranks, c.put_marks.auto.marks, c.put_ranks-greatest.auto.ranks)) c.put_ranks-greatest.ensures.ranks c.renumber.ensures
