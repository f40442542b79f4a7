use Rattle.std.proofs.Common.{length, arith}
use Rattle.exr_wavelet.proofs.Room.{place_in_room}
use Rattle.exr_codec_tests.proofs.tests.wavelet.Case.step.Goals as goal

pub encode-requires-clause-within : goal.encode-requires-clause-within
encode-requires-clause-within c x y x_in y_in =
    let case = c.args.self in
    place_in_room case.first case.nx case.ny case.step x y c.in-Some.count c.in-Some-checked_mul.room (length c.args.words.now)
    (omega (arith, c.in-Some.ensures)) (omega (arith, c.in-Some-checked_mul.ensures)) (omega arith) (omega arith) x_in y_in

pub decode-requires-clause-within : goal.decode-requires-clause-within
decode-requires-clause-within c x y x_in y_in =
    let case = c.args.self in
    place_in_room case.first case.nx case.ny case.step x y c.in-Some.count c.in-Some-checked_mul.room (length c.args.words.now)
    (omega (arith, c.in-Some.ensures)) (omega (arith, c.in-Some-checked_mul.ensures)) (omega arith) (omega arith) x_in y_in
