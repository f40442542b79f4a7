use Rattle.std.proofs.Common.{◌≡◌, ◌+◌, ◌-◌, ◌*◌, length, take, drop, ◌∙◌, arith, sym}
use Rattle.std.proofs.lemmas.List.{length-take-le, length-drop}
use Rattle.std.proofs.lemmas.Simd.{put_chunk_whole}
use lib.Lanes.{put_chunk}
use Rattle.exr_b44.proofs.Rows.{piece_put}
use Rattle.exr_b44.proofs.flats.put_eight.Goals as goal

pub returns : goal.returns
returns c =
    let eight = c.args.eight in
    let lines = c.args.lines.now in
    let wide = c.args.wide in
    let from = c.args.from in
    let y = c.args.y in
    let to = y * wide + from in
    let count : (to + 8) - to ≡ 8 = omega arith in
    let room : length (take 8 (drop to lines)) ≡ 8 = length-take-le 8 (drop to lines) (omega (arith, length-drop to lines, c.requires.room, c.requires.inside)) in
    let long : length eight ≡ 8 = c.fits-eight.0 in
    let stored : put_chunk 0 (take 8 (drop to lines)) eight ≡ eight = put_chunk_whole (take 8 (drop to lines)) eight (room ∙ sym long) in
    rw count
    (rw stored
    (piece_put lines eight wide from 8 y c.requires.room c.requires.inside long))
