-- What packed data stands for, by its length.
use Rattle.std.proofs.Common.{◌≡◌, ℕ, ◌<◌, List, length, Ok, Err, refl, sym, ap, ◌∙◌, arith}
use Rattle.std.proofs.lemmas.Bool.{lt-ltb, le-ltb}
use Rattle.exr_base.specs.declared.shape.Box2i.{Box2i}
use Rattle.exr_base.specs.declared.channel.Channel.{Channel}
use Rattle.exr_planar.specs.Planar.{raw_from_planar}
use Rattle.exr_b44.specs.declared.fault.B44Fault.TheVariants.{Short, Long}
use Rattle.exr_b44.specs.Block.{channels_len, channels_unpacked, b44_of}

pub is_short : (channels : List Channel) (region : Box2i) (packed : List ℕ) → length packed < channels_len region channels packed → b44_of channels region packed ≡ Err Short
unfolding b44_of
is_short channels region packed lt = rw (lt-ltb (length packed) (channels_len region channels packed) lt) refl

pub is_long : (channels : List Channel) (region : Box2i) (packed : List ℕ) → channels_len region channels packed < length packed → b44_of channels region packed ≡ Err Long
unfolding b44_of
is_long channels region packed lt =
    let a = le-ltb (length packed) (channels_len region channels packed) (omega arith) in
    let b = lt-ltb (channels_len region channels packed) (length packed) lt in
    rw a (rw b refl)

pub is_whole : (channels : List Channel) (region : Box2i) (packed planar raw : List ℕ) → channels_len region channels packed ≡ length packed → planar ≡ channels_unpacked region channels packed
    → raw ≡ raw_from_planar channels region planar → b44_of channels region packed ≡ Ok raw
unfolding b44_of
is_whole channels region packed planar raw long samples laid =
    let a = le-ltb (length packed) (channels_len region channels packed) (omega arith) in
    let b = le-ltb (channels_len region channels packed) (length packed) (omega arith) in
    let e : Ok (raw_from_planar channels region (channels_unpacked region channels packed)) ≡ Ok raw = sym (ap Ok (laid ∙ ap (raw_from_planar channels region) samples)) in
    rw a (rw b e)
