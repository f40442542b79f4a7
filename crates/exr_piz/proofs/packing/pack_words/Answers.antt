use Rattle.std.proofs.Common.{◌≡◌, ◌<◌, ◌^◌, ◌++◌, ℕ, List, length, map, ap, ap₂, sym, subst, ◌∙◌, arith}
use Rattle.std.specs.Int.{w32, to_le_bytes}
use Rattle.exr_base.specs.declared.shape.Box2i.{Box2i}
use Rattle.exr_base.specs.declared.channel.Channel.{Channel}
use Rattle.exr_huffman.specs.Blocks.{huffman_words_of}
use Rattle.exr_packing.specs.Packed.{pack_of}
use Rattle.exr_wavelet.specs.Wave.{wave_of}
use Rattle.exr_piz.specs.Values.{rank_of, greatest_rank_of}
use Rattle.exr_piz.specs.Planes.{channels_by}
use Rattle.exr_piz.specs.Piz.{piz_of, block_of, packed_words_of}
use Rattle.exr_piz.proofs.Repacked.{front_small, words_again}
use Rattle.exr_piz.proofs.packing.pack_words.Goals as goal

made : (channels : List Channel) (region : Box2i) (words coded bytes : List ℕ) → coded ≡ channels_by (wave_of (greatest_rank_of words)) region channels (map (rank_of words) words) → bytes ≡ pack_of coded → bytes ≡ block_of channels region words
unfolding block_of
made channels region words coded bytes is packed = packed ∙ ap pack_of is

pub joined-requires-clause-front : goal.joined-requires-clause-front
joined-requires-clause-front c = omega (arith, ap length (c.deref.ensures.value ∙ c.in_ok-map.ensures.front), front_small c.args.words.now)

pub returns-clause-exact : goal.returns-clause-exact
unfolding packed_words_of
returns-clause-exact c =
    let channels = c.args.shape.now.channels.now in
    let region = c.args.shape.now.region in
    let words = c.args.words.now in
    let coded = c.turn_channels.new.words in
    let is : coded ≡ channels_by (wave_of (greatest_rank_of words)) region channels (map (rank_of words) words) =
    c.turn_channels.ensures ∙ ap₂ (λ (max : ℕ) (ws : List ℕ). channels_by (wave_of max) region channels ws) c.in_ok-map.ensures.greatest c.in_ok-map.ensures.ranks in
    let block : c.in_ok-block.block.items ≡ block_of channels region words = made channels region words coded c.in_ok-block.block.items is c.in_ok-block.ensures.exact in
    c.in_ok-joined.ensures
    ∙ ap₂ (λ (front bytes : List ℕ). front ++ to_le_bytes w32 (length bytes) ++ bytes) (c.deref.ensures.value ∙ c.in_ok-map.ensures.front) (c.deref-2.ensures.value ∙ block)

pub returns-clause-restores : goal.returns-clause-restores
returns-clause-restores c =
    let channels = c.args.shape.now.channels.now in
    let region = c.args.shape.now.region in
    let words = c.args.words.now in
    let coded = c.turn_channels.new.words in
    let is : coded ≡ channels_by (wave_of (greatest_rank_of words)) region channels (map (rank_of words) words) =
    c.turn_channels.ensures ∙ ap₂ (λ (max : ℕ) (ws : List ℕ). channels_by (wave_of max) region channels ws) c.in_ok-map.ensures.greatest c.in_ok-map.ensures.ranks in
    let block : c.in_ok-block.block.items ≡ block_of channels region words = made channels region words coded c.in_ok-block.block.items is c.in_ok-block.ensures.exact in
    ap (piz_of channels region) (returns-clause-exact c)
    ∙ words_again channels region words coded c.requires.size c.renumber_words.ensures.words is
    (subst (λ (bytes : List ℕ). length bytes < 2 ^ 31) block c.in_ok-block.ensures.small)
    (ap (λ (bytes : List ℕ). huffman_words_of bytes (length coded)) (sym block) ∙ c.in_ok-block.ensures.restores)
