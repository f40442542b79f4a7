-- Channels read one after the other, as a loop does.
use Rattle.std.proofs.Common.{◌≡◌, ℕ, suc, ◌+◌, ◌-◌, ◌<◌, ◌≤◌, List, [], ◌∷◌, ◌++◌, length, Option, Some, None, refl, sym, ◌∙◌, arith}
use Rattle.exr_base.specs.declared.channel.Channel.{Channel}
use Rattle.exr_judge.specs.Channels.{last_name, next_channel, channels_from, channels_of}

pub begins : (value : List ℕ) (before : List Channel) → before ≡ [] → channels_from (length value - 0) before value ≡ channels_of value
unfolding channels_of
begins value before e =
    let k : length value - 0 ≡ length value = omega arith in
    rw (k, e) refl

pub goes_on : (n i : ℕ) (before : List Channel) (above rest behind : List ℕ) (c : Channel) (total : Option (List Channel)) → i < n → above ≡ last_name before → Some (Some (c, behind)) ≡ next_channel above rest
    → channels_from (n - i) before rest ≡ total → channels_from (n - (i + 1)) (before ++ c ∷ []) behind ≡ total
unfolding channels_from
goes_on n i before above rest behind c total lt is h so_far =
    let k : n - i ≡ suc (n - (i + 1)) = omega arith in
    let one : channels_from (n - i) before rest ≡ channels_from (n - (i + 1)) (before ++ c ∷ []) behind = rw (k, ← is, ← h) refl in
    sym one ∙ so_far

pub closes : (n i : ℕ) (before : List Channel) (above rest : List ℕ) (total : Option (List Channel)) → i < n → above ≡ last_name before → Some None ≡ next_channel above rest
    → channels_from (n - i) before rest ≡ total → Some before ≡ total
unfolding channels_from
closes n i before above rest total lt is h so_far =
    let k : n - i ≡ suc (n - (i + 1)) = omega arith in
    let one : channels_from (n - i) before rest ≡ Some before = rw (k, ← is, ← h) refl in
    sym one ∙ so_far

pub breaks : (n i : ℕ) (before : List Channel) (above rest : List ℕ) (total : Option (List Channel)) → i < n → above ≡ last_name before → None ≡ next_channel above rest
    → channels_from (n - i) before rest ≡ total → None ≡ total
unfolding channels_from
breaks n i before above rest total lt is h so_far =
    let k : n - i ≡ suc (n - (i + 1)) = omega arith in
    let one : channels_from (n - i) before rest ≡ None = rw (k, ← is, ← h) refl in
    sym one ∙ so_far

pub runs_out : (n i : ℕ) (before : List Channel) (rest : List ℕ) (total : Option (List Channel)) → n ≤ i
    → channels_from (n - i) before rest ≡ total → None ≡ total
unfolding channels_from
runs_out n i before rest total le so_far =
    let k : n - i ≡ 0 = omega arith in
    let one : channels_from (n - i) before rest ≡ None = rw k refl in
    sym one ∙ so_far
