-- Slices against channels: in a loop, and what a list of places says of each.
use Rattle.std.proofs.Common.{◌≡◌, ◌+◌, ◌<◌, ◌≤◌, ℕ, zero, suc, Bool, true, false, cond, ◌&&◌, List, [], ◌∷◌, ◌++◌, length, take, drop, get_or, map, Option, Some, None, Result, Ok, Err, refl, sym, ap, ◌∙◌, subst, inl, inr, arith, eqb, nat_eq}
use Rattle.std.specs.List.{flat_map, position}
use Rattle.std.specs.Cmp.Lexicographic.{pointwise}
use Rattle.std.proofs.lemmas.Cmp.{nat_list_eq_equiv}
use Rattle.std.proofs.lemmas.Bool.{cases_lt, eqb-true}
use Rattle.std.proofs.lemmas.List.{at_drop_more, at_drop_all, append_assoc, append-nil, get_or-map, get_or-take, length-take, length-map, map-append}
use Rattle.std.proofs.lemmas.List.Concat.{flat_map-append}
use Rattle.std.proofs.lemmas.List.Quantifiers.{position-Some}
use Rattle.exr_base.specs.Refusal.{◌>>=◌}
use Rattle.exr_base.specs.declared.channel.Channel.{Channel}
use Rattle.exr_layout.specs.declared.planes.Slice.{Slice}
use Rattle.exr_layout.specs.declared.planes.Run.{Run}
use Rattle.exr_layout.specs.declared.planes.Plane.{Plane}
use Rattle.exr_layout.specs.declared.fault.LayoutFault.{LayoutFault}
use Rattle.exr_layout.specs.declared.fault.LayoutFault.TheVariants.{Empty, Huge, TwiceChannel}
use Rattle.exr_layout.specs.declared.fault.MatchFault.{MatchFault}
use Rattle.exr_layout.specs.declared.fault.MatchFault.TheVariants.{KindDiffers, SamplingDiffers}
use Rattle.exr_layout.specs.declared.placement.Placement.{Placement}
use Rattle.exr_layout.specs.Validation.{Frame, IsValid, frame_validated, planes_validated, is_empty_plane, is_huge_plane, slices_of, slices_of_runs, slices_of_plane, has_name, names_validated, refused_at}
use Rattle.exr_layout.specs.Place.{placement_of, placements_of_run, placements_of_plane, placements_of, no_placement, placement_at}
use Rattle.exr_base.specs.Channel.{channel_at, no_channel, is_named}
use Rattle.exr_layout.specs.Plan.{same_kind, same_samplings, against, against_found, slice_matched, slices_matched}
use Rattle.exr_layout.proofs.Counted.{none_at}

-- ---- in a loop

joined : {X F : Type 0} (r : Result (List X) F) (done : List X) (x : X) → ((r >>= λ others. Ok (x ∷ others)) >>= λ o. Ok (done ++ o)) ≡ (r >>= λ others. Ok ((done ++ x ∷ []) ++ others))
joined (Ok xs) done x = ap Ok (sym (append_assoc done (x ∷ []) xs))
joined (Err e) done x = refl

-- the places of the slices so far, before those of the rest
abbrev pub IsSoFar : List Channel → List Placement → ℕ → ℕ → List (Option ℕ) → Type 0
IsSoFar channels placements n i done = slices_matched channels 0 placements ≡ (slices_matched channels n (drop i placements) >>= λ others. Ok (done ++ others))

at_rest : (channels : List Channel) (n i : ℕ) (xs : List Placement) (x : Placement) → i < length xs → x ≡ get_or xs i x
    → slices_matched channels n (drop i xs) ≡ (slice_matched channels n x >>= λ place. slices_matched channels (n + 1) (drop (i + 1) xs) >>= λ others. Ok (place ∷ others))
unfolding slices_matched
at_rest channels n i xs x lt is = at_drop_more (slices_matched channels n) xs i x lt ∙ ap (λ (y : Placement). slices_matched channels n (y ∷ drop (i + 1) xs)) (sym is)

pub matched_err : (channels : List Channel) (n i : ℕ) (xs : List Placement) (x : Placement) (done : List (Option ℕ)) (f : MatchFault) → i < length xs → x ≡ get_or xs i x → Err f ≡ slice_matched channels n x
    → IsSoFar channels xs n i done → slices_matched channels 0 xs ≡ Err f
matched_err channels n i xs x done f lt is h so =
    so ∙ ap (λ (r : Result (List (Option ℕ)) MatchFault). r >>= λ others. Ok (done ++ others)) (at_rest channels n i xs x lt is)
    ∙ ap (λ (r : Result (Option ℕ) MatchFault). (r >>= λ place. slices_matched channels (n + 1) (drop (i + 1) xs) >>= λ others. Ok (place ∷ others)) >>= λ others. Ok (done ++ others)) (sym h)

pub matched_ok : (channels : List Channel) (n i : ℕ) (xs : List Placement) (x : Placement) (done : List (Option ℕ)) (place : Option ℕ) → i < length xs → x ≡ get_or xs i x → Ok place ≡ slice_matched channels n x
    → IsSoFar channels xs n i done → IsSoFar channels xs (n + 1) (i + 1) (done ++ place ∷ [])
matched_ok channels n i xs x done place lt is h so =
    so ∙ ap (λ (r : Result (List (Option ℕ)) MatchFault). r >>= λ others. Ok (done ++ others)) (at_rest channels n i xs x lt is)
    ∙ ap (λ (r : Result (Option ℕ) MatchFault). (r >>= λ place. slices_matched channels (n + 1) (drop (i + 1) xs) >>= λ others. Ok (place ∷ others)) >>= λ others. Ok (done ++ others)) (sym h)
    ∙ joined (slices_matched channels (n + 1) (drop (i + 1) xs)) done place

matched_none : (channels : List Channel) (n : ℕ) → slices_matched channels n [] ≡ Ok []
unfolding slices_matched
matched_none channels n = refl

pub matched_all : (channels : List Channel) (n i : ℕ) (xs : List Placement) (done : List (Option ℕ)) → length xs ≤ i → IsSoFar channels xs n i done → slices_matched channels 0 xs ≡ Ok done
matched_all channels n i xs done past so =
    so ∙ ap (λ (r : Result (List (Option ℕ)) MatchFault). r >>= λ others. Ok (done ++ others)) (at_drop_all (slices_matched channels n) xs i past ∙ matched_none channels n)
    ∙ ap Ok (append-nil done)

whole : {X F : Type 0} (r : Result (List X) F) → r ≡ (r >>= λ others. Ok ([] ++ others))
whole (Ok xs) = refl
whole (Err e) = refl

pub matched_begun : (channels : List Channel) (xs : List Placement) (done : List (Option ℕ)) → done ≡ [] → IsSoFar channels xs 0 0 done
matched_begun channels xs done h = subst (IsSoFar channels xs 0 0) (sym h) (whole (slices_matched channels 0 xs))

-- ---- what the places say

-- the channel of a slice: it has the slice's name, its kind and its samplings
pub record IsChannelOf (channels : List Channel) (placement : Placement) (c : ℕ) : Type 0 where
  pub within : c < length channels
  pub named : pointwise nat_eq (channel_at channels c).name placement.channel ≡ true
  pub kind : same_kind (channel_at channels c).kind placement.kind ≡ true
  pub columns : (channel_at channels c).xs ≡ placement.sampling
  pub rows : (channel_at channels c).ys ≡ placement.row_sampling

pub bind_ok_from : {A B F : Type 0} (r : Result A F) (f : A → Result B F) (y : B) → (r >>= f) ≡ Ok y → (x : A) × (r ≡ Ok x) × (f x ≡ Ok y)
bind_ok_from (Ok x) f y h = (x, refl, h)
bind_ok_from (Err e) f y h = absurd (cc)

pub record EachMatched (channels : List Channel) (n : ℕ) (placements : List Placement) (places : List (Option ℕ)) : Type 0 where
  pub count : length places ≡ length placements
  pub each : (s : ℕ) → s < length placements → slice_matched channels (n + s) (placement_at placements s) ≡ Ok (get_or places s None)

pub each_matched : (channels : List Channel) (n : ℕ) (placements : List Placement) (places : List (Option ℕ)) → slices_matched channels n placements ≡ Ok places → EachMatched channels n placements places
unfolding slices_matched
each_matched channels n [] places h =
    let e : places ≡ [] = cc in
    record { count = ap length e; each = λ s lt. absurd (omega arith) }
each_matched channels n (x ∷ xs) places h =
    let a = bind_ok_from (slice_matched channels n x) (λ place. slices_matched channels (n + 1) xs >>= λ others. Ok (place ∷ others)) places h in
    let b = bind_ok_from (slices_matched channels (n + 1) xs) (λ others. Ok (a.0 ∷ others)) places a.2 in
    let rest = each_matched channels (n + 1) xs b.0 b.1 in
    let f = b.2 in let e : a.0 ∷ b.0 ≡ places = cc in
    subst (EachMatched channels n (x ∷ xs)) e (record {
      count = ap suc rest.count;
      each = λ s. elim s as (λ s. s < length (x ∷ xs) → slice_matched channels (n + s) (placement_at (x ∷ xs) s) ≡ Ok (get_or (a.0 ∷ b.0) s None)) [
        | zero ↦ λ lt. ap (λ k. slice_matched channels k x) (omega arith) ∙ a.1
        | suc k ↦ λ lt. ap (λ j. slice_matched channels j (placement_at xs k)) (omega arith) ∙ rest.each k (omega arith)
      ];
    })

-- ---- two tests that were passed

pub and_left : (a b : Bool) → (a && b) ≡ true → a ≡ true
and_left true b h = refl
and_left false b h = absurd (cc)

pub and_right : (a b : Bool) → (a && b) ≡ true → b ≡ true
and_right true b h = h
and_right false b h = absurd (cc)

passed : (n : ℕ) (placement : Placement) (c : Channel) (place : ℕ) (o : Option ℕ) → against n placement c place ≡ Ok o → (same_kind c.kind placement.kind ≡ true) × (same_samplings placement c ≡ true) × (o ≡ Some place)
passed n placement c place o h =
    elim (same_kind c.kind placement.kind) as (λ b. cond b (cond (same_samplings placement c) (Ok (Some place)) (Err (SamplingDiffers n))) (Err (KindDiffers n)) ≡ Ok o → (b ≡ true) × (same_samplings placement c ≡ true) × (o ≡ Some place)) [
      | true ↦ elim (same_samplings placement c) as (λ b. cond b (Ok (Some place)) (Err (SamplingDiffers n)) ≡ Ok o → (true ≡ true) × (b ≡ true) × (o ≡ Some place)) [
        | true ↦ λ e. (refl, refl, cc)
        | false ↦ λ e. absurd (cc)
      ]
      | false ↦ λ e. absurd (cc)
    ] h

channel_found : (channels : List Channel) (n : ℕ) (placement : Placement) (found : Option ℕ) (c : ℕ) → found ≡ position (is_named placement.channel) channels → against_found channels n placement found ≡ Ok (Some c) → IsChannelOf channels placement c
channel_found channels n placement None c at h = absurd (cc)
channel_found channels n placement (Some place) c at h =
    let t = passed n placement (channel_at channels place) place (Some c) h in
    let e : place ≡ c = cc in
    let p = position-Some (is_named placement.channel) channels place no_channel (sym at) in
    subst (IsChannelOf channels placement) e (record {
      within = p.0;
      named = p.1;
      kind = t.0;
      columns = eqb-true (channel_at channels place).xs placement.sampling (and_left (eqb (channel_at channels place).xs placement.sampling) (eqb (channel_at channels place).ys placement.row_sampling) t.1);
      rows = eqb-true (channel_at channels place).ys placement.row_sampling (and_right (eqb (channel_at channels place).xs placement.sampling) (eqb (channel_at channels place).ys placement.row_sampling) t.1);
    })

pub channel_of : (channels : List Channel) (n : ℕ) (placement : Placement) (c : ℕ) → slice_matched channels n placement ≡ Ok (Some c) → IsChannelOf channels placement c
unfolding slice_matched
channel_of channels n placement c h = channel_found channels n placement (position (is_named placement.channel) channels) c refl h

-- a slice with a channel is one of the slices
pub slice_within : (xs : List (Option ℕ)) (s c : ℕ) → get_or xs s None ≡ Some c → s < length xs
slice_within [] s c h = absurd (cc)
slice_within (x ∷ xs) zero c h = omega arith
slice_within (x ∷ xs) (suc s) c h = let r = slice_within xs s c h in omega arith

pub slice_channel : (channels : List Channel) (placements : List Placement) (places : List (Option ℕ)) (s c : ℕ) → slices_matched channels 0 placements ≡ Ok places → get_or places s None ≡ Some c → IsChannelOf channels (placement_at placements s) c
slice_channel channels placements places s c h at =
    let each = each_matched channels 0 placements places h in
    let lt = slice_within places s c at in
    channel_of channels (0 + s) (placement_at placements s) c (each.each s (omega (arith, each.count)) ∙ ap Ok at)

-- ---- no two slices have one name

none_refused : (fault : ℕ → LayoutFault) (o : Option ℕ) (n : Unit {0}) → refused_at fault o ≡ Ok n → o ≡ None
none_refused fault None n h = refl
none_refused fault (Some k) n h = absurd (cc)

names_none : (before : List Slice) (xs : List Slice) (ends : Unit {0}) → names_validated before xs ≡ Ok ends → (k : ℕ) (d : Slice) → k < length xs → position (has_name (get_or xs k d).channel) (before ++ take k xs) ≡ None
unfolding names_validated
names_none before [] ends h k d lt = absurd (omega arith)
names_none before (x ∷ xs) ends h zero d lt =
    let a = bind_ok_from (refused_at (λ first. TwiceChannel first (length before)) (position (has_name x.channel) before)) (λ _. names_validated (before ++ x ∷ []) xs) ends h in
    ap (position (has_name x.channel)) (append-nil before) ∙ none_refused (λ first. TwiceChannel first (length before)) (position (has_name x.channel) before) a.0 a.1
names_none before (x ∷ xs) ends h (suc k) d lt =
    let a = bind_ok_from (refused_at (λ first. TwiceChannel first (length before)) (position (has_name x.channel) before)) (λ _. names_validated (before ++ x ∷ []) xs) ends h in
    ap (position (has_name (get_or xs k d).channel)) (sym (append_assoc before (x ∷ []) (take k xs))) ∙ names_none (before ++ x ∷ []) xs ends a.2 k d (omega arith)

-- an earlier slice has another name
names_differ : (xs : List Slice) (ends : Unit {0}) (i j : ℕ) (d : Slice) → names_validated [] xs ≡ Ok ends → i < j → j < length xs → pointwise nat_eq (get_or xs i d).channel (get_or xs j d).channel ≡ false
names_differ xs ends i j d h lt within =
    let none = names_none [] xs ends h j d within in
    let at = none_at (has_name (get_or xs j d).channel) (take j xs) none i d (simp length-take (omega arith)) in
    ap (λ (s : Slice). pointwise nat_eq s.channel (get_or xs j d).channel) (sym (get_or-take j xs i d lt)) ∙ at

-- the names of the slices, in their order
names_of_run : (p : Plane) (r : Run) (xs : List Slice) → map (λ (s : Placement). s.channel) (map (placement_of p r) xs) ≡ map (λ (s : Slice). s.channel) xs
names_of_run p r [] = refl
names_of_run p r (x ∷ xs) = ap (λ l. x.channel ∷ l) (names_of_run p r xs)

names_of_plane : (p : Plane) (rs : List Run) → map (λ (s : Placement). s.channel) (flat_map (placements_of_run p) rs) ≡ map (λ (s : Slice). s.channel) (slices_of_runs rs)
names_of_plane p [] = refl
names_of_plane p (r ∷ rs) =
    map-append (λ (s : Placement). s.channel) (placements_of_run p r) (flat_map (placements_of_run p) rs)
    ∙ ap (λ l. l ++ map (λ (s : Placement). s.channel) (flat_map (placements_of_run p) rs)) (names_of_run p r r.slices.items)
    ∙ ap (λ l. map (λ (s : Slice). s.channel) r.slices.items ++ l) (names_of_plane p rs)
    ∙ sym (map-append (λ (s : Slice). s.channel) r.slices.items (slices_of_runs rs))

slices_first : (p : Plane) (ps : List Plane) → slices_of (p ∷ ps) ≡ slices_of_plane p ++ slices_of ps
slices_first p ps = flat_map-append (λ (r : Run). r.slices.items) p.runs.items (flat_map (λ (p : Plane). p.runs.items) ps)

names_of_all : (ps : List Plane) → map (λ (s : Placement). s.channel) (placements_of ps) ≡ map (λ (s : Slice). s.channel) (slices_of ps)
names_of_all [] = refl
names_of_all (p ∷ ps) =
    map-append (λ (s : Placement). s.channel) (placements_of_plane p) (placements_of ps)
    ∙ ap (λ l. l ++ map (λ (s : Placement). s.channel) (placements_of ps)) (names_of_plane p p.runs.items)
    ∙ ap (λ l. map (λ (s : Slice). s.channel) (slices_of_plane p) ++ l) (names_of_all ps)
    ∙ sym (map-append (λ (s : Slice). s.channel) (slices_of_plane p) (slices_of ps))
    ∙ ap (map (λ (s : Slice). s.channel)) (sym (slices_first p ps))

pub as_many : (ps : List Plane) → length (placements_of ps) ≡ length (slices_of ps)
as_many ps = sym (length-map (placements_of ps) (λ (s : Placement). s.channel)) ∙ ap length (names_of_all ps) ∙ length-map (slices_of ps) (λ (s : Slice). s.channel)

name_at : (ps : List Plane) (s : ℕ) (d : Slice) → s < length (slices_of ps) → (placement_at (placements_of ps) s).channel ≡ (get_or (slices_of ps) s d).channel
name_at ps s d lt =
    let count = as_many ps in
    let within : s < length (placements_of ps) = omega arith in
    sym (get_or-map (λ (s : Placement). s.channel) (placements_of ps) s no_placement [] within) ∙ ap (λ l. get_or l s []) (names_of_all ps) ∙ get_or-map (λ (s : Slice). s.channel) (slices_of ps) s d [] lt

spots_differ : (ps : List Plane) (ends : Unit {0}) (i j : ℕ) → names_validated [] (slices_of ps) ≡ Ok ends → i < j → j < length (placements_of ps) → pointwise nat_eq (placement_at (placements_of ps) i).channel (placement_at (placements_of ps) j).channel ≡ false
spots_differ ps ends i j h lt within =
    elim (slices_of ps) as (λ xs. slices_of ps ≡ xs → pointwise nat_eq (placement_at (placements_of ps) i).channel (placement_at (placements_of ps) j).channel ≡ false) [
      | [] ↦ λ e. let count = as_many ps in let none = ap length e in absurd (omega arith)
      | d ∷ _ ↦ λ e.
          let count = as_many ps in
          rw (name_at ps i d (omega arith), name_at ps j d (omega arith)) (names_differ (slices_of ps) ends i j d h lt (omega arith))
    ] refl

-- so two slices have two channels
pub one_slice : (channels : List Channel) (ps : List Plane) (places : List (Option ℕ)) (ends : Unit {0}) (s t c : ℕ) → names_validated [] (slices_of ps) ≡ Ok ends → slices_matched channels 0 (placements_of ps) ≡ Ok places
    → get_or places s None ≡ Some c → get_or places t None ≡ Some c → s ≡ t
one_slice channels ps places ends s t c names matched at_s at_t =
    let each = each_matched channels 0 (placements_of ps) places matched in
    let a = slice_channel channels (placements_of ps) places s c matched at_s in
    let b = slice_channel channels (placements_of ps) places t c matched at_t in
    let ls = slice_within places s c at_s in
    let lt = slice_within places t c at_t in
    let count = each.count in
    let same = nat_list_eq_equiv.congr (channel_at channels c).name (placement_at (placements_of ps) s).channel (placement_at (placements_of ps) t).channel a.named in
    let other = nat_list_eq_equiv.congr (channel_at channels c).name (placement_at (placements_of ps) t).channel (placement_at (placements_of ps) s).channel b.named in
    let bn = b.named in
    let an = a.named in
    elim (cases_lt s t) [
      | inl h ↦ absurd (let d = spots_differ ps ends s t names h (omega arith) in cc)
      | inr le ↦ elim (cases_lt t s) [
        | inl h ↦ absurd (let d = spots_differ ps ends t s names h (omega arith) in cc)
        | inr ge ↦ omega arith
      ]
    ]

-- ---- two sides

-- ---- what is known before the channels are turned round

pub few_spots : (ps qs : List Plane) (placements : List Placement) → placements ≡ placements_of qs → qs ≡ ps → length (slices_of ps) ≤ 1024 → length placements ≤ 1024
few_spots ps qs placements e f few =
    let a = as_many ps in
    let b : length placements ≡ length (placements_of ps) = ap length e ∙ ap (λ (l : List Plane). length (placements_of l)) f in
    omega arith

pub few_places : (channels : List Channel) (placements : List Placement) (places : List (Option ℕ)) → slices_matched channels 0 placements ≡ Ok places → length placements ≤ 1024 → length places ≤ 1024
few_places channels placements places h few = let e = (each_matched channels 0 placements places h).count in omega arith

pub record AllPassed (f : Frame) (ends : ℕ) : Type 0 where
  pub tested : Unit {0}
  pub names : names_validated [] (slices_of f.planes) ≡ Ok tested
  pub planes : planes_validated f.window f.buffer 0 0 f.planes ≡ Ok ends

pub all_passed : (f : Frame) (valid : IsValid f) → AllPassed f valid.ends
unfolding frame_validated
all_passed f valid =
    let a = bind_ok_from (refused_at (λ plane. Empty plane) (position is_empty_plane f.planes)) (λ _. refused_at (λ plane. Huge plane) (position is_huge_plane f.planes) >>= λ _. names_validated [] (slices_of f.planes) >>= λ _. planes_validated f.window f.buffer 0 0 f.planes) valid.ends valid.validated in
    let b = bind_ok_from (refused_at (λ plane. Huge plane) (position is_huge_plane f.planes)) (λ _. names_validated [] (slices_of f.planes) >>= λ _. planes_validated f.window f.buffer 0 0 f.planes) valid.ends a.2 in
    let d = bind_ok_from (names_validated [] (slices_of f.planes)) (λ _. planes_validated f.window f.buffer 0 0 f.planes) valid.ends b.2 in
    record { tested = d.0; names = d.1; planes = d.2 }

pub matched_here : (cs cs' : List Channel) (ps ps' : List Plane) (ss ss' : List Placement) (places : List (Option ℕ)) → cs' ≡ cs → ss' ≡ ss → ss ≡ placements_of ps' → ps' ≡ ps → slices_matched cs' 0 ss' ≡ Ok places → slices_matched cs 0 (placements_of ps) ≡ Ok places
matched_here cs cs' ps ps' ss ss' places a b d e h =
    ap (λ (l : List Channel). slices_matched l 0 (placements_of ps)) (sym a) ∙ ap (slices_matched cs' 0) (sym (b ∙ d ∙ ap (λ (l : List Plane). placements_of l) e)) ∙ h
