-- A layout against the channels of a part (own).
use Rattle.std.specs.Prelude.{◌≡◌, ◌==◌, ◌<◌, IsSome, ◌+◌, ◌&&◌, ℕ, Bool, true, false, List, [], ◌∷◌, length, position, slice_index_or, Option, Some, None, Result, Ok, Err, if◌then◌else◌}
use Rattle.exr_base.specs.declared.channel.Kind.{Kind}
use Rattle.exr_base.specs.declared.channel.Kind.TheVariants.{Uint, Half, Float}
use Rattle.exr_base.specs.declared.channel.Channel.{Channel}
use Rattle.exr_base.specs.Boxes.{is_inside}
use Rattle.exr_base.specs.Channel.{channel_at, is_named}
use Rattle.exr_base.specs.Refusal.{◌>>=◌}
use Rattle.exr_judge.specs.declared.header.Header.{Header}
use Rattle.exr_layout.specs.declared.fault.MatchFault.{MatchFault}
use Rattle.exr_layout.specs.declared.fault.MatchFault.TheVariants.{WindowOutside, KindDiffers, SamplingDiffers}
use Rattle.exr_layout.specs.declared.placement.Placement.{Placement}
use Rattle.exr_layout.specs.Validation.{Frame}
use Rattle.exr_layout.specs.Place.{placements_of}

abbrev pub same_kind : Kind → Kind → Bool
same_kind Uint Uint = true
same_kind Half Half = true
same_kind Float Float = true
same_kind _ _ = false

abbrev pub same_samplings : Placement → Channel → Bool
same_samplings placement c = (c.xs == placement.sampling) && (c.ys == placement.row_sampling)

-- a slice against the channel of its name, where there is one
abbrev pub against : ℕ → Placement → Channel → ℕ → Result (Option ℕ) MatchFault
against n placement c place =
    if same_kind c.kind placement.kind
    then (if same_samplings placement c then Ok (Some place) else Err (SamplingDiffers n))
    else Err (KindDiffers n)

abbrev pub against_found : List Channel → ℕ → Placement → Option ℕ → Result (Option ℕ) MatchFault
against_found channels n placement None = Ok None
against_found channels n placement (Some place) = against n placement (channel_at channels place) place

-- slice n: the place of the channel of its name, or none, or what differs
unfoldable pub slice_matched : List Channel → ℕ → Placement → Result (Option ℕ) MatchFault
slice_matched channels n placement = against_found channels n placement (position (is_named placement.channel) channels)

-- slices, numbered from n: the place of the channel of each, or the first that differs
unfoldable pub slices_matched : List Channel → ℕ → List Placement → Result (List (Option ℕ)) MatchFault
slices_matched channels n [] = Ok []
slices_matched channels n (placement ∷ rest) =
    slice_matched channels n placement >>= λ place. slices_matched channels (n + 1) rest >>= λ others. Ok (place ∷ others)

-- the place of the channel of each slice, or the first thing that differs
unfoldable pub part_matched : Frame → Header → Result (List (Option ℕ)) MatchFault
part_matched f h =
    if is_inside f.window h.window then slices_matched h.channels 0 (placements_of f.planes) else Err WindowOutside

-- which channel each slice holds, and which slice each channel, with the placement of each slice
pub record Matching : Type 0 where
  pub placements : List Placement
  pub channels : List (Option ℕ)
  pub slices : List (Option ℕ)

abbrev pub matching_from : List Placement → List (Option ℕ) → List (Option ℕ) → Matching
matching_from placements channels slices = record { placements = placements; channels = channels; slices = slices }

-- each channel of the part has a slice
pub record IsFull (plan : Matching) : Type 0 where
  pub each : (c : ℕ) → c < length plan.slices → IsSome (slice_index_or plan.slices c None)

-- a plan of a layout for the channels of a part: each slice with its channel, and each channel with its slice
pub record IsPlanOf (f : Frame) (part : List Channel) (plan : Matching) : Type 0 where
  pub placements : plan.placements ≡ placements_of f.planes
  pub matched : slices_matched part 0 (placements_of f.planes) ≡ Ok plan.channels
  pub count : length plan.slices ≡ length part
  pub slices : (s c : ℕ) → slice_index_or plan.channels s None ≡ Some c → slice_index_or plan.slices c None ≡ Some s
  pub channels : (s c : ℕ) → slice_index_or plan.slices c None ≡ Some s → slice_index_or plan.channels s None ≡ Some c
