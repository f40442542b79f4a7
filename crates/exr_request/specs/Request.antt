-- What is asked of the head of a file, and why it cannot be had: the tests in their order (own).
use Rattle.std.specs.Prelude.{◌≡◌, ◌==◌, ◌^◌, ◌&&◌, ◌||◌, not, nat_lt, ℕ, Bool, true, false, List, map, position, slice_get, Option, Some, None, unwrap_or, Result, Ok, Err, ◌⊎◌, if◌then◌else◌}
use Rattle.exr_base.specs.declared.shape.Box2i.{Box2i}
use Rattle.exr_base.specs.declared.channel.Channel.{Channel}
use Rattle.exr_base.specs.declared.refusal.Refusal.{Refusal}
use Rattle.exr_base.specs.declared.refusal.Refusal.TheVariants as refusal
use Rattle.exr_base.specs.Refusal.{◌>>=◌}
use Rattle.exr_judge.specs.declared.header.Header.{Header}
use Rattle.exr_judge.specs.Kind.{is_deep}
use Rattle.exr_judge.specs.Picture.{is_empty}
use Rattle.exr_header.specs.Head.{Head}
use Rattle.exr_asked.specs.declared.choices.Arrangement.{Arrangement}
use Rattle.exr_asked.specs.declared.choices.Arrangement.TheVariants.{Planar, Lines, Pixels}
use Rattle.exr_layout.specs.declared.fault.LayoutFault.{LayoutFault}
use Rattle.exr_layout.specs.declared.fault.MatchFault.{MatchFault}
use Rattle.exr_layout.specs.Plan.{Matching}
use Rattle.exr_layout.specs.Validation.{Frame, frame_validated}
use Rattle.exr_base.specs.Boxes.{is_inside}
use Rattle.exr_layout.specs.Plan.{part_matched, IsPlanOf}
use Rattle.exr_request.specs.declared.answer.Granted.{Granted}
use Rattle.exr_request.specs.declared.answer.Granted.TheVariants as granted
use Rattle.exr_request.specs.declared.fault.RequestFault.{RequestFault}
use Rattle.exr_request.specs.declared.fault.RequestFault.TheVariants.{NoPart, DeepWords, Window, Mixed, Layout, TooLarge, Match}
use Rattle.exr_request.specs.Arranged.{PlainPlane, plain_plane, planes_for, end_behind}
use Rattle.exr_request.specs.Chosen.{channels_chosen, first_of}
use Rattle.exr_asked.specs.Demand.{Demand}

-- ---- what is asked for

abbrev pub window_asked : Demand → Header → Box2i
window_asked d h = unwrap_or d.window h.window

abbrev pub channels_asked : Demand → Header → List Channel
channels_asked d h = channels_chosen h.channels d.channels

abbrev pub planes_asked : Demand → Header → List PlainPlane
planes_asked d h = planes_for d.layout (window_asked d h) d.pad d.fill (channels_asked d h)

-- a frame that is arranged as it is asked for; its buffer ends with the last plane
pub record IsArranged (d : Demand) (h : Header) (f : Frame) : Type 0 where
  pub window : f.window ≡ window_asked d h
  pub planes : map plain_plane f.planes ≡ planes_asked d h
  pub buffer : f.buffer ≡ end_behind (window_asked d h) 0 (planes_asked d h)

-- ---- tests of a part

-- a fault where a test applies
abbrev pub refuses : Bool → RequestFault → Result ℕ RequestFault
refuses applies fault = if applies then Err fault else Ok 0

abbrev pub part_found : Option Header → Result Header RequestFault
part_found None = Err NoPart
part_found (Some h) = Ok h

-- a window that has pixels, all of them in the data window
abbrev pub is_window_of : Header → Box2i → Bool
is_window_of h window = not (is_empty window) && is_inside window h.window

-- lines are shared by channels of one sampling in y, pixels by channels of one sampling in x and in y
abbrev pub is_mixed : Arrangement → Channel → Channel → Bool
is_mixed Planar first c = false
is_mixed Lines first c = not (c.ys == first.ys)
is_mixed Pixels first c = not (c.xs == first.xs) || not (c.ys == first.ys)

-- the first channel whose samplings are not those of the first one
abbrev pub first_mixed : Arrangement → List Channel → Option ℕ
first_mixed layout channels = position (is_mixed layout (first_of channels)) channels

abbrev pub mixed_refuses : Option ℕ → Result ℕ RequestFault
mixed_refuses None = Ok 0
mixed_refuses (Some slice) = Err (Mixed slice)

-- of a deep part nothing but the window may be chosen
abbrev pub part_tested : Demand → Header → Result Header RequestFault
part_tested d h = do
  plain ← refuses (is_deep h.kind && d.arranged) DeepWords
  within ← refuses (not (is_window_of h (window_asked d h))) Window
  even ← mixed_refuses (first_mixed d.layout (channels_asked d h))
  Ok h

-- the part that is asked for, or the first fault
abbrev pub part_asked : Head → Demand → Result Header RequestFault
part_asked head d = part_found (slice_get head.parts d.part) >>= part_tested d

-- ---- tests of a frame

abbrev pub layout_refuses : Result ℕ LayoutFault → Result ℕ RequestFault
layout_refuses (Ok ends) = Ok ends
layout_refuses (Err fault) = Err (Layout fault)

abbrev pub match_refuses : Result (List (Option ℕ)) MatchFault → Result (List (Option ℕ)) RequestFault
match_refuses (Ok places) = Ok places
match_refuses (Err fault) = Err (Match fault)

-- a layout of at most 2^30 bytes
abbrev pub layout_tested : Frame → Result Frame RequestFault
layout_tested f = do
  ends ← layout_refuses (frame_validated f)
  small ← refuses (nat_lt (2 ^ 30) f.buffer) TooLarge
  Ok f

-- the places of the slices' channels, or the first fault
abbrev pub frame_tested : Header → Frame → Result (List (Option ℕ)) RequestFault
frame_tested h f = layout_tested f >>= λ layout. match_refuses (part_matched layout h)

-- ---- answers

-- a frame that is arranged as it is asked for passes, and has this plan
pub record IsFit (d : Demand) (h : Header) (f : Frame) (plan : Matching) : Type 0 where
  pub arranged : IsArranged d h f
  pub tested : frame_tested h f ≡ Ok plan.channels
  pub planned : IsPlanOf f h.channels plan

-- such a frame does not
pub record IsUnfit (d : Demand) (h : Header) (fault : RequestFault) : Type 0 where
  pub frame : Frame
  pub arranged : IsArranged d h frame
  pub tested : frame_tested h frame ≡ Err fault

-- what is asked of a flat part can be had: the part passes, and the frame
pub record IsGranted (head : Head) (d : Demand) (f : Frame) (plan : Matching) : Type 0 where
  pub part : Header
  pub asked : part_asked head d ≡ Ok part
  pub flat : is_deep part.kind ≡ false
  pub fit : IsFit d part f plan

-- what is asked of a deep part can be had, if its pixels are not too many: the part passes
pub record IsDeepGranted (head : Head) (d : Demand) (window : Box2i) : Type 0 where
  pub part : Header
  pub asked : part_asked head d ≡ Ok part
  pub deep : is_deep part.kind ≡ true
  pub over : window ≡ window_asked d part

-- what a call answers
abbrev pub IsGrant : Head → Demand → Granted → Type 0
IsGrant head d (granted.Flat fitted) = IsGranted head d fitted.layout fitted.plan
IsGrant head d (granted.Deep window) = IsDeepGranted head d window

-- it cannot: the part does not pass, or it is flat and passes, and the frame does not
abbrev pub IsRefused : Head → Demand → RequestFault → Type 0
IsRefused head d fault =
    (part_asked head d ≡ Err fault)
    ⊎ ((part : Header) × (part_asked head d ≡ Ok part) × (is_deep part.kind ≡ false) × IsUnfit d part fault)

-- the same of a call's answer; want of memory says nothing
abbrev pub IsRefusal : Head → Demand → Refusal RequestFault → Type 0
IsRefusal head d (refusal.Fault fault) = IsRefused head d fault
IsRefusal head d refusal.NoMemory = Unit {0}
