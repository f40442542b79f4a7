-- What is answered once the part is found.
use Rattle.std.specs.Prelude.{◌≡◌, true, false, Ok, Err, ◌⊎◌}
use Rattle.exr_base.specs.declared.refusal.Refusal.{Refusal}
use Rattle.exr_base.specs.declared.refusal.Refusal.TheVariants as refusal
use Rattle.exr_base.specs.declared.shape.Box2i.{Box2i}
use Rattle.exr_judge.specs.declared.header.Header.{Header}
use Rattle.exr_judge.specs.Kind.{is_deep}
use Rattle.exr_request.specs.declared.answer.Granted.{Granted}
use Rattle.exr_request.specs.declared.answer.Granted.TheVariants as granted
use Rattle.exr_layout.specs.Plan.{Matching}
use Rattle.exr_layout.specs.Validation.{Frame}
use Rattle.exr_request.specs.declared.fault.RequestFault.{RequestFault}
use Rattle.exr_asked.specs.Demand.{Demand}
use Rattle.exr_request.specs.Request.{window_asked, part_tested, IsFit, IsUnfit}

-- the frame does not pass
abbrev pub IsNoFit : Demand → Header → Refusal RequestFault → Type 0
IsNoFit d h (refusal.Fault fault) = IsUnfit d h fault
IsNoFit d h refusal.NoMemory = Unit {0}

-- the part passes; where it is flat, the frame too
pub record IsFitOf (d : Demand) (h : Header) (f : Frame) (plan : Matching) : Type 0 where
  pub passes : part_tested d h ≡ Ok h
  pub flat : is_deep h.kind ≡ false
  pub fit : IsFit d h f plan

pub record IsWindowOf (d : Demand) (h : Header) (window : Box2i) : Type 0 where
  pub passes : part_tested d h ≡ Ok h
  pub deep : is_deep h.kind ≡ true
  pub over : window ≡ window_asked d h

abbrev pub IsGrantOf : Demand → Header → Granted → Type 0
IsGrantOf d h (granted.Flat fitted) = IsFitOf d h fitted.layout fitted.plan
IsGrantOf d h (granted.Deep window) = IsWindowOf d h window

-- the part does not pass, or it is flat and passes, and the frame does not
abbrev pub IsRefusalOf : Demand → Header → Refusal RequestFault → Type 0
IsRefusalOf d h (refusal.Fault fault) =
    (part_tested d h ≡ Err fault) ⊎ ((part_tested d h ≡ Ok h) × (is_deep h.kind ≡ false) × IsUnfit d h fault)
IsRefusalOf d h refusal.NoMemory = Unit {0}
