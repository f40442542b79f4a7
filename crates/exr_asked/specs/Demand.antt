-- What is asked of a part of a file (own).
use Rattle.std.specs.Prelude.{◌≤◌, ◌||◌, ℕ, Bool, List, length, Option, option_map, unwrap_or, is_some, IfSome}
use Rattle.exr_base.specs.declared.shape.Box2i.{Box2i}
use Rattle.exr_asked.specs.declared.choices.Arrangement.{Arrangement}
use Rattle.exr_asked.specs.declared.choices.Arrangement.TheVariants.{Planar}
use Rattle.exr_asked.specs.declared.choices.Wanted.{Wanted}
use Rattle.exr_asked.specs.Choices.{Choices}
use Rattle.exr_asked.specs.declared.asked.Asked.{Asked}

-- a part by its number, its pixels, the order of their samples, the channels, how many bytes follow each line or
-- pixel, the bits of samples that the part does not have, and whether a choice was given that deep parts do not take.
-- Without a window the data window is asked for, and without channels all of the part.
pub record Demand : Type 0 where
  pub part : ℕ
  pub window : Option Box2i
  pub layout : Arrangement
  pub channels : Option (List Wanted)
  pub pad : ℕ
  pub fill : ℕ
  pub arranged : Bool

-- what a call is given
abbrev pub demand_of : Asked → Demand
demand_of a = record {
  part = a.part;
  window = a.window;
  layout = a.layout;
  channels = option_map (λ wanted. wanted.items) a.channels;
  pad = a.pad;
  fill = a.fill;
  arranged = a.arranged;
}

-- one of the choices that speak of the buffer of a flat part was given
abbrev pub is_arranged : Choices → Bool
is_arranged c = is_some c.layout || is_some c.channels || is_some c.pad || is_some c.fill || is_some c.byte

-- what a command's choices come to: part 0, planes and zeros where none was given
abbrev pub demand_in : Choices → Demand
demand_in c = record {
  part = unwrap_or c.part 0;
  window = c.window;
  layout = unwrap_or c.layout Planar;
  channels = c.channels;
  pad = unwrap_or c.pad 0;
  fill = unwrap_or c.fill 0;
  arranged = is_arranged c;
}

-- at most 1,024 channels, and 65,535 bytes of padding
pub record IsModest (d : Demand) : Type 0 where
  pub channels : IfSome d.channels (λ channels. length channels ≤ 1024)
  pub pad : d.pad ≤ 65535
