-- What samples are chosen by, as a command line gives it (own).
use Rattle.std.specs.Prelude.{◌^◌, ◌≤◌, ◌≤ℤ◌, ℕ, ℤ, pos, neg_ℤ, List, length, Option, None, option_map, IfSome}
use Rattle.exr_base.specs.declared.shape.Box2i.{Box2i}
use Rattle.exr_asked.specs.declared.choices.Arrangement.{Arrangement}
use Rattle.exr_asked.specs.declared.choices.Wanted.{Wanted}
use Rattle.exr_asked.specs.declared.choices.Choices.{Choices as ChoicesInCode}

-- a part by its number, its pixels, the order of their samples, the channels, how many bytes follow each line or pixel, the
-- bits of samples that the part does not have, what each byte of the buffer begins as, and how many threads read: each where
-- it was given
pub record Choices : Type 0 where
  pub part : Option ℕ
  pub window : Option Box2i
  pub layout : Option Arrangement
  pub channels : Option (List Wanted)
  pub pad : Option ℕ
  pub fill : Option ℕ
  pub byte : Option ℕ
  pub workers : Option ℕ

-- none of them
abbrev pub no_choices : Choices
no_choices = record { part = None; window = None; layout = None; channels = None; pad = None; fill = None; byte = None; workers = None }

-- those of a call
abbrev pub choices_in : ChoicesInCode → Choices
choices_in c = record {
  part = c.part;
  window = c.window;
  layout = c.layout;
  channels = option_map (λ wanted. wanted.items) c.channels;
  pad = c.pad;
  fill = c.fill;
  byte = c.byte;
  workers = c.workers;
}

-- ---- limits

-- a coordinate within 2^30 of 0
pub record IsNear (z : ℤ) : Type 0 where
  pub least : neg_ℤ (pos (2 ^ 30)) ≤ℤ z
  pub most : z ≤ℤ pos (2 ^ 30)

pub record AreNear (window : Box2i) : Type 0 where
  pub x0 : IsNear window.x0
  pub y0 : IsNear window.y0
  pub x1 : IsNear window.x1
  pub y1 : IsNear window.y1

-- choices within the limits of a command line
pub record AreWithin (c : Choices) : Type 0 where
  pub window : IfSome c.window AreNear
  pub channels : IfSome c.channels (λ channels. (1 ≤ length channels) × (length channels ≤ 1024))
  pub pad : IfSome c.pad (λ n. n ≤ 65535)
  pub workers : IfSome c.workers (λ n. (1 ≤ n) × (n ≤ 16))
