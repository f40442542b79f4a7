-- The items that spell a table: one length, or a run of entries without a code.
use Rattle.std.specs.Prelude.{ℕ, ◌<◌, ◌≤◌, List, [], ◌∷◌, replicate}
use Rattle.exr_codes.specs.declared.item.Item.{Item}
use Rattle.exr_codes.specs.declared.item.Item.TheVariants.{Length, Zeros}

-- the lengths that an item stands for (own)
abbrev pub lengths_of_item : Item → List ℕ
lengths_of_item (Length len) = len ∷ []
lengths_of_item (Zeros count) = replicate count 0

-- a length of at most 58 bits, or a run that is not empty (own)
abbrev pub IsItem : Item → Type 0
IsItem (Length len) = len ≤ 58
IsItem (Zeros count) = 0 < count
