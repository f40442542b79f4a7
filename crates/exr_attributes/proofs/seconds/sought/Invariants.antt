use Rattle.std.proofs.Common.{◌≡◌, ℕ, List, take}
use Rattle.std.specs.BTreeSet.{contains}
use Rattle.std.specs.Cmp.Lexicographic.{slice_cmp}
use Rattle.std.specs.Ordering.{nat_cmp}
use Rattle.exr_attributes.specs.Entry.{has_name}
use Rattle.exr_attributes.specs.Pass.{AreDistinct}
use Rattle.exr_attributes.proofs.seconds.sought.Given as goal

-- the names of the entries so far are known, and no two are the same
abbrev pub invariant-loop-k : goal.invariant-loop-k
invariant-loop-k l = record {
  known : (q : List ℕ) → contains (slice_cmp nat_cmp) l.names q ≡ has_name q (take l.k l.entries);
  earlier : AreDistinct (take l.k l.entries);
}
