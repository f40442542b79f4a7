use Rattle.std.proofs.Common.{◌≡◌, take, map}
use Rattle.exr_chunks.specs.Part.{without_attributes, headers_of, AreParts}
use Rattle.exr_chunks.proofs.geometry.geometry_of.Given as goal

-- the parts so far are those of the headers so far
abbrev pub invariant-loop-header : goal.invariant-loop-header
invariant-loop-header l = record {
  views : headers_of l.parts.items ≡ map without_attributes (take l.header-index l.headers);
  parts : AreParts l.parts.items l.total;
}
