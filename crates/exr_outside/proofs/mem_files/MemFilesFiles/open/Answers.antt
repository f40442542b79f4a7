use Rattle.std.proofs.Common.{◌≡◌, Some, IsNone, IfOk, subst, inl, rules}
use Rattle.std.proofs.lemmas.Result.{IfOk-weaker}
use Rattle.exr_outside.specs.Fakes.{MemFilesState, MemSourceState, IsNamed, FailsWhere, AreOf, file_of}
use Rattle.exr_outside.proofs.Found.{file_of-world, FailsWhere-either}
use Rattle.exr_outside.proofs.mem_files.MemFilesFiles.open.Goals as goal
use Rattle.exr_outside.proofs.mem_files.MemFilesFiles.open.Goals.{then-named, else-named}

pub returns-clause-fails : goal.returns-clause-fails
returns-clause-fails g c = elim c.if-named.branch [
  | then-named w ↦
      let named : IsNamed c.args.self.now.open_calls = search rules in
      rw w.source-is (inl named)
  | else-named w ↦
      let unnamed : IsNamed c.args.self.now.open_calls → ⊥ = search rules in
      let fails : FailsWhere c.if-named.source (IsNone (file_of c.args.self.now.files c.args.name.now)) = search rules in
      FailsWhere-either _ _ _ unnamed fails
]

pub returns-clause-content : goal.returns-clause-content
returns-clause-content g c = elim c.if-named.branch [
  | then-named w ↦ rw w.source-is tt
  | else-named w ↦
      let P : MemSourceState → Type 0 = λ source. file_of c.args.self.now.files c.args.name.now ≡ Some source.bytes in
      let Q : MemSourceState → Type 0 = λ source. source.bytes ≡ g.W.World.bytes_of c.args.name.now in
      let found : IfOk c.if-named.source P = search rules in
      let known : AreOf g.W.World.bytes_of c.args.self.now.files =
      subst (λ (s : MemFilesState). AreOf g.W.World.bytes_of s.files) c.self.view_is c.self.invariant in
      IfOk-weaker c.if-named.source P Q (λ source here. file_of-world g.W.World.bytes_of _ _ _ known here) found
]
