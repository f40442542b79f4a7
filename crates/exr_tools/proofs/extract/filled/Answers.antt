-- What was granted is read: the first chunk, and then the window.
use Rattle.std.proofs.Common.{rules, ◌≡◌, ◌<◌, ◌∙◌, false, ℕ, List, length, replicate, sym, ap, subst, append-nil}
use Rattle.exr_header.specs.Head.{Head}
use Rattle.exr_base.specs.Boxes.{IsInside}
use Rattle.exr_chunks.specs.Heads.{is_deep}
use Rattle.exr_chunks.specs.Region.{header_at}
use Rattle.exr_chunks.specs.Window.{chunks_of_window}
use Rattle.exr_layout.specs.Plan.{IsPlanOf}
use Rattle.exr_asked.specs.Demand.{demand_of}
use Rattle.exr_reader.specs.Window.{IsFilled, HaveDataOf}
use Rattle.exr_tools.specs.Run.{with_head, target_in, IsFlatExtracted}
use Rattle.exr_tools.proofs.Pieces.{bytes_of}
use Rattle.exr_tools.proofs.Granting.{ground, given_back, carried_back}
use Rattle.exr_tools.proofs.extract.filled.Goals as goal

pub read_chunks-requires-clause-part : goal.read_chunks-requires-clause-part
read_chunks-requires-clause-part g c κs within =
    let d = demand_of c.args.extraction.now.asked in
    subst (λ (head : Head). d.part < length head.parts) (sym c.read_first.ensures.same.head)
    (ground c.args.stream.now.head d c.args.granted.now.layout c.args.granted.now.plan c.requires.granted).there

pub read_chunks-requires-clause-flat : goal.read_chunks-requires-clause-flat
read_chunks-requires-clause-flat g c κs within =
    let d = demand_of c.args.extraction.now.asked in
    subst (λ (head : Head). is_deep (header_at head.parts d.part).kind ≡ false) (sym c.read_first.ensures.same.head)
    (ground c.args.stream.now.head d c.args.granted.now.layout c.args.granted.now.plan c.requires.granted).flat

pub read_chunks-requires-clause-plan : goal.read_chunks-requires-clause-plan
read_chunks-requires-clause-plan g c κs within =
    let d = demand_of c.args.extraction.now.asked in
    subst (λ (head : Head). IsPlanOf c.args.granted.now.layout (header_at head.parts d.part).channels c.args.granted.now.plan) (sym c.read_first.ensures.same.head)
    (ground c.args.stream.now.head d c.args.granted.now.layout c.args.granted.now.plan c.requires.granted).planned

pub read_chunks-requires-clause-window : goal.read_chunks-requires-clause-window
read_chunks-requires-clause-window g c κs within =
    let d = demand_of c.args.extraction.now.asked in
    subst (λ (head : Head). IsInside (header_at head.parts d.part).window c.args.granted.now.layout.window) (sym c.read_first.ensures.same.head)
    (ground c.args.stream.now.head d c.args.granted.now.layout c.args.granted.now.plan c.requires.granted).inside

pub returns-in-Ok-read_chunks-clause-pieces : goal.returns-in-Ok-read_chunks-clause-pieces
returns-in-Ok-read_chunks-clause-pieces g c = λ told.
    let means = g.S.Source.means in
    let s = c.args.stream.now in
    let t = c.read_first.new.stream in
    let file = means.content s.source in
    let d = demand_of c.args.extraction.now.asked in
    let f = c.args.granted.now.layout in
    let plan = c.args.granted.now.plan in
    let new = c.read_chunks.new.into in
    let old = c.as_mut_slice.result.now in
    let listed = c.deref.result.now in
    let size : length new ≡ f.buffer = search rules in
    let begun : old ≡ replicate f.buffer c.args.extraction.now.byte = search rules in
    let all : listed ≡ chunks_of_window (header_at s.head.parts d.part) f.window =
    c.deref.ensures.value ∙ c.in-Ok.ensures.chunks ∙ ap (chunks_of_window (header_at s.head.parts d.part)) c.window.ensures.value in
    let filled = carried_back means s t (λ o. IsFilled (target_in o d f plan) old new) c.read_first.ensures.same told (c.in-Ok-read_chunks.ensures.filled told) in
    let chunks = carried_back means s t (λ o. HaveDataOf o d.part listed (length listed)) c.read_first.ensures.same told (c.in-Ok-read_chunks.ensures.chunks told) in
    subst (IsFlatExtracted file d c.args.extraction.now.byte) (sym
    (ap bytes_of c.in_ok-vec-in-Ok-read_chunks.ensures.items ∙ append-nil _ ∙ given_back new c.in_ok-buffer-in-Ok.buffer.items c.in_ok-buffer-in-Ok.buffer.len (search rules)))
    (record {
      from = record {
        head = s.head;
        bytes = s.head_bytes;
        found = c.requires.head told;
        frame = f;
        plan = plan;
        granted = c.requires.granted;
        chunks = subst (λ l. HaveDataOf (with_head file s.head s.head_bytes) d.part l (length l)) all chunks;
      };
      size = size;
      filled = subst (λ (l : List ℕ). IsFilled (target_in (with_head file s.head s.head_bytes) d f plan) l new) begun filled;
    })
