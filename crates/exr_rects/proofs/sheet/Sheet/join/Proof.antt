-- `join` keeps the two words of the first sheet, and what the two own lies side by side. Assumes `Logic`.
use mathlib.Core.Path.{◌≡◌, refl, sym, subst, ◌∙◌}
use Prim.Native.Nat.{ℕ}
use native.Mathlib.Omega.{arith}
use mathlib.Core.List.{List, [], ◌∷◌, ◌++◌}
use lib.ListN.{length}
use mir.Syntax.{Fn}
use mir.Val.{Val}
use seplogic.Ra.Ura.{Ura}
use mir.MapTy.{inst_fn}
use base.Logic.{SProp, ent, id⊢}
use prog.Memory.{Memory}
use prog.Routine.{Routine}
use prog.Wp.{WpFn, Tables}
use types.Logic.{Logic}
use contract.BorrowLft.{◌⊑◌}
use contract.Monad.{Fun, fact}
use contract.Running.{tables, tables_of}
use denote.RattleType.{owns}
use denote.Signature.{plain, types_at}
use denote.Steps.{nothing, heard}
use denote.Triple.Clauses.{Clauses, Ended, closing}
use denote.Triple.Spec.{Meets, triple_of}
use denote.Triple.Table.{entered}
use sound.WpLaws.{WpFn-mono}
use types.Kit.{‵, raw, ◌⊛◌, ◌$◌, ◌∵◌, !, qed, move, keep, drop, use2, split, rewrite, fsplit, fjoin3, suffices, done}
use types.Part.{whole, sub, agg}
use types.Run.{stop, fld, of_opd, and_then, no_more, returns, enter}
use types.ByLocal.{alloc_all, pass_all, free_all, look_at, get, get_in, sets}
use denote.Exit.{no}
use denote.RawPtr.{Ptr, block_ptr}
use denote.Triple.Entry.{alive}
use denote.Triple.Walked.{says, Stays, stay_dropped, walk_of, ends_at, Goes-dropped, walk_Meets}
use Rattle.core.proofs.mem.Param.{El, R, args}
use Rattle.core.proofs.slots.Opens.{row_val}
use Rattle.exr_rects.specs.Ownership.{pieces}
use Rattle.exr_rects.specs.Marks.{both_items, both_marks}
use Rattle.exr_rects.specs.Lending.{SameBuffer}
use Rattle.exr_rects.proofs.Pieces.{merged, length-both_items, length-both_marks}
use Rattle.exr_rects.proofs.Sheets.{Sr, el_d, sheet_had, sheet_made}
use Rattle.exr_rects.specs.contracts.sheet.Sheet.join as F
use Rattle.exr_rects.specs.contracts.sheet.Sheet.join.Key.{name as #self}
use Rattle.exr_rects.proofs.sheet.Sheet.join.Statement as stated
use Rattle.exr_rects.proofs.sheet.Sheet.join.Code as code

module _ (E : El) where
  abbrev here : Fn
  here = inst_fn (args E) code.function

  abbrev ended : Ended
  ended = F.ended E.row

  abbrev stayed : Stays ended.signature.params ended.kept
  stayed = (stay_dropped (plain (λ _. Sr E)) no, (stay_dropped (plain (λ _. Sr E)) no, tt))

  module _ {M : Type 1} {𝓤 : Ura M} (𝓛 : Logic 𝓤) (at_mem : Memory → SProp 𝓤) (run : Routine → Fun 𝓤) (𝓣 : Tables 𝓤 𝓛.H) where
    open 𝓛 use {H}

    abbrev clauses : Clauses 𝓤 ended
    clauses = F.clauses E.row 𝓛 at_mem run

    abbrev Bound : Type 0
    Bound = (walk_of 𝓛 ended stayed clauses).Ghost

    abbrev Goes : Bound → Type 1
    Goes y = ent 𝓤 ((walk_of 𝓛 ended stayed clauses).pre y) (WpFn 𝓤 H 𝓣.C 𝓣.Λ here ((walk_of 𝓛 ended stayed clauses).args y) ((walk_of 𝓛 ended stayed clauses).post y))

    walk : (z : Bound) → Goes z
    walk z =
        let d : el_d E = z.0.3.0 in let e : el_d E = z.0.3.1.0 in let n : ℕ = d.len in let vss = z.0.4 in
        let Run : List Val → SProp 𝓤 = λ ws. WpFn 𝓤 H 𝓣.C 𝓣.Λ here ws ((walk_of 𝓛 ended stayed clauses).post z) in
        qed 𝓛 ((raw (alive 𝓛 ended.signature z.0.0 z.0.1) ⊛ ‵ (owns (types_at ended.signature.params z.0.0) z.0.3 vss)) ∷ (raw (fact 𝓤 (z.0.0.0 ⊑ E.row.lives)) ⊛ raw (fact 𝓤 (SameBuffer d e))) ∷ []) ∵
        move ! (1 ∷ []) $ split ! $ drop ! $ heard ! (SameBuffer d e) (λ ok.
        split ! $ move ! (1 ∷ []) $ fsplit ! $ sheet_had E ! d vss.0 (λ b o at_b e₀ fn fit. move ! (1 ∷ []) $ fsplit ! $ sheet_had E ! e vss.1.0 (λ b' o' at' e₁ fn' fit'.
        rewrite ! 0 (λ (p : Ptr). ‵ (pieces (R E) p e.items e.mine)) (sym at' ∙ ok.start ∙ at_b) refl $ keep ! (2 ∷ 0 ∷ 3 ∷ []) $
        let count = ok.count in let xs = d.ok.0 in let ms = d.ok.1 in let ys = e.ok.0 in let ns = e.ok.1 in
        let li : length e.items ≡ length d.items = omega arith in let lm : length d.mine ≡ length d.items = omega arith in let ln : length e.mine ≡ length d.items = omega arith in
        let new : el_d E = record {
          at = d.at;
          len = n;
          items = both_items d.mine d.items e.items;
          mine = both_marks d.mine e.mine;
          ok = (xs ∙ sym (length-both_items d.mine d.items e.items li), ms ∙ sym (length-both_marks d.mine e.mine (ln ∙ sym lm)));
          small = d.small;
        } in
        use2 𝓛 (‵ (pieces (R E) (block_ptr b o) new.items new.mine)) (merged E 𝓛 b d.items e.items d.mine e.mine o li lm ln) $
        sheet_made E ! new b o at_b fn fit $
        let us : List Val = row_val b o n ∷ row_val b' o' e.len ∷ [] in
        suffices ! (Run us) (subst (λ (ws : List Val × List Val). ent 𝓤 (Run us) (Run (ws.0 ++ (ws.1 ++ [])))) (λ j. (sym e₀ j, sym e₁ j)) (id⊢ 𝓤 (Run us))) $
        enter ! 𝓣.C 𝓣.Λ here us _ $ alloc_all ! (λ l. pass_all ! refl ((tt, (tt, (record { fits = fn }, tt))), ((tt, (tt, (record { fits = fn' }, tt))), tt)) $
        sets ! (of_opd ! (get_in ! (fld ! refl (stop !)) (sub ! 0 refl (whole !)))) refl (tt, tt) $ sets ! (of_opd ! (get_in ! (fld ! refl (stop !)) (sub ! 1 refl (whole !)))) refl (tt, record { fits = fn }) $
        sets ! (agg ! (and_then ! (get ! refl) (and_then ! (get ! refl) (no_more !)))) refl (tt, (tt, (record { fits = fn }, tt))) $
        returns ! (look_at ! 0 refl) $ free_all ! refl $
        suffices ! _ (ends_at 𝓛 ended stayed clauses z (row_val b o n) new (tt, (tt, tt)) (tt, (tt, tt))) $
        says ! (record { one_buffer = record { start = refl; count = refl }; items = refl; marks = refl }) $
        nothing ! $ nothing ! $ nothing ! $ fjoin3 ! $ keep ! (2 ∷ 0 ∷ 1 ∷ []) $ done !))))

    meets : Meets 𝓛 ended.signature (WpFn 𝓤 H 𝓣.C 𝓣.Λ here) (closing 𝓛 ended clauses)
    meets =
        let goes = Goes-dropped 𝓛 1 (plain (λ _. Sr E)) no (λ κs x f. refl) in
        walk_Meets 𝓛 ended stayed (goes, (goes, tt)) clauses (WpFn 𝓤 H 𝓣.C 𝓣.Λ here) (WpFn-mono 𝓤 H 𝓛.laws 𝓣 here) walk

pub join_spec : {M : Type 1} → stated.statement M
unfolding tables_of
join_spec 𝓤 𝓛 𝓜 𝓡 wired X L =
    let E : El = record { row = X; laws = L } in
    let 𝓣 : Tables 𝓤 𝓛.H = tables_of 𝓤 𝓛.H 𝓜 (tables 𝓤 𝓛.H 𝓜 𝓡 𝓡.env) in
    entered 𝓤 𝓛.H (triple_of 𝓛 (F.signature X) (F.spec X 𝓛 𝓜.mem 𝓡.returns)) 𝓣.C 𝓣.Λ (#self (args E)) (here E) (code.unfolded 𝓤 𝓛.H 𝓜 𝓡 wired (X, tt))
    (meets E 𝓛 𝓜.mem 𝓡.returns 𝓣)
