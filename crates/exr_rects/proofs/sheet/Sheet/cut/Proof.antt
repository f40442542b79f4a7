-- `cut` writes the two words twice, and parts what the sheet owns. Assumes `Logic`.
use mathlib.Core.Path.{refl, sym, subst, ◌∙◌}
use Prim.Native.Nat.{ℕ}
use mathlib.Core.List.{List, [], ◌∷◌, ◌++◌}
use mathlib.Core.Bool.{Bool, not}
use mir.Syntax.{Fn, w64}
use mir.Val.{Val, vint}
use seplogic.Ra.Ura.{Ura}
use mir.MapTy.{inst_fn}
use base.Logic.{SProp, ent, id⊢}
use prog.Memory.{Memory}
use prog.Routine.{Routine}
use prog.Wp.{WpFn, Tables}
use types.Logic.{Logic}
use contract.Monad.{Fun}
use contract.Running.{tables, tables_of}
use denote.RattleType.{owns}
use denote.Signature.{plain, types_at}
use denote.Steps.{nothing}
use denote.Triple.Clauses.{Clauses, Ended, closing}
use denote.Triple.Spec.{Meets, triple_of}
use denote.Triple.Table.{entered}
use sound.WpLaws.{WpFn-mono}
use types.Kit.{‵, raw, ◌⊛◌, ◌$◌, ◌∵◌, !, qed, move, keep, use1, use2, split, fsplit, fjoin, feq_l, flt_l, suffices, done}
use types.Part.{whole, sub, agg}
use types.Run.{stop, fld, of_opd, and_then, no_more, returns, enter}
use types.ByLocal.{alloc_all, pass_all, free_all, look_at, get, get_in, sets}
use denote.Exit.{no, yes}
use denote.Builtin.{usize}
use denote.RawPtr.{block_ptr}
use denote.Triple.Entry.{alive}
use denote.Triple.Walked.{says, Stays, stay_dropped, walk_of, ends_at, Goes-dropped, walk_Meets}
use Rattle.core.proofs.mem.Param.{El, R, args}
use Rattle.core.proofs.slots.Opens.{row_val}
use Rattle.exr_rects.specs.Ownership.{pieces}
use base.Logic.{sep}
use types.Logic.{sem}
use types.Kit.{feq_i, fpack}
use denote.RattleType.{RattleType, Valss}
use denote.Struct.Struct.{within}
use denote.Struct.Declared as Declared
use denote.Struct.Tuple.{Tuple, tuple_type}
use mir.Val.{vstruct, vcons, vnil}
use Rattle.exr_rects.specs.Marks.{in_rect, marks_in}
use Rattle.exr_rects.proofs.Pieces.{parted, length-marks_in}
use Rattle.exr_rects.proofs.Sheets.{Sr, el_d, sheet_had, sheet_made}
use Rattle.exr_rects.specs.contracts.sheet.Sheet.cut as F
use Rattle.exr_rects.specs.contracts.sheet.Sheet.cut.Key.{name as #self}
use Rattle.exr_rects.proofs.sheet.Sheet.cut.Statement as stated
use Rattle.exr_rects.proofs.sheet.Sheet.cut.Code as code

abbrev two_val : Val → Val → Val
two_val u v = vstruct (vcons u (vcons v vnil))

two_of : {M : Type 1} {𝓤 : Ura M} (𝓛 : Logic 𝓤) (R S : RattleType) (x : R.Denot) (y : S.Denot) (u v : Val)
    → ent 𝓤 (sep 𝓤 (sem 𝓛 (R.own_val x (u ∷ []))) (sem 𝓛 (S.own_val y (v ∷ [])))) (sem 𝓛 ((Tuple (R ∷ S ∷ [])).own_val (x, y) (two_val u v ∷ [])))
two_of 𝓛 R S x y u v =
    qed 𝓛 (‵ (R.own_val x (u ∷ [])) ∷ ‵ (S.own_val y (v ∷ [])) ∷ []) ∵ nothing ! $ move ! (2 ∷ 0 ∷ []) $ fjoin ! $ move ! (1 ∷ 0 ∷ []) $ fjoin ! $
    feq_i ! (List Val) (two_val u v ∷ []) (two_val u v ∷ []) refl $ fjoin ! $
    fpack ! (Valss (R ∷ S ∷ [])) (within (Declared.shape (tuple_type (R ∷ S ∷ []))) (x, (y, tt)) (two_val u v ∷ [])) (u ∷ [], (v ∷ [], tt)) $ done !

module _ (E : El) where
  abbrev here : Fn
  here = inst_fn (args E) code.function

  abbrev ended : Ended
  ended = F.ended E.row

  abbrev stayed : Stays ended.signature.params ended.kept
  stayed = (stay_dropped (plain (λ _. Sr E)) no, (stay_dropped (plain (λ _. usize)) yes, (stay_dropped (plain (λ _. usize)) yes, (stay_dropped (plain (λ _. usize)) yes, (stay_dropped (plain (λ _. usize)) yes, tt)))))

  module _ {M : Type 1} {𝓤 : Ura M} (𝓛 : Logic 𝓤) (at_mem : Memory → SProp 𝓤) (run : Routine → Fun 𝓤) (𝓣 : Tables 𝓤 𝓛.H) where
    open 𝓛 use {H}

    abbrev clauses : Clauses 𝓤 ended
    clauses = F.clauses E.row 𝓛 at_mem run

    abbrev Bound : Type 0
    Bound = (walk_of 𝓛 ended stayed clauses).Ghost

    abbrev Goes : Bound → Type 1
    Goes y = ent 𝓤 ((walk_of 𝓛 ended stayed clauses).pre y) (WpFn 𝓤 H 𝓣.C 𝓣.Λ here ((walk_of 𝓛 ended stayed clauses).args y) ((walk_of 𝓛 ended stayed clauses).post y))

    walk : (z : Bound) → Goes z
    walk z =
        let d : el_d E = z.0.3.0 in let n : ℕ = d.len in let vss = z.0.4 in
        let from : ℕ = z.0.3.1.0 in let rows : ℕ = z.0.3.1.1.0 in let cols : ℕ = z.0.3.1.1.1.0 in let pitch : ℕ = z.0.3.1.1.1.1.0 in
        let p : ℕ → Bool = in_rect from rows cols pitch in
        let Run : List Val → SProp 𝓤 = λ ws. WpFn 𝓤 H 𝓣.C 𝓣.Λ here ws ((walk_of 𝓛 ended stayed clauses).post z) in
        qed 𝓛 ((raw (alive 𝓛 ended.signature z.0.0 z.0.1) ⊛ ‵ (owns (types_at ended.signature.params z.0.0) z.0.3 vss)) ∷ raw ((clauses z.0.0 z.0.3).requires z.1) ∷ []) ∵
        split ! $ move ! (1 ∷ []) $ fsplit ! $ sheet_had E ! d vss.0 (λ b o at_b e₀ fn fit. move ! (1 ∷ []) $
        fsplit ! $ fsplit ! $ feq_l ! (λ e₁. flt_l ! (λ f₁. fsplit ! $ fsplit ! $ feq_l ! (λ e₂. flt_l ! (λ f₂. fsplit ! $ fsplit ! $ feq_l ! (λ e₃. flt_l ! (λ f₃. fsplit ! $ fsplit ! $ feq_l ! (λ e₄. flt_l ! (λ f₄.
        keep ! (1 ∷ 2 ∷ []) $
        let inside : el_d E = record { at = d.at; len = n; items = d.items; mine = marks_in p 0 d.mine; ok = (d.ok.0, d.ok.1 ∙ sym (length-marks_in p 0 d.mine)); small = d.small } in
        let rest : el_d E = record { at = d.at; len = n; items = d.items; mine = marks_in (λ k. not (p k)) 0 d.mine; ok = (d.ok.0, d.ok.1 ∙ sym (length-marks_in (λ k. not (p k)) 0 d.mine)); small = d.small } in
        use1 𝓛 (‵ (pieces (R E) (block_ptr b o) inside.items inside.mine) ⊛ ‵ (pieces (R E) (block_ptr b o) rest.items rest.mine)) (parted E 𝓛 b p d.items d.mine 0 o) $ split ! $
        sheet_made E ! inside b o at_b fn fit $ move ! (1 ∷ []) $ sheet_made E ! rest b o at_b fn fit $ move ! (1 ∷ 0 ∷ []) $
        use2 𝓛 (‵ ((Tuple (Sr E ∷ Sr E ∷ [])).own_val (inside, rest) (two_val (row_val b o n) (row_val b o n) ∷ []))) (two_of 𝓛 (Sr E) (Sr E) inside rest (row_val b o n) (row_val b o n)) $
        let us : List Val = row_val b o n ∷ vint w64 from ∷ vint w64 rows ∷ vint w64 cols ∷ vint w64 pitch ∷ [] in
        suffices ! (Run us) (subst (λ (ws : List Val × List Val × List Val × List Val × List Val). ent 𝓤 (Run us) (Run (ws.0 ++ (ws.1 ++ (ws.2 ++ (ws.3 ++ (ws.4 ++ []))))))) (λ j. (sym e₀ j, sym e₁ j, sym e₂ j, sym e₃ j, sym e₄ j)) (id⊢ 𝓤 (Run us))) $
        enter ! 𝓣.C 𝓣.Λ here us _ $ alloc_all ! (λ l. pass_all ! refl ((tt, (tt, (record { fits = fn }, tt))), ((tt, record { fits = f₁ }), ((tt, record { fits = f₂ }), ((tt, record { fits = f₃ }), ((tt, record { fits = f₄ }), tt))))) $
        sets ! (of_opd ! (get_in ! (fld ! refl (stop !)) (sub ! 0 refl (whole !)))) refl (tt, tt) $ sets ! (of_opd ! (get_in ! (fld ! refl (stop !)) (sub ! 1 refl (whole !)))) refl (tt, record { fits = fn }) $
        sets ! (agg ! (and_then ! (get ! refl) (and_then ! (get ! refl) (no_more !)))) refl (tt, (tt, (record { fits = fn }, tt))) $
        sets ! (agg ! (and_then ! (get ! refl) (and_then ! (get ! refl) (no_more !)))) refl (tt, (tt, (record { fits = fn }, tt))) $
        sets ! (agg ! (and_then ! (get ! refl) (and_then ! (get ! refl) (no_more !)))) refl (tt, ((tt, (record { fits = fn }, tt)), ((tt, (record { fits = fn }, tt)), tt))) $
        returns ! (look_at ! 0 refl) $ free_all ! refl $
        suffices ! _ (ends_at 𝓛 ended stayed clauses z (two_val (row_val b o n) (row_val b o n)) (inside, rest) (tt, (tt, (tt, (tt, (tt, tt))))) (tt, (tt, (tt, (tt, (tt, tt)))))) $
        says ! (record { one_buffer = (record { start = refl; count = refl }, record { start = refl; count = refl }); items = (refl, refl); inside_marks = refl; rest_marks = refl }) $
        nothing ! $ nothing ! $ fjoin ! $ nothing ! $ fjoin ! $ nothing ! $ fjoin ! $ nothing ! $ fjoin ! $ nothing ! $ fjoin ! $ keep ! (2 ∷ 0 ∷ 1 ∷ []) $ done !))))))))))

    meets : Meets 𝓛 ended.signature (WpFn 𝓤 H 𝓣.C 𝓣.Λ here) (closing 𝓛 ended clauses)
    meets =
        let goes = Goes-dropped 𝓛 1 (plain (λ _. usize)) yes (λ κs x f. refl) in
        walk_Meets 𝓛 ended stayed (Goes-dropped 𝓛 1 (plain (λ _. Sr E)) no (λ κs x f. refl), (goes, (goes, (goes, (goes, tt))))) clauses (WpFn 𝓤 H 𝓣.C 𝓣.Λ here) (WpFn-mono 𝓤 H 𝓛.laws 𝓣 here) walk

pub cut_spec : {M : Type 1} → stated.statement M
unfolding tables_of
cut_spec 𝓤 𝓛 𝓜 𝓡 wired X L =
    let E : El = record { row = X; laws = L } in
    let 𝓣 : Tables 𝓤 𝓛.H = tables_of 𝓤 𝓛.H 𝓜 (tables 𝓤 𝓛.H 𝓜 𝓡 𝓡.env) in
    entered 𝓤 𝓛.H (triple_of 𝓛 (F.signature X) (F.spec X 𝓛 𝓜.mem 𝓡.returns)) 𝓣.C 𝓣.Λ (#self (args E)) (here E) (code.unfolded 𝓤 𝓛.H 𝓜 𝓡 wired (X, tt))
    (meets E 𝓛 𝓜.mem 𝓡.returns 𝓣)
