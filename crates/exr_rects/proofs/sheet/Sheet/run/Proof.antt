-- `run` shows a run of the elements that a sheet owns. Assumes `Logic`.
use mathlib.Core.Path.{◌≡◌, refl, sym, subst, ap, ◌∙◌}
use mathlib.Core.Bool.{true, false}
use Prim.Native.Nat.{ℕ, ◌+◌, ◌*◌, ◌<◌, ◌≤◌, ◌^◌}
use native.Mathlib.Omega.{arith}
use mathlib.Core.List.{List, [], ◌∷◌}
use lib.ListN.{length, get_or}
use lib.Seq.{get_or-drop}
use mir.Syntax.{Fn, w64, named}
use mir.Val.{Val, vint, vptr}
use base.Fml.{ftrue, flt, flft}
use seplogic.Ra.Ura.{Ura}
use mir.MapTy.{inst_fn}
use base.Logic.{SProp, ent}
use prog.Memory.{Memory}
use prog.Routine.{Routine}
use prog.Wp.{Env, WpFn, Tables}
use types.Logic.{Logic}
use contract.BorrowLft.{◌⊑◌}
use contract.Monad.{Fun, fact}
use contract.Running.{tables, tables_of}
use denote.RattleType.{owns}
use denote.Signature.{plain, types_at}
use denote.Steps.{heard, nothing}
use denote.Triple.Clauses.{Clauses, Ended, closing}
use denote.Triple.Spec.{Meets, triple_of}
use denote.Triple.Table.{entered}
use sound.WpLaws.{WpFn-mono}
use types.Kit.{‵, raw, ◌⊛◌, at_ret, ◌$◌, ◌∵◌, !, qed, move, keep, use1, drop, split, split3, join, fsplit, fjoin, feq_i, flt_l, flt_i, suffices, done}
use types.Part.{agg}
use types.Run.{stop, fld, load, look, of_opd, bin, size_word, and_then, no_more, first, blocks, exec, returns, enter}
use types.ByLocal.{alloc_all, pass_all, free_all, look_at, get, through, sets, sets_last, is, env}
use denote.Exit.{yes}
use denote.Plain.{uint_vals, uint_Tells}
use denote.RawPtr.{RawPtr, in_a_block}
use denote.Triple.Walked.{says, Stays, stay_dropped, walk_of, ends_at, walked, Goes-dropped, walk_Meets}
use Rattle.core.proofs.mem.Param.{El, R, args, el_x}
use Rattle.core.proofs.ptr.Rows.{times_below}
use Rattle.core.proofs.slots.Bodies.{after}
use Rattle.core.proofs.slots.Leases.{uncapped}
use Rattle.core.proofs.slots.Places.{sz}
use Rattle.core.proofs.slots.Runs.{run, run_long}
use denote.Builtin.{usize, RefOf}
use denote.Memory.{hidden_shr}
use denote.Opens.{hide}
use denote.Ref.{shr_vals, shr_Tells}
use denote.Slice.{slice_val, elements_shared}
use Rattle.core.specs.Mem.Slots.Ownership.{slots_lent}
use Rattle.core.proofs.slots.Lent.{none_at_null, pointer_in, pointer_out}
use Rattle.exr_rects.specs.Lending.{OwnsRun}
use Rattle.exr_rects.proofs.Pieces.{run_seen}
use Rattle.exr_rects.proofs.Sheets.{Sr, el_d, shown}
use Rattle.exr_rects.specs.contracts.sheet.Sheet.run as F
use Rattle.exr_rects.specs.contracts.sheet.Sheet.run.Key.{name as #self}
use Rattle.exr_rects.proofs.sheet.Sheet.run.Statement as stated
use Rattle.exr_rects.proofs.sheet.Sheet.run.Code as code

module _ (E : El) where
  abbrev here : Fn
  here = inst_fn (args E) code.function

  abbrev ended : Ended
  ended = F.ended E.row

  abbrev stayed : Stays ended.signature.params ended.kept
  stayed = (stay_dropped (RefOf (0 ∷ []) tt (plain (λ _. Sr E)) (λ _. tt)) yes, (stay_dropped (plain (λ _. usize)) yes, (stay_dropped (plain (λ _. usize)) yes, tt)))

  module _ {M : Type 1} {𝓤 : Ura M} (𝓛 : Logic 𝓤) (at_mem : Memory → SProp 𝓤) (run_of : Routine → Fun 𝓤) (𝓣 : Tables 𝓤 𝓛.H) where
    open 𝓛 use {H}

    abbrev clauses : Clauses 𝓤 ended
    clauses = F.clauses E.row 𝓛 at_mem run_of

    abbrev Bound : Type 0
    Bound = (walk_of 𝓛 ended stayed clauses).Ghost

    abbrev Goes : Bound → Type 1
    Goes y = ent 𝓤 ((walk_of 𝓛 ended stayed clauses).pre y) (WpFn 𝓤 H 𝓣.C 𝓣.Λ here ((walk_of 𝓛 ended stayed clauses).args y) ((walk_of 𝓛 ended stayed clauses).post y))

    abbrev spelled : Bound → Bound
    spelled z = ((z.0.0, z.0.1, z.0.2, z.0.3, (shr_vals z.0.3.0, (uint_vals w64 z.0.3.1.0, (uint_vals w64 z.0.3.1.1.0, tt)))), z.1)

    walk : (z : Bound) → z.0.3.1.0 < 2 ^ 64 → z.0.3.1.1.0 < 2 ^ 64 → Goes (spelled z)
    walk z fi fn =
        let κ = z.0.0.0 in let κ₁ = z.0.0.1.0 in let q = z.0.1.0 in let q₁ = z.0.1.1.0 in
        let rb : ℕ = z.0.3.0.ref_ptr.0 in let ro : ℕ = z.0.3.0.ref_ptr.1 in let h : el_d E = z.0.3.0.now in let i : ℕ = z.0.3.1.0 in let n : ℕ = z.0.3.1.1.0 in
        let Post : Val → SProp 𝓤 = (walk_of 𝓛 ended stayed clauses).post (spelled z) in
        let Ok : Type 0 = (0 < n) × (i + n ≤ h.len) × OwnsRun h i n in
        let s : ℕ = sz E in
        let lx : h.len ≡ length h.items = h.ok.0 in let lm : h.len ≡ length h.mine = h.ok.1 in
        qed 𝓛 (((‵ (flft κ q) ⊛ ‵ (flft κ₁ q₁) ⊛ ‵ ftrue) ⊛ ‵ (owns (types_at ended.signature.params z.0.0) z.0.3 (spelled z).0.4)) ∷ (raw (fact 𝓤 (κ₁ ⊑ E.row.lives)) ⊛ raw (fact 𝓤 Ok)) ∷ []) ∵
        move ! (1 ∷ []) $ split ! $ drop ! $ heard ! Ok (λ ok.
        let some_ : 0 < n = ok.0 in let le : i + n ≤ h.len = ok.1 in let fits : i + n ≤ length h.items = omega arith in let same : length h.mine ≡ length h.items = omega arith in
        let xs : List (el_x E) = run h.items i n in let long : length xs ≡ n = run_long h.items i n fits in
        let full : (k : ℕ) → k < n → get_or (Rattle.std.specs.Prelude.drop i h.mine) k false ≡ true = λ k lt. get_or-drop i h.mine k false ∙ ok.2 k lt in
        let first_ : get_or h.mine i false ≡ true = subst (λ (k : ℕ). get_or h.mine k false ≡ true) {x = i + 0} {y = i} (omega arith) (ok.2 0 some_) in
        split ! $ split ! $ move ! (2 ∷ []) $ fsplit ! $ fsplit ! $ drop ! $
        use1 𝓛 (‵ (hidden_shr RawPtr κ h.at rb (ro + 0)) ⊛ ‵ (hidden_shr usize κ h.len rb (ro + 8)) ⊛ ‵ (flt (h.len * s) (2 ^ 63)) ⊛ ‵ (slots_lent (R E) h.at h.items h.mine κ)) (shown E 𝓛 κ h rb ro) $
        split3 ! $ move ! (2 ∷ []) $ split ! $ flt_l ! (λ fit.
        let far : i * s < 2 ^ 64 = omega (arith, times_below i h.len s (2 ^ 63) (omega arith) fit) in
        in_a_block ! h.at (λ p. slots_lent (R E) p h.items h.mine κ) (none_at_null E 𝓛 κ h.items h.mine i (omega arith) (omega arith) first_) (λ b o at_b.
        let pos = i * s + o in
        use1 𝓛 (‵ (elements_shared (R E) xs b pos κ)) (run_seen E 𝓛 b κ o h.items h.mine i n fits same full) $ hide ! $ keep ! (1 ∷ 4 ∷ 5 ∷ 0 ∷ []) $
        enter ! 𝓣.C 𝓣.Λ here (vptr rb ro ∷ vint w64 i ∷ vint w64 n ∷ []) _ $ alloc_all ! (λ l. pass_all ! refl ((tt, tt), ((tt, record { fits = fi }), ((tt, record { fits = fn }), tt))) $
        let En : Env 𝓤 H = env here.locals l in
        first ! $ blocks ! $ pointer_in ! tt h.at b o at_b rb (ro + 0) (λ q'.
        sets ! (of_opd ! (load ! (through ! refl (fld ! refl (stop !))) (look ! 0 refl))) refl (tt, tt) $
        pointer_out ! tt h.at b o at_b rb (ro + 0) $
        sets ! (is ! (bin ! (get ! refl) (size_word !) (record { fits = subst (λ (k : ℕ). k < 2 ^ 64) (sym (uncapped i s far)) far })) (ap (vint w64) (uncapped i s far))) refl (tt, record { fits = far }) $
        sets ! (bin ! (get ! refl) (get ! refl) tt) refl (tt, tt) $
        sets_last ! (agg ! (and_then ! (get ! refl) (and_then ! (get ! refl) (no_more !)))) refl (tt, (tt, (record { fits = fn }, tt))) $
        exec ! 𝓣.C 𝓣.Λ En (after 1 here.body) (at_ret En Post) $ sets ! (of_opd ! (get ! refl)) refl (tt, (tt, (record { fits = fn }, tt))) $
        returns ! (look_at ! 0 refl) $ free_all ! refl $
        suffices ! _ (ends_at 𝓛 ended stayed clauses (spelled z) (slice_val (b, pos) n) (record { ref_ptr = (b, pos); now = xs }) (tt, (tt, (tt, tt))) (tt, (tt, (tt, tt)))) $ says ! refl $
        join ! $ move ! (1 ∷ []) $ flt_i ! (length xs * s) (2 ^ 63) (times_below (length xs) h.len s (2 ^ 63) (omega arith) fit) $ flt_i ! (length xs) (2 ^ 64) (omega arith) $ fjoin ! $
        feq_i ! (List Val) (slice_val (b, pos) n ∷ []) (slice_val (b, pos) (length xs) ∷ []) (ap (λ k. slice_val (b, pos) k ∷ []) (sym long)) $ fjoin ! $ fjoin ! $
        nothing ! $ nothing ! $ fjoin ! $ nothing ! $ fjoin ! $ nothing ! $ fjoin ! $ keep ! (2 ∷ 0 ∷ 1 ∷ []) $ done !)))))

    meets : Meets 𝓛 ended.signature (WpFn 𝓤 H 𝓣.C 𝓣.Λ here) (closing 𝓛 ended clauses)
    meets =
        let goes = Goes-dropped 𝓛 2 (plain (λ _. usize)) yes (λ κs x f. refl) in
        walk_Meets 𝓛 ended stayed (Goes-dropped 𝓛 2 (RefOf (0 ∷ []) tt (plain (λ _. Sr E)) (λ _. tt)) yes (λ κs x f. refl), (goes, (goes, tt))) clauses
        (WpFn 𝓤 H 𝓣.C 𝓣.Λ here) (WpFn-mono 𝓤 H 𝓛.laws 𝓣 here)
        (walked 𝓛 ended stayed clauses (WpFn 𝓤 H 𝓣.C 𝓣.Λ here) (λ κs. (shr_vals, (uint_vals w64, (uint_vals w64, tt)))) (λ κs. (shr_Tells (named 0) κs.0 (Sr E), (uint_Tells w64, (uint_Tells w64, tt))))
        (λ κs qs bounds a g are. walk ((κs, qs, bounds, a, (shr_vals a.0, (uint_vals w64 a.1.0, (uint_vals w64 a.1.1.0, tt)))), g) are.1.0.1 are.1.1.0.1))

pub run_spec : {M : Type 1} → stated.statement M
unfolding tables_of
run_spec 𝓤 𝓛 𝓜 𝓡 wired X L =
    let E : El = record { row = X; laws = L } in
    let 𝓣 : Tables 𝓤 𝓛.H = tables_of 𝓤 𝓛.H 𝓜 (tables 𝓤 𝓛.H 𝓜 𝓡 𝓡.env) in
    entered 𝓤 𝓛.H (triple_of 𝓛 (F.signature X) (F.spec X 𝓛 𝓜.mem 𝓡.returns)) 𝓣.C 𝓣.Λ (#self (args E)) (here E) (code.unfolded 𝓤 𝓛.H 𝓜 𝓡 wired (X, tt))
    (meets E 𝓛 𝓜.mem 𝓡.returns 𝓣)
