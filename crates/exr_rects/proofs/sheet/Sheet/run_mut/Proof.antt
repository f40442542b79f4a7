-- `run_mut` lends a run, and the sheet follows it. Assumes `Logic`.
use mathlib.Core.Path.{◌≡◌, refl, sym, subst, ap, ◌∙◌}
use mathlib.Core.Bool.{Bool, true, false}
use Prim.Native.Nat.{ℕ, ◌+◌, ◌*◌, ◌<◌, ◌≤◌, ◌^◌}
use native.Mathlib.Omega.{arith}
use mathlib.Core.List.{List, [], ◌∷◌}
use lib.ListN.{length, get_or}
use base.Fraction.{full_share}
use mir.Syntax.{Fn, w64, named}
use mir.Val.{Val, vint, vptr}
use base.Fml.{GName, Fml, ftrue, fsep, flft}
use seplogic.Ra.Ura.{Ura}
use mir.MapTy.{inst_fn}
use base.Logic.{SProp, ent, sep}
use prog.Memory.{Memory}
use prog.Routine.{Routine}
use prog.Wp.{Env, WpFn, Tables}
use types.Logic.{Logic, sem}
use contract.BorrowLft.{◌⊑◌}
use contract.Monad.{Fun, fact}
use contract.Running.{tables, tables_of}
use denote.RattleType.{owns}
use denote.Signature.{plain, types_at}
use denote.Steps.{heard, nothing}
use denote.Triple.Clauses.{Clauses, Ended, closing}
use denote.Triple.Spec.{Meets, triple_of}
use denote.Triple.Table.{entered}
use sound.WpLaws.{WpFn-mono}
use types.Kit.{‵, raw, ◌⊛◌, some, later, at_ret, ◌$◌, ◌∵◌, !, qed, by, move, keep, use1, use2, drop, split, split3, join, pick, rewrite, fsplit, fsplit3, fjoin, fpack, suffices, frame, await, group, done}
use types.Part.{whole, sub, look_in, agg}
use types.Run.{stop, fld, load, of_opd, bin, size_word, and_then, no_more, first, blocks, exec, returns, enter}
use types.ByLocal.{alloc_all, pass_all, free_all, look_at, get, through, sets, sets_last, is, env}
use denote.Exit.{yes, no}
use denote.Plain.{uint_vals, uint_Tells}
use denote.RawPtr.{block_ptr}
use denote.Triple.Walked.{says, Stays, stay_dropped, walk_of, ends_at, walked, Goes-dropped, Goes-spent_ref, walk_Meets}
use Rattle.core.proofs.mem.Param.{El, R, args, el_x}
use Rattle.core.proofs.ptr.Rows.{times_below}
use Rattle.core.proofs.slots.Bodies.{after}
use Rattle.core.proofs.slots.Leases.{uncapped}
use Rattle.core.proofs.slots.Places.{sz}
use Rattle.core.proofs.slots.Runs.{run, run_long, in_run}
use Rattle.core.proofs.slots.Opens.{row_val}
use denote.Array.{Array}
use denote.Builtin.{usize, RefMutOf}
use denote.Follow.{follows}
use denote.FollowSlice.{Elements, lends_Elements}
use denote.Memory.{cell_at, part_of, mem}
use denote.Ref.{MutBor, mut_vals, mut_Tells}
use denote.Slice.{MutSlice, slice_val}
use types.SemTy.{cells}
use Rattle.exr_rects.specs.Ownership.{pieces}
use Rattle.exr_rects.specs.Lending.{with_run, OwnsRun}
use Rattle.exr_rects.proofs.Pieces.{Around, run_out, run_in, to_cells, of_cells, overwritten_is}
use Rattle.exr_rects.proofs.Sheets.{Sr, el_d, sheet_opens, sheet_made}
use Rattle.exr_rects.specs.contracts.sheet.Sheet.run_mut as F
use Rattle.exr_rects.specs.contracts.sheet.Sheet.run_mut.Key.{name as #self}
use Rattle.exr_rects.proofs.sheet.Sheet.run_mut.Statement as stated
use Rattle.exr_rects.proofs.sheet.Sheet.run_mut.Code as code

-- each mark of a run that is owned is set
set_marks : (ms : List Bool) (a n : ℕ) → ((k : ℕ) → k < n → get_or ms (a + k) false ≡ true) → a + n ≤ length ms → (k : ℕ) → k < length (run ms a n) → get_or (run ms a n) k false ≡ true
set_marks ms a n own fits k lt = let long = run_long ms a n fits in let near : k < n = omega arith in in_run ms a n k false near ∙ own k near

module _ (E : El) {M : Type 1} {𝓤 : Ura M} (𝓛 : Logic 𝓤) (rb ro b o : ℕ) (h : el_d E) (at n : ℕ) where
  -- all of the sheet but the run
  abbrev Rest : Fml
  Rest = fsep (Around E 𝓛 b o h.items h.mine at n) (cell_at full_share (Sr E).mir (row_val b o h.len ∷ []) rb ro)

  back : h.at ≡ block_ptr b o → h.len * sz E < 2 ^ 63 → at + n ≤ length h.items → length h.mine ≡ length h.items → ((k : ℕ) → k < length (run h.mine at n) → get_or (run h.mine at n) k false ≡ true)
      → (ws : List (el_x E)) → length ws ≡ length (run h.items at n) → ent 𝓤 (sep 𝓤 (sem 𝓛 (cells (mem (R E)) ws b (at * sz E + o))) (sem 𝓛 Rest)) (sem 𝓛 ((mem (Sr E)).own_at (with_run h at ws) rb ro))
  unfolding part_of
  back at_b fit fits same full ws long =
      let count : length ws ≡ n = long ∙ run_long h.items at n fits in
      qed 𝓛 (‵ (cells (mem (R E)) ws b (at * sz E + o)) ∷ ‵ Rest ∷ []) ∵
      use1 𝓛 (‵ (pieces (R E) (block_ptr b (at * sz E + o)) ws (run h.mine at n))) (of_cells E 𝓛 b ws (run h.mine at n) (at * sz E + o) full) $ move ! (1 ∷ []) $ fsplit ! $ move ! (2 ∷ 0 ∷ []) $
      use2 𝓛 (‵ (pieces (R E) (block_ptr b o) (Rattle.core.proofs.slots.Runs.spliced h.items at n ws) h.mine)) (run_in E 𝓛 b o h.items h.mine at n fits same ws count) $
      rewrite ! 0 (λ (l : List (el_x E)). ‵ (pieces (R E) (block_ptr b o) l h.mine)) (overwritten_is h.items at n ws fits count) refl $
      sheet_made E ! (with_run h at ws) b o at_b h.small fit $ move ! (1 ∷ 0 ∷ []) $ fjoin ! $
      fpack ! (List Val) (λ us. fsep (cell_at full_share (Sr E).mir us rb ro) ((Sr E).own_val (with_run h at ws) us)) (row_val b o h.len ∷ []) $ done !

module _ (E : El) where
  abbrev here : Fn
  here = inst_fn (args E) code.function

  abbrev ended : Ended
  ended = F.ended E.row

  abbrev stayed : Stays ended.signature.params ended.kept
  stayed = (stay_dropped (RefMutOf (0 ∷ []) tt (plain (λ _. Sr E)) (λ _. tt)) no, (stay_dropped (plain (λ _. usize)) yes, (stay_dropped (plain (λ _. usize)) yes, tt)))

  module _ {M : Type 1} {𝓤 : Ura M} (𝓛 : Logic 𝓤) (at_mem : Memory → SProp 𝓤) (run_of : Routine → Fun 𝓤) (𝓣 : Tables 𝓤 𝓛.H) where
    open 𝓛 use {H}

    abbrev clauses : Clauses 𝓤 ended
    clauses = F.clauses E.row 𝓛 at_mem run_of

    abbrev Bound : Type 0
    Bound = (walk_of 𝓛 ended stayed clauses).Ghost

    abbrev Goes : Bound → Type 1
    Goes y = ent 𝓤 ((walk_of 𝓛 ended stayed clauses).pre y) (WpFn 𝓤 H 𝓣.C 𝓣.Λ here ((walk_of 𝓛 ended stayed clauses).args y) ((walk_of 𝓛 ended stayed clauses).post y))

    abbrev spelled : Bound → Bound
    spelled z = ((z.0.0, z.0.1, z.0.2, z.0.3, (mut_vals z.0.3.0, (uint_vals w64 z.0.3.1.0, (uint_vals w64 z.0.3.1.1.0, tt)))), z.1)

    exits : (z : Bound) (r : MutBor (List (el_x E))) (v : Val) → r.now ≡ run z.0.3.0.now.items z.0.3.1.0 z.0.3.1.1.0
        → ent 𝓤 (sep 𝓤 (sep 𝓤 (sem 𝓛 ((MutSlice (named 0) z.0.0.0 (R E)).own_val r (v ∷ []))) (sep 𝓤 (sem 𝓛 (flft z.0.0.0 z.0.1.0)) (sem 𝓛 (follows (Sr E) (Array (R E) 0) z.0.3.0.ghost_name r.ghost_name (with_run z.0.3.0.now z.0.3.1.0)))))
        (sep 𝓤 (sem 𝓛 (flft z.0.0.1.0 z.0.1.1.0)) (sem 𝓛 ftrue))) ((walk_of 𝓛 ended stayed clauses).post (spelled z) v)
    exits z r v e =
        qed 𝓛 ((‵ ((MutSlice (named 0) z.0.0.0 (R E)).own_val r (v ∷ [])) ⊛ ‵ (flft z.0.0.0 z.0.1.0) ⊛ ‵ (follows (Sr E) (Array (R E) 0) z.0.3.0.ghost_name r.ghost_name (with_run z.0.3.0.now z.0.3.1.0)))
        ∷ (‵ (flft z.0.0.1.0 z.0.1.1.0) ⊛ ‵ ftrue) ∷ []) ∵
        split3 ! $ suffices ! _ (ends_at 𝓛 ended stayed clauses (spelled z) v r (tt, (tt, (tt, tt))) (tt, (tt, (tt, tt)))) $
        nothing ! $ nothing ! $ fjoin ! $ nothing ! $ fjoin ! $ nothing ! $ fjoin ! $ join ! $ move ! (1 ∷ 3 ∷ []) $ join ! $ join ! $ frame ! $ says ! e $ keep ! (0 ∷ []) $ done !

    walk : (z : Bound) → z.0.3.1.0 < 2 ^ 64 → z.0.3.1.1.0 < 2 ^ 64 → Goes (spelled z)
    walk z fi fn =
        let κ = z.0.0.0 in let κ₁ = z.0.0.1.0 in let q = z.0.1.0 in let q₁ = z.0.1.1.0 in
        let rb : ℕ = z.0.3.0.ref_ptr.0 in let ro : ℕ = z.0.3.0.ref_ptr.1 in let γ : GName = z.0.3.0.ghost_name in let h : el_d E = z.0.3.0.now in let i : ℕ = z.0.3.1.0 in let n : ℕ = z.0.3.1.1.0 in
        let Post : Val → SProp 𝓤 = (walk_of 𝓛 ended stayed clauses).post (spelled z) in
        let Ok : Type 0 = (i + n ≤ h.len) × OwnsRun h i n in
        let s : ℕ = sz E in
        let lx : h.len ≡ length h.items = h.ok.0 in let lm : h.len ≡ length h.mine = h.ok.1 in
        qed 𝓛 (((‵ (flft κ q) ⊛ ‵ (flft κ₁ q₁) ⊛ ‵ ftrue) ⊛ ‵ (owns (types_at ended.signature.params z.0.0) z.0.3 (spelled z).0.4)) ∷ (raw (fact 𝓤 (κ₁ ⊑ E.row.lives)) ⊛ raw (fact 𝓤 Ok)) ∷ []) ∵
        move ! (1 ∷ []) $ split ! $ drop ! $ heard ! Ok (λ ok.
        let le : i + n ≤ h.len = ok.0 in let fits : i + n ≤ length h.items = omega arith in let fitm : i + n ≤ length h.mine = omega arith in let same : length h.mine ≡ length h.items = omega arith in
        let xs : List (el_x E) = run h.items i n in let ms : List Bool = run h.mine i n in let long : length xs ≡ n = run_long h.items i n fits in let longm : length ms ≡ n = run_long h.mine i n fitm in
        let full = set_marks h.mine i n ok.1 fitm in
        split ! $ split ! $ move ! (2 ∷ []) $ fsplit ! $ fsplit3 ! $ keep ! (1 ∷ 2 ∷ 4 ∷ 5 ∷ []) $
        enter ! 𝓣.C 𝓣.Λ here (vptr rb ro ∷ vint w64 i ∷ vint w64 n ∷ []) _ $ alloc_all ! (λ l. pass_all ! refl ((tt, tt), ((tt, record { fits = fi }), ((tt, record { fits = fn }), tt))) $
        let En : Env 𝓤 H = env here.locals l in
        sheet_opens E ! tt h rb ro (λ b o at_b fl fit.
        let far : i * s < 2 ^ 64 = omega (arith, times_below i h.len s (2 ^ 63) (omega arith) fit) in
        first ! $ blocks ! $
        sets ! (of_opd ! (load ! (through ! refl (fld ! refl (stop !))) (look_in ! 1 (sub ! 0 refl (whole !))))) refl (tt, tt) $
        sets ! (is ! (bin ! (get ! refl) (size_word !) (record { fits = subst (λ (k : ℕ). k < 2 ^ 64) (sym (uncapped i s far)) far })) (ap (vint w64) (uncapped i s far))) refl (tt, record { fits = far }) $
        sets ! (bin ! (get ! refl) (get ! refl) tt) refl (tt, tt) $
        let pos = i * s + o in let way = back E 𝓛 rb ro b o h i n at_b fit fits same full in
        let roomy : length xs < 2 ^ 64 = omega arith in let fitting = times_below (length xs) h.len s (2 ^ 63) (omega arith) fit in
        use1 𝓛 (‵ (pieces (R E) (block_ptr b pos) xs ms) ⊛ ‵ (Around E 𝓛 b o h.items h.mine i n)) (run_out E 𝓛 b o h.items h.mine i n fits same) $ split ! $
        use1 𝓛 (‵ (cells (mem (R E)) xs b pos)) (to_cells E 𝓛 b xs ms pos (longm ∙ sym long) full) $
        sets_last ! (agg ! (and_then ! (get ! refl) (and_then ! (get ! refl) (no_more !)))) refl (tt, (tt, (record { fits = fn }, tt))) $
        exec ! 𝓣.C 𝓣.Λ En (after 1 here.body) (at_ret En Post) $ sets ! (of_opd ! (get ! refl)) refl (tt, (tt, (record { fits = fn }, tt))) $
        move ! (1 ∷ 2 ∷ []) $ fjoin ! $ move ! (2 ∷ 3 ∷ 4 ∷ 1 ∷ 0 ∷ []) $ group ! 5 $
        use1 𝓛 (later (some (λ (δ : GName). raw (Elements 𝓛 (Sr E) (R E) (with_run h i) (named 0) κ q rb ro b pos γ xs (roomy, fitting) (sem 𝓛 (Rest E 𝓛 rb ro b o h i n)) way δ))))
        (lends_Elements 𝓛 (Sr E) (R E) (with_run h i) (named 0) κ q rb ro b pos γ xs (roomy, fitting) (sem 𝓛 (Rest E 𝓛 rb ro b o h i n)) way ((Sr E).coded.code h) ((Sr E).coded.code h)) $ await ! tt $ pick ! (λ δ.
        let r : MutBor (List (el_x E)) = record { ref_ptr = (b, pos); ghost_name = δ; now = xs } in
        returns ! (look_at ! 0 refl) $ free_all ! refl $
        by ! (subst (λ (k : ℕ). ent 𝓤 (sep 𝓤 (Elements 𝓛 (Sr E) (R E) (with_run h i) (named 0) κ q rb ro b pos γ xs (roomy, fitting) (sem 𝓛 (Rest E 𝓛 rb ro b o h i n)) way δ) (sep 𝓤 (sem 𝓛 (flft κ₁ q₁)) (sem 𝓛 ftrue))) (Post (slice_val (b, pos) k))) long
        (exits z r (slice_val (b, pos) (length xs)) refl))))))

    meets : Meets 𝓛 ended.signature (WpFn 𝓤 H 𝓣.C 𝓣.Λ here) (closing 𝓛 ended clauses)
    meets =
        let goes = Goes-dropped 𝓛 2 (plain (λ _. usize)) yes (λ κs x f. refl) in
        walk_Meets 𝓛 ended stayed (Goes-spent_ref 𝓛 2 (0 ∷ []) tt (plain (λ _. Sr E)), (goes, (goes, tt))) clauses (WpFn 𝓤 H 𝓣.C 𝓣.Λ here) (WpFn-mono 𝓤 H 𝓛.laws 𝓣 here)
        (walked 𝓛 ended stayed clauses (WpFn 𝓤 H 𝓣.C 𝓣.Λ here) (λ κs. (mut_vals, (uint_vals w64, (uint_vals w64, tt)))) (λ κs. (mut_Tells (named 0) κs.0 (Sr E), (uint_Tells w64, (uint_Tells w64, tt))))
        (λ κs qs bounds a g are. walk ((κs, qs, bounds, a, (mut_vals a.0, (uint_vals w64 a.1.0, (uint_vals w64 a.1.1.0, tt)))), g) are.1.0.1 are.1.1.0.1))

pub run_mut_spec : {M : Type 1} → stated.statement M
unfolding tables_of
run_mut_spec 𝓤 𝓛 𝓜 𝓡 wired X L =
    let E : El = record { row = X; laws = L } in
    let 𝓣 : Tables 𝓤 𝓛.H = tables_of 𝓤 𝓛.H 𝓜 (tables 𝓤 𝓛.H 𝓜 𝓡 𝓡.env) in
    entered 𝓤 𝓛.H (triple_of 𝓛 (F.signature X) (F.spec X 𝓛 𝓜.mem 𝓡.returns)) 𝓣.C 𝓣.Λ (#self (args E)) (here E) (code.unfolded 𝓤 𝓛.H 𝓜 𝓡 wired (X, tt))
    (meets E 𝓛 𝓜.mem 𝓡.returns 𝓣)
