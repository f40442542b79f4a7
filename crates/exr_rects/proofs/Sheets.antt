-- What a sheet owns is taken apart and made, and a `&mut` to one is opened, at any element type. Assumes `Logic`.
use mathlib.Core.Path.{◌≡◌, refl, sym, ap, ◌∙◌}
use Prim.Native.Nat.{ℕ, ◌+◌, ◌*◌, ◌<◌, ◌^◌}
use mathlib.Core.List.{List, [], ◌∷◌, ◌++◌}
use seplogic.Ra.Ura.{Ura}
use base.Fraction.{full_share}
use mir.Syntax.{w64}
use mir.Val.{Val, vint, vptr, vstruct, of_list}
use base.Logic.{ent, sep, id⊢, never}
use base.Fml.{Lft, GName, Share, Fml, fsep, flt, flft, fobs, fauth, fbor, fobor, fhide}
use types.Logic.{Logic, sem}
use types.Kit.{Goal, Soaks, Step, step, Seq, Item, ‵, ◌⊛◌, ◌$◌, ◌∵◌, !, qed, use1, split, keep, done, move, drop, rewrite, fsplit, fjoin, fpick, fpack, feq_l, feq_i, flt_l, flt_i}
use types.SemTy.{Body}
use denote.RattleType.{RattleType, Valss}
use denote.Memory.{cell_at, mem, hidden_shr}
use denote.Builtin.{usize}
use denote.Opens.{unhide}
use denote.Struct.Lending.{lent_out}
use denote.RawPtr.{Ptr, RawPtr, block_ptr, in_block, in_a_block}
use denote.Steps.{opens, nothing}
use denote.Struct.Struct.{Struct, within}
use denote.Struct.Owning.{Owning, shape}
use Rattle.core.proofs.mem.Param.{El, R, el_x}
use Rattle.core.proofs.slots.Places.{sz}
use Rattle.core.proofs.slots.Opens.{words_val, row_val}
use Rattle.core.specs.Mem.Slots.Ownership.{slots_lent}
use Rattle.exr_rects.specs.Ownership.{pieces}
use Rattle.exr_rects.specs.declared.sheet.Sheet.{Sheet}
use Rattle.exr_rects.specs.contracts.sheet.Sheet as C

module _ (E : El) where
  abbrev pub owning : Owning
  owning = C.the_type (R E)

  abbrev pub Sr : RattleType
  Sr = C.the_row (R E)

  abbrev pub el_d : Type 0
  el_d = Sheet (el_x E)

  -- the two data fields, as a plain struct
  abbrev pub Words : RattleType
  Words = Struct (shape owning)

  abbrev pub held : el_d → ℕ → ℕ → Fml
  held d b o = pieces (R E) (block_ptr b o) d.items d.mine

module _ (E : El) {M : Type 1} {𝓤 : Ura M} {𝓛 : Logic 𝓤} {K : Type 0} {Γ : List (Item 𝓤)} {G : Goal 𝓤 𝓛.H} where
  pub sheet_had : K → (d : el_d E) (vs : List Val)
      → ((b o : ℕ) → d.at ≡ block_ptr b o → vs ≡ row_val b o d.len ∷ [] → d.len < 2 ^ 64 → d.len * sz E < 2 ^ 63 → Seq K 𝓛 (‵ (held E d b o) ∷ Γ) G)
      → Seq K 𝓛 (‵ ((Sr E).own_val d vs) ∷ Γ) G
  sheet_had t d vs k =
      fsplit t $ fpick t (λ vss. fsplit t $ feq_l t (λ all. fsplit t $ feq_l t (λ e₀. fsplit t $ fsplit t $ feq_l t (λ e₁. flt_l t (λ fn. drop t $ fsplit t $ flt_l t (λ fit.
      in_a_block t d.at (λ p. in_block p (pieces (R E) p d.items d.mine)) (id⊢ 𝓤 (never 𝓤)) (λ b o e.
      k b o e (all ∙ ((λ i. vstruct (of_list (e₀ i ++ (e₁ i ++ []))) ∷ []) ∙ ap (λ (p : Ptr). words_val p d.len ∷ []) e)) fn fit)))))))

  pub sheet_made : K → (d : el_d E) (b o : ℕ) → d.at ≡ block_ptr b o → d.len < 2 ^ 64 → d.len * sz E < 2 ^ 63
      → Step K 𝓛 (‵ ((Sr E).own_val d (row_val b o d.len ∷ [])) ∷ Γ) G (‵ (held E d b o) ∷ Γ) G
  sheet_made t d b o at fn fit = step (λ s.
      flt_i t (d.len * sz E) (2 ^ 63) fit $ fjoin t $
      nothing t $ flt_i t d.len (2 ^ 64) fn $ feq_i t (List Val) (vint w64 d.len ∷ []) (vint w64 d.len ∷ []) refl $ fjoin t $ fjoin t $
      feq_i t (List Val) (vptr b o ∷ []) (vptr b o ∷ []) refl $ fjoin t $ feq_i t (List Val) (row_val b o d.len ∷ []) (row_val b o d.len ∷ []) refl $ fjoin t $
      fpack t (Valss (shape (owning E)).fields) (within (shape (owning E)) (block_ptr b o, (d.len, tt)) (row_val b o d.len ∷ [])) (vptr b o ∷ [], (vint w64 d.len ∷ [], tt)) $ fjoin t $
      rewrite t 0 (λ (p : Ptr). ‵ (fsep ((Words E).own_val (p, (d.len, tt)) (row_val b o d.len ∷ [])) (fsep (flt (d.len * sz E) (2 ^ 63)) (in_block p (pieces (R E) p d.items d.mine))))) (sym at) refl $ s)

module _ (E : El) {M : Type 1} {𝓤 : Ura M} {𝓛 : Logic 𝓤} {K : Type 0} {Γ : List (Item 𝓤)} {G : Goal 𝓤 𝓛.H} where
  -- [the pieces; the two words; the open borrow; obs; auth]
  pub sheet_opens : K → Soaks G → {κ : Lft} {q : Share} {γ : GName} (d : el_d E) (rb ro : ℕ)
      → ((b o : ℕ) → d.at ≡ block_ptr b o → d.len < 2 ^ 64 → d.len * sz E < 2 ^ 63
      → Seq K 𝓛 (‵ (held E d b o) ∷ ‵ (cell_at full_share (Sr E).mir (row_val b o d.len ∷ []) rb ro) ∷ ‵ (fobor κ q (Body (mem (Sr E)) rb ro γ)) ∷ ‵ (fobs γ ((Sr E).coded.code d)) ∷ ‵ (fauth γ ((Sr E).coded.code d)) ∷ Γ) G)
      → Seq K 𝓛 (‵ (fobs γ ((Sr E).coded.code d)) ∷ ‵ (fbor κ (Body (mem (Sr E)) rb ro γ)) ∷ ‵ (flft κ q) ∷ Γ) G
  sheet_opens t z d rb ro k =
      opens t z (Sr E) {h = d} rb ro (λ vs. move t (1 ∷ []) $ sheet_had E t d vs (λ b o e is fn fit.
      rewrite t 1 (λ (ws : List Val). ‵ (cell_at full_share (Sr E).mir ws rb ro)) is refl $ k b o e fn fit))

module _ (E : El) {M : Type 1} {𝓤 : Ura M} (𝓛 : Logic 𝓤) (κ : Lft) where
  -- what a `&` to a sheet shows: its two words, and a `&` to each element that it owns
  pub shown : (d : el_d E) (b o : ℕ) → ent 𝓤 (sem 𝓛 (hidden_shr (Sr E) κ d b o)) (sep 𝓤 (sem 𝓛 (hidden_shr RawPtr κ d.at b (o + 0))) (sep 𝓤 (sem 𝓛 (hidden_shr usize κ d.len b (o + 8)))
      (sep 𝓤 (sem 𝓛 (flt (d.len * sz E) (2 ^ 63))) (sem 𝓛 (slots_lent (R E) d.at d.items d.mine κ)))))
  shown d b o = qed 𝓛 (‵ (hidden_shr (Sr E) κ d b o) ∷ []) ∵
      use1 𝓛 (‵ (hidden_shr (Words E) κ (d.at, (d.len, tt)) b o) ⊛ ‵ (fhide (C.the_lent (R E) d d.at κ))) (lent_out 𝓛 (C.struct (R E)) (C.the_codes (el_x E) (R E).coded) (C.the_heap (R E)) (C.the_lent (R E)) κ d b o) $ split ! $
      unhide ! $ fsplit ! $ fsplit ! $ move ! (1 ∷ []) $ fsplit ! $ keep ! (2 ∷ 0 ∷ 4 ∷ []) $ done !
