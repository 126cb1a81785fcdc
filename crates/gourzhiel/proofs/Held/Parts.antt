-- The code of each handle's `of_parts` and `into_parts` moves two fields, and what they own goes with them. Assumes `Logic`.
use mathlib.Core.Path.{◌≡◌, refl, sym, subst, ap, ◌∙◌}
use mathlib.Core.Bool.{true}
use mathlib.Core.List.{List, [], ◌∷◌, ◌++◌}
use seplogic.Ra.Ura.{Ura}
use mir.Syntax.{Callee, Fn, ty_ptr, local, value_local, place, field, copy, rv_opd, aggregate, seq, assign, return}
use mir.Val.{Val}
use base.Logic.{ent, emp, id⊢}
use base.Fml.{Fml, ftrue, fsep}
use prog.Model.{Model}
use prog.Wp.{Closed, WpFn, Tables}
use contract.Running.{Running, tables, tables_of}
use types.Logic.{Logic}
use sound.WpLaws.{WpFn-mono}
use types.Kit.{Item, ‵, raw, ◌⊛◌, ◌$◌, ◌∵◌, !, qed, by, move, drop, use1, join, split, rewrite, fsplit, fjoin, suffices, done}
use types.Part.{whole, sub, agg}
use types.Run.{stop, fld, no_more, and_then, of_opd, returns, enter}
use types.ByLocal.{alloc_all, pass_all, free_all, look_at, get, get_in, sets}
use contract.Monad.{fact}
use denote.RattleType.{RattleType}
use denote.Memory.{lone}
use denote.Exit.{yes, Last, left}
use denote.Signature.{plain}
use denote.Steps.{heard, nothing}
use denote.Triple.Clauses.{closing, Clauses, Ended}
use denote.Triple.Spec.{Meets, triple_of}
use denote.Triple.Table.{entered}
use denote.Triple.Walked.{says, Stays, stay_dropped, walk_of, ends_at, Goes-dropped, walk_Meets}
use Rattle.core.proofs.alloc.Calls.{α}
use Rattle.std_alloc.proofs.BoxSteps.Form.{Bx, D, B, word, box_typed}
use Rattle.std_alloc.proofs.BoxSteps.Steps.{box_out, box_in}
use Rattle.gourzhiel.proofs.Held.Form.{Handle, H, Apart}

-- nothing is left of a value that was moved
pub record Gone (R : RattleType) : Type 1 where
  pub last : (x : R.Denot) → Last (R.exit yes) x
  pub left : (x : R.Denot) (f : Last (R.exit yes) x) → left (R.exit yes) x f ≡ ftrue

-- the code as it is generated, and the ends of a function from the one row to the other
module _ (E : Bx) (From To : RattleType) where
  abbrev pub fn' : Fn
  fn' = record {
    lifetimes = 0;
    outlives = [];
    ty_params = [];
    givens = 0;
    params = 1;
    locals = local (lone To.mir) value_local ∷ local (lone From.mir) value_local ∷ local ty_ptr value_local ∷ local (α E.al) value_local ∷ local ty_ptr value_local ∷ [];
    body = seq (assign (place 2 []) (rv_opd (copy (place 1 (field 0 ∷ []))))) (seq (assign (place 3 []) (rv_opd (copy (place 1 (field 1 ∷ [])))))
        (seq (assign (place 4 []) (rv_opd (copy (place 2 [])))) (seq (assign (place 0 []) (aggregate (copy (place 4 []) ∷ copy (place 3 []) ∷ []))) return)));
  }

  abbrev pub ended : Ended
  ended = record { signature = record { lifetimes = 0; outlives = []; params = plain (λ _. From) ∷ []; result = plain (λ _. To) }; kept = (yes, tt) }

  abbrev pub stayed : Stays ended.signature.params ended.kept
  stayed = (stay_dropped (plain (λ _. From)) yes, tt)

  module _ {M : Type 1} (𝓤 : Ura M) (𝓛 : Logic 𝓤) (𝓜 : Model 𝓤 𝓛.H) (𝓡 : Running 𝓤 𝓛.H 𝓜) (c : Clauses 𝓤 ended) where
    abbrev pub Walk : Tables 𝓤 𝓛.H → Type 1
    Walk 𝓣 = (z : (walk_of 𝓛 ended stayed c).Ghost) → ent 𝓤 ((walk_of 𝓛 ended stayed c).pre z) (WpFn 𝓤 𝓛.H 𝓣.C 𝓣.Λ fn' (z.0.4.0 ++ []) ((walk_of 𝓛 ended stayed c).post z))

    pub moves : Gone From → ((𝓣 : Tables 𝓤 𝓛.H) → Walk 𝓣) → (name : Callee)
        → Closed 𝓤 𝓛.H (tables 𝓤 𝓛.H 𝓜 𝓡 𝓡.env).C (tables 𝓤 𝓛.H 𝓜 𝓡 𝓡.env).Λ name fn' → Meets 𝓛 ended.signature (𝓡.run (𝓡.env name)) (closing 𝓛 ended c)
    unfolding tables_of
    moves gone walk name closed =
        let 𝓣 : Tables 𝓤 𝓛.H = tables_of 𝓤 𝓛.H 𝓜 (tables 𝓤 𝓛.H 𝓜 𝓡 𝓡.env) in
        entered 𝓤 𝓛.H (triple_of 𝓛 ended.signature (closing 𝓛 ended c)) 𝓣.C 𝓣.Λ name fn' closed
        (walk_Meets 𝓛 ended stayed (Goes-dropped 𝓛 0 (plain (λ _. From)) yes (λ κs. gone.left), tt) c (WpFn 𝓤 𝓛.H 𝓣.C 𝓣.Λ fn') (WpFn-mono 𝓤 𝓛.H 𝓛.laws 𝓣 fn') (walk 𝓣))

module _ (E : Bx) (h : Handle E) {M : Type 1} {𝓤 : Ura M} (𝓛 : Logic 𝓤) where
  abbrev made : Clauses 𝓤 (ended E (Apart E h) (H E h))
  made κs a = record { ghost = Unit {0}; requires = λ _. emp 𝓤; ensures = λ _ r _. fact 𝓤 ((h.is_full r ≡ true) × ((h.box r).value ≡ a.0.value)) }

  abbrev taken : Clauses 𝓤 (ended E (H E h) (Apart E h))
  taken κs a = record { ghost = Unit {0}; requires = λ _. fact 𝓤 (h.is_full a.0 ≡ true); ensures = λ _ r _. fact 𝓤 (r.value ≡ (h.box a.0).value) }

  makes : Gone (Apart E h) → (𝓜 : Model 𝓤 𝓛.H) (𝓡 : Running 𝓤 𝓛.H 𝓜) (𝓣 : Tables 𝓤 𝓛.H) → Walk E (Apart E h) (H E h) 𝓤 𝓛 𝓜 𝓡 made 𝓣
  makes gone 𝓜 𝓡 𝓣 z =
      let ends = ended E (Apart E h) (H E h) in let stays = stayed E (Apart E h) (H E h) in let fn = fn' E (Apart E h) (H E h) in
      let Post = (walk_of 𝓛 ends stays made).post z in
      let v : D E = record { ptr = z.0.3.0.at; alloc = z.0.3.0.alloc; value = z.0.3.0.value } in
      qed 𝓛 ((‵ ftrue ⊛ ‵ (fsep ((B E).own_val v z.0.4.0) ftrue)) ∷ raw (emp 𝓤) ∷ []) ∵ split ! $ drop ! $ fsplit ! $
      box_out E ! v z.0.4.0 (λ b o hv e ws fa. box_in E ! v b o v.value e refl $
      rewrite ! 0 (λ (f : Fml). ‵ f) (sym (h.owns v (word E hv b o ∷ []))) refl $ move ! (1 ∷ 2 ∷ []) $ drop ! $ drop ! $
      let w = word E hv b o in
      let Γ : List (Item 𝓤) = ‵ ((H E h).own_val (h.full_of v) (w ∷ [])) ∷ [] in
      by ! (subst (λ (us : List Val). ent 𝓤 (types.Kit.⋆ 𝓛 Γ) (WpFn 𝓤 𝓛.H 𝓣.C 𝓣.Λ fn (us ++ []) Post)) (sym ws)
      (qed 𝓛 Γ ∵ enter ! 𝓣.C 𝓣.Λ fn (w ∷ []) _ $ alloc_all ! (λ ls. pass_all ! refl (box_typed E hv b o fa, tt) $
      sets ! (of_opd ! (get_in ! (fld ! refl (stop !)) (sub ! 0 refl (whole !)))) refl (tt, tt) $ sets ! (of_opd ! (get_in ! (fld ! refl (stop !)) (sub ! 1 refl (whole !)))) refl fa $
      sets ! (of_opd ! (get ! refl)) refl (tt, tt) $ sets ! (agg ! (and_then ! (get ! refl) (and_then ! (get ! refl) (no_more !)))) refl (box_typed E hv b o fa) $ returns ! (look_at ! 0 refl) $ free_all ! refl $
      suffices ! _ (ends_at 𝓛 ends stays made z w (h.full_of v) (gone.last z.0.3.0, tt) (tt, tt)) $ says ! ((h.filled v).0, ap (λ (d : D E). d.value) (h.filled v).1) $
      nothing ! $ nothing ! $ fjoin ! $ join ! $ nothing ! $ join ! $ done !))))

  takes : Gone (H E h) → (𝓜 : Model 𝓤 𝓛.H) (𝓡 : Running 𝓤 𝓛.H 𝓜) (𝓣 : Tables 𝓤 𝓛.H) → Walk E (H E h) (Apart E h) 𝓤 𝓛 𝓜 𝓡 taken 𝓣
  takes gone 𝓜 𝓡 𝓣 z =
      let ends = ended E (H E h) (Apart E h) in let stays = stayed E (H E h) (Apart E h) in let fn = fn' E (H E h) (Apart E h) in
      let Post = (walk_of 𝓛 ends stays taken).post z in
      let v : D E = h.box z.0.3.0 in
      let parts : (Apart E h).Denot = record { at = v.ptr; alloc = v.alloc; value = v.value } in
      qed 𝓛 ((‵ ftrue ⊛ ‵ (fsep ((H E h).own_val z.0.3.0 z.0.4.0) ftrue)) ∷ raw (fact 𝓤 (h.is_full z.0.3.0 ≡ true)) ∷ []) ∵ move ! (1 ∷ []) $ heard ! _ (λ is_full.
      split ! $ drop ! $ fsplit ! $
      rewrite ! 0 (λ (f : Fml). ‵ f) (ap (λ (x : h.base.Denot). h.base.own_val x z.0.4.0) (h.full z.0.3.0 is_full) ∙ h.owns v z.0.4.0) refl $
      box_out E ! v z.0.4.0 (λ b o hv e ws fa. box_in E ! v b o v.value e refl $ use1 𝓛 (‵ ((Apart E h).own_val parts (word E hv b o ∷ []))) (id⊢ 𝓤 _) $ move ! (1 ∷ []) $ drop ! $
      let w = word E hv b o in
      let Γ : List (Item 𝓤) = ‵ ((Apart E h).own_val parts (w ∷ [])) ∷ [] in
      by ! (subst (λ (us : List Val). ent 𝓤 (types.Kit.⋆ 𝓛 Γ) (WpFn 𝓤 𝓛.H 𝓣.C 𝓣.Λ fn (us ++ []) Post)) (sym ws)
      (qed 𝓛 Γ ∵ enter ! 𝓣.C 𝓣.Λ fn (w ∷ []) _ $ alloc_all ! (λ ls. pass_all ! refl (box_typed E hv b o fa, tt) $
      sets ! (of_opd ! (get_in ! (fld ! refl (stop !)) (sub ! 0 refl (whole !)))) refl (tt, tt) $ sets ! (of_opd ! (get_in ! (fld ! refl (stop !)) (sub ! 1 refl (whole !)))) refl fa $
      sets ! (of_opd ! (get ! refl)) refl (tt, tt) $ sets ! (agg ! (and_then ! (get ! refl) (and_then ! (get ! refl) (no_more !)))) refl (box_typed E hv b o fa) $ returns ! (look_at ! 0 refl) $ free_all ! refl $
      suffices ! _ (ends_at 𝓛 ends stays taken z w parts (gone.last z.0.3.0, tt) (tt, tt)) $ says ! refl $
      nothing ! $ nothing ! $ fjoin ! $ join ! $ nothing ! $ join ! $ done !)))))

module _ (E : Bx) (h : Handle E) {M : Type 1} (𝓤 : Ura M) (𝓛 : Logic 𝓤) (𝓜 : Model 𝓤 𝓛.H) (𝓡 : Running 𝓤 𝓛.H 𝓜) where
  pub of_parts : Gone (Apart E h) → (name : Callee) → Closed 𝓤 𝓛.H (tables 𝓤 𝓛.H 𝓜 𝓡 𝓡.env).C (tables 𝓤 𝓛.H 𝓜 𝓡 𝓡.env).Λ name (fn' E (Apart E h) (H E h))
      → Meets 𝓛 (ended E (Apart E h) (H E h)).signature (𝓡.run (𝓡.env name)) (closing 𝓛 (ended E (Apart E h) (H E h)) (made E h 𝓛))
  of_parts gone = moves E (Apart E h) (H E h) 𝓤 𝓛 𝓜 𝓡 (made E h 𝓛) gone (makes E h 𝓛 gone 𝓜 𝓡)

  pub into_parts : Gone (H E h) → (name : Callee) → Closed 𝓤 𝓛.H (tables 𝓤 𝓛.H 𝓜 𝓡 𝓡.env).C (tables 𝓤 𝓛.H 𝓜 𝓡 𝓡.env).Λ name (fn' E (H E h) (Apart E h))
      → Meets 𝓛 (ended E (H E h) (Apart E h)).signature (𝓡.run (𝓡.env name)) (closing 𝓛 (ended E (H E h) (Apart E h)) (taken E h 𝓛))
  into_parts gone = moves E (H E h) (Apart E h) 𝓤 𝓛 𝓜 𝓡 (taken E h 𝓛) gone (takes E h 𝓛 gone 𝓜 𝓡)
