-- The code of each handle's `lend` lends the value that it owns, and the handle follows it. Assumes `Logic`.
use mathlib.Core.Path.{◌≡◌, refl, sym, ap, ◌∙◌}
use mathlib.Core.Bool.{true}
use Prim.Native.Nat.{ℕ}
use mathlib.Core.List.{List, [], ◌∷◌}
use seplogic.Ra.Ura.{Ura}
use base.Fraction.{full_share}
use mir.Syntax.{Callee, Fn, named, erased, mut, ty_ptr, ty_ref, local, value_local, place, deref, field, copy, rv_opd, addr_of, seq, assign, block, return}
use mir.Val.{Val, vptr}
use mir.Raw.{raw as bare}
use base.Logic.{SProp, ent, sep}
use base.Fml.{Lft, GName, Share, Fml, ftrue, flft, fsep}
use prog.Model.{Model}
use prog.Wp.{Closed, Env, Calls, Loops, WpFn, Tables}
use contract.Running.{Running, tables, tables_of}
use types.Logic.{Logic, sem}
use sound.WpLaws.{WpFn-mono}
use types.Kit.{‵, ◌⊛◌, some, at_ret, ◌$◌, ◌∵◌, !, qed, by, move, keep, use1, drop, split, join, pick, fsplit, fsplit3, fjoin, suffices, frame, done, raw, later, await, group, fpack, rewrite}
use types.Part.{whole, sub, look_in}
use types.Run.{stop, fld, load, of_opd, first, blocks, exec, returns, enter, addr}
use types.ByLocal.{alloc_all, pass_all, free_all, look_at, get, through, sets, env, sets_last}
use contract.Monad.{fact}
use denote.RattleType.{owns}
use denote.Memory.{part_at, mem, cell_at, part_of, pointee}
use denote.RawPtr.{block_ptr}
use denote.Ref.{MutRef, mut_vals, mut_Tells}
use denote.Signature.{plain, mut_ref_to}
use denote.Steps.{nothing, heard, opens}
use denote.Exit.{no}
use denote.Builtin.{RefMutOf}
use denote.Follow.{follows, Part, lends_Part}
use denote.Triple.Clauses.{closing, Clauses, Ended}
use denote.Triple.Entry.{on_entry}
use denote.Triple.Spec.{Meets, triple_of}
use denote.Triple.Table.{entered}
use denote.Triple.Walked.{says, Stays, stay_dropped, walk_of, ends_at, walked, walk_Meets, Goes-spent_ref}
use Rattle.core.proofs.alloc.Calls.{token}
use Rattle.std_alloc.specs.Box.{with_value}
use Rattle.std_alloc.proofs.VecSteps.Shapes.{after}
use Rattle.std_alloc.proofs.BoxSteps.Form.{Bx, X, τ, word, handle}
use Rattle.std_alloc.proofs.BoxSteps.Steps.{box_out, box_in}
use Rattle.gourzhiel.proofs.Held.Form.{Handle, T, H, at_handle, with_held}

-- the code as it is generated
module _ (E : Bx) (h : Handle E) where
  abbrev pub fn' : Fn
  fn' = record {
    lifetimes = 1;
    outlives = [];
    ty_params = [];
    givens = 0;
    params = 1;
    locals = local (ty_ref (named 0) mut (pointee E.row.written)) value_local ∷ local (ty_ref (named 0) mut (pointee h.base.written)) value_local ∷ local (ty_ref erased mut (pointee E.row.written)) value_local ∷ local ty_ptr value_local ∷ local ty_ptr value_local ∷ [];
    body = seq (block (seq (assign (place 3 []) (rv_opd (copy (place 1 (deref (at_handle E h) ∷ field 0 ∷ []))))) (seq (assign (place 4 []) (rv_opd (copy (place 3 [])))) (assign (place 2 []) (addr_of (place 4 (deref (τ E) ∷ [])))))))
        (seq (assign (place 0 []) (rv_opd (copy (place 2 [])))) return);
  }

module _ (E : Bx) (h : Handle E) where
  abbrev pub ended : Ended
  ended = record { signature = record { lifetimes = 1; outlives = []; params = RefMutOf (0 ∷ []) tt (plain (λ _. H E h)) (λ _. tt) ∷ []; result = RefMutOf (0 ∷ []) tt (plain (λ _. T E h)) (λ _. tt) }; kept = (no, tt) }

  abbrev stayed : Stays ended.signature.params ended.kept
  stayed = (stay_dropped (mut_ref_to (0 ∷ []) tt (plain (λ _. H E h))) no, tt)

  abbrev pub spec : {M : Type 1} {𝓤 : Ura M} (𝓛 : Logic 𝓤) → Clauses 𝓤 ended
  spec {𝓤 = 𝓤} 𝓛 κs a = record {
    ghost = Unit {0};
    requires = λ _. fact 𝓤 (h.is_full a.0.now ≡ true);
    ensures = λ _ r _. sep 𝓤 (sem 𝓛 (follows (H E h) (T E h) a.0.ghost_name r.ghost_name (with_held E h a.0.now))) (fact 𝓤 (r.now ≡ (h.box a.0.now).value));
  }

module _ (E : Bx) (h : Handle E) {M : Type 1} {𝓤 : Ura M} (𝓛 : Logic 𝓤) (κ : Lft) (q : Share) (rb ro : ℕ) (γ : GName) (v : h.base.Denot) where
  open 𝓛 use {A}

  abbrev bound : (walk_of 𝓛 (ended E h) (stayed E h) (spec E h 𝓛)).Ghost
  bound = (((κ, tt), (q, tt), tt, (record { ref_ptr = (rb, ro); ghost_name = γ; now = v }, tt), (vptr rb ro ∷ [], tt)), tt)

  abbrev Post : Val → SProp 𝓤
  Post = (walk_of 𝓛 (ended E h) (stayed E h) (spec E h 𝓛)).post bound

  module _ (b o : ℕ) (hv : Val) where
    -- all of the handle but the value
    abbrev Rest : Fml
    Rest = fsep (fsep (token E.al (h.box v).alloc (bare (τ E)) (block_ptr b o)) (handle E (h.box v).alloc hv)) (cell_at full_share (at_handle E h ∷ []) (word E hv b o ∷ []) rb ro)

    back : (h.box v).ptr ≡ block_ptr b o → (w : X E) → ent 𝓤 (sep 𝓤 (sem 𝓛 ((mem (T E h)).own_at w b o)) (sem 𝓛 Rest)) (sem 𝓛 ((mem (H E h)).own_at (with_held E h v w) rb ro))
    unfolding part_of
    back at_b w =
        qed 𝓛 (‵ (part_at (T E h) full_share w b o) ∷ ‵ Rest ∷ []) ∵ move ! (1 ∷ []) $ fsplit ! $ fsplit ! $ move ! (3 ∷ []) $
        box_in E ! (with_value (h.box v) w) b o w at_b refl $ rewrite ! 0 (λ (f : Fml). ‵ f) (sym (h.owns (with_value (h.box v) w) (word E hv b o ∷ []))) refl $ move ! (1 ∷ 0 ∷ []) $ fjoin ! $
        fpack ! (List Val) (λ us. fsep (cell_at full_share (H E h).mir us rb ro) ((H E h).own_val (with_held E h v w) us)) (word E hv b o ∷ []) $ done !

    exits : (γ' : GName)
        → ent 𝓤 (sep 𝓤 (sem 𝓛 ((MutRef (named 0) κ (T E h)).own_val (record { ref_ptr = (b, o); ghost_name = γ'; now = (h.box v).value }) (vptr b o ∷ []))) (sep 𝓤 (A.lft κ q) (sem 𝓛 (follows (H E h) (T E h) γ γ' (with_held E h v))))) (Post (vptr b o))
    exits γ' =
        qed 𝓛 (‵ ((MutRef (named 0) κ (T E h)).own_val (record { ref_ptr = (b, o); ghost_name = γ'; now = (h.box v).value }) (vptr b o ∷ [])) ∷ ‵ (flft κ q) ∷ ‵ (follows (H E h) (T E h) γ γ' (with_held E h v)) ∷ []) ∵
        suffices ! _ (ends_at 𝓛 (ended E h) (stayed E h) (spec E h 𝓛) bound (vptr b o) (record { ref_ptr = (b, o); ghost_name = γ'; now = (h.box v).value }) (tt, tt) (tt, tt)) $
        nothing ! $ nothing ! $ fjoin ! $ join ! $ nothing ! $ move ! (2 ∷ 0 ∷ []) $ join ! $ join ! $ frame ! $ says ! refl $ done !

  module _ (C : Calls 𝓤 𝓛.H) (Λ : Loops 𝓤 𝓛.H) where
    walk : ent 𝓤 (sep 𝓤 (on_entry 𝓛 (ended E h).signature (κ, tt) (q, tt) (record { ref_ptr = (rb, ro); ghost_name = γ; now = v }, tt) (vptr rb ro ∷ [], tt)) (fact 𝓤 (h.is_full v ≡ true))) (WpFn 𝓤 𝓛.H C Λ (fn' E h) (vptr rb ro ∷ []) Post)
    walk =
        qed 𝓛 (((‵ (flft κ q) ⊛ ‵ ftrue) ⊛ ‵ (owns (MutRef (named 0) κ (H E h) ∷ []) (record { ref_ptr = (rb, ro); ghost_name = γ; now = v }, tt) (vptr rb ro ∷ [], tt))) ∷ raw (fact 𝓤 (h.is_full v ≡ true)) ∷ []) ∵
        move ! (1 ∷ []) $ heard ! _ (λ is_full. split ! $
        enter ! C Λ (fn' E h) (vptr rb ro ∷ []) _ $
        alloc_all ! (λ l. pass_all ! refl ((tt, tt), tt) $
        let En : Env 𝓤 𝓛.H = env (fn' E h).locals l in
        move ! (1 ∷ []) $ fsplit ! $ fsplit3 ! $ drop ! $ move ! (3 ∷ []) $ split ! $ move ! (2 ∷ 3 ∷ 0 ∷ []) $
        opens ! tt (H E h) {h = v} rb ro (λ vs. move ! (1 ∷ []) $
        rewrite ! 0 (λ (f : Fml). ‵ f) (ap (λ (x : h.base.Denot). h.base.own_val x vs) (h.full v is_full) ∙ h.owns (h.box v) vs) refl $
        box_out E ! (h.box v) vs (λ b o hv at_b ws fa. move ! (1 ∷ 2 ∷ []) $ fjoin ! $ move ! (1 ∷ []) $
        rewrite ! 2 (λ (us : List Val). ‵ (cell_at full_share (H E h).mir us rb ro)) ws refl $
        first ! $ blocks ! $
        sets ! (of_opd ! (load ! (through ! refl (fld ! refl (stop !))) (look_in ! 2 (sub ! 0 refl (whole !))))) refl (tt, tt) $
        sets ! (of_opd ! (get ! refl)) refl (tt, tt) $
        sets_last ! (addr ! (through ! refl (stop !))) refl (tt, tt) $
        exec ! C Λ En (after 1 (fn' E h).body) (at_ret En Post) $
        sets ! (of_opd ! (get ! refl)) refl (tt, tt) $
        move ! (1 ∷ 2 ∷ []) $ fjoin ! $ move ! (2 ∷ 3 ∷ 4 ∷ 1 ∷ 0 ∷ []) $ group ! 5 $
        use1 𝓛 (later (some (λ (γ' : GName). raw (Part 𝓛 (H E h) (T E h) (with_held E h v) (named 0) κ q rb ro b o γ (sem 𝓛 (Rest b o hv)) (back b o hv at_b) (h.box v).value γ'))))
        (lends_Part 𝓛 (H E h) (T E h) (with_held E h v) (named 0) κ q rb ro b o γ (sem 𝓛 (Rest b o hv)) (back b o hv at_b) ((H E h).coded.code v) ((H E h).coded.code v) (h.box v).value) $ await ! tt $ pick ! (λ γ'.
        returns ! (look_at ! 0 refl) $ free_all ! refl $
        keep ! (0 ∷ []) $ by ! (exits b o hv γ'))))))

module _ (E : Bx) (h : Handle E) {M : Type 1} (𝓤 : Ura M) (𝓛 : Logic 𝓤) (𝓜 : Model 𝓤 𝓛.H) (𝓡 : Running 𝓤 𝓛.H 𝓜) where
  pub lends : (name : Callee) → Closed 𝓤 𝓛.H (tables 𝓤 𝓛.H 𝓜 𝓡 𝓡.env).C (tables 𝓤 𝓛.H 𝓜 𝓡 𝓡.env).Λ name (fn' E h) → Meets 𝓛 (ended E h).signature (𝓡.run (𝓡.env name)) (closing 𝓛 (ended E h) (spec E h 𝓛))
  unfolding tables_of
  lends name closed =
      let 𝓣 : Tables 𝓤 𝓛.H = tables_of 𝓤 𝓛.H 𝓜 (tables 𝓤 𝓛.H 𝓜 𝓡 𝓡.env) in
      let run = WpFn 𝓤 𝓛.H 𝓣.C 𝓣.Λ (fn' E h) in
      entered 𝓤 𝓛.H (triple_of 𝓛 (ended E h).signature (closing 𝓛 (ended E h) (spec E h 𝓛))) 𝓣.C 𝓣.Λ name (fn' E h) closed
      (walk_Meets 𝓛 (ended E h) (stayed E h) (Goes-spent_ref 𝓛 1 (0 ∷ []) tt (plain (λ _. H E h)), tt) (spec E h 𝓛) run (WpFn-mono 𝓤 𝓛.H 𝓛.laws 𝓣 (fn' E h))
      (walked 𝓛 (ended E h) (stayed E h) (spec E h 𝓛) run (λ κs. (mut_vals, tt)) (λ κs. (mut_Tells (named 0) κs.0 (H E h), tt))
      (λ κs qs bounds a g are. walk E h 𝓛 κs.0 qs.0 a.0.ref_ptr.0 a.0.ref_ptr.1 a.0.ghost_name a.0.now 𝓣.C 𝓣.Λ)))
