-- Two passes are put in one view, and cut apart again. A further pass comes from one.
use Rattle.std.proofs.Common.{◌≡◌, ◌≢◌, ◌⊎◌, ℕ, zero, suc, ◌<◌, cond, List, [], ◌∷◌, ◌++◌, length, set, ◌==◌, None, refl, sym, ap, ◌∙◌, subst, inl, inr, arith, length-set, eq-eqb, ne_eqb}
use Rattle.std.proofs.lemmas.Bool.{cases_eq}
use mathlib.Core.Option.{some, none, some-ne-none, some-injective}
use lib.ListN.{get_elem?}
use Rattle.atomic_table.specs.Table.{Me, State, keeps, step, Allows, Splits, Joins}
use Rattle.atomic_table.proofs.Lists.{at_set, set_here, set_else, set_again, at_longer, at_last}
use Rattle.root_row.specs.Seats.{RowIs, Seated}
use Rattle.root_row.specs.History.{SeatName}
use Rattle.root_row.proofs.Replay.{at_length}
use Rattle.root_row.proofs.Seating.{at_snoc}
use Rattle.root_row.proofs.Moves.{same_words}
use Rattle.managed_table.specs.declared.view.Turn.{Turn}
use Rattle.managed_table.specs.declared.view.Taken.{Taken}
use Rattle.managed_table.specs.declared.view.Pass.{Pass}
use Rattle.managed_table.specs.declared.view.Passes.{Passes}
use Rattle.managed_table.specs.Locks.{IsIn, Place, pass_in, pass_at, Accounts, FitsTurn, IsHeld, FitsPass, HasTurn, AreOneFamily, LocksRule}
use Rattle.managed_table.specs.Turns.{PassName, alone, pass_of, with_further, without_further, further_of, AreOrdered}
use Rattle.managed_table.specs.Passes.{IsLastOf}
use Rattle.managed_table.specs.Meeting.{both, spent, first_pass, other_passes, parent, further, taken_back, AreApart, TellsApart}
use Rattle.managed_table.proofs.Keeping.{count_more, not_taken}
use Rattle.managed_table.proofs.Places.{same_place, view_of}
use Rattle.managed_table.proofs.Family.{moved_family, grown, grown_back, grown_here, grown_else, grown_family, is_child, shrunk, shrunk_back, shrunk_here, shrunk_else, shrunk_family, gone_back}

-- two turns that are ordered share no call
not_shared : (by : ℕ → SeatName) (t u : Turn) (lock c : ℕ) → AreOrdered t u → IsIn by lock c t → IsIn by lock c u → ⊥
not_shared by t u lock c order x y = elim order [
  | inl before ↦ (let n = count_more (by lock) u.before t.after before in let a = x.below in let b = y.from in absurd (omega arith))
  | inr before ↦ (let n = count_more (by lock) t.before u.after before in let a = y.below in let b = x.from in absurd (omega arith))
]

-- a pass that has done the same
pub record SamePass (p q : Pass) : Type 0 where
  pub row : q.row.value ≡ p.row.value
  pub name : q.name ≡ p.name
  pub taken : q.taken ≡ p.taken
  pub turns : q.turns ≡ p.turns

same_pass : (p : Pass) → SamePass p p
same_pass p = record { row = refl; name = refl; taken = refl; turns = refl }

-- a pass that has done nothing
pub record HasDoneNothing (row : RowIs) (p : Pass) : Type 0 where
  pub same_row : p.row.value ≡ row
  pub taken : p.taken ≡ None
  pub turns : p.turns ≡ []

-- Passes move to other places, some come and some go that have done nothing, and nothing else changes
module _ {T : Type 0} (row : RowIs) (locks : ℕ) (by : ℕ → SeatName) (fits : RowIs → ℕ → T → Type 0) (shown : T → Seated) (s : State T Passes) (kept : LocksRule row locks by fits shown s) (views : List Passes) (f : Place → Place)
    (back : (z : Place) (q : Pass) → pass_at views z ≡ some q → ((y : Place) × (p : Pass) × (f y ≡ z) × (pass_at s.views y ≡ some p) × SamePass p q) ⊎ HasDoneNothing row q)
    (there : (y : Place) (p : Pass) → pass_at s.views y ≡ some p → ((q : Pass) × (pass_at views (f y) ≡ some q) × SamePass p q) ⊎ HasDoneNothing row p)
    (family : AreOneFamily views) where
  abbrev moved_accounts : Accounts
  moved_accounts = record { logs = kept.accounts.logs; holder = λ l. f (kept.accounts.holder l); who = kept.accounts.who }

  moved_held : (z : Place) (t : Taken) → IsHeld locks kept.accounts s.words z t → IsHeld locks moved_accounts s.words (f z) t
  moved_held z t h = record { inside = h.inside; holder = ap f h.holder; log = h.log; shut = h.shut }

  moved_turn : (name : PassName) (k : ℕ) (t : Turn) → FitsTurn by kept.accounts name k t → FitsTurn by moved_accounts name k t
  moved_turn name k t g = record { begins = g.begins; mine = g.mine }

  moved_fits : (z : Place) (p q : Pass) → SamePass p q → FitsPass row locks by kept.accounts s.words z p → FitsPass row locks by moved_accounts s.words (f z) q
  moved_fits z p q same fit = record {
    same_row = same.row ∙ fit.same_row;
    held = λ t is. moved_held z t (fit.held t (sym same.taken ∙ is));
    turns = λ k g at. subst (λ n. FitsTurn by moved_accounts n k g) (sym same.name) (moved_turn p.name k g (fit.turns k g (ap (λ l. get_elem? l k) (sym same.turns) ∙ at)));
  }

  new_fits : (z : Place) (q : Pass) → HasDoneNothing row q → FitsPass row locks by moved_accounts s.words z q
  new_fits z q new = record {
    same_row = new.same_row;
    held = λ t is. absurd (not_taken t (sym new.taken ∙ is));
    turns = λ k g at. absurd (some-ne-none g (sym (ap (λ l. get_elem? l k) (sym new.turns) ∙ at)));
  }

  turn_back : (n : PassName) (k : ℕ) (t : Turn) → HasTurn views n k t → HasTurn s.views n k t
  turn_back n k t h = elim (back h.place h.pass h.at) [
    | inl old ↦ record { place = old.0; pass = old.1; at = old.3; is = sym old.4.name ∙ h.is; there = ap (λ l. get_elem? l k) (sym old.4.turns) ∙ h.there }
    | inr new ↦ absurd (some-ne-none t (sym (ap (λ l. get_elem? l k) (sym new.turns) ∙ h.there)))
  ]

  pub moves : LocksRule row locks by fits shown (record { words = s.words; homes = s.homes; views = views })
  moves = record {
    accounts = moved_accounts;
    wide = kept.wide;
    free = kept.free;
    shut = λ u lt not_zero. let m = kept.shut u lt not_zero in elim (there m.place m.pass m.at) [
      | inl n ↦ record { place = f m.place; pass = n.0; at = n.1; taken = m.taken; has = n.2.taken ∙ m.has; same = m.same }
      | inr new ↦ absurd (not_taken m.taken (sym new.taken ∙ m.has))
    ];
    passes = λ z q at. elim (back z q at) [
      | inl old ↦ subst (λ (x : Place). FitsPass row locks by moved_accounts s.words x q) old.2 (moved_fits old.0 old.1 q old.4 (kept.passes old.0 old.1 old.3))
      | inr new ↦ new_fits z q new
    ];
    made = λ lock k lt below. let m = kept.made lock k lt below in elim (there m.place m.pass m.at) [
      | inl n ↦ record {
        place = f m.place;
        pass = n.0;
        at = n.1;
        name = n.2.name ∙ m.name;
        turn = m.turn;
        there = ap (λ l. get_elem? l (kept.accounts.who lock k).1) n.2.turns ∙ m.there;
        is_in = m.is_in;
      }
      | inr new ↦ absurd (some-ne-none m.turn (sym (ap (λ l. get_elem? l (kept.accounts.who lock k).1) (sym new.turns) ∙ m.there)))
    ];
    family = family;
    ordered = λ n k m i t u h j. kept.ordered n k m i t u (turn_back n k t h) (turn_back m i u j);
  }

-- the same if no pass comes
module _ {T : Type 0} (row : RowIs) (locks : ℕ) (by : ℕ → SeatName) (fits : RowIs → ℕ → T → Type 0) (shown : T → Seated) (s : State T Passes) (kept : LocksRule row locks by fits shown s) (views : List Passes) (f : Place → Place)
    (back : (z : Place) (p : Pass) → pass_at views z ≡ some p → (y : Place) × (f y ≡ z) × (pass_at s.views y ≡ some p))
    (there : (z : Place) (p : Pass) → pass_at s.views z ≡ some p → pass_at views (f z) ≡ some p) where
  pub only_moves : LocksRule row locks by fits shown (record { words = s.words; homes = s.homes; views = views })
  only_moves = moves row locks by fits shown s kept views f
      (λ z p at. let b = back z p at in inl (b.0, p, b.1, b.2, same_pass p))
      (λ z p at. inl (p, there z p at, same_pass p))
      (moved_family s.views views f
      (λ z p at. let b = back z p at in (b.0, p, b.1, b.2, record { name = refl; further = refl }))
      (λ z p at. record { place = f z; pass = p; at = there z p at; name = refl; further = omega arith })
      kept.family)

place_is : (z : Place) (j k : ℕ) → z.0 ≡ j → z.1 ≡ k → z ≡ (j, k)
place_is z j k e g = λ i. (e i, g i)

two_places : (z y : Place) → z.1 ≡ 0 → y.1 ≡ 1 → z ≡ y → ⊥
two_places z y a b e = let h : z.1 ≡ y.1 = ap (λ (x : Place). x.1) e in absurd (omega arith)

-- what stands in a view of one pass, of two, or of none
at_one : (p u : Pass) (k : ℕ) → get_elem? (p ∷ []) k ≡ some u → (k ≡ 0) × (p ≡ u)
at_one p u zero e = (refl, some-injective p u e)
at_one p u (suc k) e = absurd (some-ne-none u (sym e))

at_two : (p q u : Pass) (k : ℕ) → get_elem? (p ∷ q ∷ []) k ≡ some u → ((k ≡ 0) × (p ≡ u)) ⊎ ((k ≡ 1) × (q ≡ u))
at_two p q u zero e = inl (refl, some-injective p u e)
at_two p q u (suc k) e = let t = at_one q u k e in inr (ap suc t.0, t.1)

module _ (views : List Passes) (id other : ℕ) (p q : Pass) (apart : other ≢ id) (at : get_elem? views id ≡ some (alone p)) (there : get_elem? views other ≡ some (alone q)) where
  abbrev glued : List Passes
  glued = set (set views id (record { passes = p ∷ q ∷ [] })) other spent

  abbrev glue : Place → Place
  glue z = cond (z.0 == other) (id, 1) z

  glue_other : (z : Place) → z.0 ≡ other → glue z ≡ (id, 1)
  glue_other z e = ap (λ b. cond b (id, 1) z) (eq-eqb z.0 other e)

  glue_else : (z : Place) → z.0 ≢ other → glue z ≡ z
  glue_else z ne = ap (λ b. cond b (id, 1) z) (ne_eqb z.0 other ne)

  glued_id : get_elem? glued id ≡ some (record { passes = p ∷ q ∷ [] })
  glued_id = set_else (set views id (record { passes = p ∷ q ∷ [] })) other id spent (λ e. apart (sym e)) ∙ set_here views id (record { passes = p ∷ q ∷ [] }) (at_length views id (alone p) at)

  glued_other : get_elem? glued other ≡ some spent
  glued_other = set_here (set views id (record { passes = p ∷ q ∷ [] })) other spent (subst (λ n. other < n) (sym (length-set views id (record { passes = p ∷ q ∷ [] }))) (at_length views other (alone q) there))

  glued_else : (j : ℕ) → j ≢ id → j ≢ other → get_elem? glued j ≡ get_elem? views j
  glued_else j a b = set_else (set views id (record { passes = p ∷ q ∷ [] })) other j spent b ∙ set_else views id j (record { passes = p ∷ q ∷ [] }) a

  pub glue_back : (z : Place) (u : Pass) → pass_at glued z ≡ some u → (y : Place) × (glue y ≡ z) × (pass_at views y ≡ some u)
  glue_back z u e = elim (cases_eq z.0 other) [
    | inl same ↦ absurd (some-ne-none u (sym (sym (ap (λ o. pass_in o z.1) (ap (λ j. get_elem? glued j) same ∙ glued_other)) ∙ e)))
    | inr away ↦ (elim (cases_eq z.0 id) [
      | inl here ↦ (elim (at_two p q u z.1 (sym (ap (λ o. pass_in o z.1) (ap (λ j. get_elem? glued j) here ∙ glued_id)) ∙ e)) [
        | inl first ↦ ((id, 0), glue_else (id, 0) (λ e. apart (sym e)) ∙ sym (place_is z id 0 here first.0), ap (λ o. pass_in o 0) at ∙ ap some first.1)
        | inr second ↦ ((other, 0), glue_other (other, 0) refl ∙ sym (place_is z id 1 here second.0), ap (λ o. pass_in o 0) there ∙ ap some second.1)
      ])
      | inr far ↦ (z, glue_else z away, sym (ap (λ o. pass_in o z.1) (glued_else z.0 far away)) ∙ e)
    ])
  ]

  pub glue_there : (z : Place) (u : Pass) → pass_at views z ≡ some u → pass_at glued (glue z) ≡ some u
  glue_there z u e = elim (cases_eq z.0 other) [
    | inl same ↦
        let one = at_one q u z.1 (sym (ap (λ o. pass_in o z.1) (ap (λ j. get_elem? views j) same ∙ there)) ∙ e) in
        ap (pass_at glued) (glue_other z same) ∙ ap (λ o. pass_in o 1) glued_id ∙ ap some one.1
    | inr away ↦ (elim (cases_eq z.0 id) [
      | inl here ↦
          let one = at_one p u z.1 (sym (ap (λ o. pass_in o z.1) (ap (λ j. get_elem? views j) here ∙ at)) ∙ e) in
          ap (pass_at glued) (glue_else z away ∙ place_is z id 0 here one.0) ∙ ap (λ o. pass_in o 0) glued_id ∙ ap some one.1
      | inr far ↦ ap (pass_at glued) (glue_else z away) ∙ ap (λ o. pass_in o z.1) (glued_else z.0 far away) ∙ e
    ])
  ]

module _ (views : List Passes) (id : ℕ) (p q : Pass) (at : get_elem? views id ≡ some (record { passes = p ∷ q ∷ [] })) where
  abbrev parted : List Passes
  parted = set views id (alone p) ++ alone q ∷ []

  abbrev part : Place → Place
  part z = cond (z.0 == id) (cond (z.1 == 1) (length views, 0) z) z

  part_second : (z : Place) → z.0 ≡ id → z.1 ≡ 1 → part z ≡ (length views, 0)
  part_second z e g = ap (λ b. cond b (cond (z.1 == 1) (length views, 0) z) z) (eq-eqb z.0 id e) ∙ ap (λ b. cond b (length views, 0) z) (eq-eqb z.1 1 g)

  part_first : (z : Place) → z.0 ≡ id → z.1 ≢ 1 → part z ≡ z
  part_first z e g = ap (λ b. cond b (cond (z.1 == 1) (length views, 0) z) z) (eq-eqb z.0 id e) ∙ ap (λ b. cond b (length views, 0) z) (ne_eqb z.1 1 g)

  part_else : (z : Place) → z.0 ≢ id → part z ≡ z
  part_else z ne = ap (λ b. cond b (cond (z.1 == 1) (length views, 0) z) z) (ne_eqb z.0 id ne)

  parted_id : get_elem? parted id ≡ some (alone p)
  parted_id = at_longer (set views id (alone p)) (alone q ∷ []) id (alone p) (set_here views id (alone p) (at_length views id (record { passes = p ∷ q ∷ [] }) at))

  parted_last : get_elem? parted (length views) ≡ some (alone q)
  parted_last = at_last (set views id (alone p)) (alone q) (length views) (length-set views id (alone p))

  pub part_back : (z : Place) (u : Pass) → pass_at parted z ≡ some u → (y : Place) × (part y ≡ z) × (pass_at views y ≡ some u)
  part_back z u e = let v = view_of (get_elem? parted z.0) z.1 u e in elim (at_snoc (set views id (alone p)) (alone q) v.0 z.0 v.1) [
    | inl before ↦ (elim (at_set views id z.0 (alone p) v.0 before) [
      | inl here ↦ (
          let one = at_one p u z.1 (ap (λ (w : Passes). get_elem? w.passes z.1) here.1 ∙ v.2) in
          ((id, 0), part_first (id, 0) refl (λ e. absurd (omega arith)) ∙ sym (place_is z id 0 here.0 one.0), ap (λ o. pass_in o 0) at ∙ ap some one.1))
      | inr away ↦ (z, part_else z away.0, ap (λ o. pass_in o z.1) away.1 ∙ v.2)
    ])
    | inr last ↦
        let one = at_one q u z.1 (ap (λ (w : Passes). get_elem? w.passes z.1) last.1 ∙ v.2) in
        ((id, 1), part_second (id, 1) refl refl ∙ sym (place_is z (length views) 0 (last.0 ∙ length-set views id (alone p)) one.0), ap (λ o. pass_in o 1) at ∙ ap some one.1)
  ]

  pub part_there : (z : Place) (u : Pass) → pass_at views z ≡ some u → pass_at parted (part z) ≡ some u
  part_there z u e = elim (cases_eq z.0 id) [
    | inl here ↦ (elim (at_two p q u z.1 (sym (ap (λ o. pass_in o z.1) (ap (λ j. get_elem? views j) here ∙ at)) ∙ e)) [
      | inl first ↦ ap (pass_at parted) (part_first z here (λ g. absurd (let h = first.0 in omega arith)) ∙ place_is z id 0 here first.0) ∙ ap (λ o. pass_in o 0) parted_id ∙ ap some first.1
      | inr second ↦ ap (pass_at parted) (part_second z here second.0) ∙ ap (λ o. pass_in o 0) parted_last ∙ ap some second.1
    ])
    | inr away ↦
        let v = view_of (get_elem? views z.0) z.1 u e in
        ap (pass_at parted) (part_else z away)
        ∙ ap (λ o. pass_in o z.1) (at_longer (set views id (alone p)) (alone q ∷ []) z.0 v.0 (set_else views id z.0 (alone p) away ∙ v.1)) ∙ v.2
  ]

module _ {T : Type 0} (row : RowIs) (locks : ℕ) (by : ℕ → SeatName) (fits : RowIs → ℕ → T → Type 0) (shown : T → Seated) where
  joins_alone : (id other : ℕ) (p q : Pass) → Joins (LocksRule row locks by fits shown) id (alone p) other (alone q) (both (alone p) (alone q)) spent
  joins_alone id other p q s kept at apart there =
      let there' = sym (set_else s.views id other (both (alone p) (alone q)) apart) ∙ there in
      only_moves row locks by fits shown s kept (glued s.views id other p q apart at there') (glue s.views id other p q apart at there') (glue_back s.views id other p q apart at there') (glue_there s.views id other p q apart at there')

  pub joins : (id other : ℕ) (v w : Passes) → v ≡ alone (pass_of v) → w ≡ alone (pass_of w) → Joins (LocksRule row locks by fits shown) id v other w (both v w) spent
  joins id other v w one two =
      subst (λ (y : Passes × Passes). Joins (LocksRule row locks by fits shown) id y.0 other y.1 (both y.0 y.1) spent) (λ i. (sym one i, sym two i)) (joins_alone id other (pass_of v) (pass_of w))

  splits_two : (id : ℕ) (p q : Pass) → Splits (LocksRule row locks by fits shown) id (both (alone p) (alone q)) (first_pass (both (alone p) (alone q))) (other_passes (both (alone p) (alone q)))
  splits_two id p q s kept at = only_moves row locks by fits shown s kept (parted s.views id p q at) (part s.views id p q at) (part_back s.views id p q at) (part_there s.views id p q at)

  pub splits : (id : ℕ) (v : Passes) (p q : Pass) → v ≡ both (alone p) (alone q) → Splits (LocksRule row locks by fits shown) id v (first_pass v) (other_passes v)
  splits id v p q is = subst (λ (y : Passes). Splits (LocksRule row locks by fits shown) id y (first_pass y) (other_passes y)) (sym is) (splits_two id p q)

  -- one further pass comes from one, which lists it
  further_comes : (id : ℕ) (p : Pass) → Splits (LocksRule row locks by fits shown) id (alone p) (parent (alone p)) (further (alone p))
  further_comes id p s kept at =
      let fit = kept.passes (id, 0) p (ap (λ o. pass_in o 0) at) in
      moves row locks by fits shown s kept (grown s.views id p at) (λ z. z)
      (λ z q there. elim (grown_back s.views id p at z q there) [
        | inl here ↦ inl ((id, 0), p, sym here.0, ap (λ o. pass_in o 0) at, subst (SamePass p) here.1 (record { row = refl; name = refl; taken = refl; turns = refl }))
        | inr other ↦ (elim other [
          | inl away ↦ inl (z, q, refl, away.1, same_pass q)
          | inr last ↦ inr (subst (HasDoneNothing row) last.1 (record { same_row = fit.same_row; taken = refl; turns = refl }))
        ])
      ])
      (λ z q there. elim (same_place z (id, 0)) [
        | inl here ↦ (
            let is : p ≡ q = some-injective p q (sym (ap (λ o. pass_in o 0) at) ∙ ap (pass_at s.views) (sym here) ∙ there) in
            inl (with_further p, ap (pass_at (grown s.views id p at)) here ∙ grown_here s.views id p at, subst (λ (u : Pass). SamePass u (with_further p)) is (record { row = refl; name = refl; taken = refl; turns = refl })))
        | inr away ↦ inl (q, grown_else s.views id p at z q away there, same_pass q)
      ])
      (grown_family s.views id p at kept.family)

  pub comes : (id : ℕ) (v : Passes) → v ≡ alone (pass_of v) → Splits (LocksRule row locks by fits shown) id v (parent v) (further v)
  comes id v one = subst (λ (y : Passes). Splits (LocksRule row locks by fits shown) id y (parent y) (further y)) (sym one) (further_comes id (pass_of v))

  -- the last further pass goes back, if it has done nothing
  goes_back : (id other : ℕ) (p : Pass) → Joins (LocksRule row locks by fits shown) id (alone (with_further p)) other (alone (further_of p)) (alone p) spent
  goes_back id other p s kept at apart there =
      let there' = sym (set_else s.views id other (alone p) apart) ∙ there in
      let is_last : (z : Place) (q : Pass) → z.0 ≡ other → pass_at s.views z ≡ some q → further_of p ≡ q = is_child s.views id other p apart at there' in
      let fit = kept.passes (id, 0) (with_further p) (ap (λ o. pass_in o 0) at) in
      let same : SamePass (with_further p) p = record { row = refl; name = refl; taken = refl; turns = refl } in
      moves row locks by fits shown s kept (shrunk s.views id other p apart at there') (λ z. z)
      (λ z q is. elim (shrunk_back s.views id other p apart at there' z q is).1 [
        | inl here ↦ inl ((id, 0), with_further p, sym here.0, ap (λ o. pass_in o 0) at, subst (SamePass (with_further p)) here.1 same)
        | inr away ↦ inl (z, q, refl, away.1, same_pass q)
      ])
      (λ z q is. elim (cases_eq z.0 other) [
        | inl same_seat ↦ inr (subst (HasDoneNothing row) (is_last z q same_seat is) (record { same_row = fit.same_row; taken = refl; turns = refl }))
        | inr far ↦ (elim (same_place z (id, 0)) [
          | inl here ↦ (
              let one : with_further p ≡ q = some-injective (with_further p) q (sym (ap (λ o. pass_in o 0) at) ∙ ap (pass_at s.views) (sym here) ∙ is) in
              inl (p, ap (pass_at (shrunk s.views id other p apart at there')) here ∙ shrunk_here s.views id other p apart at there', subst (λ (u : Pass). SamePass u p) one same))
          | inr away ↦ inl (q, shrunk_else s.views id other p apart at there' z q away far is, same_pass q)
        ])
      ])
      (shrunk_family s.views id other p apart at there' kept.family)

  pub takes_back : (id other : ℕ) (v w : Passes) → v ≡ alone (pass_of v) → w ≡ alone (pass_of w) → IsLastOf (pass_of v) (pass_of w) → Joins (LocksRule row locks by fits shown) id v other w (taken_back v w) spent
  takes_back id other v w one two last =
      subst (λ (y : Passes × Passes × Passes). Joins (LocksRule row locks by fits shown) id y.0 other y.1 y.2 spent)
      (λ i. (sym (one ∙ ap alone last.parent) i, sym (two ∙ ap alone last.further) i, sym (ap alone (ap without_further last.parent ∙ gone_back last.before)) i))
      (goes_back id other last.before)

  -- two passes of one view have two names, and each two of their turns at one lock are ordered
  module _ (s : State T Passes) (kept : LocksRule row locks by fits shown s) (id : ℕ) (p q : Pass) (is : get_elem? s.views id ≡ some (both (alone p) (alone q))) where
    first : pass_at s.views (id, 0) ≡ some p
    first = ap (λ o. pass_in o 0) is

    second : pass_at s.views (id, 1) ≡ some q
    second = ap (λ o. pass_in o 1) is

    names : p.name ≢ q.name
    names e = two_places (id, 0) (id, 1) refl refl (kept.family.once (id, 0) (id, 1) p q first second e)

    order : (k i : ℕ) (t u : Turn) → get_elem? p.turns k ≡ some t → get_elem? q.turns i ≡ some u → t.lock ≡ u.lock → AreOrdered t u
    order k i t u a b same =
        kept.ordered p.name k q.name i t u
        (record { place = (id, 0); pass = p; at = first; is = refl; there = a })
        (record { place = (id, 1); pass = q; at = second; is = refl; there = b })
        same (λ e. names e.0)

    are_apart : AreApart by p q
    are_apart = record {
      names = names;
      ordered = order;
      unshared = λ k i t u a b lock c x y. not_shared by t u lock c (order k i t u a b (x.same ∙ sym y.same)) x y;
    }

  pub tells_apart : (slots' id : ℕ) (me : Me T Passes) → Allows (LocksRule row locks by fits shown) slots' id me 0 (λ n. n) (TellsApart by (step slots' 0 0 0 none) me)
  tells_apart slots' id me s kept homes at small = (
    me.0,
    keeps,
    tt,
    subst (λ (y : List ℕ × List Passes). LocksRule row locks by fits shown (record { words = y.0; homes = s.homes; views = y.1 })) (λ i. (sym (same_words s.words 0) i, sym (set_again s.views id me.0 at) i)) kept,
    (refl, refl, λ p q is. are_apart s kept id p q (at ∙ ap some is)),
  )
