-- What a line of the table changes, by the rule.
use Rattle.std.proofs.Common.{◌≡◌, ◌⊎◌, refl, sym, ap, subst, ◌∙◌, inl, inr, true, false, ℕ, List, All, Contains}
use mathlib.Core.Logic.{⊎_elim}
use Rattle.dep_index.specs.declared.table.states.ModuleState.{ModuleState}
use Rattle.dep_index.specs.declared.table.states.ModuleState.TheVariants.{Absent, Loading, Live, Draining, Unloading}
use Rattle.dep_index.specs.Table.{takes_references}
use Rattle.hold_turns.specs.Events.{IsIn}
use Rattle.hold_turns.specs.Views.{TableView, HandsView, Act, Idle, Loads, Removes}
use Rattle.hold_turns.specs.declared.table.Half.{Half}
use Rattle.hold_turns.specs.declared.table.Half.TheVariants.{BeginLoad, BeginRemove}
use Rattle.hold_turns.specs.Lines.{may_follow, MayMake, MayHold}
use Rattle.hold_turns.specs.Rule.{Fits, AreOne, IsTurn, HoldsOwed}
use Rattle.hold_turns.proofs.HandsLemmas.{fits_states}
use Rattle.hold_turns.proofs.TurnLemmas.{turn_stay}

-- a table whose states are the same, and in which live modules are held by more
pub hold_turn : (n : ℕ) (g ms : List ℕ) (t u : TableView) (h : HandsView) → AreOne t h → MayHold g ms t u → IsTurn n t h u h
hold_turn n g ms t u h one q = record {
  one = record {
    held = λ f m held. subst (λ (s : ModuleState). takes_references s ≡ true) (sym (q.states m))
        (⊎_elim (one.held f m) (λ (is : (g ≡ f) × Contains ms m × (t.states m ≡ Live)). subst (λ (s : ModuleState). takes_references s ≡ true) (sym is.2) refl) (q.only f m held));
    live = λ m takes. one.live m (subst (λ (s : ModuleState). takes_references s ≡ true) (q.states m) takes);
    absent = λ m away. one.absent m (sym (q.states m) ∙ away);
    acts = λ c. fits_states t u h c (h.acts c) q.states (one.acts c);
    promised = λ f m p. q.kept f m (one.promised f m p);
    stays = one.stays;
  };
  others = record { locks = λ m c ne is. is; acts = λ c ne. refl; owed = λ c f m ne held owed. q.kept f m (held owed) };
}

-- what is owed to a call is held, once its hold is made
pub owed_held : (n : ℕ) (g ms : List ℕ) (u : TableView) (h : HandsView) → All (λ (m : ℕ). u.holds g m ≡ true) ms → HoldsOwed n g ms u h
owed_held n g ms u h all m (k, lt, is) owed = subst (λ (x : ℕ). u.holds g x ≡ true) is (all k m lt)

-- no act of this module is under way
abbrev pub IsAtRest : ℕ → HandsView → Type 0
IsAtRest x h = (c : ℕ) → ((h.acts c ≡ Loads x) ⊎ (h.acts c ≡ Removes x)) → ⊥

fits_other : (t u : TableView) (h : HandsView) (c x : ℕ) (a : Act) → h.acts c ≡ a → IsAtRest x h → ((m : ℕ) → (m ≡ x) ⊎ (u.states m ≡ t.states m)) → Fits t h c a → Fits u h c a
fits_other t u h c x Idle is rest others fits = tt
fits_other t u h c x (Loads m) is rest others fits =
    ⊎_elim (λ (same : m ≡ x). absurd (rest c (inl (is ∙ ap Loads same)))) (λ (kept : u.states m ≡ t.states m). (kept ∙ fits.0, fits.1)) (others m)
fits_other t u h c x (Removes m) is rest others fits =
    ⊎_elim (λ (same : m ≡ x). absurd (rest c (inr (is ∙ ap Removes same)))) (λ (kept : u.states m ≡ t.states m). (kept ∙ fits.0, fits.1)) (others m)

-- one module of which no act is under way has another state
pub moved_turn : (n x : ℕ) (to : ModuleState) (t u : TableView) (h : HandsView) → AreOne t h
    → ((f : List ℕ) (m : ℕ) → u.holds f m ≡ t.holds f m) → ((m : ℕ) → (m ≡ x) ⊎ (u.states m ≡ t.states m)) → u.states x ≡ to
    → IsAtRest x h → (takes_references to ≡ true → IsIn h.events x) → (to ≡ Absent → IsIn h.events x → ⊥)
    → ((f : List ℕ) → t.holds f x ≡ true → takes_references to ≡ true)
    → IsTurn n t h u h
moved_turn n x to t u h one holds others is rest live absent held = record {
  one = record {
    held = λ f m has. ⊎_elim
        (λ (same : m ≡ x). subst (λ (k : ℕ). takes_references (u.states k) ≡ true) (sym same) (subst (λ (s : ModuleState). takes_references s ≡ true) (sym is) (held f (subst (λ (k : ℕ). t.holds f k ≡ true) same (sym (holds f m) ∙ has)))))
        (λ (kept : u.states m ≡ t.states m). subst (λ (s : ModuleState). takes_references s ≡ true) (sym kept) (one.held f m (sym (holds f m) ∙ has))) (others m);
    live = λ m takes. ⊎_elim
        (λ (same : m ≡ x). subst (λ (k : ℕ). IsIn h.events k) (sym same) (live (subst (λ (s : ModuleState). takes_references s ≡ true) (ap u.states same ∙ is) takes)))
        (λ (kept : u.states m ≡ t.states m). one.live m (subst (λ (s : ModuleState). takes_references s ≡ true) kept takes)) (others m);
    absent = λ m away there. ⊎_elim
        (λ (same : m ≡ x). absent (sym is ∙ (ap u.states (sym same) ∙ away)) (subst (λ (k : ℕ). IsIn h.events k) same there))
        (λ (kept : u.states m ≡ t.states m). one.absent m (sym kept ∙ away) there) (others m);
    acts = λ c. fits_other t u h c x (h.acts c) refl rest others (one.acts c);
    promised = λ f m p. holds f m ∙ one.promised f m p;
    stays = one.stays;
  };
  others = record { locks = λ m c ne is. is; acts = λ c ne. refl; owed = λ c f m ne had owed. holds f m ∙ had owed };
}

-- nothing was made
pub same_turn : (n x : ℕ) (t u : TableView) (h : HandsView) → AreOne t h
    → ((f : List ℕ) (m : ℕ) → u.holds f m ≡ t.holds f m) → ((m : ℕ) → (m ≡ x) ⊎ (u.states m ≡ t.states m)) → u.states x ≡ t.states x → IsTurn n t h u h
same_turn n x t u h one holds others is =
    let all : (m : ℕ) → u.states m ≡ t.states m = λ m. ⊎_elim (λ (same : m ≡ x). ap u.states same ∙ (is ∙ ap t.states (sym same))) (λ kept. kept) (others m) in record {
      one = record {
        held = λ f m has. subst (λ (s : ModuleState). takes_references s ≡ true) (sym (all m)) (one.held f m (sym (holds f m) ∙ has));
        live = λ m takes. one.live m (subst (λ (s : ModuleState). takes_references s ≡ true) (all m) takes);
        absent = λ m away. one.absent m (sym (all m) ∙ away);
        acts = λ c. fits_states t u h c (h.acts c) all (one.acts c);
        promised = λ f m p. holds f m ∙ one.promised f m p;
        stays = one.stays;
      };
      others = record { locks = λ m c ne is. is; acts = λ c ne. refl; owed = λ c f m ne had owed. holds f m ∙ had owed };
    }

-- no act of a module is under way that is neither loading nor unloading
fits_rest : (t : TableView) (h : HandsView) (c x : ℕ) (a : Act) → h.acts c ≡ a → Fits t h c a → (t.states x ≡ Loading → ⊥) → (t.states x ≡ Unloading → ⊥)
    → ((a ≡ Loads x) ⊎ (a ≡ Removes x)) → ⊥
fits_rest t h c x Idle is fits nl nu = ⊎_elim (λ (e : Idle ≡ Loads x). cc) (λ (e : Idle ≡ Removes x). cc)
fits_rest t h c x (Loads m) is fits nl nu = ⊎_elim (λ (e : Loads m ≡ Loads x). let s : m ≡ x = cc in nl (ap t.states (sym s) ∙ fits.0)) (λ (e : Loads m ≡ Removes x). cc)
fits_rest t h c x (Removes m) is fits nl nu = ⊎_elim (λ (e : Removes m ≡ Loads x). cc) (λ (e : Removes m ≡ Removes x). let s : m ≡ x = cc in nu (ap t.states (sym s) ∙ fits.0))

not_loading : (s : ModuleState) (half : Half) → (half ≡ BeginLoad) ⊎ (half ≡ BeginRemove) → may_follow half s ≡ true → s ≡ Loading → ⊥
not_loading s half which may is = ⊎_elim
    (λ (e : half ≡ BeginLoad). let f : false ≡ true = ap (λ (h : Half). may_follow h Loading) (sym e) ∙ (ap (may_follow half) (sym is) ∙ may) in cc)
    (λ (e : half ≡ BeginRemove). let f : false ≡ true = ap (λ (h : Half). may_follow h Loading) (sym e) ∙ (ap (may_follow half) (sym is) ∙ may) in cc) which

not_unloading : (s : ModuleState) (half : Half) → (half ≡ BeginLoad) ⊎ (half ≡ BeginRemove) → may_follow half s ≡ true → s ≡ Unloading → ⊥
not_unloading s half which may is = ⊎_elim
    (λ (e : half ≡ BeginLoad). let f : false ≡ true = ap (λ (h : Half). may_follow h Unloading) (sym e) ∙ (ap (may_follow half) (sym is) ∙ may) in cc)
    (λ (e : half ≡ BeginRemove). let f : false ≡ true = ap (λ (h : Half). may_follow h Unloading) (sym e) ∙ (ap (may_follow half) (sym is) ∙ may) in cc) which

-- a module that is absent is held by nobody
not_held : (s : ModuleState) → may_follow BeginLoad s ≡ true → takes_references s ≡ true → takes_references Loading ≡ true
not_held Absent may takes = takes
not_held Loading may takes = takes
not_held Live may takes = let e : false ≡ true = may in cc
not_held Draining may takes = let e : false ≡ true = may in cc
not_held Unloading may takes = takes

-- a load begins, if the table allows it
pub begin_load_turn : (n x : ℕ) (t u : TableView) (h : HandsView) → AreOne t h → MayMake BeginLoad x t u → IsTurn n t h u h
begin_load_turn n x t u h one q = ⊎_elim (same_turn n x t u h one q.holds q.others)
    (λ (made : (may_follow BeginLoad (t.states x) ≡ true) × (u.states x ≡ Loading)). moved_turn n x Loading t u h one q.holds q.others made.1
    (λ c. fits_rest t h c x (h.acts c) refl (one.acts c) (not_loading (t.states x) BeginLoad (inl refl) made.0) (not_unloading (t.states x) BeginLoad (inl refl) made.0))
    (λ (e : false ≡ true). cc) (λ (e : Loading ≡ Absent). cc)
    (λ f held. not_held (t.states x) made.0 (one.held f x held))) q.state

-- a removal begins, if the table allows it: nobody holds the module
pub begin_remove_turn : (n x : ℕ) (t u : TableView) (h : HandsView) → AreOne t h → MayMake BeginRemove x t u → IsTurn n t h u h
begin_remove_turn n x t u h one q = ⊎_elim (same_turn n x t u h one q.holds q.others)
    (λ (made : (may_follow BeginRemove (t.states x) ≡ true) × (u.states x ≡ Unloading)). ⊎_elim (same_turn n x t u h one q.holds q.others)
    (λ (free : (f : List ℕ) → t.holds f x ≡ false). moved_turn n x Unloading t u h one q.holds q.others made.1
    (λ c. fits_rest t h c x (h.acts c) refl (one.acts c) (not_loading (t.states x) BeginRemove (inr refl) made.0) (not_unloading (t.states x) BeginRemove (inr refl) made.0))
    (λ (e : false ≡ true). cc) (λ (e : Unloading ≡ Absent). cc)
    (λ f held. let e : false ≡ true = sym (free f) ∙ held in cc)) (q.unheld refl)) q.state

-- the table was only read
pub read_turn : (n : ℕ) (t u : TableView) (h : HandsView) → u ≡ t → AreOne t h → IsTurn n t h u h
read_turn n t u h same one = subst (λ (v : TableView). IsTurn n t h v h) (sym same) (turn_stay n t h one)
