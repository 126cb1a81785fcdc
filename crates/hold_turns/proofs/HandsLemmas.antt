-- What the hands do, by the rule.
use Rattle.std.proofs.Common.{◌≡◌, refl, sym, ap, subst, ◌∙◌, inr, true, false, ℕ, List, ◌∷◌, Some, Contains}
use mathlib.Core.Logic.{⊎_elim}
use Rattle.dep_index.specs.declared.table.states.ModuleState.{ModuleState}
use Rattle.dep_index.specs.declared.table.states.ModuleState.TheVariants.{Absent, Loading, Unloading}
use Rattle.dep_index.specs.Table.{takes_references}
use Rattle.hold_turns.specs.Events.{Event, Loaded, Removed, Asked, Begun, GivesBack, IsAmong, IsIn, IsOwed, IsPromised, HasPromised, StaysWhileHeld}
use Rattle.hold_turns.specs.Views.{TableView, HandsView, Act, Idle, Loads, Removes}
use Rattle.hold_turns.specs.Lines.{MayRelease}
use Rattle.hold_turns.specs.Acts.{KeepsActs, IsQuiet, Notes, Unlocks, MayBegin, MayDo, GoesOn, LetsGo}
use Rattle.hold_turns.specs.Rule.{Fits, AreOne, IsTurn, HoldsOwed}
use Rattle.hold_turns.proofs.TurnLemmas.{turn_then}

-- locks of calls whose act is under way stay
abbrev pub KeepsBusy : HandsView → HandsView → Type 0
KeepsBusy old new = (m c : ℕ) → (old.acts c ≡ Idle → ⊥) → old.owner m ≡ Some c → new.owner m ≡ Some c

pub fits_still : (t : TableView) (h i : HandsView) (c : ℕ) (a : Act) → h.acts c ≡ a → KeepsBusy h i → Fits t h c a → Fits t i c a
fits_still t h i c Idle is keeps fits = tt
fits_still t h i c (Loads m) is keeps fits = (fits.0, keeps m c (λ idle. let e : Idle ≡ Loads m = sym idle ∙ is in cc) fits.1)
fits_still t h i c (Removes m) is keeps fits = (fits.0, keeps m c (λ idle. let e : Idle ≡ Removes m = sym idle ∙ is in cc) fits.1)

-- table and kernel are one after a change of locks
pub still : (t : TableView) (h i : HandsView) → AreOne t h → KeepsBusy h i → KeepsActs h i → i.events ≡ h.events → AreOne t i
still t h i one keeps acts events = record {
  held = one.held;
  live = λ m takes. subst (λ (es : List Event). IsIn es m) (sym events) (one.live m takes);
  absent = λ m away there. one.absent m away (subst (λ (es : List Event). IsIn es m) events there);
  acts = λ c. subst (λ (a : Act). Fits t i c a) (sym (acts c)) (fits_still t h i c (h.acts c) refl keeps (one.acts c));
  promised = λ g m p. one.promised g m (subst (λ (es : List Event). IsPromised es g m) events p);
  stays = subst (λ (es : List Event). StaysWhileHeld es) (sym events) one.stays;
}

owed_still : (t : TableView) (h i : HandsView) (c : ℕ) (g : List ℕ) (m : ℕ) → i.events ≡ h.events
    → (IsOwed h.events c g m → t.holds g m ≡ true) → IsOwed i.events c g m → t.holds g m ≡ true
owed_still t h i c g m events held owed = held (subst (λ (es : List Event). IsOwed es c g m) events owed)

pub quiet_turn : (n : ℕ) (t : TableView) (h i : HandsView) → AreOne t h → IsQuiet h i → IsTurn n t h t i
quiet_turn n t h i one q = record {
  one = still t h i one (λ m c busy. q.locks m c) q.acts q.events;
  others = record {
    locks = λ m c ne. q.locks m c;
    acts = λ c ne. q.acts c;
    owed = λ c g m ne. owed_still t h i c g m q.events;
  };
}

pub unlock_turn : (n : ℕ) (t : TableView) (h i : HandsView) → AreOne t h → h.acts n ≡ Idle → Unlocks n h i → IsTurn n t h t i
unlock_turn n t h i one idle q = record {
  one = still t h i one (λ m c busy had. ⊎_elim (λ (is : c ≡ n). absurd (busy (ap h.acts is ∙ idle))) (λ kept. kept) (q.locks m c had)) q.acts q.events;
  others = record {
    locks = λ m c ne had. ⊎_elim (λ is. absurd (ne is)) (λ kept. kept) (q.locks m c had);
    acts = λ c ne. q.acts c;
    owed = λ c g m ne. owed_still t h i c g m q.events;
  };
}

pub let_go_turn : (n : ℕ) (t : TableView) (h i : HandsView) → AreOne t h → LetsGo n h i → IsTurn n t h t i
let_go_turn n t h i one q = record {
  one = still t h i one (λ m c busy had. ⊎_elim (λ (is : (c ≡ n) × (h.acts n ≡ Idle)). absurd (busy (ap h.acts is.0 ∙ is.1))) (λ kept. kept) (q.locks m c had)) q.acts q.events;
  others = record {
    locks = λ m c ne had. ⊎_elim (λ (is : (c ≡ n) × (h.acts n ≡ Idle)). absurd (ne is.0)) (λ kept. kept) (q.locks m c had);
    acts = λ c ne. q.acts c;
    owed = λ c g m ne. owed_still t h i c g m q.events;
  };
}

-- an act begins that fits the table
pub begin_turn : (n : ℕ) (a : Act) (t : TableView) (h i : HandsView) → AreOne t h → Fits t i n a → MayBegin n a h i → IsTurn n t h t i
begin_turn n a t h i one fits q = record {
  one = record {
    held = one.held;
    live = λ m takes. subst (λ (es : List Event). IsIn es m) (sym q.events) (one.live m takes);
    absent = λ m away there. one.absent m away (subst (λ (es : List Event). IsIn es m) q.events there);
    acts = λ c. ⊎_elim (λ (is : c ≡ n). subst (λ (k : ℕ). Fits t i k (i.acts k)) (sym is)
        (⊎_elim (λ (own : i.acts n ≡ a). subst (λ (b : Act). Fits t i n b) (sym own) fits) (λ (own : i.acts n ≡ Idle). subst (λ (b : Act). Fits t i n b) (sym own) tt) q.own))
        (λ (same : i.acts c ≡ h.acts c). subst (λ (b : Act). Fits t i c b) (sym same) (fits_still t h i c (h.acts c) refl (λ m k busy. q.locks m k) (one.acts c))) (q.others c);
    promised = λ g m p. one.promised g m (subst (λ (es : List Event). IsPromised es g m) q.events p);
    stays = subst (λ (es : List Event). StaysWhileHeld es) (sym q.events) one.stays;
  };
  others = record {
    locks = λ m c ne. q.locks m c;
    acts = λ c ne. ⊎_elim (λ is. absurd (ne is)) (λ same. same) (q.others c);
    owed = λ c g m ne. owed_still t h i c g m q.events;
  };
}

pub has_promised : (t : TableView) (h : HandsView) → AreOne t h → HasPromised h.events
has_promised t h one g m p = one.live m (one.held g m (one.promised g m p))

-- the hands with one event more
abbrev noted : HandsView → Event → HandsView
noted h e = record { owner = h.owner; acts = h.acts; events = e ∷ h.events; shown = h.shown }

fits_noted : (t : TableView) (h : HandsView) (e : Event) (c : ℕ) (a : Act) → Fits t h c a → Fits t (noted h e) c a
fits_noted t h e c Idle fits = tt
fits_noted t h e c (Loads m) fits = fits
fits_noted t h e c (Removes m) fits = fits

-- from the hands with one event more to those that noted it
after_note : (n : ℕ) (t u : TableView) (h i : HandsView) (e : Event) → Notes e h i → IsTurn n t h u (noted h e) → IsTurn n t h u i
after_note n t u h i e q turn = record {
  one = still u (noted h e) i turn.one (λ m c busy. q.locks m c) q.acts q.events;
  others = record {
    locks = λ m c ne. q.locks m c;
    acts = λ c ne. q.acts c;
    owed = λ c g m ne held. owed_still u (noted h e) i c g m q.events (turn.others.owed c g m ne held);
  };
}

pub asked_turn : (n : ℕ) (g : List ℕ) (ms : List ℕ) (t : TableView) (h i : HandsView) → AreOne t h → Notes (Asked n g ms) h i → IsTurn n t h t i
asked_turn n g ms t h i one q = after_note n t t h i (Asked n g ms) q record {
  one = record {
    held = one.held;
    live = one.live;
    absent = one.absent;
    acts = λ c. fits_noted t h (Asked n g ms) c (h.acts c) (one.acts c);
    promised = one.promised;
    stays = (has_promised t h one, one.stays);
  };
  others = record {
    locks = λ m c ne is. is;
    acts = λ c ne. refl;
    owed = λ c f m ne held owed. ⊎_elim (λ (is : (n ≡ c) × IsAmong f m g ms). absurd (ne (sym is.0))) held owed;
  };
}

begun_promised : (n : ℕ) (g : List ℕ) (ms : List ℕ) (t : TableView) (h : HandsView) → AreOne t h → HoldsOwed n g ms t h
    → (f : List ℕ) (m : ℕ) → IsPromised (Begun n g ms ∷ h.events) f m → t.holds f m ≡ true
begun_promised n g ms t h one owed f m p =
    ⊎_elim (λ (is : IsAmong f m g ms × IsOwed h.events n f m). subst (λ (k : List ℕ). t.holds k m ≡ true) is.0.0 (owed m is.0.1 (subst (λ (k : List ℕ). IsOwed h.events n k m) (sym is.0.0) is.1)))
    (one.promised f m) p

pub begun_turn : (n : ℕ) (g : List ℕ) (ms : List ℕ) (t : TableView) (h i : HandsView) → AreOne t h → HoldsOwed n g ms t h
    → Notes (Begun n g ms) h i → IsTurn n t h t i
begun_turn n g ms t h i one owed q = after_note n t t h i (Begun n g ms) q record {
  one = record {
    held = one.held;
    live = one.live;
    absent = one.absent;
    acts = λ c. fits_noted t h (Begun n g ms) c (h.acts c) (one.acts c);
    promised = begun_promised n g ms t h one owed;
    stays = (λ f m p. one.live m (one.held f m (begun_promised n g ms t h one owed f m p)), one.stays);
  };
  others = record { locks = λ m c ne is. is; acts = λ c ne. refl; owed = λ c f m ne held. held };
}

-- a put notes that it gives back
pub put_turn : (n : ℕ) (g : List ℕ) (ms : List ℕ) (t : TableView) (h i : HandsView) → AreOne t h → Notes (GivesBack g ms) h i → IsTurn n t h t i
put_turn n g ms t h i one q = after_note n t t h i (GivesBack g ms) q record {
  one = record {
    held = one.held;
    live = one.live;
    absent = one.absent;
    acts = λ c. fits_noted t h (GivesBack g ms) c (h.acts c) (one.acts c);
    promised = λ f m p. one.promised f m p.1;
    stays = (λ f m p. has_promised t h one f m p.1, one.stays);
  };
  others = record { locks = λ m c ne is. is; acts = λ c ne. refl; owed = λ c f m ne held owed. held owed.1 };
}

pub fits_states : (t u : TableView) (h : HandsView) (c : ℕ) (a : Act) → ((m : ℕ) → u.states m ≡ t.states m) → Fits t h c a → Fits u h c a
fits_states t u h c Idle same fits = tt
fits_states t u h c (Loads m) same fits = (same m ∙ fits.0, fits.1)
fits_states t u h c (Removes m) same fits = (same m ∙ fits.0, fits.1)

-- what it gave back was owed to nobody any more
not_given : (g : List ℕ) (ms : List ℕ) (t u : TableView) (es : List Event) → MayRelease g ms t u → (f : List ℕ) (m : ℕ) → (IsAmong f m g ms → ⊥)
    → t.holds f m ≡ true → u.holds f m ≡ true
not_given g ms t u es r f m away held = ⊎_elim (λ kept. kept) (λ (is : (g ≡ f) × Contains ms m). absurd (away (is.0, is.1))) (r.only f m held)

pub release_turn : (n : ℕ) (g : List ℕ) (ms : List ℕ) (t u : TableView) (h i : HandsView) → AreOne t h → Notes (GivesBack g ms) h i
    → MayRelease g ms t u → IsTurn n t h u i
release_turn n g ms t u h i one q r = after_note n t u h i (GivesBack g ms) q record {
  one = record {
    held = λ f m held. subst (λ (s : ModuleState). takes_references s ≡ true) (sym (r.states m)) (one.held f m (r.fewer f m held));
    live = λ m takes. one.live m (subst (λ (s : ModuleState). takes_references s ≡ true) (r.states m) takes);
    absent = λ m away there. one.absent m (sym (r.states m) ∙ away) there;
    acts = λ c. fits_noted u h (GivesBack g ms) c (h.acts c) (fits_states t u h c (h.acts c) r.states (one.acts c));
    promised = λ f m p. not_given g ms t u h.events r f m p.0 (one.promised f m p.1);
    stays = (λ f m p. has_promised t h one f m p.1, one.stays);
  };
  others = record {
    locks = λ m c ne is. is;
    acts = λ c ne. refl;
    owed = λ c f m ne held owed. not_given g ms t u h.events r f m owed.0 (held owed.1);
  };
}

-- the kernel got a module whose load is under way
loaded : (n m : ℕ) (t : TableView) (h : HandsView) → AreOne t h → t.states m ≡ Loading → IsTurn n t h t (noted h (Loaded m))
loaded n m t h one loading = record {
  one = record {
    held = one.held;
    live = λ k takes. inr (one.live k takes);
    absent = λ k away there. ⊎_elim (λ (same : m ≡ k). let e : Loading ≡ Absent = sym loading ∙ (ap t.states same ∙ away) in cc) (one.absent k away) there;
    acts = λ c. fits_noted t h (Loaded m) c (h.acts c) (one.acts c);
    promised = one.promised;
    stays = (λ f k p. inr (has_promised t h one f k p), one.stays);
  };
  others = record { locks = λ k c ne is. is; acts = λ c ne. refl; owed = λ c f k ne held. held };
}

-- a module whose removal is under way takes no references
not_taken : (m k : ℕ) (t : TableView) → t.states m ≡ Unloading → takes_references (t.states k) ≡ true → m ≡ k → ⊥
not_taken m k t unloading takes same =
    let e : false ≡ true = ap takes_references (sym unloading) ∙ (ap (λ (j : ℕ). takes_references (t.states j)) same ∙ takes) in cc

-- the kernel lost a module whose removal is under way: nobody holds it
removed : (n m : ℕ) (t : TableView) (h : HandsView) → AreOne t h → t.states m ≡ Unloading → IsTurn n t h t (noted h (Removed m))
removed n m t h one unloading = record {
  one = record {
    held = one.held;
    live = λ k takes. (not_taken m k t unloading takes, one.live k takes);
    absent = λ k away there. one.absent k away there.1;
    acts = λ c. fits_noted t h (Removed m) c (h.acts c) (one.acts c);
    promised = one.promised;
    stays = (λ f k p. (not_taken m k t unloading (one.held f k (one.promised f k p)), has_promised t h one f k p), one.stays);
  };
  others = record { locks = λ k c ne is. is; acts = λ c ne. refl; owed = λ c f k ne held. held };
}

-- an act that is under way goes on from what it has done
goes_from : (n : ℕ) (t : TableView) (h i : HandsView) (es : List Event) → GoesOn n h i → AreOne t (record { owner = h.owner; acts = h.acts; events = es; shown = h.shown })
    → i.events ≡ es → IsTurn n t (record { owner = h.owner; acts = h.acts; events = es; shown = h.shown }) t i
goes_from n t h i es q one events =
    let from : HandsView = record { owner = h.owner; acts = h.acts; events = es; shown = h.shown } in
    begin_turn n (h.acts n) t from i one (fits_still t from i n (h.acts n) refl (λ m k busy. q.locks m k) (one.acts n))
    (record { locks = q.locks; others = q.others; own = q.own; events = events })

did : (n : ℕ) (t : TableView) (h i : HandsView) → AreOne t h → GoesOn n h i → (a : Act) → Fits t h n a → MayDo a h.events i.events → IsTurn n t h t i
did n t h i one q Idle fits same = goes_from n t h i h.events q one same
did n t h i one q (Loads m) fits may = ⊎_elim (goes_from n t h i h.events q one)
    (λ (new : i.events ≡ Loaded m ∷ h.events). turn_then (loaded n m t h one fits.0) (goes_from n t h i (Loaded m ∷ h.events) q (loaded n m t h one fits.0).one new)) may
did n t h i one q (Removes m) fits may = ⊎_elim (goes_from n t h i h.events q one)
    (λ (new : i.events ≡ Removed m ∷ h.events). turn_then (removed n m t h one fits.0) (goes_from n t h i (Removed m ∷ h.events) q (removed n m t h one fits.0).one new)) may

pub go_on_turn : (n : ℕ) (t : TableView) (h i : HandsView) → AreOne t h → GoesOn n h i → IsTurn n t h t i
go_on_turn n t h i one q = did n t h i one q (h.acts n) (one.acts n) q.events
