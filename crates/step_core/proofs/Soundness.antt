-- Each step keeps the machine sound, and is right for the table that it shows.
use Rattle.std.proofs.Common.{◌≡◌, ◌≢◌, ℕ, ◌<◌, ◌⊎◌, List, length, get_or, Option, Some, None, refl, sym, ◌∙◌, ap, subst, inl, inr, get_or-set_same, get_or-set_other}
use Rattle.std.proofs.Math.ListN.{set}
use Rattle.std.proofs.lemmas.Bool.{cases_eq}
use Rattle.dep_index.specs.declared.table.calls.Call.{Call}
use Rattle.dep_index.specs.declared.table.calls.Call.TheVariants.{Get, Put, InUse as Query, BeginLoad, EndLoad, BeginDrain, BeginRemove, EndRemove, CancelRemove}
use Rattle.dep_index.specs.Table.{Module, Table, count_of}
use Rattle.dep_index.specs.Laws.{IsShaped, IsLawful}
use Rattle.dep_index.specs.Words.{word_of}
use Rattle.step_core.specs.declared.steps.Line.{Line}
use Rattle.step_core.specs.declared.steps.Line.TheVariants.{Lock, Word, Exchange, Write, Return}
use Rattle.step_core.specs.declared.steps.Activity.{Activity}
use Rattle.step_core.specs.Machine.{State, Locks, LockName, Leaf, TableLock, NoLock, lock_of, holder}
use Rattle.step_core.specs.Shown.{shown, pending}
use Rattle.step_core.specs.Sound.{Holds, HasLock, IsArriving, IsPlacedAt, IsPlaced, IsInside, IsSound}
use Rattle.step_core.proofs.Shown.{pends, pending-other, active_in_range, lock_cases}

-- a thread holds no lock but that of its call
pub holds_no_other : (catalogue : List Module) (workers : ℕ) (s : State) (t : ℕ) (a : Activity) → IsSound catalogue workers s
    → get_or s.threads t None ≡ Some a → (l : LockName) → (l ≡ lock_of a.call → ⊥) → holder s.locks l ≡ Some t → ⊥
holds_no_other catalogue workers s t a sound here l other held =
    let inside : IsInside l (get_or s.threads t None) = sound.inside l t held in
    let inside' : IsInside l (Some a) = rw here at inside in
    other (sym inside'.0)

-- what is pending under every other lock stays
pub others_pend : (catalogue : List Module) (workers : ℕ) (s : State) (t : ℕ) (a : Activity) → IsSound catalogue workers s
    → get_or s.threads t None ≡ Some a → (x : Option Activity) (locks : Locks)
    → ((l : LockName) → (l ≡ lock_of a.call → ⊥) → holder locks l ≡ holder s.locks l)
    → (l : LockName) → (l ≡ lock_of a.call → ⊥) → pends (set s.threads t x) locks l ≡ pends s.threads s.locks l
others_pend catalogue workers s t a sound here x locks same l other =
    ap (pending (set s.threads t x)) (same l other)
    ∙ pending-other s.threads t x (holder s.locks l) (holds_no_other catalogue workers s t a sound here l other)

-- a thread holds a lock still if its holder stays
pub holds_still : (locks locks' : Locks) (u : ℕ) (l : LockName) → (HasLock l → holder locks' l ≡ holder locks l) → Holds locks u l → Holds locks' u l
holds_still locks locks' u (Leaf w) same held = same tt ∙ held
holds_still locks locks' u TableLock same held = same tt ∙ held
holds_still locks locks' u NoLock same held = tt

pub holds_is : (locks : Locks) (u : ℕ) (l : LockName) → HasLock l → Holds locks u l → holder locks l ≡ Some u
holds_is locks u (Leaf w) has held = held
holds_is locks u TableLock has held = held
holds_is locks u NoLock has held = absurd has

-- what another thread relies on stays, if its lock is not this one
place_still : (locks locks' : Locks) (written written' : Table) (u : ℕ) (call : Call) (line : Line)
    → (Holds locks u (lock_of call) → Holds locks' u (lock_of call))
    → (Holds locks u (lock_of call) → IsArriving written call → IsArriving written' call)
    → IsPlacedAt locks written u call line → IsPlacedAt locks' written' u call line
place_still locks locks' written written' u call Lock holds arrives place = place
place_still locks locks' written written' u call Word holds arrives place = holds place
place_still locks locks' written written' u call (Exchange x) holds arrives place = (holds place.0, arrives place.0 place.1, place.2)
place_still locks locks' written written' u call Write holds arrives place = (place.0, holds place.1)
place_still locks locks' written written' u call (Return r) holds arrives place = holds place

arrives_still : (written written' : Table) (call : Call) → ((w m : ℕ) → lock_of call ≡ Leaf w → count_of written' w m ≡ count_of written w m) → IsArriving written call → IsArriving written' call
arrives_still written written' (Get w m) same arriving = same w m refl ∙ arriving
arrives_still written written' (Put w m) same arriving = absurd arriving
arrives_still written written' (Query m) same arriving = absurd arriving
arrives_still written written' (BeginLoad m) same arriving = absurd arriving
arrives_still written written' (EndLoad m ok) same arriving = absurd arriving
arrives_still written written' (BeginDrain m) same arriving = absurd arriving
arrives_still written written' (BeginRemove m) same arriving = absurd arriving
arrives_still written written' (EndRemove m) same arriving = absurd arriving
arrives_still written written' (CancelRemove m) same arriving = absurd arriving

-- after a step of thread t, whose call is under the lock of a
pub sound_after : (catalogue : List Module) (workers : ℕ) (old new : State) (t : ℕ) (a : Activity) (x : Option Activity)
    → IsSound catalogue workers old → get_or old.threads t None ≡ Some a
    → new.threads ≡ set old.threads t x → new.invoked ≡ old.invoked
    → IsShaped (length catalogue) workers new.written → length new.words ≡ length catalogue → length new.locks.leaves ≡ workers
    -- the other locks keep their holders; this one's is this thread, if any, before and after
    → ((l : LockName) → (l ≡ lock_of a.call → ⊥) → holder new.locks l ≡ holder old.locks l)
    → ((u : ℕ) → holder old.locks (lock_of a.call) ≡ Some u → u ≡ t)
    → ((u : ℕ) → holder new.locks (lock_of a.call) ≡ Some u → (u ≡ t) × IsInside (lock_of a.call) x)
    → ((b : Activity) → x ≡ Some b → IsPlaced (length catalogue) workers old.invoked new.locks new.written t b)
    -- the counts of the other leaves stay
    → ((w m : ℕ) → (Leaf w ≡ lock_of a.call → ⊥) → count_of new.written w m ≡ count_of old.written w m)
    → ((m : ℕ) → m < length catalogue → get_or new.words m 0 ≡ word_of (shown new) m)
    → IsLawful catalogue (shown new)
    → IsSound catalogue workers new
sound_after catalogue workers old new t a x sound here threads invoked shape words leaves same_locks was is own counts word lawful =
    record {
      few = sound.few;
      shape = shape;
      words = words;
      leaves = leaves;
      inside = λ l u held. rw threads (inside l u held (lock_cases l (lock_of a.call)));
      placed = λ u b there. placed u b (subst (λ (ts : List (Option Activity)). get_or ts u None ≡ Some b) threads there) (cases_eq u t);
      word = word;
      lawful = lawful;
    } where
      room : t < length old.threads
      room = active_in_range old.threads t a here

      inside : (l : LockName) (u : ℕ) → holder new.locks l ≡ Some u → (l ≡ lock_of a.call) ⊎ (l ≡ lock_of a.call → ⊥) → IsInside l (get_or (set old.threads t x) u None)
      inside l u held (inl e) =
          let held' : holder new.locks (lock_of a.call) ≡ Some u = subst (λ (k : LockName). holder new.locks k ≡ Some u) e held in
          let facts : (u ≡ t) × IsInside (lock_of a.call) x = is u held' in
          let at_t : IsInside (lock_of a.call) (get_or (set old.threads t x) t None) = rw (get_or-set_same old.threads t x None room) facts.1 in
          let at_u : IsInside (lock_of a.call) (get_or (set old.threads t x) u None) = subst (λ (i : ℕ). IsInside (lock_of a.call) (get_or (set old.threads t x) i None)) (sym facts.0) at_t in
          subst (λ (k : LockName). IsInside k (get_or (set old.threads t x) u None)) (sym e) at_u
      inside l u held (inr ne) =
          let held' : holder old.locks l ≡ Some u = sym (same_locks l ne) ∙ held in
          let apart : u ≢ t = λ e. holds_no_other catalogue workers old t a sound here l ne (held' ∙ ap Some e) in
          rw (get_or-set_other old.threads t u x None apart) (sound.inside l u held')

      placed : (u : ℕ) (b : Activity) → get_or (set old.threads t x) u None ≡ Some b → (u ≡ t) ⊎ (u ≡ t → ⊥) → IsPlaced (length catalogue) workers new.invoked new.locks new.written u b
      placed u b there (inl e) =
          let there' : get_or (set old.threads t x) t None ≡ Some b = subst (λ (i : ℕ). get_or (set old.threads t x) i None ≡ Some b) e there in
          let is_x : x ≡ Some b = sym (get_or-set_same old.threads t x None room) ∙ there' in
          rw (invoked, e) (own b is_x)
      placed u b there (inr ne) =
          let there' : get_or old.threads u None ≡ Some b = sym (get_or-set_other old.threads t u x None ne) ∙ there in
          let before : IsPlaced (length catalogue) workers old.invoked old.locks old.written u b = sound.placed u b there' in
          record {
            range = before.range;
            number = rw invoked before.number;
            place = place_still old.locks new.locks old.written new.written u b.call b.line
                (λ held. holds_still old.locks new.locks u (lock_of b.call) (λ has. same_locks (lock_of b.call) (other_lock has held)) held)
                (λ held arriving. arrives_still old.written new.written b.call (λ w m is_leaf. counts w m (λ e. other_lock (subst HasLock (sym is_leaf) tt) held (is_leaf ∙ e))) arriving)
                before.place;
          } where
            other_lock : HasLock (lock_of b.call) → Holds old.locks u (lock_of b.call) → lock_of b.call ≡ lock_of a.call → ⊥
            other_lock has held e = ne (was u (ap (holder old.locks) (sym e) ∙ holds_is old.locks u (lock_of b.call) has held))
