-- What calls know stays true.
use Rattle.std.proofs.Common.{arith, [], Bool, eqb, Contains, ◌≡◌, sym, ap, subst, ◌∙◌, true, false, ℕ, ◌<◌, List, length, get_or, set, Some}
use mathlib.Core.Logic.{⊎_elim}
use Rattle.std.specs.List.{IsAnyAnswer}
use Rattle.std.proofs.lemmas.Bool.{cases_eq}
use Rattle.std.proofs.lemmas.Bool.Decides.{Decides-eqb}
use Rattle.std.proofs.lemmas.List.Elements.{contains_decides}
use Rattle.std.proofs.lemmas.List.{get_or-set_same, get_or-set_other, length-set}
use Rattle.hold_turns.specs.Events.{Event, IsOwed}
use Rattle.hold_turns.specs.Views.{TableView, HandsView, Act, Idle}
use Rattle.hold_turns.specs.Acts.{Notes, MayDo, GoesOn}
use Rattle.hold_turns.specs.declared.call.Call.{Call}
use Rattle.hold_turns.specs.declared.call.State.{State}
use Rattle.hold_turns.specs.declared.call.State.TheVariants as state
use Rattle.hold_turns.specs.Rule.{KeepsOthers, HasLocks, IsReady, HoldsOwed, is_over, needs_no_lock, KnowsIn, Knows, AllKnow, IsOverAt, IsCut}

not_within : (k : ℕ) (slots : List ℕ) → slots ≡ [] → k < length slots → ⊥
not_within k slots none lt = let e : length slots ≡ 0 = ap length none in omega arith

ready_kept : (c n : ℕ) (slots : List ℕ) (t u : TableView) (h i : HandsView) → (c ≡ n → ⊥) → KeepsOthers n t h u i → IsReady c slots h → IsReady c slots i
ready_kept c n slots t u h i ne q r = record { locks = λ k d lt. q.locks _ c ne (r.locks k d lt); idle = q.acts c ne ∙ r.idle }

knows_in_kept : (s : State) (c n : ℕ) (call : Call) (t u : TableView) (h i : HandsView) → (c ≡ n → ⊥) → KeepsOthers n t h u i → KnowsIn s c call t h → KnowsIn s c call u i
knows_in_kept (state.Over end) c n call t u h i ne q knows = tt
knows_in_kept state.Acting c n call t u h i ne q knows = λ k d lt. q.locks _ c ne (knows k d lt)
knows_in_kept state.Looking c n call t u h i ne q knows =
    (ready_kept c n call.locked.items t u h i ne q knows.0, λ m among. q.owed c call.holder.now m ne (knows.1 m among))
knows_in_kept state.Begins c n call t u h i ne q knows = ready_kept c n call.locked.items t u h i ne q knows
knows_in_kept state.Holding c n call t u h i ne q knows = ready_kept c n call.locked.items t u h i ne q knows
knows_in_kept state.Locking c n call t u h i ne q knows = ready_kept c n call.locked.items t u h i ne q knows
knows_in_kept state.Bringing c n call t u h i ne q knows = ready_kept c n call.locked.items t u h i ne q knows
knows_in_kept state.Stepping c n call t u h i ne q knows = ready_kept c n call.locked.items t u h i ne q knows

-- a turn of another call
pub knows_kept : (c n : ℕ) (call : Call) (t u : TableView) (h i : HandsView) → (c ≡ n → ⊥) → KeepsOthers n t h u i → Knows c call t h → Knows c call u i
knows_kept c n call = knows_in_kept call.state c n call

-- a call that is over knows nothing
pub over_knows : (s : State) (c : ℕ) (call : Call) (t : TableView) (h : HandsView) → is_over s ≡ true → KnowsIn s c call t h
over_knows (state.Over end) c call t h over = tt
over_knows state.Acting c call t h over = let e : false ≡ true = over in cc
over_knows state.Looking c call t h over = let e : false ≡ true = over in cc
over_knows state.Begins c call t h over = let e : false ≡ true = over in cc
over_knows state.Holding c call t h over = let e : false ≡ true = over in cc
over_knows state.Locking c call t h over = let e : false ≡ true = over in cc
over_knows state.Bringing c call t h over = let e : false ≡ true = over in cc
over_knows state.Stepping c call t h over = let e : false ≡ true = over in cc

-- one call made its turn: the others know what they knew
pub all_turned : (calls : List Call) (n : ℕ) (call : Call) (t u : TableView) (h i : HandsView) → AllKnow calls t h → KeepsOthers n t h u i → n < length calls
    → Knows n call u i → AllKnow (set calls n call) u i
all_turned calls n call t u h i all q lt knows j none within = ⊎_elim
    (λ (is : j ≡ n). subst (λ (k : ℕ). Knows k (get_or (set calls n call) k none) u i) (sym is)
    (subst (λ (c : Call). Knows n c u i) (sym (get_or-set_same calls n call none lt)) knows))
    (λ (ne : j ≡ n → ⊥). subst (λ (c : Call). Knows j c u i) (sym (get_or-set_other calls n j call none ne))
    (knows_kept j n (get_or calls j none) t u h i ne q (all j none (subst (λ (l : ℕ). j < l) (length-set calls n call) within)))) (cases_eq j n)

idle_goes : (n : ℕ) (h i : HandsView) → GoesOn n h i → h.acts n ≡ Idle → i.acts n ≡ Idle
idle_goes n h i q idle = ⊎_elim (λ (same : i.acts n ≡ h.acts n). same ∙ idle) (λ over. over) q.own

ready_goes : (n : ℕ) (slots : List ℕ) (h i : HandsView) → GoesOn n h i → IsReady n slots h → IsReady n slots i
ready_goes n slots h i q r = record { locks = λ k d lt. q.locks _ n (r.locks k d lt); idle = idle_goes n h i q r.idle }

own_in_goes : (s : State) (n : ℕ) (call : Call) (t : TableView) (h i : HandsView) → GoesOn n h i → KnowsIn s n call t h → KnowsIn s n call t i
own_in_goes (state.Over end) n call t h i q knows = tt
own_in_goes state.Acting n call t h i q knows = λ k d lt. q.locks _ n (knows k d lt)
own_in_goes state.Looking n call t h i q knows = (
  ready_goes n call.locked.items h i q knows.0,
  λ m among owed. knows.1 m among (subst (λ (es : List Event). IsOwed es n call.holder.now m) (subst (λ (a : Act). MayDo a h.events i.events) knows.0.idle q.events) owed),
)
own_in_goes state.Begins n call t h i q knows = ready_goes n call.locked.items h i q knows
own_in_goes state.Holding n call t h i q knows = ready_goes n call.locked.items h i q knows
own_in_goes state.Locking n call t h i q knows = ready_goes n call.locked.items h i q knows
own_in_goes state.Bringing n call t h i q knows = ready_goes n call.locked.items h i q knows
own_in_goes state.Stepping n call t h i q knows = ready_goes n call.locked.items h i q knows

-- the act of a call goes on: all know what they knew
pub all_go_on : (calls : List Call) (n : ℕ) (t : TableView) (h i : HandsView) → AllKnow calls t h → KeepsOthers n t h t i → GoesOn n h i → AllKnow calls t i
all_go_on calls n t h i all q goes j none within = ⊎_elim
    (λ (is : j ≡ n). subst (λ (k : ℕ). Knows k (get_or calls j none) t i) (sym is)
    (own_in_goes (get_or calls j none).state n (get_or calls j none) t h i goes (subst (λ (k : ℕ). Knows k (get_or calls j none) t h) is (all j none within))))
    (λ (ne : j ≡ n → ⊥). knows_kept j n (get_or calls j none) t t h i ne q (all j none within)) (cases_eq j n)

-- the locks of a call that is over go: all know what they knew
pub all_let_go : (calls : List Call) (n : ℕ) (t : TableView) (h i : HandsView) → AllKnow calls t h → KeepsOthers n t h t i → IsOverAt n calls → AllKnow calls t i
all_let_go calls n t h i all q over j none within = ⊎_elim
    (λ (is : j ≡ n). over_knows (get_or calls j none).state j (get_or calls j none) t i (subst (λ (k : ℕ). is_over (get_or calls k none).state ≡ true) (sym is) (over none)))
    (λ (ne : j ≡ n → ⊥). knows_kept j n (get_or calls j none) t t h i ne q (all j none within)) (cases_eq j n)

-- a call is cut off: all know what they knew
pub all_cut : (calls new : List Call) (n : ℕ) (t : TableView) (h : HandsView) → AllKnow calls t h → IsCut n calls new → AllKnow new t h
all_cut calls new n t h all q j none within = ⊎_elim
    (λ (is : j ≡ n). over_knows (get_or new j none).state j (get_or new j none) t h (subst (λ (k : ℕ). is_over (get_or new k none).state ≡ true) (sym is) (q.over (subst (λ (k : ℕ). k < length calls) is (subst (λ (l : ℕ). j < l) q.len within)) none)))
    (λ (ne : j ≡ n → ⊥). subst (λ (c : Call). Knows j c t h) (sym (q.others j none ne)) (all j none (subst (λ (l : ℕ). j < l) q.len within))) (cases_eq j n)

pub cut_is : (calls : List Call) (n : ℕ) (call : Call) → n < length calls → is_over call.state ≡ true → IsCut n calls (set calls n call)
cut_is calls n call lt over = record {
  len = length-set calls n call;
  over = λ within none. subst (λ (c : Call). is_over c.state ≡ true) (sym (get_or-set_same calls n call none lt)) over;
  others = λ i none ne. get_or-set_other calls n i call none ne;
}

free_in : (s : State) (n : ℕ) (call : Call) (t : TableView) (h : HandsView) → needs_no_lock s ≡ true → IsReady n call.locked.items h → KnowsIn s n call t h
free_in (state.Over end) n call t h free ready = tt
free_in state.Holding n call t h free ready = ready
free_in state.Locking n call t h free ready = ready
free_in state.Acting n call t h free ready = let e : false ≡ true = free in cc
free_in state.Looking n call t h free ready = let e : false ≡ true = free in cc
free_in state.Begins n call t h free ready = ready
free_in state.Bringing n call t h free ready = ready
free_in state.Stepping n call t h free ready = ready

-- a state in which a call needs no lock
pub free_knows : (s : State) (n : ℕ) (call : Call) (t : TableView) (h : HandsView) → needs_no_lock s ≡ true → call.state ≡ s → IsReady n call.locked.items h → Knows n call t h
free_knows s n call t h free is ready = subst (λ (k : State). KnowsIn k n call t h) (sym is) (free_in s n call t h free ready)

pub ready_none : (n : ℕ) (slots : List ℕ) (h : HandsView) → slots ≡ [] → h.acts n ≡ Idle → IsReady n slots h
ready_none n slots h none idle = record { locks = λ k d lt. absurd (not_within k slots none lt); idle = idle }

-- what is owed stays held while the events are the same
pub owed_same : (n : ℕ) (g ms : List ℕ) (t : TableView) (h i : HandsView) → i.events ≡ h.events → HoldsOwed n g ms t h → HoldsOwed n g ms t i
owed_same n g ms t h i same holds m among owed = holds m among (subst (λ (es : List Event). IsOwed es n g m) same owed)

owner_of : (n m : ℕ) (slots : List ℕ) (h : HandsView) → HasLocks n slots h → Contains slots m → h.owner m ≡ Some n
owner_of n m slots h locks (k, lt, is) = subst (λ (x : ℕ). h.owner x ≡ Some n) is (locks k m lt)

-- a slot that was found among those that a call has locked
pub owner_found : (n m : ℕ) (slots : List ℕ) (h : HandsView) (found : Bool) → HasLocks n slots h → IsAnyAnswer (λ y b. eqb y m ≡ b) slots found → found ≡ true → h.owner m ≡ Some n
owner_found n m slots h found locks answer is =
    let at = (contains_decides eqb Decides-eqb slots m found answer).0 is in owner_of n m slots h locks (at.0, at.1, at.2 m)

pub ready_noted : (n : ℕ) (e : Event) (slots : List ℕ) (h i : HandsView) → IsReady n slots h → Notes e h i → IsReady n slots i
ready_noted n e slots h i r q = record { locks = λ k d lt. q.locks _ _ (r.locks k d lt); idle = q.acts n ∙ r.idle }
