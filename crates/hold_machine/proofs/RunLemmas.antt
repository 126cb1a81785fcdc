-- How a run begins.
use Rattle.std.proofs.Common.{◌≡◌, ℕ, true, false, List, [], ◌∷◌, ◌++◌, ◌<◌, length, take, drop, drop_of_length-le, get_or, sym, ap, subst, ◌∙◌, arith}
use Rattle.std.proofs.lemmas.List.{append-nil, take_all}
use Rattle.dep_index.specs.declared.table.states.ModuleState.{ModuleState}
use Rattle.dep_index.specs.Table.{takes_references}
use Rattle.hold_turns.specs.Events.{Event, IsIn, IsPromised, StaysWhileHeld}
use Rattle.hold_turns.specs.Views.{TableView, HandsView, Act, Idle}
use Rattle.hold_turns.specs.declared.call.Call.{Call}
use Rattle.hold_turns.specs.declared.call.State.{State}
use Rattle.hold_turns.specs.declared.call.State.TheVariants.{Begins}
use Rattle.hold_turns.specs.declared.run.Choice.{Choice}
use Rattle.hold_turns.specs.declared.run.Choice.TheVariants.{Next, Cut, Ends}
use Rattle.hold_turns.specs.Course.{IsChosen, AreMade}
use Rattle.hold_turns.specs.Rule.{Fits, AreOne, AllKnow, Knows, KnowsIn, IsReady}
use Rattle.hold_machine.specs.declared.asked.Asked.{Asked}
use Rattle.hold_machine.specs.declared.asked.Asked.TheVariants.{Get, Put, Remove}
use Rattle.hold_machine.specs.Hands.{IsAtRest}
use Rattle.hold_machine.specs.Table.{IsEmpty}
use Rattle.hold_machine.specs.Runs.{IsBegun, AreBegun}

-- an empty table and a kernel to which nothing has happened are one
pub one_at_first : (table : TableView) (hands : HandsView) → IsEmpty table → IsAtRest hands → AreOne table hands
one_at_first table hands empty rest = record {
  held = λ holder m held. let bad : false ≡ true = sym (empty.holds holder m) ∙ held in cc;
  live = λ m takes. let bad : false ≡ true = sym (ap takes_references (empty.states m)) ∙ takes in cc;
  absent = λ m away there. subst (λ (es : List Event). IsIn es m) rest.events there;
  acts = λ call. subst (λ (a : Act). Fits table hands call a) (sym (rest.acts call)) tt;
  promised = λ holder m promised. absurd (subst (λ (es : List Event). IsPromised es holder m) rest.events promised);
  stays = subst (λ (es : List Event). StaysWhileHeld es) (sym rest.events) tt;
}

begun_ready : (call : Call) (table : TableView) (hands : HandsView) (i : ℕ) → IsAtRest hands → call.state ≡ Begins → call.locked.items ≡ [] → Knows i call table hands
begun_ready call table hands i rest begins none = subst (λ (s : State). KnowsIn s i call table hands) (sym begins)
    (record { locks = λ k d lt. absurd (within k (subst (λ (slots : List ℕ). k < length slots) none lt)); idle = rest.acts i })
  where
    within : (k : ℕ) → k < 0 → ⊥
    within k lt = omega (arith, lt)

begun_knows : (asked : Asked) (call : Call) (table : TableView) (hands : HandsView) (i : ℕ) → IsAtRest hands → IsBegun asked call → Knows i call table hands
begun_knows (Get holder modules plan) call table hands i rest begun = begun_ready call table hands i rest begun.begins begun.none
begun_knows (Put holder modules) call table hands i rest begun = begun_ready call table hands i rest begun.begins begun.none
begun_knows (Remove plan) call table hands i rest begun = begun_ready call table hands i rest begun.begins begun.none

-- calls that have made no turn know what they need
pub all_know_at_first : (asked : List Asked) (calls : List Call) (table : TableView) (hands : HandsView) → IsAtRest hands → AreBegun asked calls → AllKnow calls table hands
all_know_at_first [] calls table hands rest begun i none within = let empty : length calls ≡ 0 = begun.len in absurd (omega (arith, within, empty))
all_know_at_first (first ∷ later) calls table hands rest begun i none within =
    begun_knows (get_or (first ∷ later) i first) (get_or calls i none) table hands i rest (begun.each i first none (subst (λ (n : ℕ). i < n) begun.len within))

chosen_length : (choice : Choice) (old new : List Call) → IsChosen choice old new → length new ≡ length old
chosen_length (Next number) old new chosen = chosen.len
chosen_length (Cut number) old new chosen = chosen.len
chosen_length (Ends number) old new chosen = ap length chosen

-- no call comes or goes
pub made_length : (old new : List Call) (choices : List Choice) → AreMade old choices new → length new ≡ length old
made_length old new [] made = ap length made
made_length old new (choice ∷ later) (next, chosen, made) = made_length next new later made ∙ chosen_length choice old next chosen

-- a whole vector was written
pub written_back : {X : Type 0} (old new : List X) (len : ℕ) → len ≡ length old → length new ≡ length old → take len (new ++ drop (length new) old) ≡ new
written_back old new len is same =
    ap (λ l. take len (new ++ l)) (drop_of_length-le old (omega (arith, same))) ∙ (ap (take len) (append-nil new) ∙ take_all len new (omega (arith, is, same)))
