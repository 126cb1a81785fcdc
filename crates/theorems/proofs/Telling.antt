-- Two managed calls, of which the second was told of the first.
use Rattle.std.proofs.Common.{◌≡◌, ◌⊎◌, ℕ, List, [], ◌∷◌, ◌++◌, length, refl, sym, ap, ◌∙◌, subst, append_assoc}
use Rattle.std.proofs.lemmas.List.{map-append}
use mathlib.Core.Option.{some}
use lib.ListN.{get_elem?}
use Rattle.atomic_table.proofs.Lists.{at_last}
use Rattle.dep_index.specs.declared.table.calls.Call.{Call}
use Rattle.dep_index.specs.declared.table.calls.Call.TheVariants.{Get, BeginDrain, BeginRemove, EndRemove}
use Rattle.dep_index.specs.declared.table.calls.Reply.{Reply}
use Rattle.dep_index.specs.History.{Answer}
use Rattle.root_row.specs.declared.view.SeatAnswer.{SeatAnswer}
use Rattle.root_row.specs.declared.view.View.{View}
use Rattle.root_row.specs.Seats.{RowIs}
use Rattle.root_row.specs.Views.{name_of, part_of, seen_of}
use Rattle.root_row.specs.History.{answer_of, answers_in, own_answers, seat_answer, StartsWith}
use Rattle.managed_table.specs.Callers.{CallerIs}
use Rattle.managed_table.specs.Turns.{turn}
use Rattle.managed_table.proofs.Keeping.{starts_trans}
use Rattle.theorems.specs.Managed.{seat_for, lock_of, elsewhere, turns_of, WasMadeOnce}
use Rattle.theorems.specs.Told.{MadeNone, AskedNothing, MadeAndTold, HeardAndMade, WereMadeInOrder, FindsItGone, MetAt}

module _ (row : RowIs) (call : Call) (old new : CallerIs) (reader reader' : View) (met : MetAt row call old new reader reader') (other : elsewhere (seat_for call) new ≡ elsewhere (seat_for call) old) where
  made_none : MadeNone call old new
  made_none = record { missed = met.missed; turn = turn (lock_of (seat_for call)) met.before met.after met.steps; turned = met.turned; there = refl; elsewhere = other; none = met.own }

  -- the call before the meeting is told
  pub made_and_told : (reply : Reply) (first : CallerIs) → WasMadeOnce row call reply first old → MadeAndTold row call reply first new reader reader'
  made_and_told reply first made =
      let place = length (turns_of call first) in
      let t = turn (lock_of (seat_for call)) made.before made.after made.steps in
      let there : get_elem? (turns_of call old) place ≡ some t = ap (λ p. get_elem? p.turns place) made.turned ∙ at_last (turns_of call first) t place refl in record {
        between = old;
        made = made;
        meeting = made_none;
        told = subst (λ l. StartsWith l made.after) (sym met.told) (starts_trans met.after met.before made.after met.begins (met.follows place t there refl));
        kept = subst (λ l. StartsWith l (seen_of reader)) (sym met.told) met.tells;
      }

  -- and the call after it comes after what the reader had seen
  pub heard_and_made : (reply : Reply) (last : CallerIs) → WasMadeOnce row call reply new last → HeardAndMade row call reply old last reader
  heard_and_made reply last made =
      let place = length (turns_of call old) in
      let t = turn (lock_of (seat_for call)) met.before met.after met.steps in
      let there : get_elem? (turns_of call new) place ≡ some t = ap (λ p. get_elem? p.turns place) met.turned ∙ at_last (turns_of call old) t place refl in record {
        between = new;
        meeting = made_none;
        made = made;
        heard = starts_trans made.before met.after (seen_of reader) (made.follows place t there refl) met.tells;
      }

-- a reader that met a seat has asked nothing
pub met_asks_nothing : (row : RowIs) (call : Call) (old new : CallerIs) (reader reader' : View) → MetAt row call old new reader reader' → AskedNothing reader reader'
met_asks_nothing row call old new reader reader' met =
    (met.same_reader, ap (own_answers (name_of (part_of reader))) met.told ∙ met.reader_own)

pub asks_nothing_twice : (first second third : View) → AskedNothing first second → AskedNothing second third → AskedNothing first third
asks_nothing_twice first second third one other =
    (other.0 ∙ one.0, subst (λ p. own_answers (name_of p) (seen_of third) ≡ own_answers (name_of p) (seen_of second)) one.0 other.1 ∙ one.1)

pub in_order : (row : RowIs) (first : Call) (reply : Reply) (old new : CallerIs) (second : Call) (reply' : Reply) (old' new' : CallerIs) (reader reader' : View)
    → MadeAndTold row first reply old new reader reader' → HeardAndMade row second reply' old' new' reader' → WereMadeInOrder row first reply old new second reply' old' new'
in_order row first reply old new second reply' old' new' reader reader' one other =
    let rest = starts_trans other.made.before (seen_of reader') one.made.after other.heard one.told in
    let last = seat_answer (seat_for second) second reply' ∷ [] in record {
      told = one.between;
      one = one.made;
      telling = one.meeting;
      heard = other.between;
      hearing = other.meeting;
      other = other.made;
      since = rest.0 ++ other.made.others;
      order = other.made.ends ∙ ap (λ l. (l ++ other.made.others) ++ last) rest.1 ∙ ap (λ l. l ++ last) (append_assoc one.made.after rest.0 other.made.others);
    }

answers_more : (l m : List SeatAnswer) → answers_in (l ++ m) ≡ answers_in l ++ answers_in m
answers_more l m = map-append answer_of l m

pub finds_it_gone : (row : RowIs) (removal : Call) (slot worker : ℕ) (reply get : Reply) (old new old' new' : CallerIs) → (removal ≡ BeginRemove slot) ⊎ ((removal ≡ EndRemove slot) ⊎ (removal ≡ BeginDrain slot))
    → WereMadeInOrder row removal reply old new (Get worker slot) get old' new' → FindsItGone row removal slot worker reply get old new old' new'
finds_it_gone row removal slot worker reply get old new old' new' removes t done =
    (t, λ not_again. t.other.none_after before (since ++ last ∷ []) since [] (record { call = removal; reply = reply }) last slot worker is removes done refl not_again refl)
  where
    before : List Answer
    before = answers_in (t.one.before ++ t.one.others)

    since : List Answer
    since = answers_in t.since

    last : Answer
    last = record { call = Get worker slot; reply = get }

    removed : List Answer
    removed = record { call = removal; reply = reply } ∷ []

    is : answers_in t.other.after ≡ before ++ (removed ++ (since ++ last ∷ []))
    is = ap answers_in t.order ∙ answers_more (t.one.after ++ t.since) _ ∙ ap (λ l. l ++ last ∷ []) (answers_more t.one.after t.since ∙ ap (λ l. l ++ since) (ap answers_in t.one.ends ∙ answers_more (t.one.before ++ t.one.others) _))
        ∙ append_assoc (before ++ removed) since (last ∷ []) ∙ append_assoc before removed (since ++ last ∷ [])
