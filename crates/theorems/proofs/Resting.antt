-- The row at rest.
use Rattle.std.proofs.Common.{◌≡◌, ℕ, zero, suc, Bool, true, false, cond, List, [], ◌∷◌, Option, Some, None, refl, sym, ◌∙◌, ap, subst, arith, get_or}
use Rattle.std.proofs.Math.ListN.{replicate}
use Rattle.std.specs.Prelude.{◌==◌}
use Rattle.std.proofs.lemmas.List.{length-replicate}
use Rattle.std.proofs.lemmas.List.FromFn.{length-map-range_with_len, get_or-map-range_with_len}
use Rattle.dep_index.proofs.RunLaws.{replicated}
use Rattle.dep_index.specs.declared.table.calls.Call.TheVariants as call
use Rattle.dep_index.specs.declared.table.calls.Reply.{Reply}
use Rattle.dep_index.specs.Table.{Module, Table, count_of, state_of, is_draining}
use Rattle.dep_index.specs.Calls.{book_refusal, or_else}
use Rattle.dep_index.specs.Words.{word_step, word_of, unless_refused, book_step, takes_effect, close_step, drained, closed, get_look, put_step, is_open}
use Rattle.dep_index.specs.Laws.{IsLawful}
use Rattle.dep_index.specs.declared.words.WordStep.{WordStep}
use Rattle.dep_index.specs.declared.words.Outcome.TheVariants.{GoesOn}
use Rattle.dep_index.specs.declared.table.calls.Reply.TheVariants.{Done}
use Rattle.std.proofs.lemmas.Bool.{cond-false, cond-true, eq-eqb, false_from_ne_true}
use Rattle.root_row.specs.declared.view.World.{World}
use Rattle.root_row.specs.declared.calls.BookCall.{BookCall}
use Rattle.root_row.specs.declared.calls.BookCall.TheVariants as book_is
use Rattle.root_row.specs.World.{slots, place_of}
use Rattle.root_row.specs.History.{table_after}
use Rattle.root_row.specs.BookSteps.{book_call, book_look, unrefused_look}
use Rattle.root_row.proofs.Replay.{shaped_after, lawful_after}
use Rattle.step_core.specs.declared.steps.Activity.{Activity}
use Rattle.step_core.specs.Machine.{LockName, Leaf, TableLock, NoLock, holder}
use Rattle.step_core.specs.Shown.{shown, rows_after}
use Rattle.theorems.specs.Rungs.{at_rest, slot_words, RowsAreMachinesAtRest, LooksAreWordSteps, WritesAreWordSteps}

rows_rest : (threads : List (Option Activity)) (n : ℕ) (rs : List (List ℕ)) → rows_after threads (replicate n None) rs ≡ rs
rows_rest threads n [] = refl
rows_rest threads zero (r ∷ rs) = refl
rows_rest threads (suc n) (r ∷ rs) = ap (λ l. r ∷ l) (rows_rest threads n rs)

shown_rest : (t : Table) (workers : ℕ) (words : List ℕ) (threads invoked calls : ℕ) → shown (at_rest t workers words threads invoked calls) ≡ t
shown_rest t workers words threads invoked calls = ap (λ rs. record { book = t.book; rows = rs }) (rows_rest (replicate threads None) workers t.rows)

no_holder : (workers : ℕ) (name : LockName) → holder (record { leaves = replicate workers None; table = None }) name ≡ None
no_holder workers (Leaf w) = replicated workers w None
no_holder workers TableLock = refl
no_holder workers NoLock = refl

none_some : {A : Type 0} (o : Option A) (x : A) → o ≡ None → o ≡ Some x → ⊥
none_some None x a b = cc
none_some (Some y) x a b = cc

pub rows_rest_sound : RowsAreMachinesAtRest
rows_rest_sound world s threads invoked calls rule =
    let t : Table = table_after world rule.history in
    let words : List ℕ = slot_words world s.words in
    let is : shown (at_rest t world.workers words threads invoked calls) ≡ t = shown_rest t world.workers words threads invoked calls in (
      record {
        few = rule.few;
        shape = shaped_after world rule.history;
        words = length-map-range_with_len (λ m. get_or s.words (place_of m) 0) 0 (slots world);
        leaves = length-replicate world.workers None;
        inside = λ name t' e. absurd (none_some (holder (record { leaves = replicate world.workers None; table = None }) name) t' (no_holder world.workers name) e);
        placed = λ t' a e. absurd (none_some (get_or (replicate threads None) t' None) a (replicated threads t' None) e);
        word = λ m below. get_or-map-range_with_len (λ i. get_or s.words (place_of i) 0) 0 (slots world) m m 0 below (omega arith) ∙ rule.words m below ∙ ap (λ (u : Table). word_of u m) (sym is);
        lawful = subst (λ (u : Table). IsLawful world.catalogue u) (sym is) (lawful_after world rule.history rule.legal);
      },
      is,
    )

some_same : (word : ℕ) (r answer : Reply) → Some r ≡ Some answer → takes_effect word r ≡ takes_effect word answer
some_same word r answer e = let same : r ≡ answer = cc in ap (takes_effect word) same

refused_look : (o u : Option Reply) (word : ℕ) (step : WordStep) (answer : Reply) → (u ≡ Some answer → step ≡ takes_effect word answer)
    → or_else o u ≡ Some answer → unless_refused o word step ≡ takes_effect word answer
refused_look None u word step answer go e = go e
refused_look (Some r) u word step answer go e = some_same word r answer e

nothing_looked : (word : ℕ) (step : WordStep) (answer : Reply) → None ≡ Some answer → step ≡ takes_effect word answer
nothing_looked word step answer e = absurd (cc)

undrained : (m word : ℕ) (answer : Reply) (b : Bool) → cond b None (Some Done) ≡ Some answer → cond b (close_step drained word) (takes_effect word Done) ≡ takes_effect word answer
undrained m word answer true e = absurd (cc)
undrained m word answer false e = some_same word Done answer e

book_looked : (t : Table) (m word : ℕ) (kind : BookCall) (answer : Reply) → unrefused_look t.book kind m ≡ Some answer → book_step t.book (book_call kind m) word ≡ takes_effect word answer
book_looked t m word book_is.BeginLoad answer e = some_same word Done answer e
book_looked t m word (book_is.EndLoad true) answer e = absurd (cc)
book_looked t m word (book_is.EndLoad false) answer e = some_same word Done answer e
book_looked t m word book_is.BeginDrain answer e = absurd (cc)
book_looked t m word book_is.BeginRemove answer e = absurd (cc)
book_looked t m word book_is.EndRemove answer e = undrained m word answer (is_draining (state_of t.book m)) e
book_looked t m word book_is.CancelRemove answer e = absurd (cc)

book_word : (world : World) (t : Table) (m word : ℕ) (kind : BookCall) (answer : Reply) → book_look world t.book kind m ≡ Some answer
    → word_step world.catalogue t (book_call kind m) word ≡ takes_effect word answer
book_word world t m word book_is.BeginLoad answer e = refused_look (book_refusal world.catalogue t.book (call.BeginLoad m)) _ word (book_step t.book (call.BeginLoad m) word) answer (book_looked t m word book_is.BeginLoad answer) e
book_word world t m word (book_is.EndLoad ok) answer e = refused_look (book_refusal world.catalogue t.book (call.EndLoad m ok)) _ word (book_step t.book (call.EndLoad m ok) word) answer (book_looked t m word (book_is.EndLoad ok) answer) e
book_word world t m word book_is.BeginDrain answer e = refused_look (book_refusal world.catalogue t.book (call.BeginDrain m)) _ word (book_step t.book (call.BeginDrain m) word) answer (book_looked t m word book_is.BeginDrain answer) e
book_word world t m word book_is.BeginRemove answer e = refused_look (book_refusal world.catalogue t.book (call.BeginRemove m)) _ word (book_step t.book (call.BeginRemove m) word) answer (book_looked t m word book_is.BeginRemove answer) e
book_word world t m word book_is.EndRemove answer e = refused_look (book_refusal world.catalogue t.book (call.EndRemove m)) _ word (book_step t.book (call.EndRemove m) word) answer (book_looked t m word book_is.EndRemove answer) e
book_word world t m word book_is.CancelRemove answer e = refused_look (book_refusal world.catalogue t.book (call.CancelRemove m)) _ word (book_step t.book (call.CancelRemove m) word) answer (book_looked t m word book_is.CancelRemove answer) e

pub looks_rest : (world : World) (t : Table) (m found : ℕ) → LooksAreWordSteps world t m found
looks_rest world t m found =
    record {
      get = λ w. refl;
      put = λ w ne. cond-false _ _ _ (false_from_ne_true (count_of t w m == 1) ne);
      query = refl;
      book = λ kind answer e. book_word world t m found kind answer e;
    }

open_look : (found : ℕ) → is_open found ≡ true → get_look 0 found ≡ record { word = found; outcome = GoesOn found }
open_look found is = cond-true _ _ _ is

opened_word : (found : ℕ) → found ≡ closed → takes_effect (cond (found == closed) 0 found) Done ≡ takes_effect 0 Done
opened_word found is = ap (λ n. takes_effect n Done) (cond-true _ _ _ (eq-eqb found closed is))

pub writes_rest : (catalogue : List Module) (t : Table) (m found : ℕ) → WritesAreWordSteps catalogue t m found
writes_rest catalogue t m found =
    record {
      arrive = λ w none is. ap (λ n. get_look n found) none ∙ open_look found is;
      depart = λ w one. ap (λ n. put_step n found) one;
      drain = λ free. ap (λ o. unless_refused o found (book_step t.book (call.BeginDrain m) found)) free;
      close = λ free. ap (λ o. unless_refused o found (book_step t.book (call.BeginRemove m) found)) free;
      open_it = λ free is. ap (λ o. unless_refused o found (book_step t.book (call.EndLoad m true) found)) free ∙ opened_word found is;
      close_drained = λ free is. ap (λ o. unless_refused o found (book_step t.book (call.EndRemove m) found)) free ∙ cond-true _ _ _ is;
      undrain = λ free is. ap (λ o. unless_refused o found (book_step t.book (call.CancelRemove m) found)) free ∙ cond-true _ _ _ is;
      reopen = λ free still is. ap (λ o. unless_refused o found (book_step t.book (call.CancelRemove m) found)) free ∙ cond-false _ _ _ still ∙ opened_word found is;
    }
