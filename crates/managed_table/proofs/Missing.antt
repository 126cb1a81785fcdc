-- A lock that was found taken, once and again.
use Rattle.std.proofs.Common.{◌≡◌, ℕ, zero, suc, ◌+◌, List, [], ◌∷◌, ◌++◌, Some, MatchBool, Bool, sym, ap, ◌∙◌, subst, replicate, arith}
use Rattle.atomic_table.specs.Table.{Me}
use Rattle.atomic_table.specs.Seated.{TableId}
use Rattle.atomic_table.specs.declared.shared.Seat.{Seat}
use Rattle.dep_index.specs.declared.table.calls.Call.{Call}
use Rattle.dep_index.specs.declared.table.calls.Reply.{Reply}
use Rattle.root_row.specs.Seats.{RowIs, Seated}
use Rattle.root_row.specs.History.{SeatName}
use Rattle.managed_table.specs.declared.view.Pass.{Pass}
use Rattle.managed_table.specs.declared.view.Passes.{Passes}
use Rattle.managed_table.specs.Kept.{seen}
use Rattle.managed_table.specs.Turns.{turn, taken, alone, pass_of, with_taken, with_turns, with_missed, with_misses, HasTaken, IsSame, Misses, MadeOneCall}
use Rattle.managed_table.specs.Passes.{IsFree}

-- n times, and then k times more
again : (lock n k : ℕ) (locks : List ℕ) → replicate k lock ++ (replicate n lock ++ locks) ≡ replicate (n + k) lock ++ locks
again lock n zero locks = let none : n ≡ n + 0 = omega arith in ap (λ i. replicate i lock ++ locks) none
again lock n (suc k) locks = let one : suc (n + k) ≡ n + suc k = omega arith in ap (λ l. lock ∷ l) (again lock n k locks) ∙ ap (λ i. replicate i lock ++ locks) one

missed_again : (p : Pass) (lock n k : ℕ) → with_misses (with_misses p lock n) lock k ≡ with_misses p lock (n + k)
missed_again p lock n k = ap (with_missed p) (again lock n k p.missed)

-- the call was made at a later try
pub made_later : (row : RowIs) (lock n : ℕ) (by : SeatName) (call : Call) (reply : Reply) (old between new : Pass) → between ≡ with_misses old lock n → MadeOneCall row lock by call reply between new → MadeOneCall row lock by call reply old new
made_later row lock n by call reply old between new misses made =
    let later = subst (λ (p : Pass). MadeOneCall row lock by call reply p new) misses made in record {
      missed = n + later.missed;
      before = later.before;
      between = later.between;
      after = later.after;
      steps = later.steps;
      turned = later.turned ∙ ap (λ (p : Pass). with_turns p (turn lock later.before later.after later.steps ∷ [])) (missed_again old lock n later.missed);
      ends = later.ends;
      legal = later.legal;
      own = later.own;
      follows = later.follows;
    }

module _ {T : Type 0} where
  pub misses_again : (lock n k : ℕ) (me me1 me2 : Me T Passes) → Misses lock n me me1 → Misses lock k me1 me2 → Misses lock (n + k) me me2
  misses_again lock n k me me1 me2 first then = (
    then.0 ∙ ap (λ (p : Pass). alone (with_misses p lock k)) (ap pass_of first.0) ∙ ap alone (missed_again (pass_of me.0) lock n k),
    then.1 ∙ first.1,
  )

  -- the lock was taken at a later try
  pub took_later : (fits : RowIs → ℕ → T → Type 0) (shown : T → Seated) (lock n : ℕ) (me me1 me2 : Me T Passes) → Misses lock n me me1 → HasTaken fits shown lock [] (pass_of me1.0) me2 → HasTaken fits shown lock [] (pass_of me.0) me2
  took_later fits shown lock n me me1 me2 misses took =
      let later = subst (λ (p : Pass). HasTaken fits shown lock [] p me2) (ap pass_of misses.0) took in record {
        value = later.value;
        missed = n + later.missed;
        steps = later.steps;
        view = later.view ∙ ap (λ (p : Pass). alone (with_taken p (Some (taken lock (seen (shown later.value)) later.steps)))) (missed_again (pass_of me.0) lock n later.missed);
        steps_are = later.steps_are;
        hand = later.hand;
        fit = later.fit;
        follows = later.follows;
      }

  -- a try after a look that found the lock free
  pub tried_then : (fits : RowIs → ℕ → T → Type 0) (shown : T → Seated) (lock : ℕ) (me me1 me2 : Me T Passes) (took : Bool) → IsSame me me1
      → MatchBool took (HasTaken fits shown lock [] (pass_of me1.0) me2) (Misses lock 1 me1 me2) → MatchBool took (HasTaken fits shown lock [] (pass_of me.0) me2) (Misses lock 1 me me2)
  tried_then fits shown lock me me1 me2 took same = subst (λ (m : Me T Passes). MatchBool took (HasTaken fits shown lock [] (pass_of m.0) me2) (Misses lock 1 m me2)) (λ i. (same.0 i, same.1 i))

  -- the pass has no lock, as before
  pub still_free : (id : TableId) (row : RowIs) (lock n : ℕ) (seat seat' : Seat T Passes) → IsFree id row seat → seat'.table_id ≡ seat.table_id → Misses lock n seat.me seat'.me → IsFree id row seat'
  still_free id row lock n seat seat' free same misses =
      let pass = ap pass_of misses.0 in (
        same ∙ free.0,
        ap (λ (p : Pass). p.row.value) pass ∙ free.1,
        (misses.0 ∙ ap alone (sym pass), ap (λ (p : Pass). p.taken) pass ∙ free.2.1, misses.1 ∙ free.2.2),
      )
