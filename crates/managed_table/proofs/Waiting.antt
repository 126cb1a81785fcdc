-- A get that waits for the lock of its leaf, which may give it up.
use Rattle.std.proofs.Common.{◌≡◌, ℕ, Option, Some, None, IfSome, MatchOption}
use Rattle.dep_index.specs.declared.table.calls.Reply.{Reply}
use Rattle.root_row.specs.declared.calls.LeafCall.TheVariants.{Get}
use Rattle.root_row.specs.Seats.{Seated, IsOf, KnowsTable}
use Rattle.root_row.specs.Views.{count_of}
use Rattle.root_row.specs.Steps.{LeafAnswered}
use Rattle.managed_table.specs.Tries.{GaveUp, AnsweredWithin}
use Rattle.managed_table.specs.Callers.{ManagedIs, CallerIs, IsCallerOf, IsInside, IsOutside, LeafTurned}
use Rattle.managed_table.specs.Attempts.{Ended, GetGivenUp, GetDid, attempt_of, missed_or}
use Rattle.managed_table.proofs.Trying.{given_up, got_so}

module _ {R : Type 0} (table : ManagedIs) (before after : CallerIs) (own : IsCallerOf table before) (worker slot tries : ℕ) (Did : Option R → Seated → Seated → Type 0)
    (gave : (x y : Seated) → Did None x y → KnowsTable x.view × (y.view ≡ x.view) × (count_of x.view slot ≡ 0) × GaveUp tries slot x y) (reply : R → Reply)
    (did : (r : R) (x y : Seated) → Did (Some r) x y → IsOf table.row y × LeafAnswered x.view slot Get (reply r) y.view × AnsweredWithin tries slot (reply r) x y)
    (book : after.book ≡ before.book) where
  pub got_waiting : (o : Option (Option R)) → MatchOption o (IsOutside table worker slot × (after ≡ before)) (λ _. IsInside table worker slot)
      → IfSome o (λ r. LeafTurned worker (Did r) before after)
      → Ended (IsOutside table worker slot) (IsInside table worker slot) ⊥ (GetGivenUp worker slot tries before after) (λ r. GetDid worker slot tries before after (reply r)) before (missed_or (attempt_of o)) after
  got_waiting None range turned = range
  got_waiting (Some None) range turned = (range, given_up table before after own worker slot tries Did gave (turned, book))
  got_waiting (Some (Some r)) range turned = (range, got_so table before after own worker slot tries Did gave reply did r (turned, book))
