-- After a hold that is done its holder holds each of its modules.
use Rattle.std.proofs.Common.{◌≡◌, ℕ, ◌+◌, ◌<◌, ◌≤◌, inl, inr, Bool, true, false, ◌||◌, eqb, ltb, cond, List, [], ◌∷◌, ◌++◌, length, get_or, Some, None, refl, sym, ap, ◌∙◌, arith}
use Rattle.std.proofs.Math.ListN.{replicate}
use Rattle.std.specs.List.{filter, All}
use Rattle.std.proofs.lemmas.Bool.{cases_lt, cases_order, ltb-true, eqb-false, or_parts}
use Rattle.std.proofs.lemmas.List.{length-replicate, length_push, get_or_push, get_or_append_left, get_or_past}
use Rattle.std.proofs.lemmas.List.Elements.{All-nil, All-cons, All-head, All-tail}
use Rattle.dep_index.specs.Table.{Table, count_of}
use Rattle.dep_index.specs.Laws.{IsShaped}
use Rattle.modprobe.specs.Setup.{Setup}
use Rattle.modprobe.specs.Refusals.{Refusal}
use Rattle.modprobe.specs.Outcomes.{Outcome, says, refuses, refused}
use Rattle.modprobe.specs.declared.refusal.Code.TheVariants.{Worker}
use Rattle.modprobe.specs.Changes.{Change}
use Rattle.held_table.specs.Held.{Held, number_of, is_there_or_full, with_holder, entered}
use Rattle.held_lines.specs.Held.{holding}
use Rattle.held_lines.specs.Holds.{to_take, gets}
use Rattle.held_lines.specs.Outcomes.{unless_refused, hold_change, first_name}
use Rattle.held_lines.specs.Laws.{IsOver, HoldsAll}
use Rattle.held_lines.proofs.HoldLemmas.{gets_hold}

-- What holds of those that pass, and of those that do not, holds of all.
all_from_filter : (P : ℕ → Type 0) (p : ℕ → Bool) (xs : List ℕ) → All P (filter p xs) → ((x : ℕ) → p x ≡ false → P x) → All P xs
all_from_filter P p [] passed other = All-nil P
all_from_filter P p (x ∷ xs) passed other = at (p x) refl passed (λ all. all_from_filter P p xs all other) where
  at : (b : Bool) → p x ≡ b → All P (cond b (x ∷ filter p xs) (filter p xs)) → (All P (filter p xs) → All P xs) → All P (x ∷ xs)
  at true e all next = All-cons P x xs (All-head P x (filter p xs) all) (next (All-tail P x (filter p xs) all))
  at false e all next = All-cons P x xs (other x e) (next all)

filter_all : (P : ℕ → Type 0) (p : ℕ → Bool) (xs : List ℕ) → All P xs → All P (filter p xs)
filter_all P p [] all = All-nil P
filter_all P p (x ∷ xs) all = at (p x) (filter_all P p xs (All-tail P x xs all)) where
  at : (b : Bool) → All P (filter p xs) → All P (cond b (x ∷ filter p xs) (filter p xs))
  at true rest = All-cons P x (filter p xs) (All-head P x xs all) rest
  at false rest = rest

-- the table with a row more has its shape
row_more : (slots : ℕ) (t : Table) (row : List ℕ) → length row ≡ slots → IsShaped slots (length t.rows) t
    → IsShaped slots (length (t.rows ++ row ∷ [])) (record { book = t.book; rows = t.rows ++ row ∷ [] })
row_more slots t row long shape =
    let more : length (t.rows ++ row ∷ []) ≡ length t.rows + 1 = length_push t.rows row in
    record {
      states = shape.states;
      rows = refl;
      row = λ w below.
          elim (cases_order w (length t.rows)) [
            | inl same ↦ ap length (get_or_push t.rows row [] w (sym same)) ∙ long
            | inr (inl less) ↦ ap length (get_or_append_left t.rows (row ∷ []) [] w less) ∙ shape.row w less
            | inr (inr past) ↦ absurd (omega arith)
          ];
    }

-- no count is less with a row more
counts_more : (rows : List (List ℕ)) (row : List ℕ) (w m : ℕ) → get_or (get_or rows w []) m 0 ≤ get_or (get_or (rows ++ row ∷ []) w []) m 0
counts_more rows row w m =
    elim (cases_lt w (length rows)) [
      | inl less ↦ rw (get_or_append_left rows (row ∷ []) [] w less) (omega arith)
      | inr past ↦ rw (get_or_past rows w [] past) (omega arith)
    ]

-- what stands before the gets of a hold
record Ready (s : Setup) (old : Table) (number : ℕ) (there : Table) : Type 0 where
  shape : IsShaped (length s.catalogue) (length there.rows) there
  counts : (m : ℕ) → count_of old number m ≤ count_of there number m

ready : (s : Setup) (h : Held) (holder : List ℕ) (number : ℕ) → IsOver s h → Ready s h.table number (entered h holder).table
ready s h holder number over = at (is_there_or_full h.names holder) where
  at : (b : Bool) → Ready s h.table number (cond b h (with_holder h holder)).table
  at true = record { shape = over.shape; counts = λ m. omega arith }
  at false =
      let row : List ℕ = replicate (length h.table.book.states) 0 in
      record {
        shape = row_more (length s.catalogue) h.table row (length-replicate (length h.table.book.states) 0 ∙ over.shape.states) over.shape;
        counts = λ m. counts_more h.table.rows row number m;
      }

refuses_nothing : (r : Refusal) (text : List ℕ) → refuses r ≡ says text → ⊥
refuses_nothing r text e = cc

hold_all : (s : Setup) (old there u : Table) (number : ℕ) (again : Bool) (slots : List ℕ) → Ready s old number there → number < length there.rows
    → All (λ (m : ℕ). m < length s.catalogue) slots → gets s number (to_take again number old slots) there ≡ (None, u) → All (λ (m : ℕ). 0 < count_of u number m) slots
hold_all s old there u number again slots before below within e =
    let p : ℕ → Bool = λ slot. again || eqb (count_of old number slot) 0 in
    let taken = to_take again number old slots in
    let held = gets_hold (length s.catalogue) (length there.rows) s number taken there u before.shape below (filter_all (λ (m : ℕ). m < length s.catalogue) p slots within) e in
    all_from_filter (λ (m : ℕ). 0 < count_of u number m) p slots held.held
    (λ slot not_taken.
    let some : count_of old number slot ≡ 0 → ⊥ = eqb-false (count_of old number slot) 0 (or_parts again (eqb (count_of old number slot) 0) not_taken).1 in
    omega (arith, some, before.counts slot, held.grows.counts slot))

at_hold : (s : Setup) (h there new : Held) (number : ℕ) (again : Bool) (slots text : List ℕ) (b : Bool) (c : Change) → Ready s h.table number there.table
    → ltb number (length there.table.rows) ≡ b → All (λ (m : ℕ). m < length s.catalogue) slots → gets s number (to_take again number h.table slots) there.table ≡ c
    → cond b (unless_refused h (λ t. holding t there.names) (hold_change s slots c)) (refused Worker (first_name s slots), h) ≡ (says text, new)
    → All (λ (m : ℕ). 0 < count_of new.table number m) slots
at_hold s h there new number again slots text true (None, u) before below within is e =
    let same : new ≡ holding u there.names = sym (ap (λ (x : Outcome × Held). x.1) e) in
    rw same (hold_all s h.table there.table u number again slots before (ltb-true _ _ below) within is)
at_hold s h there new number again slots text true (Some r, u) before below within is e = absurd (refuses_nothing r text (ap (λ (x : Outcome × Held). x.0) e))
at_hold s h there new number again slots text false c before below within is e =
    absurd (refuses_nothing (record { code = Worker; name = first_name s slots }) text (ap (λ (x : Outcome × Held). x.0) e))

pub holds_all : HoldsAll
holds_all = λ s h new holder again slots text over within e.
    at_hold s h (entered h holder) new (number_of h.names holder) again slots text (ltb (number_of h.names holder) (length (entered h holder).table.rows))
    (gets s (number_of h.names holder) (to_take again (number_of h.names holder) h.table slots) (entered h holder).table)
    (ready s h holder (number_of h.names holder) over) refl within refl e
