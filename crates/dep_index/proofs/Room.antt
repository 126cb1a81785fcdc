-- The order of a lawful book has room for a slot that is Absent.
use Rattle.std.proofs.Common.{◌≡◌, ℕ, ◌+◌, ◌<◌, ◌≤◌, Bool, true, false, ◌||◌, ◌⊎◌, eqb, cond, not, List, [], ◌∷◌, length, length-append, length-set, Option, None, refl, sym, ◌∙◌, ap, subst, arith, inl, inr}
use Rattle.std.proofs.lemmas.Bool.Decides.{nat_tests}
use Rattle.std.proofs.lemmas.Bool.{cases_lt, eqb-true, eq-eqb, or_cases}
use Rattle.std.proofs.lemmas.List.{get_or_past}
use Rattle.std.proofs.lemmas.Map.Keys.{IsDistinct-cons}
use Rattle.std.proofs.lemmas.Map.Steps.{length-le_from_distinct_below}
use Rattle.std.specs.List.{count_by, list_any, IsDistinct, AllByRecursion}
use Rattle.dep_index.specs.declared.table.states.ModuleState.TheVariants.{Absent, Loading}
use Rattle.dep_index.specs.declared.table.calls.Call.TheVariants.{BeginLoad}
use Rattle.dep_index.specs.declared.table.calls.Reply.{Reply}
use Rattle.dep_index.specs.declared.table.calls.Reply.TheVariants.{Exists}
use Rattle.dep_index.specs.Table.{Module, Book, state_of, is_absent}
use Rattle.dep_index.specs.Calls.{refuse, book_refusal, book_effect}
use Rattle.dep_index.specs.Laws.{OrderIsExact}
use Rattle.dep_index.proofs.Lists.{count_by-cons}

none_counted : (x : ℕ) (ys : List ℕ) → count_by (λ s. eqb s x) ys ≡ 0 → AllByRecursion (λ y. eqb x y ≡ false) ys
none_counted x [] e = tt
none_counted x (y ∷ ys) e = at (eqb y x) refl (count_by-cons (λ s. eqb s x) y ys) (none_counted x ys) where
  at : (b : Bool) → eqb y x ≡ b → count_by (λ s. eqb s x) (y ∷ ys) ≡ cond (eqb y x) 1 0 + count_by (λ s. eqb s x) ys
      → (count_by (λ s. eqb s x) ys ≡ 0 → AllByRecursion (λ z. eqb x z ≡ false) ys) → AllByRecursion (λ z. eqb x z ≡ false) (y ∷ ys)
  at true t c rest = let c' : count_by (λ s. eqb s x) (y ∷ ys) ≡ 1 + count_by (λ s. eqb s x) ys = c ∙ ap (λ (b : Bool). cond b 1 0 + count_by (λ s. eqb s x) ys) t in absurd (omega (arith, c', e))
  at false t c rest =
      let c' : count_by (λ s. eqb s x) (y ∷ ys) ≡ 0 + count_by (λ s. eqb s x) ys = c ∙ ap (λ (b : Bool). cond b 1 0 + count_by (λ s. eqb s x) ys) t in
      let apart : eqb x y ≡ false = grind (arith, nat_tests) in
      (apart, rest (omega (arith, c', e)))

distinct_from_counts : (xs : List ℕ) → ((k : ℕ) → count_by (λ s. eqb s k) xs ≤ 1) → IsDistinct eqb xs
unfolding IsDistinct
distinct_from_counts [] once = tt
distinct_from_counts (x ∷ xs) once =
    let c : count_by (λ s. eqb s x) (x ∷ xs) ≡ cond (eqb x x) 1 0 + count_by (λ s. eqb s x) xs = count_by-cons (λ s. eqb s x) x xs in
    let self : eqb x x ≡ true = eq-eqb x x refl in
    let c' : count_by (λ s. eqb s x) (x ∷ xs) ≡ 1 + count_by (λ s. eqb s x) xs = c ∙ ap (λ (b : Bool). cond b 1 0 + count_by (λ s. eqb s x) xs) self in
    IsDistinct-cons eqb x xs (none_counted x xs (omega (arith, once x, c')))
    (distinct_from_counts xs (λ k. let d : count_by (λ s. eqb s k) (x ∷ xs) ≡ cond (eqb x k) 1 0 + count_by (λ s. eqb s k) xs = count_by-cons (λ s. eqb s k) x xs in omega (arith, once k, d)))

counted_from_any : (q : ℕ) (xs : List ℕ) → list_any (eqb q) xs ≡ true → 0 < count_by (λ s. eqb s q) xs
counted_from_any q [] e = cc
counted_from_any q (x ∷ xs) e = at (eqb x q) refl (count_by-cons (λ s. eqb s q) x xs) (counted_from_any q xs) where
  at : (b : Bool) → eqb x q ≡ b → count_by (λ s. eqb s q) (x ∷ xs) ≡ cond (eqb x q) 1 0 + count_by (λ s. eqb s q) xs
      → (list_any (eqb q) xs ≡ true → 0 < count_by (λ s. eqb s q) xs) → 0 < count_by (λ s. eqb s q) (x ∷ xs)
  at true t c rest = let c' : count_by (λ s. eqb s q) (x ∷ xs) ≡ 1 + count_by (λ s. eqb s q) xs = c ∙ ap (λ (b : Bool). cond b 1 0 + count_by (λ s. eqb s q) xs) t in omega (arith, c')
  at false t c rest =
      let c' : count_by (λ s. eqb s q) (x ∷ xs) ≡ 0 + count_by (λ s. eqb s q) xs = c ∙ ap (λ (b : Bool). cond b 1 0 + count_by (λ s. eqb s q) xs) t in
      let other : eqb q x ≡ false = grind (arith, nat_tests) in
      let later : (false || list_any (eqb q) xs) ≡ true = rw other at e in
      omega (arith, c', rest later)

at_most_one : (b : Bool) → cond b 0 1 ≤ 1
at_most_one true = omega arith
at_most_one false = omega arith

-- a slot of the order of an exact book is one of its slots
pub order_below : (book : Book) → OrderIsExact book → (q : ℕ) → list_any (eqb q) book.order ≡ true → q < length book.states
order_below book exact q e = at (cases_lt q (length book.states)) where
  at : (q < length book.states) ⊎ (length book.states ≤ q) → q < length book.states
  at (inl h) = h
  at (inr h) =
      let gone : state_of book q ≡ Absent = get_or_past book.states q Absent h in
      let none : count_by (λ s. eqb s q) book.order ≡ 0 = exact q ∙ rw gone refl in
      absurd (omega (arith, none, counted_from_any q book.order e))

-- an exact order is no longer than the list of states
pub order_fits : (book : Book) → OrderIsExact book → length book.order ≤ length book.states
order_fits book exact =
    length-le_from_distinct_below book.order (length book.states)
    (distinct_from_counts book.order (λ k. subst (λ (n : ℕ). n ≤ 1) (sym (exact k)) (at_most_one (is_absent (state_of book k)))))
    (order_below book exact)

-- a slot that is Absent is not in the order, so the order is shorter than the list of states
pub order_has_room : (book : Book) (m : ℕ) → OrderIsExact book → m < length book.states → is_absent (state_of book m) ≡ true → length book.order < length book.states
order_has_room book m exact room absent =
    let all : length (m ∷ book.order) ≤ length book.states = length-le_from_distinct_below (m ∷ book.order) (length book.states) distinct below in
    omega (arith, all) where
      distinct : IsDistinct eqb (m ∷ book.order)
      distinct = IsDistinct-cons eqb m book.order
          (none_counted m book.order (exact m ∙ rw absent refl))
          (distinct_from_counts book.order (λ k. subst (λ (n : ℕ). n ≤ 1) (sym (exact k)) (at_most_one (is_absent (state_of book k)))))

      below : (q : ℕ) → list_any (eqb q) (m ∷ book.order) ≡ true → q < length book.states
      below q e = at (or_cases (eqb q m) (list_any (eqb q) book.order) e) where
        at : (eqb q m ≡ true) ⊎ (list_any (eqb q) book.order ≡ true) → q < length book.states
        at (inl t) = let is : q ≡ m = eqb-true q m t in omega (arith, is, room)
        at (inr t) = order_below book exact q t

not_in_table : (b : Bool) (later : Option Reply) → refuse (not b) Exists later ≡ None → b ≡ true
not_in_table true later e = refl
not_in_table false later e = absurd (cc)

-- a load that the book does not refuse finds room
pub load_has_room : (catalogue : List Module) (book : Book) (m : ℕ) → OrderIsExact book → m < length book.states → book_refusal catalogue book (BeginLoad m) ≡ None
    → length book.order < length book.states
load_has_room catalogue book m exact room allowed = order_has_room book m exact room (not_in_table (is_absent (state_of book m)) _ allowed)

-- a load that makes an exact order found room
pub load_had_room : (book : Book) (m : ℕ) → OrderIsExact (book_effect book (BeginLoad m)) → length book.order < length book.states
load_had_room book m exact =
    omega (arith, order_fits (book_effect book (BeginLoad m)) exact, length-append book.order (m ∷ []), length-set book.states m Loading)
