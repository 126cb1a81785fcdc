-- Which slots an exact order has, and which of them are users.
use Rattle.std.proofs.Common.{◌≡◌, ℕ, ◌+◌, ◌<◌, ◌≤◌, ◌↔◌, ◌⊎◌, Bool, true, false, not, ◌&&◌, cond, eqb, List, [], ◌∷◌, length, get_or, filter, count_by, Contains, IsTrue, refl, sym, ◌∙◌, ap, subst, arith, inl, inr}
use Rattle.std.proofs.lemmas.Bool.{cases_lt, eqb-true, eq-eqb, false≢true}
use Rattle.std.proofs.lemmas.List.{get_or_past}
use Rattle.std.proofs.lemmas.List.Sums.{get_or-le-sum_by, length-filter, count_by-le-length}
use Rattle.std.proofs.lemmas.List.Elements.{All-contains, All-filter, All-contains_itself, filter_passes, Contains-append_right}
use Rattle.dep_index.specs.declared.table.states.ModuleState.TheVariants.{Absent}
use Rattle.dep_index.specs.Table.{Module, Book, state_of, is_absent, needs_slot, users}
use Rattle.dep_index.specs.Laws.{OrderIsExact}
use Rattle.dep_index.proofs.Lists.{count_by-cons}
use Rattle.dep_index.proofs.Room.{order_fits}

counted : (xs : List ℕ) (u : ℕ) → Contains xs u → 0 < count_by (λ s. eqb s u) xs
counted xs u (k, below, is) =
    subst (λ (n : ℕ). n ≤ count_by (λ s. eqb s u) xs) (ap one (eq-eqb (get_or xs k u) u is))
    (get_or-le-sum_by (λ s. one (eqb s u)) xs k u below) where
      one : Bool → ℕ
      one b = cond b 1 0

found_first : (x u : ℕ) (xs : List ℕ) → x ≡ u → Contains (x ∷ xs) u
found_first x u xs is = (0, omega arith, is)

-- what is counted and passes the test is kept by the filter
kept_by : (p : ℕ → Bool) (u : ℕ) → p u ≡ true → (xs : List ℕ) → 0 < count_by (λ s. eqb s u) xs → Contains (filter p xs) u
kept_by p u passes [] some = absurd (omega (arith, some))
kept_by p u passes (x ∷ xs) some = at (eqb x u) refl (p x) refl (count_by-cons (λ s. eqb s u) x xs) (kept_by p u passes xs) where
  at : (b : Bool) → eqb x u ≡ b → (c : Bool) → p x ≡ c
      → count_by (λ s. eqb s u) (x ∷ xs) ≡ cond (eqb x u) 1 0 + count_by (λ s. eqb s u) xs
      → (0 < count_by (λ s. eqb s u) xs → Contains (filter p xs) u) → Contains (filter p (x ∷ xs)) u
  at true is c tested count rest =
      let same : x ≡ u = eqb-true x u is in
      let taken : p x ≡ true = ap p same ∙ passes in
      rw taken (found_first x u (filter p xs) same)
  at false is true tested count rest =
      let count' : count_by (λ s. eqb s u) (x ∷ xs) ≡ 0 + count_by (λ s. eqb s u) xs = count ∙ ap (λ (b : Bool). cond b 1 0 + count_by (λ s. eqb s u) xs) is in
      rw tested (Contains-append_right (x ∷ []) (filter p xs) u (rest (omega (arith, count', some))))
  at false is false tested count rest =
      let count' : count_by (λ s. eqb s u) (x ∷ xs) ≡ 0 + count_by (λ s. eqb s u) xs = count ∙ ap (λ (b : Bool). cond b 1 0 + count_by (λ s. eqb s u) xs) is in
      rw tested (rest (omega (arith, count', some)))

absent_or_counted : (b : Bool) → 0 < cond b 0 1 → b ≡ false
absent_or_counted true h = absurd (omega (arith, h))
absent_or_counted false h = refl

-- a module of the order is not Absent
pub order_present : (book : Book) → OrderIsExact book → (u : ℕ) → Contains book.order u → is_absent (state_of book u) ≡ false
order_present book exact u has =
    absent_or_counted (is_absent (state_of book u)) (subst (λ (n : ℕ). 0 < n) (exact u) (counted book.order u has))

-- a module of the order is a slot
pub order_slot : (book : Book) → OrderIsExact book → (u : ℕ) → Contains book.order u → u < length book.states
order_slot book exact u has = at (cases_lt u (length book.states)) where
  at : (u < length book.states) ⊎ (length book.states ≤ u) → u < length book.states
  at (inl h) = h
  at (inr h) =
      let gone : is_absent (state_of book u) ≡ true = rw (get_or_past book.states u Absent h) refl in
      absurd (false≢true (sym (order_present book exact u has) ∙ gone))

from_filter : (p : ℕ → Bool) (xs : List ℕ) (u : ℕ) → Contains (filter p xs) u → Contains xs u
from_filter p xs u has = All-contains (Contains xs) (filter p xs) u (All-filter p (Contains xs) xs (All-contains_itself xs)) has

-- a user is in the table, and needs the module
pub user_tells : (catalogue : List Module) (book : Book) (u m : ℕ) (told : Bool) → OrderIsExact book
    → told ≡ (not (is_absent (state_of book u)) && needs_slot catalogue m u)
    → IsTrue told ↔ Contains (users catalogue book m) u
user_tells catalogue book u m told exact is = at (is_absent (state_of book u)) refl (needs_slot catalogue m u) refl where
  at : (b : Bool) → is_absent (state_of book u) ≡ b → (c : Bool) → needs_slot catalogue m u ≡ c → IsTrue told ↔ Contains (users catalogue book m) u
  at true absent c needs =
      let no : told ≡ false = is ∙ rw absent refl in (
        λ yes. absurd (false≢true (sym no ∙ yes)),
        λ has. absurd (false≢true (sym (order_present book exact u (from_filter (needs_slot catalogue m) book.order u has)) ∙ absent)),
      )
  at false absent true needs =
      let yes : told ≡ true = is ∙ rw (absent, needs) refl in
      (λ _. kept_by (needs_slot catalogue m) u needs book.order (subst (λ (n : ℕ). 0 < n) (sym (exact u)) (rw absent (omega arith))), λ _. yes)
  at false absent false needs =
      let no : told ≡ false = is ∙ rw (absent, needs) refl in (
        λ yes. absurd (false≢true (sym no ∙ yes)),
        λ has. absurd (false≢true (sym needs ∙ All-contains (λ s. needs_slot catalogue m s ≡ true) (users catalogue book m) u (filter_passes (needs_slot catalogue m) book.order) has)),
      )

-- of the modules of the order those are users that need the module
pub needs_tells : (catalogue : List Module) (book : Book) (u m : ℕ) (told : Bool) → OrderIsExact book
    → told ≡ (not (is_absent (state_of book u)) && needs_slot catalogue m u)
    → Contains book.order u → told ≡ needs_slot catalogue m u
needs_tells catalogue book u m told exact is has = is ∙ rw (order_present book exact u has) refl

-- no more users than modules of the table
pub users_fit : (catalogue : List Module) (book : Book) (m : ℕ) → OrderIsExact book → length (users catalogue book m) ≤ length book.states
users_fit catalogue book m exact =
    omega (arith, length-filter (needs_slot catalogue m) book.order, count_by-le-length (needs_slot catalogue m) book.order, order_fits book exact)
