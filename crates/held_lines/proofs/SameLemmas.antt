-- Two tables whose modules have the same states: a holder that holds the same of the modules in them has the same row.
use Rattle.std.proofs.Common.{◌≡◌, inl, inr, ◌⊎◌, arith, sym, ◌∙◌, subst, ℕ, suc, ◌<◌, ◌≤◌, ◌==◌, true, false, List, [], ◌∷◌, length, get_or}
use Rattle.std.specs.Prelude.{count_by}
use Rattle.std.proofs.lemmas.Bool.{cases_Bool, cases_lt}
use Rattle.std.proofs.lemmas.Bool.Decides.{Decides-eqb}
use Rattle.std.proofs.lemmas.List.{ext_get_or}
use Rattle.dep_index.specs.declared.table.states.ModuleState.{ModuleState}
use Rattle.dep_index.specs.declared.table.states.ModuleState.TheVariants.{Absent, Loading, Live, Draining, Unloading}
use Rattle.dep_index.specs.Table.{Module, Table, state_of, count_of, is_absent, takes_references}
use Rattle.dep_index.specs.Laws.{IsShaped, IsLawful}

counted_by : (m x : ℕ) (xs : List ℕ) → (0 < count_by (λ s. s == m) xs → (p : ℕ) × (p < length xs) × (get_or xs p 0 ≡ m)) → 0 < count_by (λ s. s == m) (x ∷ xs)
    → ((x == m) ≡ true) ⊎ ((x == m) ≡ false) → (p : ℕ) × (p < length (x ∷ xs)) × (get_or (x ∷ xs) p 0 ≡ m)
counted_by m x xs later some (inl same) = (0, omega arith, (Decides-eqb x m).0 same)
counted_by m x xs later some (inr other) =
    let at = later (grind (arith, some, other)) in
    (suc at.0, omega (arith, at.1), at.2)

-- what is counted has a place
counted_at : (m : ℕ) (xs : List ℕ) → 0 < count_by (λ s. s == m) xs → (p : ℕ) × (p < length xs) × (get_or xs p 0 ≡ m)
counted_at m [] some = absurd (omega (arith, some))
counted_at m (x ∷ xs) some = counted_by m x xs (λ more. counted_at m xs more) some (cases_Bool (x == m))

absent_takes_none : (state : ModuleState) → is_absent state ≡ true → takes_references state ≡ false
absent_takes_none Absent absent = grind arith
absent_takes_none Loading absent = grind (arith, absent)
absent_takes_none Live absent = grind (arith, absent)
absent_takes_none Draining absent = grind (arith, absent)
absent_takes_none Unloading absent = grind (arith, absent)

-- nobody holds a module that is absent
none_absent : (catalogue : List Module) (t : Table) (number m : ℕ) → IsLawful catalogue t → is_absent (state_of t.book m) ≡ true → count_of t number m ≡ 0
none_absent catalogue t number m lawful absent = by (cases_lt 0 (count_of t number m)) where
  by : (0 < count_of t number m) ⊎ (count_of t number m ≤ 0) → count_of t number m ≡ 0
  by (inl some) = absurd (grind (arith, (lawful.pairs number m some).0, absent_takes_none (state_of t.book m) absent))
  by (inr none) = omega (arith, none)

-- a holder holds the same of all modules, if it does of those in the table
same_count : (catalogue : List Module) (t u : Table) (number : ℕ) → IsLawful catalogue t → IsLawful catalogue u → u.book ≡ t.book
    → ((p : ℕ) → p < length t.book.order → count_of u number (get_or t.book.order p 0) ≡ count_of t number (get_or t.book.order p 0))
    → (m : ℕ) → count_of u number m ≡ count_of t number m
same_count catalogue t u number lawful lawful_too book same m = by (cases_Bool (is_absent (state_of t.book m))) where
  by : (is_absent (state_of t.book m) ≡ true) ⊎ (is_absent (state_of t.book m) ≡ false) → count_of u number m ≡ count_of t number m
  by (inl absent) =
      none_absent catalogue u number m lawful_too (subst (λ b. is_absent (state_of b m) ≡ true) (sym book) absent)
      ∙ sym (none_absent catalogue t number m lawful absent)
  by (inr there) =
      let at = counted_at m t.book.order (grind (arith, lawful.order m, there)) in
      subst (λ k. count_of u number k ≡ count_of t number k) at.2 (same at.0 at.1)

pub same_row : (catalogue : List Module) (t u : Table) (number : ℕ) (slots workers others : ℕ) → IsShaped slots workers t → IsShaped slots others u → number < workers → number < others
    → IsLawful catalogue t → IsLawful catalogue u → u.book ≡ t.book
    → ((p : ℕ) → p < length t.book.order → count_of u number (get_or t.book.order p 0) ≡ count_of t number (get_or t.book.order p 0))
    → get_or u.rows number [] ≡ get_or t.rows number []
same_row catalogue t u number slots workers others shaped shaped_too below below_too lawful lawful_too book same =
    ext_get_or 0 (get_or u.rows number []) (get_or t.rows number []) (shaped_too.row number below_too ∙ sym (shaped.row number below))
    (λ m within. same_count catalogue t u number lawful lawful_too book same m)
