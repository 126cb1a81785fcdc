-- The needs of a slot are slots, each once.
use Rattle.std.proofs.Common.{◌≡◌, ◌==◌, ◌<◌, ◌≤◌, ◌⊎◌, nat_eq, nat_lt, Bool, true, false, ◌||◌, cond, eqb, List, [], ◌∷◌, ◌++◌, length, get_or, take, Option, Some, None, All, refl, sym, ◌∙◌, ap, arith, ℕ, inl, inr, length-append}
use Rattle.std.specs.List.{list_any, position_or_len}
use Rattle.std.proofs.lemmas.List.{get_or_append_left, get_or_push, take-append-le, take_all}
use Rattle.std.proofs.lemmas.Bool.{cases_lt}
use Rattle.std.proofs.lemmas.Bool.Decides.{nat_tests}
use Rattle.std.proofs.lemmas.List.Elements.{All-nil, All-push}
use Rattle.dep_index.specs.Catalogue.{Description, description_at, exports_symbol, exporter, with_need, needs_from, needs_of}
use Rattle.proc_modules.specs.UserRows.{EachOnce}

either_way : (a b : ℕ) → eqb a b ≡ eqb b a
either_way a b = grind (arith, nat_tests)

turned : (k : ℕ) (xs : List ℕ) → list_any (λ n. n == k) xs ≡ list_any (nat_eq k) xs
turned k [] = refl
turned k (x ∷ xs) = at (eqb x k) (eqb k x) (either_way x k) (turned k xs) where
  at : (a b : Bool) → a ≡ b → list_any (λ n. n == k) xs ≡ list_any (nat_eq k) xs → (a || list_any (λ n. n == k) xs) ≡ (b || list_any (nat_eq k) xs)
  at true true e rest = refl
  at false false e rest = rest
  at true false e rest = cc
  at false true e rest = cc

once_push : (found : List ℕ) (k : ℕ) → EachOnce found → list_any (nat_eq k) found ≡ false → EachOnce (found ++ k ∷ [])
once_push found k once new j below = at (cases_lt j (length found)) where
  at : (j < length found) ⊎ (length found ≤ j) → list_any (λ n. n == get_or (found ++ k ∷ []) j 0) (take j (found ++ k ∷ [])) ≡ false
  at (inl h) =
      let read : get_or (found ++ k ∷ []) j 0 ≡ get_or found j 0 = get_or_append_left found (k ∷ []) 0 j h in
      let front : take j (found ++ k ∷ []) ≡ take j found = take-append-le j found (k ∷ []) (omega (arith, h)) in
      ap (λ (n : ℕ). list_any (λ x. x == n) (take j (found ++ k ∷ []))) read
      ∙ ap (λ (xs : List ℕ). list_any (λ x. x == get_or found j 0) xs) front
      ∙ once j h
  at (inr h) =
      let last : j ≡ length found = omega (arith, h, below, length-append found (k ∷ [])) in
      let read : get_or (found ++ k ∷ []) j 0 ≡ k = get_or_push found k 0 j (sym last) in
      let front : take j (found ++ k ∷ []) ≡ found = take-append-le j found (k ∷ []) (omega (arith, last)) ∙ take_all j found (omega (arith, last)) in
      ap (λ (n : ℕ). list_any (λ x. x == n) (take j (found ++ k ∷ []))) read
      ∙ ap (λ (xs : List ℕ). list_any (λ x. x == k) xs) front
      ∙ turned k found ∙ new

once_with : (slot : ℕ) (found : List ℕ) (k : Option ℕ) → EachOnce found → EachOnce (with_need slot found k)
once_with slot found None once = once
once_with slot found (Some k) once = at (k == slot) (list_any (nat_eq k) found) refl where
  at : (a b : Bool) → list_any (nat_eq k) found ≡ b → EachOnce (cond (a || b) found (found ++ k ∷ []))
  at true b e = once
  at false true e = once
  at false false e = once_push found k once e

pub needs_once : (modules : List Description) (slot : ℕ) → EachOnce (needs_of modules slot)
needs_once modules slot = from [] (description_at modules slot).needed_symbols (λ j below. absurd (omega (arith, below))) where
  from : (found : List ℕ) (ss : List (List ℕ)) → EachOnce found → EachOnce (needs_from modules slot found ss)
  from found [] once = once
  from found (s ∷ ss) once = from (with_need slot found (exporter modules s)) ss (once_with slot found (exporter modules s) once)

within_with : (limit slot : ℕ) (found : List ℕ) (k : Option ℕ) → ((n : ℕ) → k ≡ Some n → n < limit) → All (λ n. n < limit) found → All (λ n. n < limit) (with_need slot found k)
within_with limit slot found None small within = within
within_with limit slot found (Some k) small within = at (k == slot || list_any (nat_eq k) found) where
  at : (b : Bool) → All (λ n. n < limit) (cond b found (found ++ k ∷ []))
  at true = within
  at false = All-push (λ n. n < limit) found k within (small k refl)

at_most : (a b : ℕ) → nat_lt a b ≡ true → a < b
at_most a b e = grind (arith, nat_tests)

exporter_within : (modules : List Description) (s : List ℕ) (n : ℕ) → exporter modules s ≡ Some n → n < length modules
exporter_within modules s n e = at (nat_lt place (length modules)) refl e where
  place : ℕ
  place = position_or_len (exports_symbol s) modules

  at : (b : Bool) → nat_lt place (length modules) ≡ b → cond b (Some place) None ≡ Some n → n < length modules
  at true is found =
      let same : place ≡ n = cc in
      let below : place < length modules = at_most place (length modules) is in
      omega (arith, same, below)
  at false is found = cc

pub needs_within : (modules : List Description) (slot : ℕ) → All (λ n. n < length modules) (needs_of modules slot)
needs_within modules slot = from [] (description_at modules slot).needed_symbols (All-nil (λ n. n < length modules)) where
  from : (found : List ℕ) (ss : List (List ℕ)) → All (λ n. n < length modules) found → All (λ n. n < length modules) (needs_from modules slot found ss)
  from found [] within = within
  from found (s ∷ ss) within = from (with_need slot found (exporter modules s)) ss (within_with (length modules) slot found (exporter modules s) (exporter_within modules s) within)
