-- A holder that comes in anew, and goes again.
use Rattle.std.proofs.Common.{◌≡◌, ℕ, zero, suc, ◌-◌, ◌<◌, Bool, true, false, not, eqb, leb, inl, inr, List, [], ◌∷◌, ◌++◌, length, take, get_or, Option, Some, None, refl, sym, ap, subst, ◌∙◌, arith}
use Rattle.std.proofs.Math.ListN.{set, replicate}
use Rattle.std.specs.List.{list_all, swap_remove}
use Rattle.std.specs.Option.{is_none, is_some}
use Rattle.std.proofs.lemmas.Bool.{cases_lt, lt-leb, le-leb, cond-true}
use Rattle.std.proofs.lemmas.List.{length_push, get_or_push, set_at, take_at}
use Rattle.held_table.specs.Names.{place_of}
use Rattle.held_table.specs.Held.{Held, number_of, is_there_or_full, with_holder, entered, holds_nothing, without_holder, settled}
use Rattle.held_lines.specs.Held.{holding, let_out}

-- The last of some elements goes.
swap_remove_last : {X : Type 0} (xs : List X) (x d : X) → swap_remove (xs ++ x ∷ []) (length xs) d ≡ xs
swap_remove_last xs x d =
    let last : length (xs ++ x ∷ []) - 1 ≡ length xs = omega (arith, length_push xs x) in
    let y = get_or (xs ++ x ∷ []) (length (xs ++ x ∷ []) - 1) d in
    ap (λ (n : ℕ). take n (set (xs ++ x ∷ []) (length xs) y)) last
    ∙ ap (take (length xs)) (set_at xs x [] y (length xs) refl) ∙ take_at xs (y ∷ []) (length xs) refl

all_zero : (n : ℕ) → list_all (λ (count : ℕ). eqb count 0) (replicate n 0) ≡ true
all_zero zero = refl
all_zero (suc n) = all_zero n

-- A holder that has just come in goes again.
pub goes_again : (h : Held) (holder : List ℕ) (number : ℕ) → length h.names ≡ length h.table.rows → number ≡ length h.names → settled (with_holder h holder) number ≡ h
goes_again h holder number same is =
    let rows = h.table.rows in
    let row : List ℕ = replicate (length h.table.book.states) 0 in
    let at : get_or (rows ++ row ∷ []) number [] ≡ row = get_or_push rows row [] number (sym (is ∙ same)) in
    let nothing : holds_nothing (with_holder h holder).table number ≡ true = ap (list_all (λ (count : ℕ). eqb count 0)) at ∙ all_zero (length h.table.book.states) in
    let rows_back : swap_remove (rows ++ row ∷ []) number [] ≡ rows = ap (λ (n : ℕ). swap_remove (rows ++ row ∷ []) n []) (is ∙ same) ∙ swap_remove_last rows row [] in
    let names_back : swap_remove (h.names ++ holder ∷ []) number [] ≡ h.names = ap (λ (n : ℕ). swap_remove (h.names ++ holder ∷ []) n []) is ∙ swap_remove_last h.names holder [] in
    cond-true (holds_nothing (with_holder h holder).table number) (without_holder (with_holder h holder) number) (with_holder h holder) nothing
    ∙ ap (λ (rs : List (List ℕ)). holding (record { book = h.table.book; rows = rs }) (swap_remove (h.names ++ holder ∷ []) number [])) rows_back
    ∙ ap (λ (ns : List (List ℕ)). holding h.table ns) names_back

-- Whoever came in is let out again.
pub let_out_again : (h : Held) (holder : List ℕ) (number : ℕ) (is_new : Bool) → length h.names ≡ length h.table.rows → number ≡ number_of h.names holder
    → is_new ≡ is_none (place_of h.names holder) → number < length (entered h holder).names → let_out is_new number (entered h holder) ≡ h
let_out_again h holder number is_new same num new below = at (place_of h.names holder) refl where
  at : (o : Option ℕ) → place_of h.names holder ≡ o → let_out is_new number (entered h holder) ≡ h
  at (Some i) e =
      let there : is_there_or_full h.names holder ≡ true = rw e refl in
      let old : is_new ≡ false = new ∙ ap is_none e in
      rw (old, there) refl
  at None e =
      let first : number ≡ length h.names = num ∙ (rw e refl) in
      let fresh : is_new ≡ true = new ∙ ap is_none e in
      elim (cases_lt (length h.names) 65536) [
        | inl few ↦
            let room : leb 65536 (length h.names) ≡ false = lt-leb _ _ few in
            let out : is_there_or_full h.names holder ≡ false = rw (e, room) refl in
            rw (fresh, out) (goes_again h holder number same first)
        | inr many ↦
            let full : leb 65536 (length h.names) ≡ true = le-leb _ _ many in
            let in' : is_there_or_full h.names holder ≡ true = rw (e, full) refl in
            let within : number < length h.names = rw in' at below in
            absurd (omega arith)
      ]

-- The same, if it is said of a new state.
pub let_out_new : (h new : Held) (holder : List ℕ) (number : ℕ) (is_new : Bool) → new ≡ entered h holder → number ≡ number_of h.names holder
    → is_new ≡ is_none (place_of h.names holder) → length h.names ≡ length h.table.rows → number < length new.names → let_out is_new number new ≡ h
let_out_new h new holder number is_new enters num fresh same below =
    ap (let_out is_new number) enters ∙ let_out_again h holder number is_new same num fresh (subst (λ (g : Held). number < length g.names) enters below)

pub fresh_from : (o : Option ℕ) (b : Bool) → is_some o ≡ not b → b ≡ is_none o
fresh_from o true e = ap not (sym e)
fresh_from o false e = ap not (sym e)
