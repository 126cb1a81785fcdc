-- What a loop finds with one more number, or one more module.
use Rattle.std.proofs.Common.{◌≡◌, ◌∙◌, ◌<◌, ℕ, ◌+◌, Bool, List, [], ◌∷◌, ◌++◌, cond, filter, length, take, get_or, Contains, sym, ap, subst, zero-add}
use Rattle.std.specs.List.{range_with_len}
use Rattle.std.proofs.lemmas.List.{map-id}
use Rattle.std.proofs.lemmas.List.Elements.{Contains-get_or, filter-append, filter_more}
use Rattle.std.proofs.lemmas.List.FromFn.{map-range_with_len_more}

pub range_with_len-more : (n : ℕ) → range_with_len 0 (n + 1) ≡ range_with_len 0 n ++ n ∷ []
range_with_len-more n =
    sym (map-id (range_with_len 0 (n + 1))) ∙ map-range_with_len_more (λ k. k) 0 n n (zero-add n) ∙ ap (λ (ns : List ℕ). ns ++ n ∷ []) (map-id (range_with_len 0 n))

-- one more number, if it passes
pub next_number : (p : ℕ → Bool) (found next : List ℕ) (n : ℕ) (passes : Bool) → found ≡ filter p (range_with_len 0 n) → passes ≡ p n
    → next ≡ found ++ cond passes (n ∷ []) [] → next ≡ filter p (range_with_len 0 (n + 1))
next_number p found next n passes before own after =
    after ∙ ap (λ (ns : List ℕ). ns ++ cond passes (n ∷ []) []) before
    ∙ ap (λ (b : Bool). filter p (range_with_len 0 n) ++ cond b (n ∷ []) []) own
    ∙ sym (ap (filter p) (range_with_len-more n) ∙ filter-append p (range_with_len 0 n) (n ∷ []))

-- one more element of a list, if it passes
pub next_element : (p : ℕ → Bool) (xs found next : List ℕ) (i x : ℕ) (passes : Bool) → i < length xs → found ≡ filter p (take i xs) → x ≡ get_or xs i 0
    → (Contains xs x → passes ≡ p x) → next ≡ found ++ cond passes (x ∷ []) [] → next ≡ filter p (take (i + 1) xs)
next_element p xs found next i x passes below before element own after =
    let y : ℕ = get_or xs i 0 in
    let is_own : passes ≡ p y = subst (λ (z : ℕ). passes ≡ p z) element (own (subst (λ (z : ℕ). Contains xs z) (sym element) (Contains-get_or xs i 0 below))) in
    subst (λ (z : ℕ). next ≡ found ++ cond passes (z ∷ []) []) element after
    ∙ ap (λ (ns : List ℕ). ns ++ cond passes (y ∷ []) []) before
    ∙ ap (λ (b : Bool). filter p (take i xs) ++ cond b (y ∷ []) []) is_own
    ∙ sym (filter_more p xs i 0 below)
