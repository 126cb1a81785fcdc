-- Members of lists of slots.
use Rattle.std.proofs.Common.{◌≡◌, ℕ, zero, suc, ◌+◌, ◌<◌, ◌≤◌, Bool, true, false, cond, not, get_or, arith, ◌&&◌, ◌||◌, nat_eq, List, [], ◌∷◌, ◌++◌, length, drop, take, add-one, refl, sym, ◌∙◌, ap, subst, eqb-true, eq-eqb, ◌⊎◌, inl, inr}
use Rattle.std.specs.List.{All, list_any, list_all, AllByRecursion, IsDistinct, Contains}
use Rattle.std.proofs.lemmas.List.Elements.{All-nil, All-cons}
use Rattle.std.proofs.lemmas.List.Folds.{list_any-append}
use Rattle.std.proofs.lemmas.Map.Steps.{length-le_from_distinct_below}
use Rattle.std.proofs.lemmas.Map.Keys.{IsDistinct-cons}
use Rattle.load_plan.specs.Walk.{has}

pub and_true : (a b : Bool) → (a && b) ≡ true → (a ≡ true) × (b ≡ true)
and_true true b h = (refl, h)
and_true false b h = absurd (cc)

pub or_false : (a b : Bool) → (a || b) ≡ false → (a ≡ false) × (b ≡ false)
or_false true b h = absurd (cc)
or_false false b h = (refl, h)

pub or_true : (a b : Bool) → (a || b) ≡ true → (a ≡ true) ⊎ (b ≡ true)
or_true true b h = inl refl
or_true false b h = inr h

pub or_comes : (a b : Bool) → b ≡ true → (a || b) ≡ true
or_comes true b h = refl
or_comes false b h = h

pub or_stays : (a b : Bool) → b ≡ false → (a || b) ≡ a
or_stays true b h = refl
or_stays false b h = h

pub either_way : (b : Bool) → (b ≡ true) ⊎ (b ≡ false)
either_way true = inl refl
either_way false = inr refl

-- what holds of all holds of the first after any number of them
pub passes_at : {A : Type 0} (p : A → Bool) (ts : List A) (k : ℕ) (t : A) (rest : List A) → list_all p ts ≡ true → drop k ts ≡ t ∷ rest → p t ≡ true
passes_at p [] zero t rest all e = absurd (cc)
passes_at p [] (suc k) t rest all e = absurd (cc)
passes_at p (x ∷ xs) zero t rest all e = let same : x ≡ t = cc in subst (λ y. p y ≡ true) same (and_true (p x) (list_all p xs) all).0
passes_at p (x ∷ xs) (suc k) t rest all e = passes_at p xs k t rest (and_true (p x) (list_all p xs) all).1 e

pub has-same : (ms : List ℕ) (m q : ℕ) → q ≡ m → has (m ∷ ms) q ≡ true
has-same ms m q e = ap (λ b. b || has ms q) (eq-eqb q m e)

pub has-other : (ms : List ℕ) (m q : ℕ) → nat_eq q m ≡ false → has (m ∷ ms) q ≡ has ms q
has-other ms m q e = ap (λ b. b || has ms q) e

pub has-append : (ms ns : List ℕ) (q : ℕ) → has (ms ++ ns) q ≡ (has ms q || has ns q)
has-append ms ns q = list_any-append (nat_eq q) ms ns

pub has-last_same : (ms : List ℕ) (m q : ℕ) → q ≡ m → has (ms ++ m ∷ []) q ≡ true
has-last_same ms m q e = has-append ms (m ∷ []) q ∙ or_comes (has ms q) (has (m ∷ []) q) (has-same [] m q e)

pub has-last_other : (ms : List ℕ) (m q : ℕ) → nat_eq q m ≡ false → has (ms ++ m ∷ []) q ≡ has ms q
has-last_other ms m q e = has-append ms (m ∷ []) q ∙ or_stays (has ms q) (has (m ∷ []) q) (has-other [] m q e)

pub apart_from : (way : List ℕ) (m : ℕ) → has way m ≡ false → AllByRecursion (λ y. nat_eq m y ≡ false) way
apart_from [] m h = tt
apart_from (x ∷ xs) m h = let p : (nat_eq m x ≡ false) × (has xs m ≡ false) = or_false (nat_eq m x) (has xs m) h in (p.0, apart_from xs m p.1)

pub below_cons : (n : ℕ) (way : List ℕ) (m : ℕ) → ((q : ℕ) → has way q ≡ true → q < n) → m < n → (q : ℕ) → has (m ∷ way) q ≡ true → q < n
below_cons n way m below within q h = elim (or_true (nat_eq q m) (has way q) h) [ inl e ↦ subst (λ x. x < n) (sym (eqb-true q m e)) within | inr e ↦ below q e ]

pub nothing_apart : IsDistinct nat_eq []
unfolding IsDistinct
nothing_apart = tt

-- the fuel is enough: modules that are apart are at most as many as there are
pub room_for : (n : ℕ) (way : List ℕ) (m : ℕ) → IsDistinct nat_eq way → ((q : ℕ) → has way q ≡ true → q < n) → has way m ≡ false → m < n → suc (length way) ≤ n
room_for n way m apart below new within = length-le_from_distinct_below (m ∷ way) n (IsDistinct-cons nat_eq m way (apart_from way m new) apart) (below_cons n way m below within)

pub none_of_length : {A : Type 0} (l : List A) → length l ≡ 0 → l ≡ []
none_of_length [] h = refl
none_of_length (x ∷ xs) h = absurd (cc)

pub and_makes : (a b : Bool) → a ≡ true → b ≡ true → (a && b) ≡ true
and_makes true b h k = k
and_makes false b h k = absurd (cc)

pub not_true : (b : Bool) → not b ≡ true → b ≡ false
not_true true h = absurd (cc)
not_true false h = refl

pub not_false : (b : Bool) → not b ≡ false → b ≡ true
not_false true h = refl
not_false false h = absurd (cc)

pub not_makes : (b : Bool) → b ≡ false → not b ≡ true
not_makes true h = absurd (cc)
not_makes false h = refl

pub both_false : (a b : Bool) → a ≡ false → b ≡ false → (a || b) ≡ false
both_false true b h k = absurd (cc)
both_false false b h k = k

-- which way a choice went
pub chosen : {A : Type 0} (b : Bool) (x y z : A) → cond b x y ≡ z → ((b ≡ true) × (x ≡ z)) ⊎ ((b ≡ false) × (y ≡ z))
chosen true x y z h = inl (refl, h)
chosen false x y z h = inr (refl, h)

pub contains-head : {A : Type 0} (t : A) (ts : List A) → Contains (t ∷ ts) t
contains-head t ts = (0, omega arith, refl)

pub contains-tail : {A : Type 0} (t x : A) (ts : List A) → Contains ts x → Contains (t ∷ ts) x
contains-tail t x ts c = (suc c.0, omega (arith, c.1), c.2)

-- what holds of all holds of each that is contained
pub passes_contained : {A : Type 0} (p : A → Bool) (ts : List A) (x : A) → list_all p ts ≡ true → (k : ℕ) → k < length ts → get_or ts k x ≡ x → p x ≡ true
passes_contained p [] x all k within e = absurd (omega arith)
passes_contained p (t ∷ ts) x all zero within e = subst (λ y. p y ≡ true) e (and_true (p t) (list_all p ts) all).0
passes_contained p (t ∷ ts) x all (suc k) within e = passes_contained p ts x (and_true (p t) (list_all p ts) all).1 k (omega arith) e

-- what no member passes, a member does not pass
pub none_passes : (p : ℕ → Bool) (ms : List ℕ) (q : ℕ) → list_any p ms ≡ false → has ms q ≡ true → p q ≡ false
none_passes p [] q h k = absurd (cc)
none_passes p (x ∷ xs) q h k =
    let u : (p x ≡ false) × (list_any p xs ≡ false) = or_false (p x) (list_any p xs) h in
    elim (or_true (nat_eq q x) (has xs q) k) [ inl t ↦ subst (λ y. p y ≡ false) (sym (eqb-true q x t)) u.0 | inr t ↦ none_passes p xs q u.1 t ]

pub none_from : (p : ℕ → Bool) (ms : List ℕ) → ((q : ℕ) → has ms q ≡ true → p q ≡ false) → list_any p ms ≡ false
none_from p [] h = refl
none_from p (x ∷ xs) h = both_false (p x) (list_any p xs) (h x (has-same xs x x refl)) (none_from p xs (λ q k. h q (or_comes (nat_eq q x) (has xs q) k)))

pub has-from_apart : (ms : List ℕ) (p : ℕ) → AllByRecursion (λ y. nat_eq p y ≡ false) ms → has ms p ≡ false
has-from_apart [] p h = refl
has-from_apart (x ∷ xs) p h = rw (h.0) (has-from_apart xs p h.1)

pub all-append : {A : Type 0} (p : A → Bool) (xs ys : List A) → list_all p xs ≡ true → list_all p ys ≡ true → list_all p (xs ++ ys) ≡ true
all-append p [] ys h k = k
all-append p (x ∷ xs) ys h k =
    let a : (p x ≡ true) × (list_all p xs ≡ true) = and_true (p x) (list_all p xs) h in
    and_makes (p x) (list_all p (xs ++ ys)) a.0 (all-append p xs ys a.1 k)

-- one more than the first k, if t comes after them
take-next : {A : Type 0} (ts : List A) (k : ℕ) (t : A) (rest : List A) → drop k ts ≡ t ∷ rest → take (suc k) ts ≡ take k ts ++ t ∷ []
take-next [] zero t rest e = absurd (cc)
take-next [] (suc k) t rest e = absurd (cc)
take-next (x ∷ xs) zero t rest e = let same : x ≡ t = cc in ap (λ y. y ∷ []) same
take-next (x ∷ xs) (suc k) t rest e = ap (λ l. x ∷ l) (take-next xs k t rest e)

pub take-first : {A : Type 0} (ts : List A) (k : ℕ) (t : A) (rest : List A) → drop k ts ≡ t ∷ rest → take (k + 1) ts ≡ take k ts ++ t ∷ []
take-first ts k t rest e = rw (add-one k) (take-next ts k t rest e)

pub take-all : {A : Type 0} (ts : List A) (k : ℕ) → drop k ts ≡ [] → take k ts ≡ ts
take-all [] zero e = refl
take-all [] (suc k) e = refl
take-all (x ∷ xs) zero e = absurd (cc)
take-all (x ∷ xs) (suc k) e = ap (λ l. x ∷ l) (take-all xs k e)

-- members that are below n
pub all_below : (n : ℕ) (ms : List ℕ) → ((q : ℕ) → has ms q ≡ true → q < n) → All (λ q. q < n) ms
all_below n [] h = All-nil (λ q. q < n)
all_below n (x ∷ xs) h = All-cons (λ q. q < n) x xs (h x (has-same xs x x refl)) (all_below n xs (λ q k. h q (or_comes (nat_eq q x) (has xs q) k)))
