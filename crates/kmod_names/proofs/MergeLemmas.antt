-- The places of what passes one test or another are those of both, merged.
use Rattle.std.proofs.Common.{◌≡◌, ◌≤◌, ℕ, suc, ◌+◌, Bool, true, false, ◌||◌, nat_le, nat_lt, List, [], ◌∷◌, ◌++◌, drop, take, Vec, Result, Ok, Err, IfOk, refl, ◌∙◌, ap, arith, inl, inr}
use Rattle.std.specs.Global.{Global}
use Rattle.std.specs.List.{prefix_len}
use Rattle.std.specs.declared.alloc.AllocError.{AllocError}
use Rattle.std.specs.Str.{bytes_eq}
use Rattle.std.proofs.lemmas.Bool.{le-leb, le-ltb, lt-ltb}
use Rattle.std.proofs.lemmas.Bool.Decides.{leb_tells}
use Rattle.alias_match.specs.Aliases.{places_where}
use Rattle.kmod_names.specs.Places.{ArePlaces, merged, places_in, those_above, those_below}
use Rattle.kmod_names.proofs.PlaceLemmas.{told}

-- the first of a list is a place or more
abbrev BeginsAt : ℕ → List ℕ → Type 0
BeginsAt k [] = Unit {0}
BeginsAt k (y ∷ ys) = k ≤ y

lower : (k : ℕ) (ys : List ℕ) → BeginsAt (suc k) ys → BeginsAt k ys
lower k [] h = tt
lower k (y ∷ ys) h = omega (arith, h)

begins : {X : Type 0} (p : X → Bool) (k : ℕ) (xs : List X) → BeginsAt k (places_where p k xs)
begins p k [] = tt
begins p k (x ∷ xs) = elim (told (p x)) [
  | inl t ↦ rw t (omega arith)
  | inr t ↦ rw t (lower k (places_where p (suc k) xs) (begins p (suc k) xs))
]

not_below : (y k : ℕ) → suc k ≤ y → nat_lt y k ≡ false
not_below y k h = le-ltb y k (omega (arith, h))

not_within : (y k : ℕ) → suc k ≤ y → nat_le y k ≡ false
not_within y k h = grind (arith, leb_tells y k, h)

is_below : (y k : ℕ) → suc k ≤ y → nat_lt k y ≡ true
is_below y k h = lt-ltb k y (omega (arith, h))

is_within : (y k : ℕ) → suc k ≤ y → nat_le k y ≡ true
is_within y k h = le-leb k y (omega (arith, h))

self_below : (k : ℕ) → nat_lt k k ≡ false
self_below k = le-ltb k k (omega arith)

self_within : (k : ℕ) → nat_le k k ≡ true
self_within k = le-leb k k (omega arith)

take-one : (n k : ℕ) (ys : List ℕ) → take (1 + n) (k ∷ ys) ≡ k ∷ take n ys
take-one n k ys = let next : 1 + n ≡ suc n = omega arith in ap (λ m. take m (k ∷ ys)) next

drop-one : (n k : ℕ) (ys : List ℕ) → drop (1 + n) (k ∷ ys) ≡ drop n ys
drop-one n k ys = let next : 1 + n ≡ suc n = omega arith in ap (λ m. drop m (k ∷ ys)) next

none_below : (k : ℕ) (ys : List ℕ) → BeginsAt (suc k) ys → those_below k ys ≡ []
none_below k [] h = refl
none_below k (y ∷ ys) h = rw (not_below y k h) refl

all_above : (k : ℕ) (ys : List ℕ) → BeginsAt (suc k) ys → those_above k ys ≡ ys
all_above k [] h = refl
all_above k (y ∷ ys) h = rw (not_within y k h) refl

own_below : (k : ℕ) (ys : List ℕ) → those_below k (k ∷ ys) ≡ []
own_below k ys = rw (self_below k) refl

own_above : (k : ℕ) (ys : List ℕ) → BeginsAt (suc k) ys → those_above k (k ∷ ys) ≡ ys
own_above k ys h = rw (self_within k) (drop-one (prefix_len (λ other. nat_le other k) ys) k ys ∙ all_above k ys h)

-- a place before all of the first
earlier : (k : ℕ) (xs ys : List ℕ) → BeginsAt (suc k) xs → merged xs (k ∷ ys) ≡ k ∷ merged xs ys
earlier k [] ys h = refl
earlier k (x ∷ xs) ys h =
    let below : ℕ = prefix_len (λ other. nat_lt other x) ys in
    let within : ℕ = prefix_len (λ other. nat_le other x) ys in
    rw (is_below x k h, is_within x k h)
    (ap (λ l. l ++ (x ∷ merged xs (drop (1 + within) (k ∷ ys)))) (take-one below k ys)
    ∙ ap (λ l. (k ∷ take below ys) ++ (x ∷ merged xs l)) (drop-one within k ys))

-- a place before all of the second
own_first : (k : ℕ) (xs ys : List ℕ) → BeginsAt (suc k) ys → merged (k ∷ xs) ys ≡ k ∷ merged xs ys
own_first k xs ys h = rw (none_below k ys h, all_above k ys h) refl

-- a place that both have
both : (k : ℕ) (xs ys : List ℕ) → BeginsAt (suc k) ys → merged (k ∷ xs) (k ∷ ys) ≡ k ∷ merged xs ys
both k xs ys h = rw (own_below k ys, own_above k ys h) refl

pub merged-places : {X : Type 0} (p q : X → Bool) (k : ℕ) (xs : List X) → merged (places_where p k xs) (places_where q k xs) ≡ places_where (λ x. p x || q x) k xs
merged-places p q k [] = refl
merged-places p q k (x ∷ xs) =
    let later : BeginsAt (suc k) (places_where q (suc k) xs) = begins q (suc k) xs in
    let own : BeginsAt (suc k) (places_where p (suc k) xs) = begins p (suc k) xs in
    elim (told (p x)) [
      | inl t ↦ elim (told (q x)) [
        | inl u ↦ rw (t, u) (both k (places_where p (suc k) xs) (places_where q (suc k) xs) later ∙ ap (λ l. k ∷ l) (merged-places p q (suc k) xs))
        | inr u ↦ rw (t, u) (own_first k (places_where p (suc k) xs) (places_where q (suc k) xs) later ∙ ap (λ l. k ∷ l) (merged-places p q (suc k) xs))
      ]
      | inr t ↦ elim (told (q x)) [
        | inl u ↦ rw (t, u) (earlier k (places_where p (suc k) xs) (places_where q (suc k) xs) own ∙ ap (λ l. k ∷ l) (merged-places p q (suc k) xs))
        | inr u ↦ rw (t, u) (merged-places p q (suc k) xs)
      ]
    ]

-- the places of one key or of another
pub either_places : (pairs : List (List ℕ × List ℕ)) (one other : List ℕ) (ones others places : List ℕ)
    → ones ≡ places_in pairs one → others ≡ places_in pairs other → places ≡ merged ones others
    → (keys : List (List ℕ)) → ArePlaces pairs keys → places ≡ places_where (λ key. bytes_eq one key || bytes_eq other key) 0 keys
either_places pairs one other ones others places e f g keys are =
    g
    ∙ ap (λ l. merged l others) (e ∙ are one)
    ∙ ap (merged (places_where (bytes_eq one) 0 keys)) (f ∙ are other)
    ∙ merged-places (bytes_eq one) (bytes_eq other) 0 keys

pub either_merged : (result : Result (Vec ℕ Global) AllocError) (pairs : List (List ℕ × List ℕ)) (one other : List ℕ) (ones others : List ℕ)
    → ones ≡ places_in pairs one → others ≡ places_in pairs other → IfOk result (λ places. places.items ≡ merged ones others)
    → IfOk result (λ places. (keys : List (List ℕ)) → ArePlaces pairs keys → places.items ≡ places_where (λ key. bytes_eq one key || bytes_eq other key) 0 keys)
either_merged (Ok places) pairs one other ones others e f g = either_places pairs one other ones others places.items e f g
either_merged (Err fault) pairs one other ones others e f g = tt
