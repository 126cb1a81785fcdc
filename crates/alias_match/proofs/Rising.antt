-- Rising lists of the same numbers are one list. So the places of matches, sorted and each once, are in the order of
-- the list.
use Rattle.std.proofs.Common.{◌≡◌, ℕ, zero, suc, ◌+◌, ◌<◌, ◌≤◌, arith, true, List, [], ◌∷◌, slice_get, Some, Contains, ◌↔◌, refl, sym, ◌∙◌, ap, subst, inl, inr}
use Rattle.std.specs.List.{AllPairs, filter_map}
use Rattle.std.specs.List.Sorted.{IsStrictlyIncreasing}
use Rattle.std.proofs.lemmas.List.Kept.{AllPairs-from_increasing}
use Rattle.alias_match.specs.declared.alias.Alias.{Alias}
use Rattle.alias_match.specs.Pattern.{is_match}
use Rattle.alias_match.specs.Aliases.{matching, matching_places, places_where}
use Rattle.alias_match.specs.ForProofs.{is_match_at}
use Rattle.alias_match.proofs.Members.{told, nothing_in, is_first, is_later, first_or_later}

-- each is above the one before it, and the first is not below a bound
abbrev pub Rising : ℕ → List ℕ → Type 0
Rising low [] = Unit {0}
Rising low (x ∷ xs) = (low ≤ x) × Rising (suc x) xs

Rising-lower : (low high : ℕ) (xs : List ℕ) → low ≤ high → Rising high xs → Rising low xs
Rising-lower low high [] le h = tt
Rising-lower low high (x ∷ xs) le h = let first : high ≤ x = h.0 in (omega arith, h.1)

Rising-from : (low : ℕ) (xs : List ℕ) (x : ℕ) → Rising low xs → Contains xs x → low ≤ x
Rising-from low [] x h m = absurd (nothing_in m)
Rising-from low (y ∷ xs) x h m =
    let first : low ≤ y = h.0 in
    elim (first_or_later y xs x m) [
      | inl same ↦ omega arith
      | inr later ↦ (let above : suc y ≤ x = Rising-from (suc y) xs x h.1 later in omega arith)
    ]

tail_pairs : (x : ℕ) (xs : List ℕ) → AllPairs (λ a b. a < b) (x ∷ xs) → AllPairs (λ a b. a < b) xs
tail_pairs x xs h i j d before within = h (suc i) (suc j) d (omega arith) (omega arith)

Rising-pairs : (low : ℕ) (xs : List ℕ) → AllPairs (λ a b. a < b) xs → ((x : ℕ) → Contains xs x → low ≤ x) → Rising low xs
Rising-pairs low [] h from = tt
Rising-pairs low (x ∷ xs) h from =
    (from x (is_first x xs), Rising-pairs (suc x) xs (tail_pairs x xs h) above)
  where
    above : (y : ℕ) → Contains xs y → suc x ≤ y
    above y (k, within, is) = let less : x < y = subst (λ z. x < z) is (h 0 (suc k) y (omega arith) (omega arith)) in omega arith

Rising-increasing : (xs : List ℕ) → IsStrictlyIncreasing xs → Rising 0 xs
Rising-increasing xs h = Rising-pairs 0 xs (AllPairs-from_increasing xs h) (λ x m. omega arith)

abbrev Within : List ℕ → List ℕ → Type 0
Within xs ys = (x : ℕ) → Contains xs x → Contains ys x

-- without their first, which is one number
rest_within : (a : ℕ) (xs ys : List ℕ) → Rising (suc a) xs → Within (a ∷ xs) (a ∷ ys) → Within xs ys
rest_within a xs ys h sub z m =
    let above : suc a ≤ z = Rising-from (suc a) xs z h m in
    elim (first_or_later a ys z (sub z (is_later a xs z m))) [ inl same ↦ absurd (omega arith) | inr later ↦ later ]

same_first : (x y low : ℕ) (xs ys : List ℕ) → Rising low (x ∷ xs) → Rising low (y ∷ ys) → Within (x ∷ xs) (y ∷ ys) → Within (y ∷ ys) (x ∷ xs) → x ≡ y
same_first x y low xs ys h k sub sup = elim (first_or_later y ys x (sub x (is_first x xs))) [
  | inl same ↦ sym same
  | inr later ↦
      (let above : suc y ≤ x = Rising-from (suc y) ys x k.1 later in
      elim (first_or_later x xs y (sup y (is_first y ys))) [
        | inl same ↦ same
        | inr after ↦ (let over : suc x ≤ y = Rising-from (suc x) xs y h.1 after in absurd (omega arith))
      ])
]

Rising-same : (low : ℕ) (xs ys : List ℕ) → Rising low xs → Rising low ys → Within xs ys → Within ys xs → xs ≡ ys
Rising-same low [] [] h k sub sup = refl
Rising-same low [] (y ∷ ys) h k sub sup = absurd (nothing_in (sup y (is_first y ys)))
Rising-same low (x ∷ xs) [] h k sub sup = absurd (nothing_in (sub x (is_first x xs)))
Rising-same low (x ∷ xs) (y ∷ ys) h k sub sup =
    let one : x ≡ y = same_first x y low xs ys h k sub sup in
    let k1 : Rising (suc x) ys = subst (λ a. Rising (suc a) ys) (sym one) k.1 in
    let sub1 : Within (x ∷ xs) (x ∷ ys) = subst (λ a. Within (x ∷ xs) (a ∷ ys)) (sym one) sub in
    let sup1 : Within (x ∷ ys) (x ∷ xs) = subst (λ a. Within (a ∷ ys) (x ∷ xs)) (sym one) sup in
    let rest : xs ≡ ys = Rising-same (suc x) xs ys h.1 k1 (rest_within x xs ys h.1 sub1) (rest_within x ys xs k1 sup1) in
    ap (λ a. a ∷ xs) one ∙ ap (λ l. y ∷ l) rest

-- the places of the aliases that match, from a number on
abbrev matches_from : ℕ → List Alias → List ℕ → List ℕ
matches_from k aliases text = places_where (λ alias. is_match alias.pattern text) k aliases

matches-Rising : (k : ℕ) (aliases : List Alias) (text : List ℕ) → Rising k (matches_from k aliases text)
matches-Rising k [] text = tt
matches-Rising k (alias ∷ later) text = elim (told (is_match alias.pattern text)) [
  | inl t ↦ rw t (omega arith, matches-Rising (suc k) later text)
  | inr t ↦ rw t (Rising-lower k (suc k) (matches_from (suc k) later text) (omega arith) (matches-Rising (suc k) later text))
]

has_match : (k : ℕ) (aliases : List Alias) (text : List ℕ) (i x : ℕ) → x ≡ i + k → is_match_at aliases text i ≡ true → Contains (matches_from k aliases text) x
has_match k [] text i x e h = absurd (cc)
has_match k (alias ∷ later) text zero x e h =
    let here : is_match alias.pattern text ≡ true = h in
    let at : k ≡ x = omega arith in
    rw here (subst (λ z. Contains (k ∷ matches_from (suc k) later text) z) at (is_first k (matches_from (suc k) later text)))
has_match k (alias ∷ later) text (suc i) x e h =
    let behind : Contains (matches_from (suc k) later text) x = has_match (suc k) later text i x (omega arith) h in
    elim (told (is_match alias.pattern text)) [
      | inl t ↦ rw t (is_later k (matches_from (suc k) later text) x behind)
      | inr t ↦ rw t behind
    ]

of_match : (k : ℕ) (aliases : List Alias) (text : List ℕ) (x : ℕ) → Contains (matches_from k aliases text) x → (i : ℕ) × (x ≡ i + k) × (is_match_at aliases text i ≡ true)
of_match k [] text x m = absurd (nothing_in m)
of_match k (alias ∷ later) text x m = elim (told (is_match alias.pattern text)) [
  | inl t ↦ elim (first_or_later k (matches_from (suc k) later text) x (rw t at m)) [
    | inl same ↦ (0, omega arith, t)
    | inr behind ↦ (let r : (i : ℕ) × (x ≡ i + suc k) × (is_match_at later text i ≡ true) = of_match (suc k) later text x behind in (suc r.0, omega (arith, r.1), r.2))
  ]
  | inr t ↦ (let r : (i : ℕ) × (x ≡ i + suc k) × (is_match_at later text i ≡ true) = of_match (suc k) later text x (rw t at m) in (suc r.0, omega (arith, r.1), r.2))
]

-- the aliases at these places are those that match
taken : (all : List Alias) (k : ℕ) (aliases : List Alias) (text : List ℕ) → ((i : ℕ) → slice_get all (i + k) ≡ slice_get aliases i) → filter_map (slice_get all) (matches_from k aliases text) ≡ matching aliases text
taken all k [] text h = refl
taken all k (alias ∷ later) text h =
    let behind : (i : ℕ) → slice_get all (i + suc k) ≡ slice_get later i = λ i. ap (slice_get all) (omega arith) ∙ h (suc i) in
    elim (told (is_match alias.pattern text)) [
      | inl t ↦ (let here : slice_get all k ≡ Some alias = ap (slice_get all) (omega arith) ∙ h 0 in rw (t, here) (ap (λ l. alias ∷ l) (taken all (suc k) later text behind)))
      | inr t ↦ rw t (taken all (suc k) later text behind)
    ]

-- rising places of each match are the places of the matches
pub rising_places : (aliases : List Alias) (text places : List ℕ) → IsStrictlyIncreasing places → ((i : ℕ) → Contains places i ↔ (is_match_at aliases text i ≡ true)) → places ≡ matching_places aliases text
rising_places aliases text places rising each =
    Rising-same 0 places (matches_from 0 aliases text) (Rising-increasing places rising) (matches-Rising 0 aliases text)
    (λ x m. has_match 0 aliases text x x (omega arith) ((each x).0 m))
    (λ x m. let r : (i : ℕ) × (x ≡ i + 0) × (is_match_at aliases text i ≡ true) = of_match 0 aliases text x m in
    let e : r.0 ≡ x = omega (arith, r.1) in (each x).1 (subst (λ z. is_match_at aliases text z ≡ true) e r.2))

-- the aliases at the places of the matches
pub matches_taken : (aliases : List Alias) (text : List ℕ) → filter_map (slice_get aliases) (matching_places aliases text) ≡ matching aliases text
matches_taken aliases text = taken aliases 0 aliases text (λ i. ap (slice_get aliases) (omega arith))
