-- Names in a list, and their places.
use Rattle.std.proofs.Common.{◌≡◌, ℕ, ◌+◌, ◌-◌, ◌<◌, ◌≤◌, Bool, true, false, not, cond, ◌||◌, ltb, List, [], ◌∷◌, map, length, get_or, take, Option, Some, None, IfSome, refl, sym, ◌∙◌, ap, subst, arith, ◌⊎◌, inl, inr}
use Rattle.std.proofs.Math.ListN.{set}
use Rattle.std.proofs.lemmas.Bool.{cases_lt, false≢true}
use Rattle.std.proofs.lemmas.List.{map-set, take-map, get_or-map, length-map}
use Rattle.std.proofs.lemmas.Map.Keys.{apart_from_distinct}
use Rattle.std.proofs.lemmas.Option.{slice_get-get_or}
use Rattle.std.proofs.lemmas.Slice.Eq.{bytes_eq-Decides}
use Rattle.std.proofs.lemmas.Iterator.Adapters.{position_from-zero}
use Rattle.std.specs.List.{IsDistinct, list_any, position, position_from, position_or_len, prefix_len, slice_get, swap_remove}
use Rattle.std.specs.Str.{bytes_eq}
use Rattle.held_table.specs.Names.{EachOnce}

told : (b : Bool) → (b ≡ true) ⊎ (b ≡ false)
told true = inl refl
told false = inr refl

place_from_map : {X : Type 0} (f : X → List ℕ) (q : List ℕ → Bool) (xs : List X) → prefix_len (λ x. not (q (f x))) xs ≡ prefix_len (λ y. not (q y)) (map f xs)
place_from_map f q [] = refl
place_from_map f q (x ∷ xs) = ap (λ n. cond (not (q (f x))) (1 + n) 0) (place_from_map f q xs)

-- the place of a name among the keys is that among their names
pub place_map : {X : Type 0} (f : X → List ℕ) (q : List ℕ → Bool) (xs : List X) → position (λ x. q (f x)) xs ≡ position q (map f xs)
place_map f q xs =
    ap (λ n. cond (ltb n (length xs)) (Some n) None) (place_from_map f q xs)
    ∙ ap (λ len. cond (ltb (position_or_len q (map f xs)) len) (Some (position_or_len q (map f xs))) None) (sym (length-map xs f))

none_from : {X : Type 0} (q : X → Bool) (i : ℕ) (ys : List X) → position_from q i ys ≡ None → list_any q ys ≡ false
none_from q i [] h = refl
none_from q i (y ∷ ys) h = elim (told (q y)) [
  | inl t ↦ (let found : Some i ≡ None = sym (ap (λ b. cond b (Some i) (position_from q (i + 1) ys)) t) ∙ h in absurd (cc found))
  | inr t ↦ (let rest : position_from q (i + 1) ys ≡ None = sym (ap (λ b. cond b (Some i) (position_from q (i + 1) ys)) t) ∙ h in
      ap (λ b. b || list_any q ys) t ∙ none_from q (i + 1) ys rest)
]

-- a name that has no place is not there
pub none_placed : {X : Type 0} (q : X → Bool) (ys : List X) → position q ys ≡ None → list_any q ys ≡ false
none_placed q ys h = none_from q 0 ys (sym (position_from-zero q ys) ∙ h)

-- what is swapped out of a list, of a map of it
pub map-swap_remove : {X Y : Type 0} (f : X → Y) (xs : List X) (i : ℕ) (d : X) (e : Y) → i < length xs
    → map f (swap_remove xs i d) ≡ swap_remove (map f xs) i e
map-swap_remove f xs i d e within =
    let last : length xs - 1 < length xs = omega arith in
    sym (take-map f (length xs - 1) (set xs i (get_or xs (length xs - 1) d)))
    ∙ ap (take (length xs - 1)) (map-set f xs i (get_or xs (length xs - 1) d) ∙ ap (set (map f xs) i) (sym (get_or-map f xs (length xs - 1) d e last)))
    ∙ ap (λ len. take (len - 1) (set (map f xs) i (get_or (map f xs) (len - 1) e))) (sym (length-map xs f))

-- what is said of what was found at a place, if there is one
pub if_found : {X : Type 0} (P : X → Type 0) (xs : List X) (i : ℕ) (d : X) (r : Option X) → i < length xs → r ≡ slice_get xs i → IfSome r P → P (get_or xs i d)
if_found P xs i d r within is said = subst (λ o. IfSome o P) (is ∙ slice_get-get_or xs i d within) said

-- keys that are apart have names that are
pub each_once : {X : Type 0} (f : X → List ℕ) (keys : List X) → IsDistinct (λ x y. bytes_eq (f x) (f y)) keys → EachOnce (map f keys)
each_once f [] apart i j iin jin same = absurd (omega (arith, iin))
each_once {X} f (key ∷ keys) apart i j iin jin same = by (cases_lt i j) (cases_lt j i) where
  all : List X
  all = key ∷ keys

  at : (k : ℕ) → k < length (map f (key ∷ keys)) → get_or (map f (key ∷ keys)) k [] ≡ f (get_or (key ∷ keys) k key)
  at k within = get_or-map f (key ∷ keys) k key [] (subst (λ n. k < n) (length-map (key ∷ keys) f) within)

  never : (k l : ℕ) → k < l → k < length (map f (key ∷ keys)) → l < length (map f (key ∷ keys)) → get_or (map f (key ∷ keys)) k [] ≡ get_or (map f (key ∷ keys)) l [] → ⊥
  never k l below kin lin is = false≢true
      (sym (apart_from_distinct (λ x y. bytes_eq (f x) (f y)) (key ∷ keys) k l key apart below (subst (λ n. l < n) (length-map (key ∷ keys) f) lin))
      ∙ (bytes_eq-Decides (f (get_or (key ∷ keys) k key)) (f (get_or (key ∷ keys) l key))).1 (sym (at k kin) ∙ is ∙ at l lin))

  by : (i < j) ⊎ (j ≤ i) → (j < i) ⊎ (i ≤ j) → i ≡ j
  by (inl below) _ = absurd (never i j below iin jin same)
  by (inr _) (inl above) = absurd (never j i above jin iin (sym same))
  by (inr h) (inr k) = omega (arith, h, k)

-- what is left if the key of a number was swapped out
pub swapped_out : {X : Type 0} (f : X → List ℕ) (keys left : List X) (i : ℕ) (found : Option X) → i < length (map f keys)
    → found ≡ slice_get keys i → IfSome found (λ k. left ≡ swap_remove keys i k) → map f left ≡ swap_remove (map f keys) i []
swapped_out f [] left i found within is said = absurd (omega (arith, within))
swapped_out f (key ∷ keys) left i found within is said =
    let below : i < length (key ∷ keys) = subst (λ n. i < n) (length-map (key ∷ keys) f) within in
    let there = if_found (λ k. left ≡ swap_remove (key ∷ keys) i k) (key ∷ keys) i key found below is said in
    ap (map f) there ∙ map-swap_remove f (key ∷ keys) i (get_or (key ∷ keys) i key) [] below
