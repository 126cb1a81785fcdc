-- A hashed map tells the places of each key as its pairs do.
use Rattle.std.proofs.Common.{◌≡◌, ℕ, ◌+◌, List, [], ◌∷◌, ◌++◌, true, false, cond, length, map, slice_get, Option, Some, None, Result, Ok, Err, OnErr, Vec, refl, sym, ◌∙◌, ap, subst, arith, inl, inr}
use Rattle.std.specs.Global.{Global}
use Rattle.std.specs.Option.{unwrap_or}
use Rattle.std.specs.Str.{bytes_eq}
use Rattle.std.specs.Map.{lookup}
use Rattle.std.specs.List.{find}
use Rattle.std.proofs.lemmas.Bool.{false_from_ne_true}
use Rattle.std.proofs.lemmas.List.{append-nil, map-append, length-map}
use Rattle.std.proofs.lemmas.Slice.Eq.{bytes_eq-Decides}
use Rattle.indexmap.specs.IndexMap.{insert_entry}
use Rattle.kmod_names.proofs.PlaceLemmas.{told, place_if, places_where-push, at_place, first_place, at_first}
use Rattle.kmod_names.specs.Places.{ArePlaces, places_in, with_place}

abbrev pub Pair : Type 0
Pair = Vec ℕ Global × Vec ℕ Global

abbrev pub pair_of : Pair → List ℕ × List ℕ
pair_of entry = (entry.0.items, entry.1.items)

-- the items of a vector, if there is one
abbrev items_or : Option (Vec ℕ Global) → List ℕ
items_or None = []
items_or (Some places) = places.items

places_in-pairs : (entries : List Pair) (key : List ℕ) → places_in (map pair_of entries) key ≡ items_or (lookup (λ k. bytes_eq key k.items) entries)
places_in-pairs [] key = refl
places_in-pairs (entry ∷ entries) key = elim (told (bytes_eq key entry.0.items)) [
  | inl t ↦ rw t refl
  | inr t ↦ rw t (places_in-pairs entries key)
]

-- what a look-up of a key found
pub found_some : (entries : List Pair) (key : List ℕ) (places : Vec ℕ Global) → Some places ≡ lookup (λ k. bytes_eq key k.items) entries → places.items ≡ places_in (map pair_of entries) key
found_some entries key places h = ap items_or h ∙ sym (places_in-pairs entries key)

pub found_none : (entries : List Pair) (key : List ℕ) → None ≡ lookup (λ k. bytes_eq key k.items) entries → [] ≡ places_in (map pair_of entries) key
found_none entries key h = ap items_or h ∙ sym (places_in-pairs entries key)

put_pairs : (entries : List Pair) (key places : Vec ℕ Global) (place : ℕ)
    → places.items ≡ items_or (lookup (λ k. bytes_eq key.items k.items) entries) ++ place ∷ []
    → map pair_of (insert_entry (λ a b. bytes_eq a.items b.items) entries key places) ≡ with_place (map pair_of entries) key.items place
put_pairs [] key places place h = ap (λ l. (key.items, l) ∷ []) h
put_pairs (entry ∷ entries) key places place h = elim (told (bytes_eq key.items entry.0.items)) [
  | inl t ↦ rw t (ap (λ l. (entry.0.items, l) ∷ map pair_of entries) (rw t at h))
  | inr t ↦ rw t (ap (λ l. pair_of entry ∷ l) (put_pairs entries key places place (rw t at h)))
]

or_nothing : (found : Option (Vec ℕ Global)) (nothing : Vec ℕ Global) → nothing.items ≡ [] → (unwrap_or found nothing).items ≡ items_or found
or_nothing None nothing h = h
or_nothing (Some places) nothing h = refl

-- the places of a key took one more, and stand in the map again
pub place_added : (grown entries : List Pair) (key was is nothing : Vec ℕ Global) (own : List ℕ) (place : ℕ)
    → is.items ≡ was.items ++ place ∷ []
    → was ≡ unwrap_or (lookup (λ k. bytes_eq key.items k.items) entries) nothing
    → nothing.items ≡ []
    → key.items ≡ own
    → grown ≡ insert_entry (λ a b. bytes_eq a.items b.items) entries key is
    → map pair_of grown ≡ with_place (map pair_of entries) own place
place_added grown entries key was is nothing own place pushed found empty named put =
    let before : was.items ≡ items_or (lookup (λ k. bytes_eq key.items k.items) entries) =
    ap (λ v. v.items) found ∙ or_nothing (lookup (λ k. bytes_eq key.items k.items) entries) nothing empty in
    ap (map pair_of) put
    ∙ put_pairs entries key is place (pushed ∙ ap (λ l. l ++ place ∷ []) before)
    ∙ ap (λ n. with_place (map pair_of entries) n place) named

kept_pairs : (entries : List Pair) (key places : Vec ℕ Global) (other : List ℕ)
    → places.items ≡ items_or (lookup (λ k. bytes_eq key.items k.items) entries)
    → places_in (map pair_of (insert_entry (λ a b. bytes_eq a.items b.items) entries key places)) other ≡ places_in (map pair_of entries) other
kept_pairs [] key places other h = elim (told (bytes_eq other key.items)) [ inl t ↦ rw t h | inr t ↦ rw t refl ]
kept_pairs (entry ∷ entries) key places other h = elim (told (bytes_eq key.items entry.0.items)) [
  | inl t ↦ rw t (ap (λ l. cond (bytes_eq other entry.0.items) l (places_in (map pair_of entries) other)) (rw t at h))
  | inr t ↦ rw t (ap (λ l. cond (bytes_eq other entry.0.items) entry.1.items l) (kept_pairs entries key places other (rw t at h)))
]

-- the places of a key stand in the map again as they were
pub places_kept : (grown entries : List Pair) (key was is nothing : Vec ℕ Global)
    → is.items ≡ was.items
    → was ≡ unwrap_or (lookup (λ k. bytes_eq key.items k.items) entries) nothing
    → nothing.items ≡ []
    → grown ≡ insert_entry (λ a b. bytes_eq a.items b.items) entries key is
    → (other : List ℕ) → places_in (map pair_of grown) other ≡ places_in (map pair_of entries) other
places_kept grown entries key was is nothing same found empty put other =
    let before : is.items ≡ items_or (lookup (λ k. bytes_eq key.items k.items) entries) =
    same ∙ ap (λ v. v.items) found ∙ or_nothing (lookup (λ k. bytes_eq key.items k.items) entries) nothing empty in
    ap (λ l. places_in (map pair_of l) other) put ∙ kept_pairs entries key is other before

same_key : (a b : List ℕ) → bytes_eq a b ≡ true → a ≡ b
same_key a b t = grind (arith, bytes_eq-Decides a b)

same_test : (a b : List ℕ) → a ≡ b → bytes_eq a b ≡ true
same_test a b t = grind (arith, bytes_eq-Decides a b)

-- a key that is another one than a key that is not its own
other_key : (key own first : List ℕ) → bytes_eq own first ≡ false → bytes_eq key first ≡ true → bytes_eq key own ≡ false
other_key key own first apart same = false_from_ne_true (bytes_eq key own) (λ is.
    let e : own ≡ first = sym (same_key key own is) ∙ same_key key first same in
    let t : bytes_eq own first ≡ true = same_test own first e in absurd (cc))

own_key : (key own first places rest : List ℕ) (place : ℕ) → own ≡ first → cond (bytes_eq key first) (places ++ place ∷ []) rest ≡ cond (bytes_eq key first) places rest ++ place_if (bytes_eq key own) place
own_key key own first places rest place e = rw e (elim (told (bytes_eq key first)) [
  | inl t ↦ rw t refl
  | inr t ↦ rw t (sym (append-nil rest))
])

later_key : (key own first places rest grown : List ℕ) (place : ℕ) → bytes_eq own first ≡ false → grown ≡ rest ++ place_if (bytes_eq key own) place
    → cond (bytes_eq key first) places grown ≡ cond (bytes_eq key first) places rest ++ place_if (bytes_eq key own) place
later_key key own first places rest grown place s h = elim (told (bytes_eq key first)) [
  | inl t ↦ (let other : bytes_eq key own ≡ false = other_key key own first s t in rw (t, other) (sym (append-nil places)))
  | inr t ↦ rw t h
]

pub places_in-with_place : (pairs : List (List ℕ × List ℕ)) (own : List ℕ) (place : ℕ) (key : List ℕ) → places_in (with_place pairs own place) key ≡ places_in pairs key ++ place_if (bytes_eq key own) place
places_in-with_place [] own place key = elim (told (bytes_eq key own)) [ inl t ↦ rw t refl | inr t ↦ rw t refl ]
places_in-with_place (pair ∷ pairs) own place key = elim (told (bytes_eq own pair.0)) [
  | inl s ↦ rw s (own_key key own pair.0 pair.1 (places_in pairs key) place (same_key own pair.0 s))
  | inr s ↦ rw s (later_key key own pair.0 pair.1 (places_in pairs key) (places_in (with_place pairs own place) key) place s (places_in-with_place pairs own place key))
]

-- one more of what has a key
pub ArePlaces-push : {X : Type 0} (f : X → List ℕ) (pairs : List (List ℕ × List ℕ)) (items : List X) (x : X) → ArePlaces pairs (map f items) → ArePlaces (with_place pairs (f x) (length items)) (map f (items ++ x ∷ []))
ArePlaces-push f pairs items x h key =
    let keys : map f (items ++ x ∷ []) ≡ map f items ++ f x ∷ [] = map-append f items (x ∷ []) in
    let len : 0 + length (map f items) ≡ length items = omega (arith, length-map items f) in
    places_in-with_place pairs (f x) (length items) key
    ∙ ap (λ l. l ++ place_if (bytes_eq key (f x)) (length items)) (h key)
    ∙ rw (keys, places_where-push (bytes_eq key) 0 (map f items) (f x), len) refl

pub key_added : {X : Type 0} (f : X → List ℕ) (old new : List (List ℕ × List ℕ)) (olds news : List X) (x : X) (key : List ℕ) (place : ℕ)
    → ArePlaces old (map f olds) → new ≡ with_place old key place → key ≡ f x → place ≡ length olds → news ≡ olds ++ x ∷ [] → ArePlaces new (map f news)
key_added f old new olds news x key place h put own last pushed own_key =
    rw (put, own, last, pushed) (ArePlaces-push f old olds x h own_key)

map_own : (names : List (List ℕ)) → map (λ name. name) names ≡ names
map_own [] = refl
map_own (name ∷ names) = ap (λ l. name ∷ l) (map_own names)

-- the same, if each is its own key
pub own_added : (old new : List (List ℕ × List ℕ)) (olds news : List (List ℕ)) (name key : List ℕ) (place : ℕ)
    → ArePlaces old olds → new ≡ with_place old key place → key ≡ name → place ≡ length olds → news ≡ olds ++ name ∷ [] → ArePlaces new news
own_added old new olds news name key place h put own last pushed =
    let P : List (List ℕ) → Type 0 = λ keys. ArePlaces new keys in
    let Q : List (List ℕ) → Type 0 = λ keys. ArePlaces old keys in
    subst P (map_own news) (key_added (λ n. n) old new olds news name key place (subst Q (sym (map_own olds)) h) put own last pushed)

-- the first of what has a key
pub first_of_key : {X : Type 0} (f : X → List ℕ) (pairs : List (List ℕ × List ℕ)) (items : List X) (key : List ℕ) (first : Option ℕ)
    → ArePlaces pairs (map f items) → first ≡ slice_get (places_in pairs key) 0 → at_place items first ≡ find (λ x. bytes_eq key (f x)) items
first_of_key f pairs items key first h is =
    ap (at_place items) (is ∙ ap (λ l. slice_get l 0) (h key) ∙ first_place (bytes_eq key) 0 (map f items)) ∙ at_first f (bytes_eq key) items

pub on_err : {T E : Type 0} {P : Type 0} (r : Result T E) → P → OnErr r P
on_err (Ok x) h = tt
on_err (Err e) h = h

-- no key has other places than before
pub ArePlaces-kept : (old new : List (List ℕ × List ℕ)) (keys : List (List ℕ)) → ((other : List ℕ) → places_in new other ≡ places_in old other) → ArePlaces old keys → ArePlaces new keys
ArePlaces-kept old new keys kept are key = kept key ∙ are key
