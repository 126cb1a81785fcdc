-- What is found by a hash, and the others that match, are all that match.
use Rattle.std.proofs.Common.{◌≡◌, ◌≤◌, ◌<◌, ℕ, zero, suc, ◌+◌, Bool, true, false, not, ◌&&◌, ◌||◌, ◌==◌, List, [], ◌∷◌, ◌++◌, cond, length, slice_get, Some, Vec, Result, Ok, Err, IfOk, refl, sym, ◌∙◌, ap, subst, arith, inl, inr}
use Rattle.std.specs.Global.{Global}
use Rattle.std.specs.List.{filter_map, list_any, position_from}
use Rattle.std.specs.Str.{bytes_eq}
use Rattle.std.specs.declared.alloc.AllocError.{AllocError}
use Rattle.std.proofs.Math.Dec.{eqb-suc-zero}
use Rattle.std.proofs.lemmas.List.{append-nil, length-append}
use Rattle.std.proofs.lemmas.List.Elements.{filter_map-append}
use Rattle.std.proofs.lemmas.Slice.Eq.{bytes_eq-Decides}
use Rattle.alias_match.specs.declared.alias.Alias.{Alias}
use Rattle.alias_match.specs.Aliases.{matching_places, places_where}
use Rattle.alias_match.specs.Pattern.{is_match}
use Rattle.kmod_names.specs.Patterns.{IsReadAs, matches_pattern, pattern_places, place_named}
use Rattle.kmod_names.specs.Places.{merged, places_in, with_place}
use Rattle.kmod_names.specs.ForProofs.{FindsEach, is_literal, is_named, is_other}
use Rattle.kmod_names.proofs.KeyLemmas.{places_in-with_place}
use Rattle.kmod_names.proofs.LiteralLemmas.{either_way}
use Rattle.kmod_names.proofs.MergeLemmas.{merged-places}
use Rattle.kmod_names.proofs.PlaceLemmas.{told, first_place, place_if, places_where-push}

places_where-same : {X : Type 0} (p q : X → Bool) → ((x : X) → p x ≡ q x) → (k : ℕ) (xs : List X) → places_where p k xs ≡ places_where q k xs
places_where-same p q h k [] = refl
places_where-same p q h k (x ∷ xs) = rw (h x, places_where-same p q h (suc k) xs) refl

pub found_places : (patterns : List (List ℕ)) (literals : List (List ℕ × List ℕ)) (others : List Alias) (other_places text named matched : List ℕ)
    → FindsEach patterns literals others other_places → named ≡ places_in literals text → matched ≡ filter_map (slice_get other_places) (matching_places others text)
    → merged named matched ≡ pattern_places patterns text
found_places patterns literals others other_places text named matched h is are =
    ap (λ l. merged l matched) (is ∙ h.named text)
    ∙ ap (merged (places_where (is_named text) 0 patterns)) (are ∙ h.matched text)
    ∙ merged-places (is_named text) (is_other text) 0 patterns
    ∙ places_where-same (λ pattern. is_named text pattern || is_other text pattern) (λ pattern. matches_pattern pattern text) (either_way text) 0 patterns

pub found_merged : (result : Result (Vec ℕ Global) AllocError) (patterns inside : List (List ℕ)) (literals : List (List ℕ × List ℕ)) (others : List Alias) (other_places text named matched : List ℕ)
    → IfOk result (λ places. places.items ≡ merged named matched)
    → FindsEach inside literals others other_places → named ≡ places_in literals text → matched ≡ filter_map (slice_get other_places) (matching_places others text) → inside ≡ patterns
    → IfOk result (λ places. places.items ≡ pattern_places patterns text)
found_merged (Err e) patterns inside literals others other_places text named matched is h name other all = tt
found_merged (Ok places) patterns inside literals others other_places text named matched is h name other all =
    is ∙ found_places inside literals others other_places text named matched h name other ∙ ap (λ l. pattern_places l text) all

-- the place of one item more is their number
one_more : {X : Type 0} (p : X → Bool) (xs : List X) (x : X) → places_where p 0 (xs ++ x ∷ []) ≡ places_where p 0 xs ++ place_if (p x) (length xs)
one_more p xs x =
    let number : 0 + length xs ≡ length xs = omega arith in
    places_where-push p 0 xs x ∙ ap (λ n. places_where p 0 xs ++ place_if (p x) n) number

placed : (p : List ℕ → Bool) (patterns : List (List ℕ)) (own places : List ℕ) (passes : Bool) → places ≡ places_where p 0 patterns → p own ≡ passes
    → places ++ place_if passes (length patterns) ≡ places_where p 0 (patterns ++ own ∷ [])
placed p patterns own places passes h is =
    ap (λ l. l ++ place_if passes (length patterns)) h
    ∙ ap (λ b. places_where p 0 patterns ++ place_if b (length patterns)) (sym is)
    ∙ sym (one_more p patterns own)

-- a pattern that does not pass adds no place
not_placed : (p : List ℕ → Bool) (patterns : List (List ℕ)) (own places : List ℕ) → places ≡ places_where p 0 patterns → p own ≡ false → places ≡ places_where p 0 (patterns ++ own ∷ [])
not_placed p patterns own places h fails = sym (append-nil places) ∙ placed p patterns own places false h fails

pub literal_pushed : (patterns more : List (List ℕ)) (literals grown : List (List ℕ × List ℕ)) (others : List Alias) (other_places own key : List ℕ) (place : ℕ)
    → FindsEach patterns literals others other_places → is_literal own ≡ true → grown ≡ with_place literals key place → key ≡ own → place ≡ length patterns → more ≡ patterns ++ own ∷ []
    → FindsEach more grown others other_places
literal_pushed patterns more literals grown others other_places own key place h literal put same last pushed = rw (pushed, put, same, last) (record {
  named = λ text. places_in-with_place literals own (length patterns) text
      ∙ placed (is_named text) patterns own (places_in literals text) (bytes_eq text own) (h.named text) (rw literal refl);
  as_many = h.as_many;
  matched = λ text. not_placed (is_other text) patterns own _ (h.matched text) (rw literal refl);
})

slice_get-front : (xs : List ℕ) (n i : ℕ) → i < length xs → slice_get (xs ++ n ∷ []) i ≡ slice_get xs i
slice_get-front [] n i h = absurd (omega (arith, h))
slice_get-front (x ∷ xs) n zero h = refl
slice_get-front (x ∷ xs) n (suc i) h = slice_get-front xs n i (omega (arith, h))

slice_get-end : (xs : List ℕ) (n : ℕ) → slice_get (xs ++ n ∷ []) (length xs) ≡ Some n
slice_get-end [] n = refl
slice_get-end (x ∷ xs) n = slice_get-end xs n

-- what stands at places of the front stands there after one item more
at_front : {X : Type 0} (p : X → Bool) (items : List ℕ) (n k : ℕ) (xs : List X) → k + length xs ≤ length items
    → filter_map (slice_get (items ++ n ∷ [])) (places_where p k xs) ≡ filter_map (slice_get items) (places_where p k xs)
at_front p items n k [] h = refl
at_front p items n k (x ∷ xs) h =
    let behind : suc k + length xs ≤ length items = omega (arith, h) in
    elim (told (p x)) [
      | inl t ↦ rw (t, slice_get-front items n k (omega (arith, h)), at_front p items n (suc k) xs behind) refl
      | inr t ↦ rw t (at_front p items n (suc k) xs behind)
    ]

at_end : (passes : Bool) (items : List ℕ) (n : ℕ) → filter_map (slice_get (items ++ n ∷ [])) (place_if passes (length items)) ≡ place_if passes n
at_end true items n = rw (slice_get-end items n) refl
at_end false items n = refl

other_matched : (others : List Alias) (alias : Alias) (other_places own text : List ℕ) (n : ℕ) → length others ≡ length other_places → IsReadAs own alias.pattern
    → filter_map (slice_get (other_places ++ n ∷ [])) (matching_places (others ++ alias ∷ []) text)
    ≡ filter_map (slice_get other_places) (matching_places others text) ++ place_if (matches_pattern own text) n
other_matched others alias other_places own text n as_many is =
    let all : List ℕ = other_places ++ n ∷ [] in
    ap (filter_map (slice_get all)) (one_more (λ (other : Alias). is_match other.pattern text) others alias)
    ∙ filter_map-append (slice_get all) (matching_places others text) (place_if (is_match alias.pattern text) (length others))
    ∙ ap (λ l. l ++ filter_map (slice_get all) (place_if (is_match alias.pattern text) (length others))) (at_front (λ (other : Alias). is_match other.pattern text) other_places n 0 others (omega (arith, as_many)))
    ∙ ap (λ m. filter_map (slice_get other_places) (matching_places others text) ++ filter_map (slice_get all) (place_if (is_match alias.pattern text) m)) as_many
    ∙ ap (λ b. filter_map (slice_get other_places) (matching_places others text) ++ filter_map (slice_get all) (place_if b (length other_places))) (is text)
    ∙ ap (λ l. filter_map (slice_get other_places) (matching_places others text) ++ l) (at_end (matches_pattern own text) other_places n)

pub other_pushed : (patterns more : List (List ℕ)) (literals : List (List ℕ × List ℕ)) (others grown : List Alias) (other_places grown_places own key : List ℕ) (alias : Alias) (place : ℕ)
    → FindsEach patterns literals others other_places → is_literal own ≡ false → key ≡ own → IsReadAs key alias.pattern
    → grown ≡ others ++ alias ∷ [] → grown_places ≡ other_places ++ place ∷ [] → place ≡ length patterns → more ≡ patterns ++ own ∷ []
    → FindsEach more literals grown grown_places
other_pushed patterns more literals others grown other_places grown_places own key alias place h special same is grows put last pushed = rw (pushed, grows, put, last) (record {
  named = λ text. not_placed (is_named text) patterns own _ (h.named text) (rw special refl);
  as_many = length-append others (alias ∷ []) ∙ ap (λ n. n + 1) h.as_many ∙ sym (length-append other_places (length patterns ∷ []));
  matched = λ text. other_matched others alias other_places own text (length patterns) h.as_many (subst (λ pattern. IsReadAs pattern alias.pattern) same is)
      ∙ placed (is_other text) patterns own _ (matches_pattern own text) (h.matched text) (rw special refl);
})

same_way : (a b : List ℕ) → bytes_eq a b ≡ bytes_eq b a
same_way a b = grind (arith, bytes_eq-Decides a b, bytes_eq-Decides b a)

own_literal : (name own : List ℕ) → is_literal name ≡ true → is_named name own ≡ bytes_eq own name
own_literal name own h = elim (told (bytes_eq name own)) [
  | inl t ↦ (let same : name ≡ own = grind (arith, bytes_eq-Decides name own) in rw (same_way own name, sym same, h) refl)
  | inr t ↦ rw (same_way own name, t) (none (is_literal own))
]
  where
    none : (b : Bool) → (b && false) ≡ false
    none true = refl
    none false = refl

some_named : (name : List ℕ) (k : ℕ) (patterns : List (List ℕ)) → is_literal name ≡ true → not (length (places_where (is_named name) k patterns) == 0) ≡ list_any (λ own. bytes_eq own name) patterns
some_named name k [] h = refl
some_named name k (own ∷ patterns) h =
    let turned : is_named name own ≡ bytes_eq own name = own_literal name own h in
    elim (told (bytes_eq own name)) [
      | inl t ↦ rw (turned, t) (ap not (eqb-suc-zero (length (places_where (is_named name) (suc k) patterns))))
      | inr t ↦ rw (turned, t) (some_named name (suc k) patterns h)
    ]

-- a literal text has a place if some pattern is that text
pub has_literal : (patterns : List (List ℕ)) (literals : List (List ℕ × List ℕ)) (others : List Alias) (other_places name places : List ℕ)
    → FindsEach patterns literals others other_places → is_literal name ≡ true → places ≡ places_in literals name
    → not (length places == 0) ≡ list_any (λ own. bytes_eq own name) patterns
has_literal patterns literals others other_places name places h literal is =
    ap (λ l. not (length l == 0)) (is ∙ h.named name) ∙ some_named name 0 patterns literal

position_from-same : {X : Type 0} (p q : X → Bool) → ((x : X) → p x ≡ q x) → (k : ℕ) (xs : List X) → position_from p k xs ≡ position_from q k xs
position_from-same p q h k [] = refl
position_from-same p q h k (x ∷ xs) = rw (h x) (ap (cond (q x) (Some k)) (position_from-same p q h (k + 1) xs))

-- the first place of a literal text is that of the first pattern that is that text
pub literal_place : (patterns inside : List (List ℕ)) (literals : List (List ℕ × List ℕ)) (others : List Alias) (other_places name places : List ℕ)
    → FindsEach inside literals others other_places → is_literal name ≡ true → places ≡ places_in literals name → inside ≡ patterns
    → slice_get places 0 ≡ place_named patterns name
literal_place patterns inside literals others other_places name places h literal is all =
    ap (λ l. slice_get l 0) (is ∙ h.named name)
    ∙ first_place (is_named name) 0 inside
    ∙ position_from-same (is_named name) (λ own. bytes_eq own name) (λ own. own_literal name own literal) 0 inside
    ∙ ap (λ l. place_named l name) all
