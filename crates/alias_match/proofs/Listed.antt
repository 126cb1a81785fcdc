-- Whatever matches a text is kept under a mark of the text, and found there.
use Rattle.std.proofs.Common.{◌≡◌, ◌≢◌, ℕ, zero, suc, ◌+◌, ◌<◌, ◌≤◌, nat_eq, eqb-true, eq-eqb, arith, true, false, map, Vec, Result, Ok, Err, IfOk, List, [], ◌∷◌, ◌++◌, length, take, slice_get, Option, Some, None, Contains, ◌↔◌, refl, sym, ◌∙◌, ap, subst, ◌⊎◌, inl, inr}
use Rattle.std.specs.Borrow.{Bor}
use Rattle.std.specs.Global.{Global}
use Rattle.std.specs.declared.alloc.AllocError.{AllocError}
use Rattle.std.specs.List.{dedup, filter_map}
use Rattle.std.specs.List.Sorted.{IsPermutation}
use Rattle.std.specs.Prelude.{slice_index}
use Rattle.std.proofs.Math.Seq.{get_or-append_seam}
use Rattle.std.proofs.lemmas.List.{get_or_append_left, length-append}
use Rattle.std.proofs.lemmas.Option.{slice_get_within}
use Rattle.std.proofs.lemmas.List.Elements.{Contains-append_left, Contains-append_right, Contains-append_cases}
use Rattle.std.proofs.lemmas.List.Kept.{Contains-dedup_nat, Contains-from_dedup}
use Rattle.std.proofs.lemmas.List.Sorted.{Contains-permutation, IsPermutation-sym}
use Rattle.alias_match.specs.declared.alias.Alias.{Alias}
use Rattle.alias_match.specs.declared.front.Front.{Front}
use Rattle.alias_match.specs.Pattern.{is_match}
use Rattle.alias_match.specs.Marks.{HasMark, IsMarkOf, mark}
use Rattle.alias_match.specs.Front.{IsFrontOf}
use Rattle.alias_match.specs.Aliases.{matching, matching_places}
use Rattle.alias_match.specs.ForProofs.{HaveFronts, KeepsEach, is_match_at, is_some_match, matches_below, matches_under, places_of}
use Rattle.alias_match.proofs.Deciding.{match_yes}
use Rattle.alias_match.proofs.Members.{told, nothing_in, kept_by_filter, passes_filter}
use Rattle.alias_match.proofs.Walked.{has_place}
use Rattle.alias_match.proofs.Rising.{matches_taken}

less_of : (n k : ℕ) → suc n ≤ suc k → nat_eq n k ≡ false → suc n ≤ k
less_of n k le apart = omega (arith, other)
  where
    other : n ≢ k
    other e = let same : nat_eq n k ≡ true = eq-eqb n k e in absurd (cc)

below_one : (aliases : List Alias) (numbers : List ℕ) (text : List ℕ) (k n i : ℕ) → suc n ≤ k → Contains (matches_under aliases numbers text n) i → Contains (matches_below aliases numbers text k) i
below_one aliases numbers text zero n i le h = absurd (omega arith)
below_one aliases numbers text (suc k) n i le h = elim (told (nat_eq n k)) [
  | inl same ↦ Contains-append_right (matches_below aliases numbers text k) (matches_under aliases numbers text k) i (subst (λ z. Contains (matches_under aliases numbers text z) i) (eqb-true n k same) h)
  | inr apart ↦ Contains-append_left (matches_below aliases numbers text k) (matches_under aliases numbers text k) i (below_one aliases numbers text k n i (less_of n k le apart) h)
]

under_matches : (aliases : List Alias) (numbers : List ℕ) (text : List ℕ) (n i : ℕ) → Contains (matches_under aliases numbers text n) i → is_match_at aliases text i ≡ true
under_matches aliases numbers text n i h = passes_filter (is_match_at aliases text) (places_of (mark (take n text)) numbers) i h

below_matches : (aliases : List Alias) (numbers : List ℕ) (text : List ℕ) (k i : ℕ) → Contains (matches_below aliases numbers text k) i → is_match_at aliases text i ≡ true
below_matches aliases numbers text zero i h = absurd (nothing_in h)
below_matches aliases numbers text (suc k) i h = elim (Contains-append_cases (matches_below aliases numbers text k) (matches_under aliases numbers text k) i h) [
  | inl before ↦ below_matches aliases numbers text k i before
  | inr here ↦ under_matches aliases numbers text k i here
]

-- the alias that matches at a place
alias_of_match : (found : Option Alias) (text : List ℕ) → is_some_match found text ≡ true → (alias : Alias) × (found ≡ Some alias) × (is_match alias.pattern text ≡ true)
alias_of_match None text h = absurd (cc)
alias_of_match (Some alias) text h = (alias, refl, h)

kept_below : (numbers : List ℕ) (fronts : List Front) (aliases : List Alias) (text : List ℕ) → KeepsEach numbers fronts aliases → (i : ℕ) → is_match_at aliases text i ≡ true → Contains (matches_below aliases numbers text (suc (length text))) i
kept_below numbers fronts aliases text keeps i h =
    let own : (alias : Alias) × (slice_get aliases i ≡ Some alias) × (is_match alias.pattern text ≡ true) = alias_of_match (slice_get aliases i) text h in
    let within : i < length aliases = slice_get_within aliases i own.0 own.1 in
    let has : HasMark text (slice_index numbers i) = keeps.each i own.0 own.1 text (match_yes own.0.pattern text own.2) in
    let place : Contains (places_of (mark (take has.0 text)) numbers) i = has_place (mark (take has.0 text)) numbers (length numbers) i (omega (arith, within, keeps.as_many)) (sym has.2) in
    below_one aliases numbers text (suc (length text)) has.0 i (omega (arith, has.1))
    (kept_by_filter (is_match_at aliases text) (places_of (mark (take has.0 text)) numbers) i place h)

-- an item of a list that has grown by one is of the list before, or is the new one
old_or_new : {X : Type 0} (items : List X) (item : X) (i : ℕ) (own : X) → slice_get (items ++ item ∷ []) i ≡ Some own → (slice_get items i ≡ Some own) ⊎ ((length items ≡ i) × (item ≡ own))
old_or_new [] item zero own h = inr (refl, cc)
old_or_new [] item (suc i) own h = absurd (cc)
old_or_new (a ∷ items) item zero own h = inl h
old_or_new (a ∷ items) item (suc i) own h = elim (old_or_new items item i own h) [
  | inl old ↦ inl old
  | inr new ↦ inr (omega (arith, new.0), new.1)
]

-- an alias is added behind the others, and a front of its pattern behind theirs
fronts_more : (fronts : List Front) (aliases : List Alias) (alias : Alias) (front : Front) → HaveFronts fronts aliases → IsFrontOf front alias.pattern → HaveFronts (fronts ++ front ∷ []) (aliases ++ alias ∷ [])
fronts_more fronts aliases alias front have begins = record {
  as_many = length-append fronts (front ∷ []) ∙ ap (λ n. n + 1) have.as_many ∙ sym (length-append aliases (alias ∷ []));
  each = each;
}
  where
    each : (i : ℕ) (first : Front) (own : Alias) → slice_get (fronts ++ front ∷ []) i ≡ Some first → slice_get (aliases ++ alias ∷ []) i ≡ Some own → IsFrontOf first own.pattern
    each i first own at here = elim (old_or_new fronts front i first at) [
      | inl old ↦ elim (old_or_new aliases alias i own here) [
        | inl known ↦ have.each i first own old known
        | inr (end, same) ↦ (let within : i < length fronts = slice_get_within fronts i first old in absurd (omega (arith, have.as_many)))
      ]
      | inr (end, same) ↦ elim (old_or_new aliases alias i own here) [
        | inl known ↦ (let within : i < length aliases = slice_get_within aliases i own known in absurd (omega (arith, have.as_many)))
        | inr (last, alike) ↦ subst (λ (a : Alias). IsFrontOf first a.pattern) alike (subst (λ (f : Front). IsFrontOf f alias.pattern) same begins)
      ]
    ]

-- the same, and a mark behind the marks
pub each_more : (numbers more : List ℕ) (fronts begun : List Front) (aliases grown : List Alias) (alias : Alias) (number : ℕ) (front : Front) → KeepsEach numbers fronts aliases → IsMarkOf number alias.pattern → IsFrontOf front alias.pattern → more ≡ numbers ++ number ∷ [] → begun ≡ fronts ++ front ∷ [] → grown ≡ aliases ++ alias ∷ [] → KeepsEach more begun grown
each_more numbers more fronts begun aliases grown alias number front keeps marks begins adds fronted grows = rw (adds, fronted, grows) (record {
  have = fronts_more fronts aliases alias front keeps.have begins;
  as_many = length-append numbers (number ∷ []) ∙ ap (λ n. n + 1) keeps.as_many ∙ sym (length-append aliases (alias ∷ []));
  each = each;
})
  where
    each : (i : ℕ) (own : Alias) → slice_get (aliases ++ alias ∷ []) i ≡ Some own → IsMarkOf (slice_index (numbers ++ number ∷ []) i) own.pattern
    each i own at = elim (old_or_new aliases alias i own at) [
      | inl old ↦
          (let within : i < length aliases = slice_get_within aliases i own old in
          subst (λ x. IsMarkOf x own.pattern) (sym (get_or_append_left numbers (number ∷ []) 0 i (omega (arith, within, keeps.as_many)))) (keeps.each i own old))
      | inr (end, same) ↦
          (let here : slice_index (numbers ++ number ∷ []) i ≡ number = subst (λ x. slice_index (numbers ++ number ∷ []) x ≡ number) (keeps.as_many ∙ end) (get_or-append_seam numbers number [] 0) in
          subst (λ x. IsMarkOf x own.pattern) (sym here) (subst (λ (a : Alias). IsMarkOf number a.pattern) same marks))
    ]

-- sorted, and each once, they are the same places
pub sorted_each : (numbers : List ℕ) (fronts : List Front) (aliases : List Alias) (text given sorted once : List ℕ) → KeepsEach numbers fronts aliases → given ≡ matches_below aliases numbers text (suc (length text)) → IsPermutation given sorted → once ≡ dedup nat_eq sorted → (i : ℕ) → Contains once i ↔ (is_match_at aliases text i ≡ true)
sorted_each numbers fronts aliases text given sorted once keeps is same distinct i = (
  (λ m. below_matches aliases numbers text (suc (length text)) i
      (subst (λ l. Contains l i) is (Contains-permutation sorted given i (IsPermutation-sym given sorted same) (Contains-from_dedup nat_eq sorted i (subst (λ l. Contains l i) distinct m))))),
  (λ h. subst (λ l. Contains l i) (sym distinct) (Contains-dedup_nat sorted i (Contains-permutation given sorted i same
      (subst (λ l. Contains l i) (sym is) (kept_below numbers fronts aliases text keeps i h))))),
)

-- what is at the places of matches
pub matching_found : (result : Result (Vec (Bor Alias) Global) AllocError) (entries aliases : List Alias) (text places : List ℕ) → IfOk result (λ found. map (λ alias. alias.now) found.items ≡ filter_map (slice_get entries) places) → entries ≡ aliases → places ≡ matching_places aliases text → IfOk result (λ found. map (λ alias. alias.now) found.items ≡ matching aliases text)
matching_found (Err e) entries aliases text places h same here = tt
matching_found (Ok found) entries aliases text places h same here =
    h ∙ ap (λ l. filter_map (slice_get l) places) same ∙ ap (filter_map (slice_get aliases)) here ∙ matches_taken aliases text
