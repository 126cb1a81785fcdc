-- A walk along a chain comes to each place of a number.
use Rattle.std.proofs.Common.{◌≡◌, ◌≢◌, ℕ, zero, suc, ◌<◌, ◌≤◌, ◌++◌, nat_eq, eqb-true, eq-eqb, arith, Bool, true, false, List, [], ◌∷◌, filter, length, Contains, slice_get, Option, Some, None, IfSome, sym, refl, ◌∙◌, ap, subst, inl, inr}
use Rattle.std.specs.Prelude.{slice_index}
use Rattle.std.proofs.lemmas.List.{append_assoc}
use Rattle.std.proofs.lemmas.Option.{slice_get-get_or}
use Rattle.alias_match.specs.ForProofs.{end_below, last_below, place_of_end, places_below}
use Rattle.alias_match.proofs.Ends.{end_passes, end_within}
use Rattle.alias_match.proofs.Members.{told, is_first, is_later}

-- the places of a number, from the one that a walk comes to next
abbrev pub places_from : ℕ → List ℕ → Option ℕ → List ℕ
places_from number numbers None = []
places_from number numbers (Some place) = place ∷ places_below number numbers place

-- how far it is from the first place
abbrev pub place_count : Option ℕ → ℕ
place_count None = 0
place_count (Some place) = suc place

pub places_next : (number : ℕ) (numbers : List ℕ) (n : ℕ) → places_from number numbers (last_below number numbers n) ≡ places_below number numbers n
places_next number numbers zero = refl
places_next number numbers (suc n) = elim (told (nat_eq number (slice_index numbers n))) [
  | inl t ↦ rw t refl
  | inr f ↦ rw f (places_next number numbers n)
]

end_of_place : (end place : ℕ) → place_of_end end ≡ Some place → end ≡ suc place
end_of_place zero place e = absurd (cc)
end_of_place (suc k) place e = cc

pub last_is : (number : ℕ) (numbers : List ℕ) (n place : ℕ) → n ≤ length numbers → last_below number numbers n ≡ Some place → slice_get numbers place ≡ Some number
last_is number numbers n place le e =
    let end : end_below (nat_eq number) numbers n ≡ suc place = end_of_place (end_below (nat_eq number) numbers n) place e in
    let same : number ≡ slice_index numbers place = eqb-true number (slice_index numbers place) (end_passes (nat_eq number) numbers n place end) in
    let less : end_below (nat_eq number) numbers n ≤ n = end_within (nat_eq number) numbers n in
    slice_get-get_or numbers place 0 (omega (arith, end)) ∙ ap Some (sym same)

pub last_less : (number : ℕ) (numbers : List ℕ) (n place : ℕ) → last_below number numbers n ≡ Some place → place < n
last_less number numbers n place e =
    let end : end_below (nat_eq number) numbers n ≡ suc place = end_of_place (end_below (nat_eq number) numbers n) place e in
    let less : end_below (nat_eq number) numbers n ≤ n = end_within (nat_eq number) numbers n in
    omega (arith, end)

pub next_is : (number : ℕ) (numbers : List ℕ) (n : ℕ) (next : Option ℕ) → n ≤ length numbers → next ≡ last_below number numbers n → IfSome next (λ place. slice_get numbers place ≡ Some number)
next_is number numbers n None le e = tt
next_is number numbers n (Some place) le e = last_is number numbers n place le (sym e)

pub next_less : (number : ℕ) (numbers : List ℕ) (before next : Option ℕ) (place : ℕ) → before ≡ Some place → next ≡ last_below number numbers place → place_count next < place_count before
next_less number numbers before None place was e = rw was (omega arith)
next_less number numbers before (Some k) place was e = rw was (omega (arith, last_less number numbers place k (sym e)))

-- a place that passes is found, and one that does not is passed over
pub found_next : (passes : ℕ → Bool) (found after : List ℕ) (number : ℕ) (numbers : List ℕ) (before next : Option ℕ) (place : ℕ) → before ≡ Some place → next ≡ last_below number numbers place → passes place ≡ true → after ≡ found ++ place ∷ [] → after ++ filter passes (places_from number numbers next) ≡ found ++ filter passes (places_from number numbers before)
found_next passes found after number numbers before next place was is passing grows =
    rw (was, grows, is, passing)
    (append_assoc found (place ∷ []) (filter passes (places_from number numbers (last_below number numbers place)))
    ∙ ap (λ l. found ++ place ∷ filter passes l) (places_next number numbers place))

pub passed_next : (passes : ℕ → Bool) (found : List ℕ) (number : ℕ) (numbers : List ℕ) (before next : Option ℕ) (place : ℕ) → before ≡ Some place → next ≡ last_below number numbers place → passes place ≡ false → found ++ filter passes (places_from number numbers next) ≡ found ++ filter passes (places_from number numbers before)
passed_next passes found number numbers before next place was is failing =
    rw (was, is, failing) (ap (λ l. found ++ filter passes l) (places_next number numbers place))

-- each place of a number is among them
pub has_place : (number : ℕ) (numbers : List ℕ) (n i : ℕ) → i < n → slice_index numbers i ≡ number → Contains (places_below number numbers n) i
has_place number numbers zero i less e = absurd (omega arith)
has_place number numbers (suc n) i less e = elim (told (nat_eq n i)) [
  | inl t ↦
      (let here : n ≡ i = eqb-true n i t in
      let own : nat_eq number (slice_index numbers n) ≡ true = eq-eqb number (slice_index numbers n) (sym (ap (slice_index numbers) here ∙ e)) in
      rw own (subst (λ x. Contains (n ∷ places_below number numbers n) x) here (is_first n (places_below number numbers n))))
  | inr f ↦
      (let rest : Contains (places_below number numbers n) i = has_place number numbers n i (omega (arith, apart f)) e in
      elim (told (nat_eq number (slice_index numbers n))) [
        | inl t ↦ rw t (is_later n (places_below number numbers n) i rest)
        | inr g ↦ rw g rest
      ])
]
  where
    apart : nat_eq n i ≡ false → n ≢ i
    apart f e2 = let same : nat_eq n i ≡ true = eq-eqb n i e2 in absurd (cc)
