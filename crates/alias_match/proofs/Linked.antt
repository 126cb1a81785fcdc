-- The entries of the keys of one bucket are a chain, and a walk along it comes to each place of a key.
use Rattle.std.proofs.Common.{◌≡◌, ◌≢◌, ℕ, suc, ◌+◌, ◌*◌, ◌%◌, ◌<◌, ◌≤◌, ◌++◌, nat_eq, eqb-true, eq-eqb, arith, true, false, List, [], ◌∷◌, length, slice_get, Some, refl, sym, ◌∙◌, ap, subst, inl, inr}
use Rattle.std.specs.Prelude.{slice_index, slice_index_or, slice_set}
use Rattle.std.proofs.Math.ListN.{get_or, get_or-map as get_or-map_same, set}
use Rattle.std.proofs.lemmas.List.{get_or-map, length-map, length-set, map-append, map-set, set-get_or, get_or-set_same, get_or-set_other, get_or_append_left}
use Rattle.std.proofs.lemmas.Nat.{div_below, mod_below}
use Rattle.std.proofs.Math.Nat.{mul-lt-mul_of_pos_right}
use Rattle.std.proofs.lemmas.Option.{get_or_from_slice_get, slice_get_within}
use Rattle.std.proofs.lemmas.Grind.{get_or_default_zero}
use Rattle.alias_match.specs.declared.chains.ChainEntry.{ChainEntry}
use Rattle.alias_match.specs.ForProofs.{AreLinked, HaveEnds, IsChained, IsEnd, befores_of, end_below, is_in_bucket, last_below, keys_of, place_of_end, bucket_of}
use Rattle.alias_match.proofs.Ends.{end_appended, end_in_chain, end_passes, end_within}
use Rattle.alias_match.proofs.Members.{told}

-- one place more is put into its chain
next_end : (ends numbers : List ℕ) (place bucket : ℕ) → HaveEnds ends numbers place → bucket ≡ bucket_of (slice_index numbers place) (length ends) → bucket < length ends → (s : ℕ) → s < length ends → slice_index (set ends bucket (suc place)) s ≡ end_below (is_in_bucket (length ends) s) numbers (suc place)
next_end ends numbers place bucket told_ends is within s below = elim (told (nat_eq s bucket)) [
  | inl t ↦
      (let e : s ≡ bucket = eqb-true s bucket t in
      let mine : nat_eq s (bucket_of (slice_index numbers place) (length ends)) ≡ true = subst (λ x. nat_eq s x ≡ true) is t in
      rw mine (ap (λ x. get_or (set ends bucket (suc place)) x 0) e ∙ get_or-set_same ends bucket (suc place) 0 within))
  | inr f ↦
      (let other : nat_eq s (bucket_of (slice_index numbers place) (length ends)) ≡ false = subst (λ x. nat_eq s x ≡ false) is f in
      rw other (get_or-set_other ends bucket s (suc place) 0 (apart f) ∙ told_ends s below))
]
  where
    apart : nat_eq s bucket ≡ false → s ≢ bucket
    apart f e = let same : nat_eq s bucket ≡ true = eq-eqb s bucket e in absurd (cc)

pub next_ends : (ends numbers : List ℕ) (place bucket : ℕ) → HaveEnds ends numbers place → bucket ≡ bucket_of (slice_index numbers place) (length ends) → bucket < length ends → HaveEnds (set ends bucket (suc place)) numbers (suc place)
next_ends ends numbers place bucket told_ends is within s below =
    let size : length (set ends bucket (suc place)) ≡ length ends = length-set ends bucket (suc place) in
    subst (λ n. slice_index (set ends bucket (suc place)) s ≡ end_below (is_in_bucket n s) numbers (suc place)) (sym size)
    (next_end ends numbers place bucket told_ends is within s (omega (arith, below, size)))

pub next_linked : (ends numbers befores : List ℕ) (place bucket : ℕ) → HaveEnds ends numbers place → AreLinked (length ends) numbers befores place → bucket ≡ bucket_of (slice_index numbers place) (length ends) → bucket < length ends → place < length befores → AreLinked (length ends) numbers (set befores place (slice_index ends bucket)) (suc place)
next_linked ends numbers befores place bucket told_ends linked is within there i below = elim (told (nat_eq i place)) [
  | inl t ↦
      (let e : i ≡ place = eqb-true i place t in
      rw e
      (get_or-set_same befores place (slice_index ends bucket) 0 there
      ∙ told_ends bucket within
      ∙ ap (λ x. end_below (is_in_bucket (length ends) x) numbers place) is))
  | inr f ↦ get_or-set_other befores place i (slice_index ends bucket) 0 (apart f) ∙ linked i (less f)
]
  where
    apart : nat_eq i place ≡ false → i ≢ place
    apart f e = let same : nat_eq i place ≡ true = eq-eqb i place e in absurd (cc)

    less : nat_eq i place ≡ false → i < place
    less f = omega (arith, apart f)

-- what an entry is if there is none
abbrev pub no_entry : ChainEntry
no_entry = record { key = 0; before = 0 }

key-at : (entries : List ChainEntry) (k : ℕ) → slice_index (keys_of entries) k ≡ (slice_index_or entries k no_entry).key
key-at entries k = get_or-map_same (λ (entry : ChainEntry). entry.key) entries k no_entry

before-at : (entries : List ChainEntry) (k : ℕ) → slice_index (befores_of entries) k ≡ (slice_index_or entries k no_entry).before
before-at entries k = get_or-map_same (λ (entry : ChainEntry). entry.before) entries k no_entry

-- the entries, of which that at a place tells another place before it
abbrev pub relinked : List ChainEntry → ℕ → ℕ → List ChainEntry
relinked entries place before = slice_set entries place (record { key = (slice_index_or entries place no_entry).key; before = before })

pub relinked_keys : (entries : List ChainEntry) (place before : ℕ) → keys_of (relinked entries place before) ≡ keys_of entries
relinked_keys entries place before =
    map-set (λ (entry : ChainEntry). entry.key) entries place (record { key = (slice_index_or entries place no_entry).key; before = before })
    ∙ ap (set (keys_of entries) place) (sym (key-at entries place))
    ∙ set-get_or (keys_of entries) place 0

relinked_befores : (entries : List ChainEntry) (place before : ℕ) → befores_of (relinked entries place before) ≡ set (befores_of entries) place before
relinked_befores entries place before = map-set (λ (entry : ChainEntry). entry.before) entries place (record { key = (slice_index_or entries place no_entry).key; before = before })

-- a bucket is below the count of buckets
pub bucket_within : (number buckets : ℕ) → buckets ≢ 0 → bucket_of number buckets < buckets
bucket_within number buckets some =
    let spread : number * 11400714819323198485 % 18446744073709551616 < 18446744073709551616 = mod_below (number * 11400714819323198485) 18446744073709551616 (omega arith) in
    let less : number * 11400714819323198485 % 18446744073709551616 * buckets < 18446744073709551616 * buckets = mul-lt-mul_of_pos_right spread (omega (arith, some)) in
    div_below (number * 11400714819323198485 % 18446744073709551616 * buckets) 18446744073709551616 buckets (omega arith) (omega (arith, less))

pub next_chained : (ends : List ℕ) (entries : List ChainEntry) (place bucket : ℕ) → IsChained ends entries place → bucket ≡ bucket_of (slice_index_or entries place no_entry).key (length ends) → bucket < length ends → place < length entries → IsChained (slice_set ends bucket (place + 1)) (relinked entries place (slice_index_or ends bucket 0)) (place + 1)
next_chained ends entries place bucket chained is within there =
    let own : bucket ≡ bucket_of (slice_index (keys_of entries) place) (length ends) = is ∙ ap (λ x. bucket_of x (length ends)) (sym (key-at entries place)) in
    let sized : place < length (befores_of entries) = subst (λ x. place < x) (sym (length-map entries (λ (entry : ChainEntry). entry.before))) there in
    let size : length (set ends bucket (suc place)) ≡ length ends = length-set ends bucket (suc place) in
    let after : place + 1 ≡ suc place = omega arith in
    rw after
    (record {
      ends_told = subst (λ numbers. HaveEnds (set ends bucket (suc place)) numbers (suc place)) (sym (relinked_keys entries place (slice_index_or ends bucket 0))) (next_ends ends (keys_of entries) place bucket chained.ends_told own within);
      linked =
          subst (λ buckets. AreLinked buckets (keys_of (relinked entries place (slice_index_or ends bucket 0))) (befores_of (relinked entries place (slice_index_or ends bucket 0))) (suc place)) (sym size)
          (subst (λ numbers. AreLinked (length ends) numbers (befores_of (relinked entries place (slice_index_or ends bucket 0))) (suc place)) (sym (relinked_keys entries place (slice_index_or ends bucket 0)))
          (subst (λ befores. AreLinked (length ends) (keys_of entries) befores (suc place)) (sym (relinked_befores entries place (slice_index_or ends bucket 0)))
          (next_linked ends (keys_of entries) (befores_of entries) place bucket chained.ends_told chained.linked own within sized)));
    })

-- places further on say nothing of the first ones
ends_appended : (ends numbers more : List ℕ) (count : ℕ) → HaveEnds ends numbers count → count ≤ length numbers → HaveEnds ends (numbers ++ more) count
ends_appended ends numbers more count told_ends le s below = told_ends s below ∙ sym (end_appended (is_in_bucket (length ends) s) numbers more count le)

linked_appended : (buckets : ℕ) (numbers befores more after : List ℕ) (count : ℕ) → AreLinked buckets numbers befores count → count ≤ length numbers → count ≤ length befores → AreLinked buckets (numbers ++ more) (befores ++ after) count
linked_appended buckets numbers befores more after count linked le there i below =
    let here : slice_index (numbers ++ more) i ≡ slice_index numbers i = get_or_append_left numbers more 0 i (omega arith) in
    get_or_append_left befores after 0 i (omega arith)
    ∙ linked i below
    ∙ ap (λ x. end_below (is_in_bucket buckets (bucket_of x buckets)) numbers i) (sym here)
    ∙ sym (end_appended (is_in_bucket buckets (bucket_of (slice_index (numbers ++ more) i) buckets)) numbers more i (omega arith))

pub appended_chained : (ends more : List ℕ) (entries grown : List ChainEntry) (entry : ChainEntry) (count : ℕ) → IsChained ends entries count → count ≡ length entries → more ≡ ends → grown ≡ entries ++ entry ∷ [] → IsChained more grown count
appended_chained ends more entries grown entry count chained all same grows =
    let few : count ≤ length (keys_of entries) = omega (arith, all, length-map entries (λ (x : ChainEntry). x.key)) in
    let fewer : count ≤ length (befores_of entries) = omega (arith, all, length-map entries (λ (x : ChainEntry). x.before)) in
    let adds : keys_of (entries ++ entry ∷ []) ≡ keys_of entries ++ entry.key ∷ [] = map-append (λ (x : ChainEntry). x.key) entries (entry ∷ []) in
    let puts : befores_of (entries ++ entry ∷ []) ≡ befores_of entries ++ entry.before ∷ [] = map-append (λ (x : ChainEntry). x.before) entries (entry ∷ []) in
    rw (same, grows)
    (record {
      ends_told = subst (λ numbers. HaveEnds ends numbers count) (sym adds) (ends_appended ends (keys_of entries) (entry.key ∷ []) count chained.ends_told few);
      linked =
          subst (λ numbers. AreLinked (length ends) numbers (befores_of (entries ++ entry ∷ [])) count) (sym adds)
          (subst (λ befores. AreLinked (length ends) (keys_of entries ++ entry.key ∷ []) befores count) (sym puts)
          (linked_appended (length ends) (keys_of entries) (befores_of entries) (entry.key ∷ []) (entry.before ∷ []) count chained.linked few fewer));
    })

-- from a place of a chain to the one before it
in_one_bucket : (buckets number : ℕ) (x : ℕ) → nat_eq number x ≡ true → is_in_bucket buckets (bucket_of number buckets) x ≡ true
in_one_bucket buckets number x t = eq-eqb (bucket_of number buckets) (bucket_of x buckets) (ap (λ y. bucket_of y buckets) (eqb-true number x t))

place_below : (entries : List ChainEntry) (number k : ℕ) (end : IsEnd entries number (suc k)) → k < end.below
place_below entries number k end =
    let less : end_below (is_in_bucket end.buckets (bucket_of number end.buckets)) (keys_of entries) end.below ≤ end.below = end_within (is_in_bucket end.buckets (bucket_of number end.buckets)) (keys_of entries) end.below in
    omega (arith, less, end.is)

before_is : (entries : List ChainEntry) (number k : ℕ) (end : IsEnd entries number (suc k)) → slice_index (befores_of entries) k ≡ end_below (is_in_bucket end.buckets (bucket_of number end.buckets)) (keys_of entries) k
before_is entries number k end =
    let here : nat_eq (bucket_of number end.buckets) (bucket_of (slice_index (keys_of entries) k) end.buckets) ≡ true = end_passes (is_in_bucket end.buckets (bucket_of number end.buckets)) (keys_of entries) end.below k (sym end.is) in
    end.linked k (omega (arith, place_below entries number k end, end.within))
    ∙ ap (λ x. end_below (is_in_bucket end.buckets x) (keys_of entries) k) (sym (eqb-true (bucket_of number end.buckets) (bucket_of (slice_index (keys_of entries) k) end.buckets) here))

pub end_before : (entries : List ChainEntry) (number k : ℕ) → IsEnd entries number (suc k) → IsEnd entries number (slice_index (befores_of entries) k)
end_before entries number k end = record {
  buckets = end.buckets;
  below = k;
  within = omega (arith, place_below entries number k end, end.within);
  linked = end.linked;
  is = before_is entries number k end;
}

pub same_before : (entries : List ChainEntry) (number k : ℕ) → IsEnd entries number (suc k) → end_below (nat_eq number) (keys_of entries) (slice_index (befores_of entries) k) ≡ end_below (nat_eq number) (keys_of entries) k
same_before entries number k end =
    ap (end_below (nat_eq number) (keys_of entries)) (before_is entries number k end)
    ∙ end_in_chain (nat_eq number) (is_in_bucket end.buckets (bucket_of number end.buckets)) (keys_of entries) k (in_one_bucket end.buckets number)

pub less_before : (entries : List ChainEntry) (number k : ℕ) → IsEnd entries number (suc k) → slice_index (befores_of entries) k ≤ k
less_before entries number k end =
    let less : end_below (is_in_bucket end.buckets (bucket_of number end.buckets)) (keys_of entries) k ≤ k = end_within (is_in_bucket end.buckets (bucket_of number end.buckets)) (keys_of entries) k in
    omega (arith, less, before_is entries number k end)

pub linked_end : (entries : List ChainEntry) (number end k : ℕ) → end ≡ suc k → IsEnd entries number end → IsEnd entries number (slice_index_or entries k no_entry).before
linked_end entries number end k is chain = subst (IsEnd entries number) (before-at entries k) (end_before entries number k (subst (IsEnd entries number) is chain))

pub linked_same : (entries : List ChainEntry) (number end k : ℕ) → end ≡ suc k → IsEnd entries number end → (slice_index_or entries k no_entry).key ≢ number → end_below (nat_eq number) (keys_of entries) (slice_index_or entries k no_entry).before ≡ end_below (nat_eq number) (keys_of entries) end
linked_same entries number end k is chain unlike = elim (told (nat_eq number (slice_index (keys_of entries) k))) [
  | inl t ↦ absurd (unlike (sym (eqb-true number (slice_index (keys_of entries) k) t ∙ key-at entries k)))
  | inr f ↦
      (let here : end_below (nat_eq number) (keys_of entries) (suc k) ≡ end_below (nat_eq number) (keys_of entries) k = rw f refl in
      ap (end_below (nat_eq number) (keys_of entries)) (sym (before-at entries k))
      ∙ same_before entries number k (subst (IsEnd entries number) is chain)
      ∙ sym here
      ∙ ap (end_below (nat_eq number) (keys_of entries)) (sym is))
]

pub linked_less : (entries : List ChainEntry) (number end k : ℕ) → end ≡ suc k → IsEnd entries number end → (slice_index_or entries k no_entry).before < end
linked_less entries number end k is chain = omega (arith, less_before entries number k (subst (IsEnd entries number) is chain), before-at entries k, is)

pub linked_within : (entries : List ChainEntry) (number end k : ℕ) → end ≡ suc k → IsEnd entries number end → k < length entries
linked_within entries number end k is chain =
    let here : IsEnd entries number (suc k) = subst (IsEnd entries number) is chain in
    omega (arith, place_below entries number k here, here.within)

pub linked_here : (entries : List ChainEntry) (number end k : ℕ) → end ≡ suc k → (slice_index_or entries k no_entry).key ≡ number → Some k ≡ place_of_end (end_below (nat_eq number) (keys_of entries) end)
linked_here entries number end k is own =
    let t : nat_eq number (slice_index (keys_of entries) k) ≡ true = eq-eqb number (slice_index (keys_of entries) k) (sym (key-at entries k ∙ own)) in
    let here : place_of_end (end_below (nat_eq number) (keys_of entries) (suc k)) ≡ Some k = rw t refl in
    sym (ap (λ e. place_of_end (end_below (nat_eq number) (keys_of entries) e)) is ∙ here)

-- the end of a bucket's chain, and the end of the whole of a number's places
whole_end : (buckets : ℕ) (numbers : List ℕ) (number n : ℕ) → end_below (nat_eq number) numbers (end_below (is_in_bucket buckets (bucket_of number buckets)) numbers n) ≡ end_below (nat_eq number) numbers n
whole_end buckets numbers number n = end_in_chain (nat_eq number) (is_in_bucket buckets (bucket_of number buckets)) numbers n (in_one_bucket buckets number)

-- what an entry tells, and what a bucket tells
entry_tells : (ends : List ℕ) (entries : List ChainEntry) (number place : ℕ) (entry : ChainEntry) → IsChained ends entries (length entries) → slice_get (keys_of entries) place ≡ Some number → entry ≡ slice_index_or entries place entry → place < length entries → entry.before ≡ end_below (is_in_bucket (length ends) (bucket_of number (length ends))) (keys_of entries) place
entry_tells ends entries number place entry chained here is within =
    let own : slice_index (keys_of entries) place ≡ number = get_or_from_slice_get (keys_of entries) place number 0 here in
    ap (λ (x : ChainEntry). x.before) is
    ∙ sym (get_or-map (λ (x : ChainEntry). x.before) entries place entry 0 within)
    ∙ chained.linked place within
    ∙ ap (λ x. end_below (is_in_bucket (length ends) (bucket_of x (length ends))) (keys_of entries) place) own

has_entry : (entries : List ChainEntry) (number place : ℕ) → slice_get (keys_of entries) place ≡ Some number → place < length entries
has_entry entries number place here =
    subst (λ n. place < n) (length-map entries (λ (x : ChainEntry). x.key)) (slice_get_within (keys_of entries) place number here)

pub end_of_entry : (ends : List ℕ) (entries : List ChainEntry) (number place : ℕ) (entry : ChainEntry) → IsChained ends entries (length entries) → slice_get (keys_of entries) place ≡ Some number → entry ≡ slice_index_or entries place entry → IsEnd entries number entry.before
end_of_entry ends entries number place entry chained here is = record {
  buckets = length ends;
  below = place;
  within = omega (arith, has_entry entries number place here);
  linked = chained.linked;
  is = entry_tells ends entries number place entry chained here is (has_entry entries number place here);
}

pub before_entry : (ends : List ℕ) (entries : List ChainEntry) (number place : ℕ) (entry : ChainEntry) → IsChained ends entries (length entries) → slice_get (keys_of entries) place ≡ Some number → entry ≡ slice_index_or entries place entry → place_of_end (end_below (nat_eq number) (keys_of entries) entry.before) ≡ last_below number (keys_of entries) place
before_entry ends entries number place entry chained here is =
    ap place_of_end
    (ap (end_below (nat_eq number) (keys_of entries)) (entry_tells ends entries number place entry chained here is (has_entry entries number place here))
    ∙ whole_end (length ends) (keys_of entries) number place)

bucket_tells : (ends : List ℕ) (entries : List ChainEntry) (number bucket end : ℕ) → IsChained ends entries (length entries) → bucket ≡ bucket_of number (length ends) → bucket < length ends → end ≡ slice_index_or ends bucket end → end ≡ end_below (is_in_bucket (length ends) (bucket_of number (length ends))) (keys_of entries) (length entries)
bucket_tells ends entries number bucket end chained own within is =
    is
    ∙ get_or_default_zero ends bucket end within
    ∙ chained.ends_told bucket within
    ∙ ap (λ x. end_below (is_in_bucket (length ends) x) (keys_of entries) (length entries)) own

pub end_of_bucket : (ends : List ℕ) (entries : List ChainEntry) (number bucket end : ℕ) → IsChained ends entries (length entries) → bucket ≡ bucket_of number (length ends) → bucket < length ends → end ≡ slice_index_or ends bucket end → IsEnd entries number end
end_of_bucket ends entries number bucket end chained own within is = record {
  buckets = length ends;
  below = length entries;
  within = omega arith;
  linked = chained.linked;
  is = bucket_tells ends entries number bucket end chained own within is;
}

pub last_of_bucket : (ends : List ℕ) (entries : List ChainEntry) (number bucket end : ℕ) → IsChained ends entries (length entries) → bucket ≡ bucket_of number (length ends) → bucket < length ends → end ≡ slice_index_or ends bucket end → place_of_end (end_below (nat_eq number) (keys_of entries) end) ≡ last_below number (keys_of entries) (length entries)
last_of_bucket ends entries number bucket end chained own within is =
    ap place_of_end
    (ap (end_below (nat_eq number) (keys_of entries)) (bucket_tells ends entries number bucket end chained own within is)
    ∙ whole_end (length ends) (keys_of entries) number (length entries))
