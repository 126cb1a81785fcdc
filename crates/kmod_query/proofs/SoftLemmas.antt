-- What maps know of names, and what was met at the front of lists.
use Rattle.std.proofs.Common.{◌≡◌, ℕ, zero, suc, ◌+◌, Bool, true, false, cond, ◌||◌, List, [], ◌∷◌, ◌++◌, slice_get, Option, Some, None, Vec, refl, sym, ◌∙◌, ap, subst, arith, inl, inr, is_some, nat_lt, length}
use Rattle.std.specs.Bool.{beq}
use Rattle.std.specs.Global.{Global}
use Rattle.std.specs.List.{list_any}
use Rattle.std.specs.Map.{lookup}
use Rattle.std.specs.Option.{option_eq, unwrap_or}
use Rattle.std.specs.Str.{bytes_eq}
use Rattle.std.proofs.lemmas.Bool.{lt-ltb}
use Rattle.std.proofs.lemmas.List.Folds.{list_any-append}
use Rattle.std.proofs.Math.Nat.{zero-lt-suc}
use Rattle.std.proofs.lemmas.Slice.Eq.{bytes_eq-Decides}
use Rattle.indexmap.specs.IndexMap.{insert_entry}
use Rattle.kmod_names.proofs.PlaceLemmas.{told}
use Rattle.kmod_query.specs.declared.look_up.Place.{Place}
use Rattle.kmod_query.specs.declared.look_up.Place.TheVariants.{Before, After}
use Rattle.kmod_query.specs.declared.look_up.SoftItems.{SoftItems}
use Rattle.kmod_query.specs.declared.fronts.Fronts.{Fronts}
use Rattle.kmod_query.specs.declared.soft_lists.Found.{Found}
use Rattle.kmod_query.specs.Facts.{Facts}
use Rattle.kmod_query.specs.Lines.{has_soft_items}
use Rattle.kmod_query.specs.Objects.{Object, has, is_same, with_object}
use Rattle.kmod_query.specs.Probes.{before_of, after_of}
use Rattle.kmod_query.specs.Stacks.{AreFronts, AreFrontsAt, Each, IsFound, IsFront, IsSoft, count_in, side_of, soft_of}

-- ---- maps

pub each_found : {V : Type 0} (P : List ℕ → V → Type 0) (entries : List (Vec ℕ Global × V)) (name : List ℕ) (value : V)
    → Each P entries → Some value ≡ lookup (λ (key : Vec ℕ Global). bytes_eq name key.items) entries → P name value
each_found P [] name value known h = absurd (cc)
each_found P (entry ∷ entries) name value known h = elim (told (bytes_eq name entry.0.items)) [
  | inl t ↦ (
      let same : value ≡ entry.1 = ap (λ found. unwrap_or found value) (rw t at h) in
      subst (λ n. P n value) (sym ((bytes_eq-Decides name entry.0.items).0 t)) (subst (P entry.0.items) (sym same) known.0))
  | inr t ↦ each_found P entries name value known.1 (rw t at h)
]

pub each_inserted : {V : Type 0} (P : List ℕ → V → Type 0) (entries : List (Vec ℕ Global × V)) (key : Vec ℕ Global) (value : V)
    → P key.items value → Each P entries → Each P (insert_entry (λ (a : Vec ℕ Global) (b : Vec ℕ Global). bytes_eq a.items b.items) entries key value)
each_inserted P [] key value own known = (own, tt)
each_inserted P (entry ∷ entries) key value own known = elim (told (bytes_eq key.items entry.0.items)) [
  | inl t ↦ rw t (subst (λ n. P n value) ((bytes_eq-Decides key.items entry.0.items).0 t) own, known.1)
  | inr t ↦ rw t (known.0, each_inserted P entries key value own known.1)
]

each_mapped : {V : Type 0} (P Q : List ℕ → V → Type 0) → ((name : List ℕ) (value : V) → P name value → Q name value) → (entries : List (Vec ℕ Global × V)) → Each P entries → Each Q entries
each_mapped P Q f [] h = tt
each_mapped P Q f (entry ∷ entries) h = (f entry.0.items entry.1 h.0, each_mapped P Q f entries h.1)

-- ---- soft lists

pub soft_kept : (facts : Facts) (entries new : List (Vec ℕ Global × SoftItems)) (key : Vec ℕ Global) (name : List ℕ) (items : SoftItems)
    → key.items ≡ name → new ≡ insert_entry (λ (a : Vec ℕ Global) (b : Vec ℕ Global). bytes_eq a.items b.items) entries key items
    → IsSoft facts name items → Each (IsSoft facts) entries → Each (IsSoft facts) new
soft_kept facts entries new key name items e f own known =
    subst (Each (IsSoft facts)) (sym f) (each_inserted (IsSoft facts) entries key items (subst (λ n. IsSoft facts n items) (sym e) own) known)

pub soft_sides : (facts : Facts) (name : List ℕ) (items : SoftItems) → side_of Before items ≡ before_of facts name → side_of After items ≡ after_of facts name → IsSoft facts name items
soft_sides facts name items b a Before = b
soft_sides facts name items b a After = a

pub found_soft : (facts : Facts) (name : List ℕ) (items : SoftItems) (place : Place) (index : ℕ) (found : Option Found)
    → IsSoft facts name items → IsFound (side_of place items) index found → IsFound (soft_of facts place name) index found
found_soft facts name items place index found soft h = subst (λ l. IsFound l index found) (soft place) h

first_found : (xs : List Object) (found : Option Found) → IsFound xs 0 found → is_some found ≡ nat_lt 0 (length xs)
first_found [] None h = refl
first_found [] (Some found) h = absurd (cc (h.0))
first_found (x ∷ xs) None h = absurd (cc (h))
first_found (x ∷ xs) (Some found) h = sym (lt-ltb 0 (length (x ∷ xs)) (zero-lt-suc (length xs)))

-- if the first item before a module is none, that after it tells whether the module has soft items
pub has_after : (facts : Facts) (name : List ℕ) (before after : Option Found) (b a : Bool) → b ≡ is_some before → a ≡ is_some after → b ≡ false
    → IsFound (soft_of facts Before name) 0 before → IsFound (soft_of facts After name) 0 after → a ≡ has_soft_items facts name
has_after facts name before after b a p q none x y =
    q
    ∙ ap (λ t. t || is_some after) (sym none ∙ p ∙ first_found (before_of facts name) before x)
    ∙ ap (λ t. nat_lt 0 (length (before_of facts name)) || t) (first_found (after_of facts name) after y)

-- ---- what was met

bytes-same : (a : List ℕ) → bytes_eq a a ≡ true
bytes-same a = (bytes_eq-Decides a a).1 refl

alias-same : (alias : Option (List ℕ)) → option_eq bytes_eq alias alias ≡ true
alias-same None = refl
alias-same (Some text) = bytes-same text

flag-same : (flag : Bool) → beq flag flag ≡ true
flag-same true = refl
flag-same false = refl

same-itself : (o : Object) → is_same o o ≡ true
same-itself o = rw (bytes-same o.name, alias-same o.alias, flag-same o.builtin) refl

pub has-own : (met : List Object) (o : Object) → has (with_object met o) o ≡ true
has-own met o = next (has met o) refl
  where
    next : (known : Bool) → has met o ≡ known → has (cond known met (met ++ o ∷ [])) o ≡ true
    next true t = t
    next false t = list_any-append (is_same o) met (o ∷ []) ∙ ap (λ b. b || (is_same o o || false)) t ∙ ap (λ b. b || false) (same-itself o)

has-more : (met : List Object) (o x : Object) → has met x ≡ true → has (with_object met o) x ≡ true
has-more met o x h = next (has met o)
  where
    next : (known : Bool) → has (cond known met (met ++ o ∷ [])) x ≡ true
    next true = h
    next false = list_any-append (is_same x) met (o ∷ []) ∙ ap (λ b. b || list_any (is_same x) (o ∷ [])) h

front-more : (met : List Object) (o : Object) (count : ℕ) (xs : List Object) → IsFront met count xs → IsFront (with_object met o) count xs
front-more met o zero xs h = tt
front-more met o (suc count) [] h = absurd h
front-more met o (suc count) (x ∷ xs) h = (has-more met o x h.0, front-more met o count xs h.1)

front-next : (met : List Object) (index : ℕ) (xs : List Object) (o : Object) → IsFront met index xs → slice_get xs index ≡ Some o → has met o ≡ true → IsFront met (suc index) xs
front-next met zero [] o h at known = absurd (cc (at))
front-next met zero (x ∷ xs) o h at known =
    let own : x ≡ o = ap (λ found. unwrap_or found o) at in
    (subst (λ y. has met y ≡ true) (sym own) known, tt)
front-next met (suc index) [] o h at known = absurd h
front-next met (suc index) (x ∷ xs) o h at known = (h.0, front-next met index xs o h.1 at known)

pub front-grown : (met : List Object) (index next : ℕ) (xs : List Object) (o : Object) → next ≡ index + 1 → IsFront met index xs → slice_get xs index ≡ Some o → has met o ≡ true → IsFront met next xs
front-grown met index next xs o e h at known =
    let behind : suc index ≡ next = omega (arith, e) in
    subst (λ k. IsFront met k xs) behind (front-next met index xs o h at known)

-- ---- fronts

counted : (P : ℕ → Type 0) (entries : List (Vec ℕ Global × ℕ)) (name : List ℕ) → P 0 → ((count : ℕ) → Some count ≡ lookup (λ (key : Vec ℕ Global). bytes_eq name key.items) entries → P count) → P (count_in entries name)
counted P entries name none some = next (lookup (λ (key : Vec ℕ Global). bytes_eq name key.items) entries) refl
  where
    next : (found : Option ℕ) → found ≡ lookup (λ (key : Vec ℕ Global). bytes_eq name key.items) entries → P (unwrap_or found 0)
    next None h = none
    next (Some count) h = some count h

pub front_in : (facts : Facts) (met : List Object) (place : Place) (entries : List (Vec ℕ Global × ℕ)) (name : List ℕ) → AreFrontsAt facts met place entries → IsFront met (count_in entries name) (soft_of facts place name)
front_in facts met place entries name known =
    counted (λ count. IsFront met count (soft_of facts place name)) entries name tt
    (λ count found. each_found (λ (n : List ℕ) (k : ℕ). IsFront met k (soft_of facts place n)) entries name count known found)

pub front_set : (facts : Facts) (met : List Object) (place : Place) (entries new : List (Vec ℕ Global × ℕ)) (key : Vec ℕ Global) (name : List ℕ) (count : ℕ)
    → key.items ≡ name → new ≡ insert_entry (λ (a : Vec ℕ Global) (b : Vec ℕ Global). bytes_eq a.items b.items) entries key count
    → IsFront met count (soft_of facts place name) → AreFrontsAt facts met place entries → AreFrontsAt facts met place new
front_set facts met place entries new key name count e f own known =
    subst (AreFrontsAt facts met place) (sym f)
    (each_inserted (λ (n : List ℕ) (k : ℕ). IsFront met k (soft_of facts place n)) entries key count (subst (λ n. IsFront met count (soft_of facts place n)) (sym e) own) known)

pub fronts-more : (facts : Facts) (met seen : List Object) (o : Object) (fronts : Fronts) → seen ≡ with_object met o → AreFronts facts met fronts → AreFronts facts seen fronts
fronts-more facts met seen o fronts e known =
    subst (λ l. AreFronts facts l fronts) (sym e) (
      each_mapped (λ (n : List ℕ) (k : ℕ). IsFront met k (soft_of facts Before n)) (λ (n : List ℕ) (k : ℕ). IsFront (with_object met o) k (soft_of facts Before n)) (λ n k h. front-more met o k (soft_of facts Before n) h) fronts.before.entries known.0,
      each_mapped (λ (n : List ℕ) (k : ℕ). IsFront met k (soft_of facts After n)) (λ (n : List ℕ) (k : ℕ). IsFront (with_object met o) k (soft_of facts After n)) (λ n k h. front-more met o k (soft_of facts After n) h) fronts.after.entries known.1,
    )

pub fronts-met : (facts : Facts) (met seen : List Object) (o : Object) (fronts noted : Fronts) → seen ≡ with_object met o → AreFronts facts met fronts
    → (has seen o ≡ true → AreFronts facts seen fronts → AreFronts facts seen noted) → AreFronts facts seen noted
fronts-met facts met seen o fronts noted e known step =
    step (subst (λ l. has l o ≡ true) (sym e) (has-own met o)) (fronts-more facts met seen o fronts e known)
