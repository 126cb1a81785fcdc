-- The targets of the aliases that match are those that the definition has, and each is taken once.
use Rattle.std.proofs.Common.{◌≡◌, ℕ, ◌+◌, ◌<◌, Bool, true, false, cond, not, ◌||◌, List, [], ◌∷◌, ◌++◌, length, get_or, drop, filter, map, refl, sym, ◌∙◌, ap, inl, inr, add-one, drop-cons}
use Rattle.std.proofs.lemmas.List.{map-append}
use Rattle.std.specs.Borrow.{Bor}
use Rattle.std.specs.List.{list_any}
use Rattle.std.specs.Str.{bytes_eq}
use Rattle.text_parts.specs.Text.{texts_of}
use Rattle.indexmap.specs.IndexSet.{insert_key}
use Rattle.alias_match.specs.declared.alias.Alias.{Alias}
use Rattle.alias_match.specs.Aliases.{matching}
use Rattle.alias_match.specs.Pattern.{is_match}
use Rattle.load_plan.specs.LookUp.{targets_of, with_name, with_names}
use Rattle.load_plan.proofs.Lists.{either_way}

targets-matching : (aliases : List Alias) (name : List ℕ) → map (λ (a : Alias). a.target) (matching aliases name) ≡ targets_of aliases name
targets-matching [] name = refl
targets-matching (alias ∷ later) name = elim (either_way (is_match alias.pattern name)) [
  | inl t ↦ rw t (ap (λ l. alias.target ∷ l) (targets-matching later name))
  | inr t ↦ rw t (targets-matching later name)
]

targets-lent : (found : List (Bor Alias)) → map (λ alias. alias.now.target) found ≡ map (λ (a : Alias). a.target) (map (λ alias. alias.now) found)
targets-lent [] = refl
targets-lent (alias ∷ found) = ap (λ l. alias.now.target ∷ l) (targets-lent found)

-- the targets of the aliases that were found
pub targets_found : (found lent : List (Bor Alias)) (aliases : List Alias) (name : List ℕ) → lent ≡ found → map (λ alias. alias.now) found ≡ matching aliases name → map (λ alias. alias.now.target) lent ≡ targets_of aliases name
targets_found found lent aliases name same h =
    ap (map (λ (alias : Bor Alias). alias.now.target)) same ∙ targets-lent found ∙ ap (map (λ (a : Alias). a.target)) h ∙ targets-matching aliases name

pub any-texts : (name : List ℕ) (keys : List (Bor (List ℕ))) → list_any (λ (own : Bor (List ℕ)). bytes_eq name own.now) keys ≡ list_any (bytes_eq name) (texts_of keys)
any-texts name [] = refl
any-texts name (own ∷ keys) = ap (λ b. bytes_eq name own.now || b) (any-texts name keys)

-- the texts of a set with one text more
pub texts-insert_key : (keys : List (Bor (List ℕ))) (own : Bor (List ℕ)) → texts_of (insert_key (λ (a : Bor (List ℕ)) (b : Bor (List ℕ)). bytes_eq a.now b.now) keys own) ≡ with_name (texts_of keys) own.now
texts-insert_key keys own =
    next (list_any (λ (b : Bor (List ℕ)). bytes_eq own.now b.now) keys)
    ∙ ap (λ t. cond t (texts_of keys) (texts_of keys ++ own.now ∷ [])) (any-texts own.now keys)
  where
    next : (t : Bool) → texts_of (cond t keys (keys ++ own ∷ [])) ≡ cond t (texts_of keys) (texts_of keys ++ own.now ∷ [])
    next true = refl
    next false = map-append (λ (n : Bor (List ℕ)). n.now) keys (own ∷ [])

-- a name that is added if it is not there
pub names-added : (names : List (List ℕ)) (name : List ℕ) (added : Bool) → added ≡ not (list_any (bytes_eq name) names) → cond added (names ++ name ∷ []) names ≡ with_name names name
names-added names name added is = ap (λ b. cond b (names ++ name ∷ []) names) is ∙ turned (list_any (bytes_eq name) names)
  where
    turned : (t : Bool) → cond (not t) (names ++ name ∷ []) names ≡ cond t names (names ++ name ∷ [])
    turned true = refl
    turned false = refl

-- the first of the aliases that are left
pub names-next : (names : List (List ℕ)) (aliases : List (Bor Alias)) (i : ℕ) (d : Bor Alias) → i < length aliases → d ≡ get_or aliases i d
    → with_names (with_name names d.now.target) (map (λ alias. alias.now.target) (drop (i + 1) aliases)) ≡ with_names names (map (λ alias. alias.now.target) (drop i aliases))
names-next names aliases i d below at =
    let first : drop i aliases ≡ get_or aliases i d ∷ drop (i + 1) aliases = rw (add-one, drop-cons aliases i d below) refl in
    ap (λ (a : Bor Alias). with_names (with_name names a.now.target) (map (λ (alias : Bor Alias). alias.now.target) (drop (i + 1) aliases))) at
    ∙ ap (λ l. with_names names (map (λ (alias : Bor Alias). alias.now.target) l)) (sym first)

-- what is left of the targets
pub targets-filter : (test : List ℕ → Bool) (aliases : List (Bor Alias)) → map (λ alias. alias.now.target) (filter (λ (alias : Bor Alias). test alias.now.target) aliases) ≡ filter test (map (λ alias. alias.now.target) aliases)
targets-filter test [] = refl
targets-filter test (alias ∷ later) = next (test alias.now.target) (filter (λ (a : Bor Alias). test a.now.target) later) (targets-filter test later)
  where
    next : (t : Bool) (kept : List (Bor Alias)) → map (λ (a : Bor Alias). a.now.target) kept ≡ filter test (map (λ (a : Bor Alias). a.now.target) later)
        → map (λ (a : Bor Alias). a.now.target) (cond t (alias ∷ kept) kept) ≡ cond t (alias.now.target ∷ filter test (map (λ (a : Bor Alias). a.now.target) later)) (filter test (map (λ (a : Bor Alias). a.now.target) later))
    next true kept same = ap (λ l. alias.now.target ∷ l) same
    next false kept same = same
