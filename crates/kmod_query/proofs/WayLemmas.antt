-- A hashed way has its names in order.
use Rattle.std.proofs.Common.{◌≡◌, ℕ, ◌-◌, ◌<◌, ◌+◌, Bool, true, false, cond, ◌||◌, List, [], ◌∷◌, ◌++◌, length, take as first, Option, Some, None, Vec, refl, sym, ap, ◌∙◌, arith}
use Rattle.std.proofs.lemmas.List.{append-nil, map-append}
use Rattle.std.specs.Global.{Global}
use Rattle.std.specs.List.{list_any}
use Rattle.std.specs.Option.{option_to_list}
use Rattle.std.specs.Str.{bytes_eq}
use Rattle.indexmap.specs.IndexSet.{insert_key}
use Rattle.kmod_query.specs.Objects.{names_of}
use Rattle.kmod_query.specs.Removal.{front_of}
use Rattle.kmod_query.specs.Removals.{with_name}

pub any-names : (name : List ℕ) (keys : List (Vec ℕ Global)) → list_any (λ (own : Vec ℕ Global). bytes_eq name own.items) keys ≡ list_any (bytes_eq name) (names_of keys)
any-names name [] = refl
any-names name (own ∷ keys) = ap (λ b. bytes_eq name own.items || b) (any-names name keys)

pub names-insert_key : (keys : List (Vec ℕ Global)) (own : Vec ℕ Global) → names_of (insert_key (λ (a : Vec ℕ Global) (b : Vec ℕ Global). bytes_eq a.items b.items) keys own) ≡ with_name (names_of keys) own.items
names-insert_key keys own =
    next (list_any (λ (b : Vec ℕ Global). bytes_eq own.items b.items) keys)
    ∙ ap (λ t. cond t (names_of keys) (names_of keys ++ own.items ∷ [])) (any-names own.items keys)
  where
    next : (t : Bool) → names_of (cond t keys (keys ++ own ∷ [])) ≡ cond t (names_of keys) (names_of keys ++ own.items ∷ [])
    next true = refl
    next false = map-append (λ (n : Vec ℕ Global). n.items) keys (own ∷ [])

length-more : (names : List (List ℕ)) (last : List ℕ) → length (names ++ last ∷ []) ≡ length names + 1
length-more [] last = refl
length-more (name ∷ names) last = let more : length (names ++ last ∷ []) ≡ length names + 1 = length-more names last in omega (arith, more)

first-own : (names : List (List ℕ)) (last : List ℕ) → first (length names) (names ++ last ∷ []) ≡ names
first-own [] last = refl
first-own (name ∷ names) last = ap (λ l. name ∷ l) (first-own names last)

front-more : (names : List (List ℕ)) (last : List ℕ) → front_of (names ++ last ∷ []) ≡ names
front-more names last =
    let count : length (names ++ last ∷ []) - 1 ≡ length names = omega (arith, length-more names last) in
    ap (λ k. first k (names ++ last ∷ [])) count ∙ first-own names last

front-last : (keys : List (Vec ℕ Global)) (last : Vec ℕ Global) → front_of (names_of (keys ++ last ∷ [])) ≡ names_of keys
front-last keys last = ap front_of (map-append (λ (n : Vec ℕ Global). n.items) keys (last ∷ [])) ∙ front-more (names_of keys) last.items

none-front : (keys new : List (Vec ℕ Global)) → (0 < length keys → ⊥) → keys ≡ new ++ [] → names_of new ≡ front_of (names_of keys)
none-front [] new none e = ap names_of (sym (e ∙ append-nil new))
none-front (own ∷ keys) new none e = absurd (none (omega arith))

pub names-pop : (old new : List (Vec ℕ Global)) (found : Option (Vec ℕ Global)) → (found ≡ None → 0 < length old → ⊥) → old ≡ new ++ option_to_list found → names_of new ≡ front_of (names_of old)
names-pop old new None none e = none-front old new (none refl) e
names-pop old new (Some last) none e = sym (front-last new last) ∙ ap (λ l. front_of (names_of l)) (sym e)
