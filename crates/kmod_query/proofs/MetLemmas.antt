-- What a set of objects has.
use Rattle.std.proofs.Common.{◌≡◌, List, [], ◌∷◌, ◌++◌, Bool, true, false, ◌||◌, ◌&&◌, cond, map, refl, ap, ◌∙◌, Option, Some, None, Vec, ℕ}
use Rattle.std.proofs.lemmas.List.{map-append}
use Rattle.std.specs.Bool.{beq}
use Rattle.std.specs.Global.{Global}
use Rattle.std.specs.List.{list_any}
use Rattle.std.specs.Option.{option_eq}
use Rattle.std.specs.Str.{bytes_eq}
use Rattle.indexmap.specs.IndexSet.{insert_key}
use Rattle.kmod_query.specs.Objects.{alias_of, object_with, is_same, has, with_object}

abbrev Key : Type 0
Key = Vec ℕ Global × Option (Vec ℕ Global) × Bool

abbrev same_text : Vec ℕ Global → Vec ℕ Global → Bool
same_text a b = bytes_eq a.items b.items

abbrev same_key : Key → Key → Bool
same_key a b = (same_text a.0 b.0 && option_eq same_text a.1 b.1) && beq a.2 b.2

same_alias : (a b : Option (Vec ℕ Global)) → option_eq same_text a b ≡ option_eq bytes_eq (alias_of a) (alias_of b)
same_alias None None = refl
same_alias None (Some b) = refl
same_alias (Some a) None = refl
same_alias (Some a) (Some b) = refl

pub has_key : (keys : List Key) (key : Key) → list_any (same_key key) keys ≡ has (map object_with keys) (object_with key)
has_key [] key = refl
has_key (k ∷ keys) key =
    ap (λ t. ((same_text key.0 k.0 && t) && beq key.2 k.2) || list_any (same_key key) keys) (same_alias key.1 k.1)
    ∙ ap (λ later. is_same (object_with key) (object_with k) || later) (has_key keys key)

pub with_key : (keys : List Key) (key : Key) → map object_with (insert_key same_key keys key) ≡ with_object (map object_with keys) (object_with key)
with_key keys key =
    next (list_any (same_key key) keys) ∙ ap (λ t. cond t (map object_with keys) (map object_with keys ++ object_with key ∷ [])) (has_key keys key)
  where
    next : (known : Bool) → map object_with (cond known keys (keys ++ key ∷ [])) ≡ cond known (map object_with keys) (map object_with keys ++ object_with key ∷ [])
    next true = refl
    next false = map-append object_with keys (key ∷ [])
