-- The modules of a catalogue, slot by slot, and the slot of a name.
use Rattle.std.proofs.Common.{◌≡◌, ℕ, zero, suc, ◌+◌, ◌<◌, List, [], ◌∷◌, Bool, cond, not, map, length, Some, None, nat_lt, get_or, refl, sym, ◌∙◌, ap, arith, add-zero, Vec}
use Rattle.std.specs.List.{position, position_or_len, prefix_len}
use Rattle.std.specs.Str.{bytes_eq}
use Rattle.std.specs.declared.alloc.Global.{Global}
use Rattle.std.proofs.lemmas.List.{length-map}
use Rattle.dep_index.specs.Table.{module_at, no_module}
use Rattle.dep_index.specs.Catalogue.{Description, module_of, modules_of, modules_from, slot_named}
use Rattle.dep_index.specs.declared.catalogue.details.Details.{Details}
use Rattle.dep_index.specs.Catalogue.Descriptions.{description_of}

length-modules_from : (all : List Description) (k : ℕ) (ds : List Description) → length (modules_from all k ds) ≡ length ds
length-modules_from all k [] = refl
length-modules_from all k (d ∷ ds) = ap suc (length-modules_from all (suc k) ds)

pub length-modules_of : (ds : List Description) → length (modules_of ds) ≡ length ds
length-modules_of ds = length-modules_from ds 0 ds

module_from : (all : List Description) (k i : ℕ) (ds : List Description) → i < length ds → get_or (modules_from all k ds) i no_module ≡ module_of all (k + i)
module_from all k i [] below = absurd (omega arith)
module_from all k zero (d ∷ ds) below = ap (module_of all) (sym (add-zero k))
module_from all k (suc i) (d ∷ ds) below = module_from all (suc k) i ds (omega arith) ∙ ap (module_of all) (omega arith)

pub module_at-modules_of : (ds : List Description) (m : ℕ) → m < length ds → module_at (modules_of ds) m ≡ module_of ds m
module_at-modules_of ds m below = module_from ds 0 m ds below ∙ ap (module_of ds) (omega arith)

prefix-map : {X Y : Type 0} (p : Y → Bool) (f : X → Y) (xs : List X) → prefix_len p (map f xs) ≡ prefix_len (λ x. p (f x)) xs
prefix-map p f [] = refl
prefix-map p f (x ∷ xs) = rw (prefix-map p f xs)

pub position-map : {X Y : Type 0} (p : Y → Bool) (f : X → Y) (xs : List X) → position p (map f xs) ≡ position (λ x. p (f x)) xs
position-map p f xs =
    ap (λ n. cond (nat_lt n (length (map f xs))) (Some n) None) (prefix-map (λ x. not (p x)) f xs)
    ∙ ap (λ n. cond (nat_lt (position_or_len (λ x. p (f x)) xs) n) (Some (position_or_len (λ x. p (f x)) xs)) None) (length-map xs f)

-- the index of a key is the slot of the name
pub slot_of_key : (name : List ℕ) (entries : List (Vec ℕ Global × Details)) → position (λ k. bytes_eq name k.items) (map (λ e. e.0) entries) ≡ slot_named (map description_of entries) name
slot_of_key name entries = position-map (λ k. bytes_eq name k.items) (λ e. e.0) entries ∙ sym (position-map (λ m. bytes_eq name m.name) description_of entries)
