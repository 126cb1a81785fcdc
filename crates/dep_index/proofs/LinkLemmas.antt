-- A hashed index of exports answers as a walk over its links does.
use Rattle.std.proofs.Common.{◌≡◌, ℕ, List, [], ◌∷◌, ◌++◌, Bool, true, false, cond, map, Option, Some, None, is_some, is_none, not, Bor, refl, ap, ◌⊎◌, inl, inr}
use Rattle.std.specs.Map.{lookup}
use Rattle.std.specs.Str.{bytes_eq}
use Rattle.indexmap.specs.IndexMap.{insert_entry}
use Rattle.dep_index.specs.Catalogue.Exports.{Link, slot_at}

abbrev pub Entry : Type 0
Entry = Bor (List ℕ) × ℕ

abbrev pub link : Entry → Link
link e = (e.0.now, e.1)

pub lookup-links : (es : List Entry) (symbol : List ℕ) → lookup (λ (k : Bor (List ℕ)). bytes_eq symbol k.now) es ≡ slot_at (map link es) symbol
lookup-links [] symbol = refl
lookup-links (e ∷ es) symbol = ap (λ r. cond (bytes_eq symbol e.0.now) (Some e.1) r) (lookup-links es symbol)

pub chosen : {A : Type 0} (b : Bool) (x y z : A) → cond b x y ≡ z → ((b ≡ true) × (x ≡ z)) ⊎ ((b ≡ false) × (y ≡ z))
chosen true x y z h = inl (refl, h)
chosen false x y z h = inr (refl, h)

pub insert-links : (es : List Entry) (k : Bor (List ℕ)) (v : ℕ) → slot_at (map link es) k.now ≡ None
    → map link (insert_entry (λ (a b : Bor (List ℕ)). bytes_eq a.now b.now) es k v) ≡ map link es ++ (k.now, v) ∷ []
insert-links [] k v h = refl
insert-links (e ∷ es) k v h = elim (chosen (bytes_eq k.now e.0.now) (Some e.1) (slot_at (map link es) k.now) None h) [
  | inl t ↦ absurd (cc)
  | inr t ↦ rw t.0 (ap (λ l. link e ∷ l) (insert-links es k v t.1))
]

pub none_is : (o : Option ℕ) (none : Bool) → is_some o ≡ not none → none ≡ is_none o
none_is None true h = refl
none_is None false h = absurd (cc)
none_is (Some x) true h = absurd (cc)
none_is (Some x) false h = refl

pub none_from : (o : Option ℕ) → is_none o ≡ true → o ≡ None
none_from None h = refl
none_from (Some x) h = absurd (cc)
