-- A path of modules.dep has no colon, so no module has a name with one.
use Rattle.std.proofs.Common.{◌≡◌, ◌==◌, ℕ, zero, suc, not, Bool, true, false, List, [], ◌∷◌, ◌++◌, Option, Some, None, map, take, refl, sym, ◌∙◌, ap, arith, inl, inr}
use Rattle.std.specs.List.{cons_option, filter_map, list_any, prefix_len}
use Rattle.std.specs.Str.{bytes_eq}
use Rattle.std.proofs.lemmas.Bool.{false≢true}
use Rattle.std.proofs.lemmas.Grind.{common_steps}
use Rattle.std.proofs.lemmas.Slice.Eq.{bytes_eq-Decides}
use Rattle.text_parts.specs.Text.{normal_byte}
use Rattle.kmod_names.specs.Names.{base_from, base_of, name_of_path, stem}
use Rattle.kmod_names.proofs.PlaceLemmas.{told}
use Rattle.kmod_index.specs.Dependencies.{Dependencies, dependencies_from, dependencies_of_line, line_of}
use Rattle.kmod_index.specs.Parts.{at_first, onto_parts}

abbrev pub has_colon : List ℕ → Bool
has_colon text = list_any (λ byte. byte == 58) text

onto_clean : (byte : ℕ) (o : Option (List ℕ × List ℕ)) (front back : List ℕ) → (byte == 58) ≡ false
    → ((front back : List ℕ) → o ≡ Some (front, back) → has_colon front ≡ false)
    → onto_parts (byte ∷ []) o ≡ Some (front, back) → has_colon front ≡ false
onto_clean byte None front back other clean is = grind (arith, common_steps)
onto_clean byte (Some parts) front back other clean is =
    let own : has_colon parts.0 ≡ false = clean parts.0 parts.1 refl in
    let all : (byte ∷ []) ++ parts.0 ≡ front = grind (arith, common_steps) in
    sym (ap has_colon all) ∙ rw other own

path_clean : (text front back : List ℕ) → at_first 58 text ≡ Some (front, back) → has_colon front ≡ false
path_clean [] front back is = grind (arith, common_steps)
path_clean (byte ∷ text) front back is = elim (told (byte == 58)) [
  | inl t ↦ (let none : front ≡ [] = grind (arith, common_steps) in ap has_colon none)
  | inr t ↦ onto_clean byte (at_first 58 text) front back t (path_clean text) (sym (rw t refl) ∙ is)
]

rest_clean : (own : ℕ) (more : List ℕ) → has_colon (own ∷ more) ≡ false → has_colon more ≡ false
rest_clean own more h = elim (told (own == 58)) [
  | inl t ↦ absurd (false≢true (sym h ∙ rw t refl))
  | inr t ↦ sym (rw t refl) ∙ h
]

first_clean : (own : ℕ) (more : List ℕ) → has_colon (own ∷ more) ≡ false → (own == 58) ≡ false
first_clean own more h = elim (told (own == 58)) [
  | inl t ↦ absurd (false≢true (sym h ∙ rw t refl))
  | inr t ↦ t
]

base_clean : (base path : List ℕ) → has_colon base ≡ false → has_colon path ≡ false → has_colon (base_from base path) ≡ false
base_clean base [] b p = b
base_clean base (byte ∷ path) b p = elim (told (byte == 47)) [
  | inl t ↦ rw t (base_clean path path (rest_clean byte path p) (rest_clean byte path p))
  | inr t ↦ rw t (base_clean base path b (rest_clean byte path p))
]

take_clean : (n : ℕ) (text : List ℕ) → has_colon text ≡ false → has_colon (take n text) ≡ false
take_clean zero text h = refl
take_clean (suc n) [] h = refl
take_clean (suc n) (byte ∷ text) h = rw (first_clean byte text h) (take_clean n text (rest_clean byte text h))

normal_clean : (byte : ℕ) → (byte == 58) ≡ false → (normal_byte byte == 58) ≡ false
normal_clean byte h = elim (told (byte == 45)) [
  | inl t ↦ rw t refl
  | inr t ↦ rw t h
]

normal_bytes_clean : (text : List ℕ) → has_colon text ≡ false → has_colon (map normal_byte text) ≡ false
normal_bytes_clean [] h = refl
normal_bytes_clean (byte ∷ text) h = rw (normal_clean byte (first_clean byte text h)) (normal_bytes_clean text (rest_clean byte text h))

name_clean : (path : List ℕ) → has_colon path ≡ false → has_colon (name_of_path path) ≡ false
name_clean path h =
    let base : has_colon (base_of path) ≡ false = base_clean path path h h in
    normal_bytes_clean (stem (base_of path)) (take_clean (prefix_len (λ byte. not (byte == 46)) (base_of path)) (base_of path) base)

other_than : (name other : List ℕ) → has_colon name ≡ true → has_colon other ≡ false → bytes_eq name other ≡ false
other_than name other h k = elim (told (bytes_eq name other)) [
  | inl t ↦ (let same : name ≡ other = grind (arith, bytes_eq-Decides name other) in absurd (false≢true (sym k ∙ sym (ap has_colon same) ∙ h)))
  | inr t ↦ t
]

not_of_parts : (name : List ℕ) (number : ℕ) (o : Option (List ℕ × List ℕ)) → has_colon name ≡ true
    → ((front back : List ℕ) → o ≡ Some (front, back) → has_colon front ≡ false)
    → (rest : List Dependencies) → line_of (cons_option (dependencies_from number o) rest) name ≡ line_of rest name
not_of_parts name number None h clean rest = refl
not_of_parts name number (Some parts) h clean rest = rw (other_than name (name_of_path parts.0) h (name_clean parts.0 (clean parts.0 parts.1 refl))) refl

-- no line has a name with a colon
pub no_line : (name : List ℕ) → has_colon name ≡ true → (lines : List (ℕ × List ℕ)) → line_of (filter_map dependencies_of_line lines) name ≡ None
no_line name h [] = refl
no_line name h (line ∷ lines) = not_of_parts name line.0 (at_first 58 line.1) h (path_clean line.1) (filter_map dependencies_of_line lines) ∙ no_line name h lines
