-- The entries of a text between bytes of one value.
use Rattle.std.proofs.Common.{◌≡◌, ℕ, ◌+◌, List, [], ◌∷◌, ◌++◌, Option, Some, None, refl, sym, ◌∙◌, ap, inl, inr}
use Rattle.std.specs.Prelude.{◌==◌}
use Rattle.std.specs.List.{cons_option, enumerate_from, filter_map, onto_first, slice_split}
use Rattle.std.specs.Option.{option_to_list}
use Rattle.kmod_names.proofs.PlaceLemmas.{told}
use Rattle.kmod_index.specs.Builtins.{alias_of_entry}
use Rattle.kmod_index.specs.Lines.{Keyed}
use Rattle.kmod_index.specs.Parts.{at_first, onto_parts}
use Rattle.kmod_index.proofs.LineLemmas.{append-option}

-- the parts that a text has at its first byte of this value, as entries
abbrev pub entries_at : ℕ → List ℕ → Option (List ℕ × List ℕ) → List (List ℕ)
entries_at byte text None = text ∷ []
entries_at byte text (Some parts) = parts.0 ∷ slice_split (λ b. b == byte) parts.1

entries_onto : (byte b : ℕ) (s : List ℕ) (parts : Option (List ℕ × List ℕ)) → onto_first b (entries_at byte s parts) ≡ entries_at byte (b ∷ s) (onto_parts (b ∷ []) parts)
entries_onto byte b s None = refl
entries_onto byte b s (Some parts) = refl

pub slice_split-entries : (byte : ℕ) (s : List ℕ) → slice_split (λ b. b == byte) s ≡ entries_at byte s (at_first byte s)
slice_split-entries byte [] = refl
slice_split-entries byte (b ∷ s) = elim (told (b == byte)) [
  | inl t ↦ rw t refl
  | inr t ↦ rw t (ap (onto_first b) (slice_split-entries byte s) ∙ entries_onto byte b s (at_first byte s))
]

option-last : {X : Type 0} (x : Option X) → option_to_list x ≡ cons_option x []
option-last None = refl
option-last (Some x) = refl

-- one entry more was read
pub entry_more : (aliases : List Keyed) (number : ℕ) (rest entry later : List ℕ) → at_first 0 rest ≡ Some (entry, later)
    → (aliases ++ option_to_list (alias_of_entry (number, entry))) ++ filter_map alias_of_entry (enumerate_from (number + 1) (slice_split (λ b. b == 0) later))
    ≡ aliases ++ filter_map alias_of_entry (enumerate_from number (slice_split (λ b. b == 0) rest))
entry_more aliases number rest entry later h =
    append-option aliases (alias_of_entry (number, entry)) (filter_map alias_of_entry (enumerate_from (number + 1) (slice_split (λ b. b == 0) later)))
    ∙ ap (λ es. aliases ++ filter_map alias_of_entry (enumerate_from number es)) (sym (slice_split-entries 0 rest ∙ ap (entries_at 0 rest) h))

-- the last one
pub entry_last : (aliases : List Keyed) (number : ℕ) (rest : List ℕ) → at_first 0 rest ≡ None
    → aliases ++ option_to_list (alias_of_entry (number, rest)) ≡ aliases ++ filter_map alias_of_entry (enumerate_from number (slice_split (λ b. b == 0) rest))
entry_last aliases number rest h =
    ap (λ l. aliases ++ l) (option-last (alias_of_entry (number, rest)))
    ∙ ap (λ es. aliases ++ filter_map alias_of_entry (enumerate_from number es)) (sym (slice_split-entries 0 rest ∙ ap (entries_at 0 rest) h))
