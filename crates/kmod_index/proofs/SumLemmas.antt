-- Sums of names.
use Rattle.std.proofs.Common.{◌≡◌, ◌≢◌, ◌==◌, ◌+◌, ◌%◌, ◌^◌, ◌∙◌, ℕ, suc, false, not, List, ◌∷◌, map, take, sym, ap, arith, inl, inr}
use Rattle.std.specs.List.{prefix_len}
use Rattle.std.specs.Str.{bytes_eq}
use Rattle.std.proofs.lemmas.Bool.{ne_eqb}
use Rattle.std.proofs.lemmas.Slice.Eq.{bytes_eq-Decides}
use Rattle.kmod_names.specs.Names.{stem}
use Rattle.kmod_names.proofs.PlaceLemmas.{told}
use Rattle.text_parts.specs.Text.{normal_byte}
use Rattle.kmod_index.specs.Sums.{sum_from, sum_of}

pub stem_more : (byte : ℕ) (rest : List ℕ) → byte ≢ 46 → stem (byte ∷ rest) ≡ byte ∷ stem rest
stem_more byte rest h =
    let count : ℕ = prefix_len (λ own. not (own == 46)) rest in
    let next : 1 + count ≡ suc count = omega arith in
    rw (ne_eqb byte 46 h) (ap (λ n. take n (byte ∷ rest)) next)

-- a name of another sum is another name
pub other_name : (name other : List ℕ) → sum_of other ≢ sum_of name → bytes_eq name other ≡ false
other_name name other h = elim (told (bytes_eq name other)) [
  | inl t ↦ (let same : name ≡ other = grind (arith, bytes_eq-Decides name other) in absurd (h (sym (ap sum_of same))))
  | inr t ↦ t
]

-- one byte more of the name that a file's name begins with
pub stem_summed : (sum byte own : ℕ) (rest later : List ℕ) → rest ≡ byte ∷ later → byte ≢ 46 → own ≡ normal_byte byte
    → sum_from ((sum + own) % 2 ^ 32) (map normal_byte (stem later)) ≡ sum_from sum (map normal_byte (stem rest))
stem_summed sum byte own rest later here is other =
    ap (λ n. sum_from ((sum + n) % 2 ^ 32) (map normal_byte (stem later))) other
    ∙ sym (ap (λ l. sum_from sum (map normal_byte (stem l))) here ∙ ap (λ l. sum_from sum (map normal_byte l)) (stem_more byte later is))
