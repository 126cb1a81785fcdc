-- The text of a setup's file, cut off before the last line.
use Rattle.std.proofs.Common.{arith, ◌≡◌, ◌==◌, true, sym, ap, subst, ◌∙◌, ℕ, List, length, take}
use Rattle.std.proofs.lemmas.Bool.Decides.{Decides-eqb}
use Rattle.std.proofs.lemmas.List.{take-append-le}
use Rattle.std.proofs.Math.Seq.{take-length}
use Rattle.table_setup.specs.Sealed.{IsSealed, last_line, name_of}
use Rattle.table_setup.specs.Sums.{adler32}

-- a text that is cut off before its last line
cut_same : (bytes text cut : List ℕ) (sum : ℕ) → IsSealed bytes text sum → cut ≡ take (length text) bytes → cut ≡ text
cut_same bytes text cut sum is cut_is =
    cut_is ∙ ap (take (length text)) is.whole ∙ take-append-le (length text) text (last_line (length text) is.word) (omega arith) ∙ take-length text

own_sum : (text cut : List ℕ) (sum : ℕ) → (adler32 text == sum) ≡ true → cut ≡ text → sum ≡ adler32 cut
own_sum text cut sum sound same = sym ((Decides-eqb (adler32 text) sum).0 sound) ∙ ap adler32 (sym same)

-- a text that has the sum of its last line is sealed with its own sum, once it is cut off before that line
pub cut_sealed : (bytes text cut : List ℕ) (sum : ℕ) → IsSealed bytes text sum → (adler32 text == sum) ≡ true → cut ≡ take (length text) bytes → IsSealed bytes cut (adler32 cut)
cut_sealed bytes text cut sum is sound cut_is =
    let same = cut_same bytes text cut sum is cut_is in
    subst (IsSealed bytes cut) (own_sum text cut sum sound same) (subst (λ front. IsSealed bytes front sum) (sym same) is)

-- and its name is that of its own length and sum
pub cut_named : (bytes text cut name : List ℕ) (sum : ℕ) → IsSealed bytes text sum → (adler32 text == sum) ≡ true → cut ≡ take (length text) bytes → name ≡ name_of text sum
    → name ≡ name_of cut (adler32 cut)
cut_named bytes text cut name sum is sound cut_is named =
    let same = cut_same bytes text cut sum is cut_is in
    named ∙ ap (λ (t : List ℕ). name_of t sum) (sym same) ∙ ap (name_of cut) (own_sum text cut sum sound same)
