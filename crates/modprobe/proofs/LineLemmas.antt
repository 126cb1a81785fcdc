-- A text that begins with a line that is too long.
use Rattle.std.proofs.Common.{◌≡◌, ℕ, ◌+◌, ◌-◌, ◌<◌, ◌≤◌, Bool, true, false, List, [], ◌∷◌, ◌++◌, length, take, refl, ap, subst, ◌∙◌, arith}
use Rattle.std.specs.Prelude.{◌==◌, slice_index, if◌then◌else◌}
use Rattle.std.specs.Str.Lines.{lines, strip_carriage_return}
use Rattle.std.proofs.lemmas.Bool.{eqb-true}
use Rattle.std.proofs.lemmas.List.{append-nil, append_assoc, length-append, length-take}
use Rattle.std.proofs.lemmas.List.Elements.{All-append, All-cons, All-nil}
use Rattle.text_parts.proofs.LineLemmas.{lines-ended, lines-last}
use Rattle.modprobe.specs.Lines.{HasNoFeed, BeginsWithLongLine}

pub length-strip : (line : List ℕ) → length line ≤ length (strip_carriage_return line) + 1
length-strip line =
    elim (slice_index line (length line - 1) == 13) as (λ t. length line ≤ length (if t then take (length line - 1) line else line) + 1) [
      | true ↦ omega (arith, length-take (length line - 1) line)
      | false ↦ omega arith
    ]

HasNoFeed-push : (line : List ℕ) (b : ℕ) → HasNoFeed line → (b == 10) ≡ false → HasNoFeed (line ++ b ∷ [])
HasNoFeed-push line b none e = All-append (λ x. (x == 10) ≡ false) line (b ∷ []) none (All-cons (λ x. (x == 10) ≡ false) b [] e (All-nil (λ x. (x == 10) ≡ false)))

-- A line that is too long already, however it goes on; at its next byte, and then at all.
long_at : (b : ℕ) (rest line : List ℕ) (t : Bool) → (b == 10) ≡ t → HasNoFeed line → 65536 < length line
    → ((longer : List ℕ) → HasNoFeed longer → 65536 < length longer → BeginsWithLongLine (longer ++ rest)) → BeginsWithLongLine (line ++ b ∷ rest)
long_at b rest line true e none long later =
    let is : b ≡ 10 = eqb-true b 10 e in
    (strip_carriage_return line, lines rest, ap (λ x. lines (line ++ x ∷ rest)) is ∙ lines-ended line rest none, omega (arith, length-strip line))
long_at b rest line false e none long later =
    let P : List ℕ → Type 0 = BeginsWithLongLine in
    let more : 65536 < length (line ++ b ∷ []) = omega (arith, length-append line (b ∷ [])) in
    subst P (append_assoc line (b ∷ []) rest) (later (line ++ b ∷ []) (HasNoFeed-push line b none e) more)

pub begins_with_long_line : (rest line : List ℕ) → HasNoFeed line → 65536 < length line → BeginsWithLongLine (line ++ rest)
begins_with_long_line [] line none long =
    let some : 0 < length line = omega arith in
    (line, [], ap lines (append-nil line) ∙ lines-last line none some, omega arith)
begins_with_long_line (b ∷ rest) line none long = long_at b rest line (b == 10) refl none long (begins_with_long_line rest)
