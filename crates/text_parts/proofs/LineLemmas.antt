-- The first line of a text, and the texts of its lines.
use Rattle.std.proofs.Common.{◌≡◌, ℕ, ◌<◌, true, false, cond, List, [], ◌∷◌, ◌++◌, length, map, refl, sym, ap, ◌∙◌, arith}
use Rattle.std.specs.Prelude.{◌==◌, if◌then◌else◌}
use Rattle.std.specs.List.{All, slice_split, onto_first}
use Rattle.std.specs.Str.Lines.{lines, lines_of_parts, strip_carriage_return}
use Rattle.std.proofs.Math.Dec.{eqb-suc-zero}
use Rattle.std.proofs.lemmas.List.Splits.{slice_split_at, slice_split_none}
use Rattle.text_parts.specs.Text.{Line, ended, cut_parts, cut_lines}
use Rattle.text_parts.specs.TextLaws.{LinesHaveTexts}

-- no byte is a line feed
abbrev pub HasNoFeed : List ℕ → Type 0
HasNoFeed bytes = All (λ byte. (byte == 10) ≡ false) bytes

-- There is always a part.
some_part : (text : List ℕ) → (first : List ℕ) × (more : List (List ℕ)) × (slice_split (λ b. b == 10) text ≡ first ∷ more)
some_part [] = ([], [], refl)
some_part (b ∷ bs) =
    elim (b == 10) as (λ t. (first : List ℕ) × (more : List (List ℕ)) × (cond t ([] ∷ slice_split (λ x. x == 10) bs) (onto_first b (slice_split (λ x. x == 10) bs)) ≡ first ∷ more)) [
      | true ↦ ([], slice_split (λ x. x == 10) bs, refl)
      | false ↦ let r = some_part bs in (b ∷ r.0, r.1, ap (onto_first b) r.2)
    ]

-- A line that ends is the first, and the lines after its end are the others.
pub lines-ended : (line rest : List ℕ) → HasNoFeed line → lines (line ++ 10 ∷ rest) ≡ strip_carriage_return line ∷ lines rest
lines-ended line rest none =
    let r = some_part rest in
    let here : slice_split (λ b. b == 10) (line ++ 10 ∷ rest) ≡ line ∷ slice_split (λ b. b == 10) rest = slice_split_at (λ b. b == 10) line 10 rest none refl in
    ap lines_of_parts (here ∙ ap (λ parts. line ∷ parts) r.2) ∙ ap (λ parts. strip_carriage_return line ∷ lines_of_parts parts) (sym r.2)

pub cut_lines-ended : (line rest : List ℕ) → HasNoFeed line → cut_lines (line ++ 10 ∷ rest) ≡ ended line ∷ cut_lines rest
cut_lines-ended line rest none =
    let r = some_part rest in
    let here : slice_split (λ b. b == 10) (line ++ 10 ∷ rest) ≡ line ∷ slice_split (λ b. b == 10) rest = slice_split_at (λ b. b == 10) line 10 rest none refl in
    ap cut_parts (here ∙ ap (λ parts. line ∷ parts) r.2) ∙ ap (λ parts. ended line ∷ cut_parts parts) (sym r.2)

pub cut_lines-last : (line : List ℕ) → HasNoFeed line → 0 < length line → cut_lines line ≡ record { text = line; ending = [] } ∷ []
cut_lines-last [] none some = absurd (omega arith)
cut_lines-last (b ∷ bs) none some =
    ap cut_parts (slice_split_none (λ x. x == 10) (b ∷ bs) none)
    ∙ ap (λ t. if t then [] else record { text = b ∷ bs; ending = [] } ∷ []) (eqb-suc-zero (length bs))

-- A text without a line feed is one line.
pub lines-last : (line : List ℕ) → HasNoFeed line → 0 < length line → lines line ≡ line ∷ []
lines-last [] none some = absurd (omega arith)
lines-last (b ∷ bs) none some =
    ap lines_of_parts (slice_split_none (λ x. x == 10) (b ∷ bs) none)
    ∙ ap (λ t. if t then [] else (b ∷ bs) ∷ []) (eqb-suc-zero (length bs))

texts_of_parts : (parts : List (List ℕ)) → map (λ (line : Line). line.text) (cut_parts parts) ≡ lines_of_parts parts
texts_of_parts [] = refl
texts_of_parts (part ∷ []) =
    elim (length part == 0) as (λ t. map (λ (line : Line). line.text) (if t then [] else record { text = part; ending = [] } ∷ []) ≡ (if t then [] else part ∷ [])) [ true ↦ refl | false ↦ refl ]
texts_of_parts (part ∷ next ∷ more) = ap (λ l. strip_carriage_return part ∷ l) (texts_of_parts (next ∷ more))

pub lines_have_texts : LinesHaveTexts
lines_have_texts text = texts_of_parts (slice_split (λ byte. byte == 10) text)
