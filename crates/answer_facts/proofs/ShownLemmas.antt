-- Shown lines have no control characters but their ends.
use Rattle.std.proofs.Common.{◌≡◌, ◌∙◌, ℕ, Bool, true, false, ◌==◌, ◌||◌, ◌&&◌, not, List, [], ◌∷◌, ◌++◌, map, if◌then◌else◌, refl}
use Rattle.std.proofs.lemmas.List.Folds.{list_all-append}
use Rattle.std.specs.List.{flat_map, list_all}
use Rattle.answer_facts.specs.declared.fact.Fact.{Fact}
use Rattle.answer_facts.specs.Facts.{json_line, json_lines, pieces_of_fact, text_line, text_lines}
use Rattle.answer_facts.specs.Pieces.{json_of, text_of}
use Rattle.answer_facts.specs.Shown.{is_control, is_shown, shown_byte, shown_line}

or-true : (b : Bool) → (b || true) ≡ true
or-true true = refl
or-true false = refl

both-true : (a b : Bool) → a ≡ true → b ≡ true → (a && b) ≡ true
both-true true b h e = e
both-true false b h e = h

unless-control : (byte : ℕ) (c : Bool) → c ≡ false → (byte == 10 || not c) ≡ true
unless-control byte false h = or-true (byte == 10)
unless-control byte true h = absurd (cc)

shown-byte : (byte : ℕ) → is_shown (shown_byte byte) ≡ true
shown-byte byte = by (is_control byte) refl where
  by : (c : Bool) → is_control byte ≡ c → is_shown (if c then 63 else byte) ≡ true
  by true h = refl
  by false h = unless-control byte (is_control byte) h

all-shown : (text : List ℕ) → list_all is_shown (map shown_byte text) ≡ true
all-shown [] = refl
all-shown (byte ∷ text) =
    both-true (is_shown (shown_byte byte)) (list_all is_shown (map shown_byte text)) (shown-byte byte) (all-shown text)

line-shown : (text : List ℕ) → list_all is_shown (shown_line text) ≡ true
line-shown text =
    list_all-append is_shown (map shown_byte text) (10 ∷ [])
    ∙ both-true (list_all is_shown (map shown_byte text)) true (all-shown text) refl

lines-shown : (line : Fact → List ℕ) → ((fact : Fact) → list_all is_shown (line fact) ≡ true)
    → (facts : List Fact) → list_all is_shown (flat_map line facts) ≡ true
lines-shown line each [] = refl
lines-shown line each (fact ∷ facts) =
    list_all-append is_shown (line fact) (flat_map line facts)
    ∙ both-true (list_all is_shown (line fact)) (list_all is_shown (flat_map line facts)) (each fact) (lines-shown line each facts)

pub text_shown : (facts : List Fact) → list_all is_shown (text_lines facts) ≡ true
text_shown facts = lines-shown text_line (λ fact. line-shown (text_of (pieces_of_fact fact))) facts

pub json_shown : (facts : List Fact) → list_all is_shown (json_lines facts) ≡ true
json_shown facts = lines-shown json_line (λ fact. line-shown (json_of (pieces_of_fact fact))) facts
