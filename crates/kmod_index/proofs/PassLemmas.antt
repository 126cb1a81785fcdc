-- The lines of a text, the first and those behind it.
use Rattle.std.proofs.Common.{◌≡◌, ℕ, ◌+◌, ◌-◌, ◌<◌, ◌≤◌, true, List, [], ◌∷◌, ◌++◌, Option, Some, None, length, take, drop, get_or, refl, sym, ap, subst, ◌∙◌, arith, inl, inr, drop-cons, add-one}
use Rattle.std.specs.Prelude.{◌==◌, slice_index}
use Rattle.std.specs.List.{before_first, cons_option, enumerate_from, filter_map, join_with_byte, slice_split}
use Rattle.std.specs.Option.{option_to_list}
use Rattle.std.specs.Str.Lines.{lines, lines_of_parts, strip_carriage_return}
use Rattle.std.proofs.lemmas.Bool.{false_from_ne_true, eqb-true}
use Rattle.std.proofs.lemmas.List.{append_assoc, append-nil, get_or-take, get_or_default, length-take, take_rest, take-append-drop}
use Rattle.std.proofs.lemmas.List.Splits.{join_with_byte-slice_split}
use Rattle.memchr.specs.Find.{Nowhere, Passes, is_byte}
use Rattle.text_parts.proofs.LineLemmas.{HasNoFeed, lines-ended, lines-last}
use Rattle.kmod_names.proofs.PlaceLemmas.{told}
use Rattle.kmod_index.specs.Aliases.{alias_of_line}
use Rattle.kmod_index.specs.ForProofs.{is_stop, parts_early}
use Rattle.kmod_index.specs.Lines.{Keyed}
use Rattle.kmod_index.specs.Tries.{matching_lines}
use Rattle.kmod_index.proofs.FrontLemmas.{is_none_of_line}
use Rattle.kmod_index.proofs.ScanLemmas.{matching_more}

-- up to the first line feed there is none
no_feed : (text : List ℕ) (end : ℕ) → end ≤ length text → Nowhere (Passes (is_byte 10) text) 0 end → HasNoFeed (take end text)
no_feed text end within nowhere k d below =
    let before : k < end = omega (arith, length-take end text) in
    let here : k < length text = omega arith in
    let same : get_or (take end text) k d ≡ get_or text k 0 = get_or-take end text k d before ∙ get_or_default text k d 0 here in
    false_from_ne_true _ (λ yes. nowhere k (omega arith) before (ap (λ (b : ℕ). b == 10) (sym same) ∙ yes))

-- the lines behind the first line feed
pub lines_behind : (text : List ℕ) (end : ℕ) → end < length text → Nowhere (Passes (is_byte 10) text) 0 end → Passes (is_byte 10) text end
    → lines (take (length text - (end + 1)) (drop (end + 1) text)) ≡ drop 1 (lines text)
lines_behind text end below nowhere is =
    let feed : get_or text end 0 ≡ 10 = eqb-true (get_or text end 0) 10 is in
    let whole : text ≡ take end text ++ 10 ∷ drop (end + 1) text =
    sym (take-append-drop end text) ∙ ap (λ (l : List ℕ). take end text ++ l) (drop-cons text end 0 below ∙ rw add-one refl)
    ∙ ap (λ (b : ℕ). take end text ++ b ∷ drop (end + 1) text) feed in
    let all : lines text ≡ strip_carriage_return (take end text) ∷ lines (drop (end + 1) text) =
    ap lines whole ∙ lines-ended (take end text) (drop (end + 1) text) (no_feed text end (omega arith) nowhere) in
    ap lines (take_rest text (end + 1)) ∙ sym (ap (drop 1) all)

-- a text without a line feed has no line behind its first
pub no_lines_behind : (text : List ℕ) → Nowhere (Passes (is_byte 10) text) 0 (length text) → [] ≡ drop 1 (lines text)
no_lines_behind [] nowhere = refl
no_lines_behind (b ∷ bs) nowhere =
    let none : HasNoFeed (b ∷ bs) =
    λ k d below. false_from_ne_true _ (λ yes. nowhere k (omega arith) below (ap (λ (x : ℕ). x == 10) (get_or_default (b ∷ bs) k 0 d below) ∙ yes)) in
    sym (ap (drop 1) (lines-last (b ∷ bs) none (omega arith)))

alone : {X : Type 0} (x : Option X) → cons_option x [] ≡ option_to_list x
alone None = refl
alone (Some x) = refl

-- the alias that a line is, by itself
pub alone_of_line : (number : ℕ) (line name : List ℕ) → matching_lines (filter_map alias_of_line (enumerate_from number (line ∷ []))) name ≡ matching_lines (option_to_list (alias_of_line (number, line))) name
alone_of_line number line name = ap (λ found. matching_lines found name) (alone (alias_of_line (number, line)))

-- the aliases of the first line, and of the later ones
pub first_and_later : (found : List Keyed) (number : ℕ) (name : List ℕ) (all : List (List ℕ))
    → (found ++ matching_lines (filter_map alias_of_line (enumerate_from number (take 1 all))) name) ++ matching_lines (filter_map alias_of_line (enumerate_from (number + 1) (drop 1 all))) name
    ≡ found ++ matching_lines (filter_map alias_of_line (enumerate_from number all)) name
first_and_later found number name [] = ap (λ l. l ++ []) (append-nil found)
first_and_later found number name (line ∷ later) =
    ap (λ l. (found ++ l) ++ matching_lines (filter_map alias_of_line (enumerate_from (number + 1) later)) name) (alone_of_line number line name)
    ∙ matching_more found (alias_of_line (number, line)) (filter_map alias_of_line (enumerate_from (number + 1) later)) name

-- a text begins with its first line
before_return : (line : List ℕ) → (tail : List ℕ) × (line ≡ strip_carriage_return line ++ tail)
before_return line = elim (told (slice_index line (length line - 1) == 13)) [
  | inl t ↦ (drop (length line - 1) line, rw t (sym (take-append-drop (length line - 1) line)))
  | inr t ↦ ([], rw t (sym (append-nil line)))
]

none_in_parts : (number : ℕ) (parts : List (List ℕ)) (name : List ℕ) → parts_early (drop 6 (join_with_byte 10 parts)) (before_first is_stop name) ≡ true
    → matching_lines (filter_map alias_of_line (enumerate_from number (take 1 (lines_of_parts parts)))) name ≡ []
none_in_parts number [] name h = refl
none_in_parts number (line ∷ []) name h = elim (told (length line == 0)) [
  | inl none ↦ rw none refl
  | inr some ↦ rw some (alone_of_line number line name ∙ is_none_of_line number line [] name (rw append-nil h))
]
none_in_parts number (line ∷ next ∷ more) name h =
    let rest : List ℕ = 10 ∷ join_with_byte 10 (next ∷ more) in
    let front = before_return line in
    let same : line ++ rest ≡ strip_carriage_return line ++ (front.0 ++ rest) = ap (λ l. l ++ rest) front.1 ∙ append_assoc (strip_carriage_return line) front.0 rest in
    alone_of_line number (strip_carriage_return line) name
    ∙ is_none_of_line number (strip_carriage_return line) (front.0 ++ rest) name (subst (λ l. parts_early (drop 6 l) (before_first is_stop name) ≡ true) same h)

-- the first line of a text is no alias that a name matches, if the text parts early from the name's front
pub none_of_first : (number : ℕ) (text name : List ℕ) → parts_early (drop 6 text) (before_first is_stop name) ≡ true
    → matching_lines (filter_map alias_of_line (enumerate_from number (take 1 (lines text)))) name ≡ []
none_of_first number text name h =
    none_in_parts number (slice_split (λ b. b == 10) text) name (subst (λ l. parts_early (drop 6 l) (before_first is_stop name) ≡ true) (sym (join_with_byte-slice_split 10 text)) h)
