-- The lines of an input, one on.
use Rattle.std.proofs.Common.{arith, ◌≡◌, ℕ, ◌+◌, ◌<◌, ◌≤◌, Bool, true, false, zero, List, [], ◌∷◌, ◌++◌, length, take, drop, get_or, suc, refl, sym, ap, ◌∙◌, drop-cons, add-one}
use Rattle.std.specs.Prelude.{◌==◌, not, nat_lt}
use Rattle.std.proofs.lemmas.List.{append_assoc, append-nil, map-append, length_push, get_or-take, get_or_default, length-take, take-append-drop}
use Rattle.std.proofs.lemmas.Bool.{false_from_ne_true, lt-ltb, eqb-true, false≢true, true≢false}
use Rattle.std.proofs.Math.Dec.{eqb-suc-zero}
use Rattle.memchr.specs.Find.{Nowhere, Passes, is_byte}
use Rattle.text_parts.specs.Text as text
use Rattle.text_parts.specs.Text.{ended, cut_lines}
use Rattle.text_parts.proofs.LineLemmas.{HasNoFeed, cut_lines-ended, cut_lines-last}
use Rattle.workload_drive.specs.declared.lines.Line.{Line}
use Rattle.workload_drive.specs.Statements.{Numbered, with_number, numbered}
use Rattle.workload_drive.specs.ForProofs.{line_in, lines_in}

pub length-numbered : (n : ℕ) (lines : List text.Line) → length (numbered n lines) ≡ length lines
length-numbered n [] = refl
length-numbered n (line ∷ lines) = ap (λ (k : ℕ). suc k) (length-numbered (n + 1) lines)

-- up to the first line feed there is none
no_feed : (bytes : List ℕ) (end : ℕ) → end ≤ length bytes → Nowhere (Passes (is_byte 10) bytes) 0 end → HasNoFeed (take end bytes)
no_feed bytes end within nowhere k d below =
    let before : k < end = omega (arith, length-take end bytes) in
    let here : k < length bytes = omega arith in
    let same : get_or (take end bytes) k d ≡ get_or bytes k 0 = get_or-take end bytes k d before ∙ get_or_default bytes k d 0 here in
    false_from_ne_true _ (λ yes. nowhere k (omega arith) before (ap (λ (b : ℕ). b == 10) (sym same) ∙ yes))

-- the first line of a text that has a line feed
first_line : (bytes : List ℕ) (end : ℕ) → end < length bytes → Nowhere (Passes (is_byte 10) bytes) 0 end → Passes (is_byte 10) bytes end
    → cut_lines bytes ≡ ended (take end bytes) ∷ cut_lines (drop (end + 1) bytes)
first_line bytes end below nowhere is =
    let feed : get_or bytes end 0 ≡ 10 = eqb-true (get_or bytes end 0) 10 is in
    let whole : bytes ≡ take end bytes ++ 10 ∷ drop (end + 1) bytes =
    sym (take-append-drop end bytes) ∙ ap (λ (l : List ℕ). take end bytes ++ l) (drop-cons bytes end 0 below ∙ rw add-one refl)
    ∙ ap (λ (b : ℕ). take end bytes ++ b ∷ drop (end + 1) bytes) feed in
    ap cut_lines whole ∙ cut_lines-ended (take end bytes) (drop (end + 1) bytes) (no_feed bytes end (omega arith) nowhere)

-- the lines so far with one more, and those behind it, are all
pub lines_more : (found found' : List Line) (line : Line) (all : List Numbered) (rest part later : List ℕ) (end : ℕ)
    → end < length rest → Nowhere (Passes (is_byte 10) rest) 0 end → Passes (is_byte 10) rest end
    → lines_in found ++ numbered (length found + 1) (cut_lines rest) ≡ all
    → found' ≡ found ++ line ∷ [] → line_in line ≡ with_number (length found + 1) (ended part) → part ≡ take end rest → later ≡ drop (end + 1) rest
    → lines_in found' ++ numbered (length found' + 1) (cut_lines later) ≡ all
lines_more found found' line all rest part later end below nowhere is before pushed made taken left =
    let n : ℕ = length found + 1 in
    let made' : line_in line ≡ with_number n (ended (take end rest)) = made ∙ ap (λ (p : List ℕ). with_number n (ended p)) taken in
    let lines : lines_in found' ≡ lines_in found ++ with_number n (ended (take end rest)) ∷ [] =
    ap lines_in pushed ∙ map-append line_in found (line ∷ []) ∙ ap (λ (l : Numbered). lines_in found ++ l ∷ []) made' in
    let more : length found' + 1 ≡ n + 1 = ap (λ (l : List Line). length l + 1) pushed ∙ ap (λ (k : ℕ). k + 1) (length_push found line) in
    ap (λ (ls : List Numbered). ls ++ numbered (length found' + 1) (cut_lines later)) lines
    ∙ ap (λ (k : ℕ). (lines_in found ++ with_number n (ended (take end rest)) ∷ []) ++ numbered k (cut_lines later)) more
    ∙ ap (λ (l : List ℕ). (lines_in found ++ with_number n (ended (take end rest)) ∷ []) ++ numbered (n + 1) (cut_lines l)) left
    ∙ append_assoc (lines_in found) (with_number n (ended (take end rest)) ∷ []) (numbered (n + 1) (cut_lines (drop (end + 1) rest)))
    ∙ ap (λ (ls : List text.Line). lines_in found ++ numbered n ls) (sym (first_line rest end below nowhere is))
    ∙ before

no_more_feed : (rest : List ℕ) → Nowhere (Passes (is_byte 10) rest) 0 (length rest) → HasNoFeed rest
no_more_feed rest nowhere k d below =
    false_from_ne_true _ (λ yes. nowhere k (omega arith) below (ap (λ (b : ℕ). b == 10) (get_or_default rest k 0 d below) ∙ yes))

-- the lines with the last one, which has no end
pub lines_last : (found found' : List Line) (line : Line) (all : List Numbered) (rest : List ℕ)
    → Nowhere (Passes (is_byte 10) rest) 0 (length rest) → 0 < length rest
    → lines_in found ++ numbered (length found + 1) (cut_lines rest) ≡ all
    → found' ≡ found ++ line ∷ [] → line_in line ≡ record { number = length found + 1; text = rest; ending = [] }
    → lines_in found' ≡ all
lines_last found found' line all rest nowhere some before pushed made =
    ap lines_in pushed ∙ map-append line_in found (line ∷ []) ∙ ap (λ (l : Numbered). lines_in found ++ l ∷ []) made
    ∙ ap (λ (ls : List text.Line). lines_in found ++ numbered (length found + 1) ls) (sym (cut_lines-last rest (no_more_feed rest nowhere) some))
    ∙ before

-- if nothing is left there is no line more
pub lines_done : (found : List Line) (all : List Numbered) (rest : List ℕ) → length rest ≡ 0
    → lines_in found ++ numbered (length found + 1) (cut_lines rest) ≡ all → lines_in found ≡ all
lines_done found all [] none before = sym (append-nil (lines_in found)) ∙ before
lines_done found all (b ∷ bs) none before = absurd (omega arith)

pub is_some : (n : ℕ) (b : Bool) → b ≡ (n == 0) → b ≡ false → 0 < n
is_some zero b is says = absurd (true≢false (sym is ∙ says))
is_some (suc n) b is says = omega arith

pub is_none : (n : ℕ) (b : Bool) → b ≡ (n == 0) → b ≡ true → n ≡ 0
is_none zero b is says = refl
is_none (suc n) b is says = absurd (false≢true (sym (is ∙ eqb-suc-zero n) ∙ says))

-- a line without a word is one of no words
pub no_word : (n : ℕ) → not (nat_lt 0 n) ≡ (n == 0)
no_word zero = refl
no_word (suc n) = ap not (lt-ltb 0 (suc n) (omega arith)) ∙ sym (eqb-suc-zero n)
