-- What files stand for.
use Rattle.std.proofs.Common.{◌≡◌, ◌≢◌, ◌⊎◌, inl, inr, ⊎_elim, ℕ, zero, suc, ◌+◌, ◌<◌, ◌≤◌, ◌^◌, List, [], ◌∷◌, ◌++◌, length, drop, Option, Some, None, IfNone, refl, sym, ◌∙◌, ap, subst, arith, append_assoc, length-append}
use Rattle.std.proofs.lemmas.List.{append-nil, drop_at}
use Rattle.std.proofs.lemmas.List.Elements.{All-nil, All-cons, All-head, All-tail}
use Rattle.std.proofs.lemmas.Bool.{cases_eq}
use Rattle.std.proofs.lemmas.Bool.Decides.{nat_tests}
use Rattle.line_journal.specs.Device.{History, IsOnDisk}
use Rattle.line_journal.specs.Journal.{IsAtRest}
use Rattle.line_journal.specs.Lines.{ended, with_front, counting, lines_of, open_text, at_rest, behind, IsLine, AreLines, StandsFor, StandsWithOrWithout}

ended_more : (byte : ℕ) (rest : List ℕ) → byte ≢ 10 → ended (byte ∷ rest) ≡ with_front byte (ended rest)
ended_more byte rest other = grind (arith, nat_tests)

pub ended-line : (line rest : List ℕ) → IsLine line → ended (line ++ 10 ∷ rest) ≡ line ∷ ended rest
ended-line [] rest is = refl
ended-line (byte ∷ line) rest is =
    ended_more byte (line ++ 10 ∷ rest) (All-head (λ (b : ℕ). b ≢ 10) byte line is)
    ∙ ap (with_front byte) (ended-line line rest (All-tail (λ (b : ℕ). b ≢ 10) byte line is))

pub none_ended : (bytes : List ℕ) → IsLine bytes → ended bytes ≡ []
none_ended [] is = refl
none_ended (byte ∷ bytes) is =
    ended_more byte bytes (All-head (λ (b : ℕ). b ≢ 10) byte bytes is)
    ∙ ap (with_front byte) (none_ended bytes (All-tail (λ (b : ℕ). b ≢ 10) byte bytes is))

-- a line with an open gate counts
pub lines_of-line : (line rest : List ℕ) → IsLine line → lines_of (43 ∷ line ++ 10 ∷ rest) ≡ line ∷ lines_of rest
lines_of-line line rest is =
    ap counting (ended_more 43 (line ++ 10 ∷ rest) (omega arith) ∙ ap (with_front 43) (ended-line line rest is))

-- an open gate with no newline behind it counts for nothing
pub lines_of_torn : (bytes : List ℕ) → IsLine bytes → lines_of (43 ∷ bytes) ≡ []
lines_of_torn bytes is = ap counting (ended_more 43 bytes (omega arith) ∙ ap (with_front 43) (none_ended bytes is))

shut_front : (gate : ℕ) (ps : List (List ℕ)) → gate ≢ 43 → counting (with_front gate ps) ≡ []
shut_front gate [] shut = refl
shut_front gate (p ∷ ps) shut = grind (arith, nat_tests)

-- a closed gate ends them, whatever stands behind it
pub closed : (gate : ℕ) (rest : List ℕ) → gate ≢ 43 → lines_of (gate ∷ rest) ≡ []
closed gate rest shut = elim (cases_eq gate 10) [
  | inl newline ↦ let e : ended (gate ∷ rest) ≡ [] ∷ ended rest = grind (arith, nat_tests) in ap counting e
  | inr other ↦ ap counting (ended_more gate rest other) ∙ shut_front gate (ended rest) shut
]

-- lines with open gates, and then whatever the rest stands for
pub lines_of-open_text : (lines : List (List ℕ)) (rest : List ℕ) → AreLines lines → lines_of (open_text lines ++ rest) ≡ lines ++ lines_of rest
lines_of-open_text [] rest are = refl
lines_of-open_text (line ∷ lines) rest are =
    ap (λ (l : List ℕ). lines_of (43 ∷ l)) (append_assoc line (10 ∷ open_text lines) rest)
    ∙ lines_of-line line (open_text lines ++ rest) (All-head IsLine line lines are)
    ∙ ap (λ (l : List (List ℕ)). line ∷ l) (lines_of-open_text lines rest (All-tail IsLine line lines are))

pub lines_of_closed : (lines : List (List ℕ)) (gate : ℕ) (rest : List ℕ) → AreLines lines → gate ≢ 43 → lines_of (open_text lines ++ gate ∷ rest) ≡ lines
lines_of_closed lines gate rest are shut =
    lines_of-open_text lines (gate ∷ rest) are ∙ ap (λ (l : List (List ℕ)). lines ++ l) (closed gate rest shut) ∙ append-nil lines

pub open_text-append : (lines more : List (List ℕ)) → open_text (lines ++ more) ≡ open_text lines ++ open_text more
open_text-append [] more = refl
open_text-append (line ∷ lines) more =
    ap (λ (l : List ℕ). 43 ∷ line ++ 10 ∷ l) (open_text-append lines more) ∙ ap (λ (l : List ℕ). 43 ∷ l) (sym (append_assoc line (10 ∷ open_text lines) (open_text more)))

pub open_text-push : (lines : List (List ℕ)) (line rest : List ℕ) → open_text (lines ++ line ∷ []) ++ rest ≡ open_text lines ++ (43 ∷ line ++ 10 ∷ rest)
open_text-push [] line rest = ap (λ (l : List ℕ). 43 ∷ l) (append_assoc line (10 ∷ []) rest)
open_text-push (first ∷ lines) line rest =
    ap (λ (l : List ℕ). 43 ∷ l) (append_assoc first (10 ∷ open_text (lines ++ line ∷ [])) rest)
    ∙ ap (λ (l : List ℕ). 43 ∷ (first ++ 10 ∷ l)) (open_text-push lines line rest)
    ∙ ap (λ (l : List ℕ). 43 ∷ l) (sym (append_assoc first (10 ∷ open_text lines) (43 ∷ line ++ 10 ∷ rest)))

pub length-open_text_push : (lines : List (List ℕ)) (line : List ℕ) → length (open_text (lines ++ line ∷ [])) ≡ length (open_text lines) + length line + 2
length-open_text_push lines line =
    let e = ap length (sym (append-nil (open_text (lines ++ line ∷ []))) ∙ open_text-push lines line []) in
    omega (arith, e, length-append (open_text lines) (43 ∷ line ++ 10 ∷ []), length-append line (10 ∷ []))

-- a line behind any gate counts or it doesn't
pub lines_of_gate : (lines : List (List ℕ)) (gate : ℕ) (line : List ℕ) → AreLines lines → IsLine line → StandsWithOrWithout lines line (open_text lines ++ (gate ∷ line ++ 10 ∷ 32 ∷ []))
lines_of_gate lines gate line are is = elim (cases_eq gate 43) [
  | inl is_open ↦ inr (
      lines_of-open_text lines (gate ∷ line ++ 10 ∷ 32 ∷ []) are
      ∙ ap (λ (g : ℕ). lines ++ lines_of (g ∷ line ++ 10 ∷ 32 ∷ [])) is_open
      ∙ ap (λ (l : List (List ℕ)). lines ++ l) (lines_of-line line (32 ∷ []) is))
  | inr shut ↦ inl (lines_of_closed lines gate (line ++ 10 ∷ 32 ∷ []) are shut)
]

-- bytes with a newline among them
pub record Ended (bytes : List ℕ) : Type 0 where
  pub line : List ℕ
  pub rest : List ℕ
  pub is_line : IsLine line
  pub is : bytes ≡ line ++ 10 ∷ rest

pub ended_or_not : (bytes : List ℕ) → Ended bytes ⊎ IsLine bytes
ended_or_not [] = inr (All-nil (λ (b : ℕ). b ≢ 10))
ended_or_not (byte ∷ bytes) = elim (cases_eq byte 10) [
  | inl newline ↦ inl (record { line = []; rest = bytes; is_line = All-nil (λ (b : ℕ). b ≢ 10); is = ap (λ (b : ℕ). b ∷ bytes) newline })
  | inr other ↦ ⊎_elim
      (λ (e : Ended bytes). inl (record { line = byte ∷ e.line; rest = e.rest; is_line = All-cons (λ (b : ℕ). b ≢ 10) byte e.line other e.is_line; is = ap (λ (l : List ℕ). byte ∷ l) e.is }))
      (λ is. inr (All-cons (λ (b : ℕ). b ≢ 10) byte bytes other is))
      (ended_or_not bytes)
]

-- a file is its lines, and an end that stands for nothing
pub record Parts (file : List ℕ) : Type 0 where
  pub end : List ℕ
  pub split : file ≡ open_text (lines_of file) ++ end
  pub nothing : lines_of end ≡ []
  pub are_lines : AreLines (lines_of file)

no_lines : (file : List ℕ) → lines_of file ≡ [] → Parts file
no_lines file none = record {
  end = file;
  split = ap (λ (lines : List (List ℕ)). open_text lines ++ file) (sym none);
  nothing = none;
  are_lines = subst AreLines (sym none) (All-nil IsLine);
}

one_more : (gate : ℕ) (rest : List ℕ) (e : Ended rest) → gate ≡ 43 → Parts e.rest → Parts (gate ∷ rest)
one_more gate rest e is_open later =
    let whole : gate ∷ rest ≡ 43 ∷ e.line ++ 10 ∷ e.rest = (λ i. is_open i ∷ e.is i) in
    let lines : lines_of (gate ∷ rest) ≡ e.line ∷ lines_of e.rest = ap lines_of whole ∙ lines_of-line e.line e.rest e.is_line in
    record {
      end = later.end;
      split =
          whole
          ∙ ap (λ (l : List ℕ). 43 ∷ e.line ++ 10 ∷ l) later.split
          ∙ ap (λ (l : List ℕ). 43 ∷ l) (sym (append_assoc e.line (10 ∷ open_text (lines_of e.rest)) later.end))
          ∙ ap (λ (ls : List (List ℕ)). open_text ls ++ later.end) (sym lines);
      nothing = later.nothing;
      are_lines = subst AreLines (sym lines) (All-cons IsLine e.line (lines_of e.rest) e.is_line later.are_lines);
    }

parts_within : (n : ℕ) (file : List ℕ) → length file ≤ n → Parts file
parts_within n [] short = no_lines [] refl
parts_within zero (gate ∷ rest) short = absurd (omega arith)
parts_within (suc n) (gate ∷ rest) short = elim (cases_eq gate 43) [
  | inl is_open ↦ ⊎_elim
      (λ (e : Ended rest). one_more gate rest e is_open (parts_within n e.rest (omega (arith, ap length e.is, length-append e.line (10 ∷ e.rest)))))
      (λ (is : IsLine rest). no_lines (gate ∷ rest) (ap (λ (g : ℕ). lines_of (g ∷ rest)) is_open ∙ lines_of_torn rest is))
      (ended_or_not rest)
  | inr shut ↦ no_lines (gate ∷ rest) (closed gate rest shut)
]

pub parts : (file : List ℕ) → Parts file
parts file = parts_within (length file) file (omega arith)

pub torn_none : (r : Option ℕ) (bytes : List ℕ) → bytes ≡ 43 ∷ drop 1 bytes → IfNone r (IsLine (drop 1 bytes)) → IfNone r (lines_of bytes ≡ [])
torn_none None bytes is line = ap lines_of is ∙ lines_of_torn (drop 1 bytes) line
torn_none (Some n) bytes is line = tt

-- one line more of a file that is written
pub open_more : (bytes line more : List ℕ) (lines : List (List ℕ)) → bytes ≡ open_text lines → more ≡ ((bytes ++ 43 ∷ []) ++ line) ++ 10 ∷ [] → more ≡ open_text (lines ++ line ∷ [])
open_more bytes line more lines so_far is =
    is
    ∙ ap (λ (l : List ℕ). l ++ 10 ∷ []) (append_assoc bytes (43 ∷ []) line)
    ∙ append_assoc bytes (43 ∷ line) (10 ∷ [])
    ∙ ap (λ (l : List ℕ). l ++ (43 ∷ line ++ 10 ∷ [])) so_far
    ∙ sym (open_text-push lines line [])
    ∙ append-nil (open_text (lines ++ line ∷ []))

-- behind a closed gate nothing counts
pub lines_of-behind : (lines : List (List ℕ)) (more : List ℕ) → AreLines lines → lines_of (at_rest lines ++ more) ≡ lines
lines_of-behind lines more are = ap lines_of (append_assoc (open_text lines) (32 ∷ []) more) ∙ lines_of_closed lines 32 more are (omega arith)

pub lines_of-at_rest : (lines : List (List ℕ)) → AreLines lines → lines_of (at_rest lines) ≡ lines
lines_of-at_rest lines are = lines_of_closed lines 32 [] are (omega arith)

pub length-at_rest : (lines : List (List ℕ)) → length (at_rest lines) ≡ length (open_text lines) + 1
length-at_rest lines = omega (arith, length-append (open_text lines) (32 ∷ []))

pub are_lines : (file : List ℕ) → AreLines (lines_of file)
are_lines file = (parts file).are_lines

-- what stands behind the lines that count
pub behind_is : (file : List ℕ) → behind file ≡ (parts file).end
behind_is file = ap (λ (l : List ℕ). drop (length (open_text (lines_of file))) l) (parts file).split ∙ drop_at (open_text (lines_of file)) (parts file).end (length (open_text (lines_of file))) refl

-- a file at rest
pub rests : (file : List ℕ) (history : History) (end : ℕ) (lines : List (List ℕ)) → AreLines lines → file ≡ at_rest lines → end ≡ length (open_text lines) → end + 1 < 2 ^ 64 → IsOnDisk file history
    → IsAtRest file history end × StandsFor lines file
rests file history end lines are is ends fits on_disk =
    let same : lines_of file ≡ lines = ap lines_of is ∙ lines_of-at_rest lines are in (
      record {
        whole = is ∙ ap at_rest (sym same);
        ends = ends ∙ ap (λ (ls : List (List ℕ)). length (open_text ls)) (sym same);
        fits = fits;
        on_disk = on_disk;
      },
      same,
    )
