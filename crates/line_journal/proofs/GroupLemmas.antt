-- A group of lines: closed behind the lines that count, then with its gates opened one after another.
use Rattle.std.proofs.Common.{◌≡◌, inl, inr, ℕ, zero, suc, ◌+◌, ◌<◌, ◌≤◌, List, [], ◌∷◌, ◌++◌, length, get_or, take, drop, Vec, refl, sym, ◌∙◌, ap, subst, arith, append_assoc, length-append}
use Rattle.std.specs.declared.alloc.Global.{Global}
use Rattle.std.proofs.lemmas.Bool.{cases_eq}
use Rattle.std.proofs.lemmas.List.{append-nil, take_more, drop_more, get_or-map, length-map}
use Rattle.std.proofs.lemmas.List.Elements.{All-head, All-tail}
use Rattle.line_journal.specs.Device.{overwritten, Torn}
use Rattle.line_journal.specs.Lines.{lines_of, open_text, at_rest, bytes_of, first_gate, later_gates, with_gates, with_waiting, IsLine, AreLines, StandsWithFirstOf}
use Rattle.line_journal.proofs.ByteLemmas.{overwritten_end, overwritten_byte, torn_byte}
use Rattle.line_journal.proofs.LineLemmas.{closed, lines_of_closed, lines_of-line, lines_of-open_text, open_text-push, open_text-append}

-- the lines, and the group with some of its gates open
abbrev pub IsGated : List (List ℕ) → List (List ℕ) → List ℕ → Type 0
IsGated lines group file = (gates : List ℕ) × (file ≡ open_text lines ++ with_gates gates group)

-- one gate of a group, and what stands around it
record GateAt (gates : List ℕ) (group : List (List ℕ)) (index : ℕ) : Type 0 where
  front : List ℕ
  gate : ℕ
  rest : List ℕ
  is : with_gates gates group ≡ front ++ gate ∷ rest
  place : length front ≡ length (open_text (take index group))
  other : (new : ℕ) → (others : List ℕ) × (front ++ new ∷ rest ≡ with_gates others group)

gate_at : (gates : List ℕ) (group : List (List ℕ)) (index : ℕ) → index < length group → GateAt gates group index
gate_at gates [] index lt = absurd (omega arith)
gate_at gates (line ∷ group) zero lt = record {
  front = [];
  gate = first_gate gates;
  rest = line ++ 10 ∷ with_gates (later_gates gates) group;
  is = refl;
  place = refl;
  other = λ new. (new ∷ later_gates gates, refl);
}
gate_at gates (line ∷ group) (suc index) lt =
    let later = gate_at (later_gates gates) group index (omega arith) in
    let first = first_gate gates ∷ line in
    record {
      front = first ++ 10 ∷ later.front;
      gate = later.gate;
      rest = later.rest;
      is = ap (λ (l : List ℕ). first ++ 10 ∷ l) later.is ∙ sym (append_assoc first (10 ∷ later.front) (later.gate ∷ later.rest));
      place = omega (arith, later.place, length-append line (10 ∷ later.front), length-append line (10 ∷ open_text (take index group)));
      other = λ new. (first_gate gates ∷ (later.other new).0, append_assoc first (10 ∷ later.front) (new ∷ later.rest) ∙ ap (λ (l : List ℕ). first ++ 10 ∷ l) (later.other new).1);
    }

-- a gate that is torn leaves other gates, and no more
pub torn_gate : (lines group : List (List ℕ)) (index place : ℕ) (before left : List ℕ) → index < length group → place ≡ length (open_text (lines ++ take index group)) → IsGated lines group before → Torn place 1 before left
    → IsGated lines group left
torn_gate lines group index place before left lt is gated torn =
    let here = gate_at gated.0 group index lt in
    let front = open_text lines ++ here.front in
    let split : before ≡ front ++ here.gate ∷ here.rest =
    gated.1 ∙ ap (λ (l : List ℕ). open_text lines ++ l) here.is ∙ sym (append_assoc (open_text lines) here.front (here.gate ∷ here.rest)) in
    let at : length front ≡ place =
    omega (arith, is, here.place, length-append (open_text lines) here.front, ap length (open_text-append lines (take index group)), length-append (open_text lines) (open_text (take index group))) in
    let new = torn_byte front here.gate here.rest place at left (subst (λ (f : List ℕ). Torn place 1 f left) split torn) in
    let other = here.other new.0 in
    (other.0, new.1 ∙ append_assoc (open_text lines) here.front (new.0 ∷ here.rest) ∙ ap (λ (l : List ℕ). open_text lines ++ l) other.1)

-- those with an open gate at the front count
open_ones : (gates : List ℕ) (group : List (List ℕ)) → AreLines group → (count : ℕ) × (count ≤ length group) × (lines_of (with_gates gates group) ≡ take count group)
open_ones gates [] are = (0, omega arith, closed 32 [] (omega arith))
open_ones gates (line ∷ group) are = elim (cases_eq (first_gate gates) 43) [
  | inl is_open ↦
      let later = open_ones (later_gates gates) group (All-tail IsLine line group are) in
      let rest = with_gates (later_gates gates) group in (
        suc later.0,
        omega (arith, later.1),
        ap (λ (gate : ℕ). lines_of (gate ∷ line ++ 10 ∷ rest)) is_open ∙ lines_of-line line rest (All-head IsLine line group are) ∙ ap (λ (ls : List (List ℕ)). line ∷ ls) later.2,
      )
  | inr shut ↦ (0, omega arith, closed (first_gate gates) (line ++ 10 ∷ with_gates (later_gates gates) group) shut)
]

-- whichever gates are open, the first of the group count
pub gated_first : (lines group : List (List ℕ)) → AreLines lines → AreLines group → (file : List ℕ) → IsGated lines group file → StandsWithFirstOf lines group file
gated_first lines group are group_are file gated =
    let front = open_ones gated.0 group group_are in
    (front.0, front.1, ap lines_of gated.1 ∙ lines_of-open_text lines (with_gates gated.0 group) are ∙ ap (λ (ls : List (List ℕ)). lines ++ ls) front.2)

pub none_of : (lines group : List (List ℕ)) (file : List ℕ) → lines_of file ≡ lines → StandsWithFirstOf lines group file
none_of lines group file is = (0, omega arith, is ∙ sym (append-nil lines))

pub lines_of-waiting : (lines group : List (List ℕ)) → AreLines lines → lines_of (with_waiting lines group) ≡ lines
lines_of-waiting lines [] are = lines_of_closed lines 32 [] are (omega arith)
lines_of-waiting lines (line ∷ group) are = lines_of_closed lines 32 (line ++ 10 ∷ with_gates [] group) are (omega arith)

-- what is written behind the closed gate of a file at rest
module _ (lines group : List (List ℕ)) (bytes : List ℕ) (end : ℕ) (is_end : end ≡ length (open_text lines)) (is : 32 ∷ bytes ≡ with_gates [] group) where
  pub written_waiting : overwritten (at_rest lines) (end + 1) bytes ≡ with_waiting lines group
  written_waiting =
      overwritten_end (at_rest lines) bytes (end + 1) (omega (arith, is_end, length-append (open_text lines) (32 ∷ [])))
      ∙ append_assoc (open_text lines) (32 ∷ []) bytes
      ∙ ap (λ (l : List ℕ). open_text lines ++ l) is

  pub length-waiting : length (with_waiting lines group) ≡ end + 1 + length bytes
  length-waiting = omega (arith, is_end, ap length is, length-append (open_text lines) (with_gates [] group))

-- the gate of the next line of a group is opened
module _ (lines group : List (List ℕ)) (line : List ℕ) (place : ℕ) (is : place ≡ length (open_text lines)) where
  pub opened_one : overwritten (with_waiting lines (line ∷ group)) place (43 ∷ []) ≡ with_waiting (lines ++ line ∷ []) group
  opened_one = overwritten_byte (open_text lines) 32 (line ++ 10 ∷ with_gates [] group) place (sym is) 43 ∙ sym (open_text-push lines line (with_gates [] group))

  pub length-opened : length (with_waiting (lines ++ line ∷ []) group) ≡ length (with_waiting lines (line ∷ group))
  length-opened =
      let pushed = ap length (open_text-push lines line (with_gates [] group)) in
      omega (arith, pushed, length-append (open_text lines) (43 ∷ line ++ 10 ∷ with_gates [] group), length-append (open_text lines) (32 ∷ line ++ 10 ∷ with_gates [] group))

  pub room_for_one : place + length line + 2 ≤ length (with_waiting lines (line ∷ group))
  room_for_one = omega (arith, is, length-append (open_text lines) (32 ∷ line ++ 10 ∷ with_gates [] group), length-append line (10 ∷ with_gates [] group))

-- the next line of a vector of lines
module _ (lines : List (Vec ℕ Global)) (index : ℕ) (line : Vec ℕ Global) (lt : index < length lines) (is : line ≡ get_or lines index line) where
  pub next_is : drop index (bytes_of lines) ≡ line.items ∷ drop (index + 1) (bytes_of lines)
  next_is =
      drop_more (bytes_of lines) index line.items (omega (arith, lt, length-map lines (λ (v : Vec ℕ Global). v.items)))
      ∙ ap (λ (l : List ℕ). l ∷ drop (index + 1) (bytes_of lines)) (get_or-map (λ (v : Vec ℕ Global). v.items) lines index line line.items lt ∙ ap (λ (v : Vec ℕ Global). v.items) (sym is))

  pub one_more : take (index + 1) (bytes_of lines) ≡ take index (bytes_of lines) ++ line.items ∷ []
  one_more =
      take_more (bytes_of lines) index line.items (omega (arith, lt, length-map lines (λ (v : Vec ℕ Global). v.items)))
      ∙ ap (λ (l : List ℕ). take index (bytes_of lines) ++ l ∷ []) (get_or-map (λ (v : Vec ℕ Global). v.items) lines index line line.items lt ∙ ap (λ (v : Vec ℕ Global). v.items) (sym is))

with_gates-push : (lines : List (List ℕ)) (line : List ℕ) → with_gates [] (lines ++ line ∷ []) ≡ with_gates [] lines ++ (line ++ 10 ∷ 32 ∷ [])
with_gates-push [] line = refl
with_gates-push (first ∷ lines) line =
    ap (λ (l : List ℕ). 32 ∷ first ++ 10 ∷ l) (with_gates-push lines line) ∙ sym (append_assoc (32 ∷ first) (10 ∷ with_gates [] lines) (line ++ 10 ∷ 32 ∷ []))

-- one line more of a group that is put together
pub waiting_more : (bytes line more : List ℕ) (lines : List (List ℕ)) → 32 ∷ bytes ≡ with_gates [] lines → more ≡ (bytes ++ line) ++ 10 ∷ 32 ∷ [] → 32 ∷ more ≡ with_gates [] (lines ++ line ∷ [])
waiting_more bytes line more lines so_far is =
    ap (λ (l : List ℕ). 32 ∷ l) (is ∙ append_assoc bytes line (10 ∷ 32 ∷ [])) ∙ ap (λ (l : List ℕ). l ++ (line ++ 10 ∷ 32 ∷ [])) so_far ∙ sym (with_gates-push lines line)
