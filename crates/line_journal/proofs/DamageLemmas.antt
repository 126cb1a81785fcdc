-- How many open gates a crash within a group leaves behind the lines that count: fewer than the group has lines.
use Rattle.std.proofs.Common.{◌≡◌, ◌≢◌, ◌⊎◌, ⊎_elim, inl, ℕ, ◌+◌, ◌-◌, ◌≤◌, List, [], ◌∷◌, ◌++◌, length, drop, refl, sym, ◌∙◌, ap, arith}
use Rattle.std.proofs.lemmas.Bool.Decides.{nat_tests}
use Rattle.std.proofs.lemmas.List.{drop_at}
use Rattle.std.proofs.lemmas.List.Elements.{All-head, All-tail, All-push}
use Rattle.std.specs.List.{All}
use Rattle.line_journal.specs.Lines.{open_text, behind, first_gate, later_gates, with_gates, gates_after, open_gates, IsLine, AreLines}
use Rattle.line_journal.proofs.LineLemmas.{lines_of_closed, open_text-push}

-- a gate is closed or open
abbrev pub IsGate : ℕ → Type 0
IsGate gate = (gate ≡ 32) ⊎ (gate ≡ 43)

-- within a line stands no gate
none_within : (before : ℕ) (line rest : List ℕ) → before ≢ 10 → IsLine line → gates_after before (line ++ 10 ∷ rest) ≡ gates_after 10 rest
none_within before [] rest other is = grind (arith, nat_tests)
none_within before (byte ∷ line) rest other is =
    let later = none_within byte line rest (All-head (λ (b : ℕ). b ≢ 10) byte line is) (All-tail (λ (b : ℕ). b ≢ 10) byte line is) in
    grind (arith, nat_tests)

gate_shut : (line rest : List ℕ) → IsLine line → gates_after 10 (32 ∷ line ++ 10 ∷ rest) ≡ gates_after 10 rest
gate_shut line rest is =
    let none : 0 + gates_after 32 (line ++ 10 ∷ rest) ≡ gates_after 10 rest = omega (arith, none_within 32 line rest (omega arith) is) in
    none

gate_open : (line rest : List ℕ) → IsLine line → gates_after 10 (43 ∷ line ++ 10 ∷ rest) ≡ 1 + gates_after 10 rest
gate_open line rest is = ap (λ (n : ℕ). 1 + n) (none_within 43 line rest (omega arith) is)

first_is : (gates : List ℕ) → All IsGate gates → IsGate (first_gate gates)
first_is [] are = inl refl
first_is (gate ∷ gates) are = All-head IsGate gate gates are

later_are : (gates : List ℕ) → All IsGate gates → All IsGate (later_gates gates)
later_are [] are = are
later_are (gate ∷ gates) are = All-tail IsGate gate gates are

at_most_all : (gates : List ℕ) (group : List (List ℕ)) → All IsGate gates → AreLines group → gates_after 10 (with_gates gates group) ≤ length group
at_most_all gates [] are lines = omega arith
at_most_all gates (line ∷ group) are lines =
    let rest = with_gates (later_gates gates) group in
    let later = at_most_all (later_gates gates) group (later_are gates are) (All-tail IsLine line group lines) in
    let is = All-head IsLine line group lines in
    let count = λ (g : ℕ). gates_after 10 (g ∷ line ++ 10 ∷ rest) in
    ⊎_elim
    (λ shut. let e : gates_after 10 (with_gates gates (line ∷ group)) ≡ gates_after 10 rest = ap count shut ∙ gate_shut line rest is in omega (arith, later, e))
    (λ opened. let e : gates_after 10 (with_gates gates (line ∷ group)) ≡ 1 + gates_after 10 rest = ap count opened ∙ gate_open line rest is in omega (arith, later, e))
    (first_is gates are)

behind_closed : (lines : List (List ℕ)) (rest : List ℕ) → AreLines lines → behind (open_text lines ++ 32 ∷ rest) ≡ 32 ∷ rest
behind_closed lines rest are =
    ap (λ (ls : List (List ℕ)). drop (length (open_text ls)) (open_text lines ++ 32 ∷ rest)) (lines_of_closed lines 32 rest are (omega arith))
    ∙ drop_at (open_text lines) (32 ∷ rest) (length (open_text lines)) refl

-- what stands behind lines and a group with some gates open
pub lost_with_a_group : (lines group : List (List ℕ)) (gates : List ℕ) → AreLines lines → AreLines group → All IsGate gates → open_gates (behind (open_text lines ++ with_gates gates group)) ≤ length group - 1
lost_with_a_group lines [] gates are group_are gates_are = omega (arith, ap open_gates (behind_closed lines [] are))
lost_with_a_group lines (line ∷ group) gates are group_are gates_are =
    let rest = with_gates (later_gates gates) group in
    let is = All-head IsLine line group group_are in
    let later_group = All-tail IsLine line group group_are in
    let whole = λ (g : ℕ). open_text lines ++ (g ∷ line ++ 10 ∷ rest) in
    let lost = open_gates (behind (open_text lines ++ with_gates gates (line ∷ group))) in
    ⊎_elim
    (λ shut.
    let e : lost ≡ gates_after 10 rest = ap (λ (g : ℕ). open_gates (behind (whole g))) shut ∙ ap open_gates (behind_closed lines (line ++ 10 ∷ rest) are) ∙ gate_shut line rest is in
    omega (arith, e, at_most_all (later_gates gates) group (later_are gates gates_are) later_group))
    (λ opened.
    let more = open_gates (behind (open_text (lines ++ line ∷ []) ++ rest)) in
    let e : lost ≡ more = ap (λ (g : ℕ). open_gates (behind (whole g))) opened ∙ ap (λ (f : List ℕ). open_gates (behind f)) (sym (open_text-push lines line rest)) in
    omega (arith, e, lost_with_a_group (lines ++ line ∷ []) group (later_gates gates) (All-push IsLine lines line are is) later_group (later_are gates gates_are)))
    (first_is gates gates_are)
