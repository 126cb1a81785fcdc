-- Where the first newline stands.
use Rattle.std.proofs.Common.{◌≡◌, ◌≢◌, ◌==◌, ℕ, zero, suc, ◌+◌, ◌<◌, true, List, [], ◌∷◌, ◌++◌, length, take, drop, ◌∙◌, ap, arith, Bool, false, Option, Some, None, is_some, not, IfSome, IfNone, ◌↔◌, refl, subst}
use Rattle.std.proofs.lemmas.Bool.Decides.{nat_tests}
use Rattle.std.proofs.lemmas.List.Elements.{All-nil, All-cons, All-head, All-tail}
use Rattle.memchr.specs.Find.{Nowhere, Passes, is_byte}
use Rattle.line_journal.specs.Lines.{IsLine}

is_newline : (byte : ℕ) → (byte == 10) ≡ true → byte ≡ 10
is_newline byte is = grind (arith, nat_tests)

other_first : (byte : ℕ) (bytes : List ℕ) (end : ℕ) → Nowhere (Passes (is_byte 10) (byte ∷ bytes)) 0 (suc end) → byte ≢ 10
other_first byte bytes end none = λ is. none 0 (omega arith) (omega arith) (ap (λ (b : ℕ). b == 10) is)

pub no_newline : (bytes : List ℕ) → Nowhere (Passes (is_byte 10) bytes) 0 (length bytes) → IsLine bytes
no_newline [] none = All-nil (λ (b : ℕ). b ≢ 10)
no_newline (byte ∷ bytes) none =
    All-cons (λ (b : ℕ). b ≢ 10) byte bytes (other_first byte bytes (length bytes) none) (no_newline bytes (λ k low high is. none (suc k) (omega arith) (omega arith) is))

pub line_before : (bytes : List ℕ) (place : ℕ) → place < length bytes → Nowhere (Passes (is_byte 10) bytes) 0 place → IsLine (take place bytes)
line_before [] place lt none = absurd (omega arith)
line_before (byte ∷ bytes) zero lt none = All-nil (λ (b : ℕ). b ≢ 10)
line_before (byte ∷ bytes) (suc place) lt none =
    All-cons (λ (b : ℕ). b ≢ 10) byte (take place bytes) (other_first byte bytes place none) (line_before bytes place (omega arith) (λ k low high is. none (suc k) (omega arith) (omega arith) is))

pub newline_at : (bytes : List ℕ) (place : ℕ) → place < length bytes → Passes (is_byte 10) bytes place → bytes ≡ take place bytes ++ 10 ∷ drop (place + 1) bytes
newline_at [] place lt is = absurd (omega arith)
newline_at (byte ∷ bytes) zero lt is = ap (λ (b : ℕ). b ∷ bytes) (is_newline byte is)
newline_at (byte ∷ bytes) (suc place) lt is =
    let next : suc (place + 1) ≡ suc place + 1 = omega arith in
    ap (λ (l : List ℕ). byte ∷ l) (newline_at bytes place (omega arith) is) ∙ ap (λ (n : ℕ). byte ∷ take place bytes ++ 10 ∷ drop n (byte ∷ bytes)) next

not_within : (front rest : List ℕ) → IsLine (front ++ 10 ∷ rest) → ⊥
not_within [] rest is = All-head (λ (b : ℕ). b ≢ 10) 10 rest is refl
not_within (byte ∷ front) rest is = not_within front rest (All-tail (λ (b : ℕ). b ≢ 10) byte (front ++ 10 ∷ rest) is)

-- bytes are a line exactly if there is no first newline
pub line_if_none : (bytes : List ℕ) (first : Option ℕ) (none : Bool) → is_some first ≡ not none → IfNone first (IsLine bytes) → IfSome first (λ len. bytes ≡ take len bytes ++ 10 ∷ drop (len + 1) bytes)
    → none ≡ true ↔ IsLine bytes
line_if_none bytes None true is whole newline = (λ t. whole, λ line. refl)
line_if_none bytes None false is whole newline = absurd (grind arith)
line_if_none bytes (Some len) true is whole newline = absurd (grind arith)
line_if_none bytes (Some len) false is whole newline = (λ t. absurd (grind arith), λ line. absurd (not_within (take len bytes) (drop (len + 1) bytes) (subst IsLine newline line)))
