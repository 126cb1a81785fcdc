-- Where the first line feed stands.
use Rattle.std.proofs.Common.{◌≢◌, ◌==◌, ℕ, zero, suc, ◌<◌, List, [], ◌∷◌, length, take, ap, arith}
use Rattle.std.proofs.lemmas.List.Elements.{All-nil, All-cons}
use Rattle.memchr.specs.Find.{Nowhere, Passes, is_byte}
use Rattle.line_journal.specs.Lines.{IsLine}

other_first : (byte : ℕ) (bytes : List ℕ) (end : ℕ) → Nowhere (Passes (is_byte 10) (byte ∷ bytes)) 0 (suc end) → byte ≢ 10
other_first byte bytes end none = λ is. none 0 (omega arith) (omega arith) (ap (λ (b : ℕ). b == 10) is)

pub no_newline : (bytes : List ℕ) → Nowhere (Passes (is_byte 10) bytes) 0 (length bytes) → IsLine bytes
no_newline [] none = All-nil (λ (b : ℕ). b ≢ 10)
no_newline (byte ∷ bytes) none =
    All-cons (λ (b : ℕ). b ≢ 10) byte bytes (other_first byte bytes (length bytes) none) (no_newline bytes (λ k low high is. none (suc k) (omega arith) (omega arith) is))

pub line_before : (bytes : List ℕ) (place : ℕ) → place < length bytes → Nowhere (Passes (is_byte 10) bytes) 0 place → IsLine (take place bytes)
line_before [] place lt none = absurd (omega arith)
line_before (byte ∷ bytes) zero lt none = All-nil (λ (b : ℕ). b ≢ 10)
line_before (byte ∷ bytes) (suc place) lt none =
    All-cons (λ (b : ℕ). b ≢ 10) byte (take place bytes) (other_first byte bytes place none) (line_before bytes place (omega arith) (λ k low high is. none (suc k) (omega arith) (omega arith) is))
