-- What a line of a session is answered, as a value, and what is written of it.
use Rattle.std.specs.Prelude.{◌≡◌, ℕ, ◌+◌, ◌-◌, List, length, slice_range, Option, Some, None, ⊤}
use Rattle.modprobe.specs.declared.refusal.Code.{Code}
use Rattle.modprobe.specs.declared.refusal.Refusal as lent
use Rattle.modprobe.specs.Refusals.{Refusal, code_text, error_line, refusal_line}

-- a line is answered by a text, or it is refused
pub data Outcome : Type 0 where
  says : List ℕ → Outcome
  refuses : Refusal → Outcome

abbrev pub refused : Code → List ℕ → Outcome
refused code name = refuses (record { code = code; name = name })

-- what is written of it: the text, or the line of the refusal
abbrev pub text_of : Outcome → List ℕ
text_of (says text) = text
text_of (refuses r) = refusal_line r

-- why the line is refused
abbrev pub why_refused : Outcome → Option Refusal
why_refused (says text) = None
why_refused (refuses r) = Some r

-- how many errors it is
abbrev pub errors_of : Outcome → ℕ
errors_of (says text) = 0
errors_of (refuses r) = 1

-- the refusal that the code lends
abbrev pub refusal_from : lent.Refusal → Refusal
refusal_from r = record { code = r.code; name = r.name.now }

-- the name in the line of a refusal with this code
abbrev pub name_in : Code → List ℕ → List ℕ
name_in code line = slice_range line (7 + length (code_text code)) (length line - 1)

-- the outcome that a code and a text stand for
abbrev pub outcome_from : Option Code → List ℕ → Outcome
outcome_from None text = says text
outcome_from (Some code) line = refused code (name_in code line)

-- the text with a code is the line of its refusal
abbrev pub IsLineOf : Option Code → List ℕ → Type 0
IsLineOf None text = ⊤
IsLineOf (Some code) line = line ≡ error_line code (name_in code line)
