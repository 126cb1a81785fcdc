-- What a refusal says of a text.
use Rattle.std.specs.Prelude.{◌≡◌, ℕ, Result, Ok, Err, MatchResult}
use Rattle.dep_index.specs.Catalogue.{Refusal, bad, duplicate, twice_exported, too_many}
use Rattle.dep_index.specs.Dependencies.{DepRefusal, no_colon, empty_name, second_line}
use Rattle.dep_index.specs.declared.faults.CatError.{CatError}
use Rattle.dep_index.specs.declared.faults.CatError.TheVariants as cat
use Rattle.dep_index.specs.declared.faults.Refused.{Refused}
use Rattle.dep_index.specs.declared.faults.Refused.TheVariants as line
use Rattle.dep_index.specs.declared.faults.DepRefused.{DepRefused}
use Rattle.dep_index.specs.declared.faults.DepRefused.TheVariants as dep_line
use Rattle.dep_index.specs.declared.faults.DepError.{DepError}
use Rattle.dep_index.specs.declared.faults.DepError.TheVariants as dep

-- the text has this fault first, at this line; out of memory says nothing of the text
abbrev pub IsFirstFault : {A : Type 0} → CatError → Result A (Refusal × ℕ) → Type 0
IsFirstFault (cat.Bad n) read = read ≡ Err (bad, n)
IsFirstFault (cat.Duplicate n) read = read ≡ Err (duplicate, n)
IsFirstFault (cat.TwiceExported n) read = read ≡ Err (twice_exported, n)
IsFirstFault (cat.TooMany n) read = read ≡ Err (too_many, n)
IsFirstFault cat.Memory read = Unit {0}

-- the same of a modules.dep text
abbrev pub IsFirstDepFault : {A : Type 0} → DepError → Result A (DepRefusal × ℕ) → Type 0
IsFirstDepFault (dep.NoColon n) read = read ≡ Err (no_colon, n)
IsFirstDepFault (dep.EmptyName n) read = read ≡ Err (empty_name, n)
IsFirstDepFault (dep.SecondLine n) read = read ≡ Err (second_line, n)
IsFirstDepFault dep.Memory read = Unit {0}

-- the line is refused for this; out of memory says nothing of the line
abbrev pub IsRefused : {A : Type 0} → Refused → Result A Refusal → Type 0
IsRefused line.Bad read = read ≡ Err bad
IsRefused line.Duplicate read = read ≡ Err duplicate
IsRefused line.TwiceExported read = read ≡ Err twice_exported
IsRefused line.TooMany read = read ≡ Err too_many
IsRefused line.Memory read = Unit {0}

-- the fault of the text at a line that is refused
abbrev pub fault_at : Refused → ℕ → CatError
fault_at line.Bad n = cat.Bad n
fault_at line.Duplicate n = cat.Duplicate n
fault_at line.TwiceExported n = cat.TwiceExported n
fault_at line.TooMany n = cat.TooMany n
fault_at line.Memory n = cat.Memory

-- the same of a line of modules.dep
abbrev pub IsDepRefused : {A : Type 0} → DepRefused → Result A DepRefusal → Type 0
IsDepRefused dep_line.NoColon read = read ≡ Err no_colon
IsDepRefused dep_line.EmptyName read = read ≡ Err empty_name
IsDepRefused dep_line.SecondLine read = read ≡ Err second_line
IsDepRefused dep_line.Memory read = Unit {0}

-- the fault of the text at a line of modules.dep that is refused
abbrev pub dep_fault_at : DepRefused → ℕ → DepError
dep_fault_at dep_line.NoColon n = dep.NoColon n
dep_fault_at dep_line.EmptyName n = dep.EmptyName n
dep_fault_at dep_line.SecondLine n = dep.SecondLine n
dep_fault_at dep_line.Memory n = dep.Memory

-- what the program has now is what the definition makes, or it is refused for the definition's fault
abbrev pub IsMade : {T A : Type 0} → Result T Refused → Result A Refusal → A → Type 0
IsMade result meant now = MatchResult result (λ _. meant ≡ Ok now) (λ e. IsRefused e meant)

-- the same of modules.dep
abbrev pub IsDepMade : {T A : Type 0} → Result T DepRefused → Result A DepRefusal → A → Type 0
IsDepMade result meant now = MatchResult result (λ _. meant ≡ Ok now) (λ e. IsDepRefused e meant)
