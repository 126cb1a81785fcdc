-- The lines without effect are those whose numbers are kept.
use Rattle.std.proofs.Common.{◌≡◌, ℕ, Bool, true, false, List, [], ◌∷◌, Option, Some, None, map, cond, refl, ap}
use Rattle.text_parts.specs.Text.{words, is_comment}
use Rattle.alias_match.specs.declared.idle.NoEffect.{NoEffect}
use Rattle.alias_match.specs.declared.idle.IdleLine.{IdleLine}
use Rattle.alias_match.specs.Aliases.{Entries, before, words_before, entries_of}
use Rattle.alias_match.specs.Idle.{idle_before, idle_words, idle_lines}

abbrev numbers : List IdleLine → List ℕ
numbers idle = map (λ (line : IdleLine). line.number) idle

at_entry : {Entry : Type 0} (found : Option Entry) (n : ℕ) (why : NoEffect) (idle : List IdleLine) (later : Entries Entry)
    → numbers idle ≡ later.skipped
    → numbers (idle_before (record { number = n; why = why }) found idle) ≡ (before n found later).skipped
at_entry None n why idle later same = ap (λ ns. n ∷ ns) same
at_entry (Some entry) n why idle later same = same

at_words : {Entry : Type 0} (entry_of : List (List ℕ) → Option Entry) (why : List (List ℕ) → NoEffect) (n : ℕ) (ws : List (List ℕ))
    (idle : List IdleLine) (later : Entries Entry)
    → numbers idle ≡ later.skipped
    → numbers (idle_words entry_of why n ws idle) ≡ (words_before entry_of n ws later).skipped
at_words entry_of why n [] idle later same = same
at_words entry_of why n (w ∷ ws) idle later same = at_entry (entry_of (w ∷ ws)) n (why (w ∷ ws)) idle later same

at_line : {Entry : Type 0} (entry_of : List (List ℕ) → Option Entry) (why : List (List ℕ) → NoEffect) (line : ℕ × List ℕ) (is : Bool)
    (idle : List IdleLine) (later : Entries Entry)
    → numbers idle ≡ later.skipped
    → numbers (cond is idle (idle_words entry_of why line.0 (words line.1) idle))
    ≡ (cond is later (words_before entry_of line.0 (words line.1) later)).skipped
at_line entry_of why line true idle later same = same
at_line entry_of why line false idle later same = at_words entry_of why line.0 (words line.1) idle later same

-- the numbers of the idle lines are those that are kept, whatever an entry is
pub idle_are_skipped : {Entry : Type 0} (entry_of : List (List ℕ) → Option Entry) (why : List (List ℕ) → NoEffect) (ls : List (ℕ × List ℕ))
    → map (λ (line : IdleLine). line.number) (idle_lines entry_of why ls) ≡ (entries_of entry_of ls).skipped
idle_are_skipped entry_of why [] = refl
idle_are_skipped entry_of why (line ∷ ls) =
    at_line entry_of why line (is_comment line.1) (idle_lines entry_of why ls) (entries_of entry_of ls) (idle_are_skipped entry_of why ls)
