-- The lines of a report, one on.
use Rattle.std.proofs.Common.{arith, ◌≡◌, ℕ, ◌+◌, suc, List, [], ◌∷◌, ◌++◌, length}
use Rattle.std.proofs.Common.{map, position, sym, ap, ◌∙◌, Option, Some, None, zero-add, append_assoc}
use Rattle.std.specs.Prelude.{is_none}
use Rattle.std.specs.List.{position_from}
use Rattle.std.specs.Option.{option_map}
use Rattle.std.specs.Str.Lines.{lines}
use Rattle.std.proofs.lemmas.Iterator.Adapters.{position_from-zero}
use Rattle.std.proofs.lemmas.List.{append-nil, map-append, length_push, length-map}
use Rattle.timeline_drive.specs.declared.entries.Entry as entry_type
use Rattle.timeline_drive.specs.Entries.{Entry, entry_in}
use Rattle.timeline_drive.specs.Reports.{line_at, lines_from, entries_in, first_fault}

-- the calls so far with one more, and the lines behind it, are all
pub next_read : (items items' : List entry_type.Entry) (e : entry_type.Entry) (line : List ℕ) (later : List (List ℕ)) (all : List (Option Entry))
    → map Some (entries_in items) ++ lines_from (length items) (line ∷ later) ≡ all
    → items' ≡ items ++ e ∷ [] → line_at (length items) line ≡ Some (entry_in e)
    → map Some (entries_in items') ++ lines_from (length items') later ≡ all
next_read items items' e line later all before pushed is =
    let n : ℕ = length items in
    let front : map Some (entries_in items') ≡ map Some (entries_in items) ++ Some (entry_in e) ∷ [] =
    ap (λ (l : List entry_type.Entry). map Some (entries_in l)) pushed
    ∙ ap (λ (l : List Entry). map Some l) (map-append entry_in items (e ∷ []))
    ∙ map-append Some (entries_in items) (entry_in e ∷ []) in
    let count : length items' ≡ n + 1 = ap length pushed ∙ length_push items e in
    let here : lines_from n (line ∷ later) ≡ Some (entry_in e) ∷ lines_from (n + 1) later =
    ap (λ (o : Option Entry). o ∷ lines_from (n + 1) later) is in
    ap (λ (f : List (Option Entry)). f ++ lines_from (length items') later) front
    ∙ ap (λ (k : ℕ). (map Some (entries_in items) ++ Some (entry_in e) ∷ []) ++ lines_from k later) count
    ∙ append_assoc (map Some (entries_in items)) (Some (entry_in e) ∷ []) (lines_from (n + 1) later)
    ∙ ap (λ (f : List (Option Entry)). map Some (entries_in items) ++ f) (sym here)
    ∙ before

none_from : (es : List Entry) (more : List (Option Entry)) (i : ℕ) → position_from is_none i (map Some es ++ None ∷ more) ≡ Some (i + length es)
none_from [] more i = ap Some (omega arith)
none_from (e ∷ es) more i =
    let sum : (i + 1) + length es ≡ i + suc (length es) = omega arith in
    none_from es more (i + 1) ∙ ap Some sum

-- after calls alone, the line that is none is the first
pub refused_at : (items : List entry_type.Entry) (line : List ℕ) (later : List (List ℕ)) (text : List ℕ) (n : ℕ)
    → map Some (entries_in items) ++ lines_from (length items) (line ∷ later) ≡ lines_from 0 (lines text)
    → line_at (length items) line ≡ None → n ≡ length items + 1 → first_fault text ≡ Some n
refused_at items line later text n before is counted =
    let es : List Entry = entries_in items in
    let more : List (Option Entry) = lines_from (length items + 1) later in
    let split : lines_from 0 (lines text) ≡ map Some es ++ None ∷ more =
    sym before ∙ ap (λ (o : Option Entry). map Some es ++ o ∷ more) is in
    let place : position is_none (map Some es ++ None ∷ more) ≡ Some (length es) =
    position_from-zero is_none (map Some es ++ None ∷ more) ∙ none_from es more 0 ∙ ap Some (zero-add (length es)) in
    let same : length es + 1 ≡ n = omega (arith, length-map items entry_in) in
    ap (λ (o : List (Option Entry)). option_map (λ (b : ℕ). b + 1) (position is_none o)) split
    ∙ ap (option_map (λ (b : ℕ). b + 1)) place ∙ ap Some same

-- if no line is left, all were calls
pub all_read : (items : List entry_type.Entry) (all : List (Option Entry)) → map Some (entries_in items) ++ lines_from (length items) [] ≡ all
    → all ≡ map Some (entries_in items)
all_read items all before = sym before ∙ append-nil (map Some (entries_in items))
