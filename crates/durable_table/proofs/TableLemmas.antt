-- A command more makes the table after it.
use Rattle.std.proofs.Common.{arith, true, ◌≡◌, ◌∙◌, ap, refl, ℕ, List, [], ◌∷◌, ◌++◌, Some}
use Rattle.line_journal.specs.Lines.{at_rest, lines_of}
use Rattle.modprobe.specs.Setup.{Setup}
use Rattle.held_table.specs.Held.{Held}
use Rattle.held_lines.specs.Outcomes.{after, held_line_outcome}
use Rattle.durable_table.specs.Seals.{seal}
use Rattle.durable_table.specs.Commands.{head, is_of, link_behind}
use Rattle.durable_table.specs.Tables.{opening_of, table_in, table_of}
use Rattle.durable_table.proofs.ChainLemmas.{unsealed, sealed_more}
use Rattle.durable_table.proofs.CommandLemmas.{head_is_head, head_is_of, new_lines}
use Rattle.durable_table.proofs.GroupLemmas.{table_in_all}

-- the lines stand for the table after a line, once its seal is behind them
pub table_in_more : (s : Setup) (lines : List (List ℕ)) (line : List ℕ) (h : Held) → table_in s lines ≡ Some h
    → table_in s (lines ++ seal (link_behind lines) line ∷ []) ≡ Some (held_line_outcome s h line).1
table_in_more s lines line h is =
    table_in_all s lines (seal (link_behind lines) line ∷ []) h is (sealed_more (link_behind lines) [] line refl)
    ∙ ap (λ (command : List ℕ). Some (after s h (command ∷ []))) (unsealed (link_behind lines) line)

-- a journal without commands stands for the table in which nothing is there
pub new_table : (s : Setup) (name : List ℕ) → table_of s (at_rest (head name ∷ [])) ≡ Some (opening_of s)
new_table s name =
    ap (table_in s) (new_lines name) ∙ grind (arith, head_is_head name)

-- it is of the setup of its name
pub new_is_of : (name : List ℕ) → is_of name (lines_of (at_rest (head name ∷ []))) ≡ true
new_is_of name = ap (is_of name) (new_lines name) ∙ head_is_of name []
