use Rattle.std.proofs.Common.{◌≡◌, ◌∙◌, ap, [], ◌∷◌, List, ℕ}
use Rattle.std.proofs.lemmas.Result.{on_ok_weaker}
use Rattle.line_journal.specs.Lines.{at_rest, lines_of}
use Rattle.durable_table.specs.Commands.{head, is_of}
use Rattle.durable_table.specs.Tables.{table_of}
use Rattle.durable_table.proofs.TableLemmas.{new_table, new_is_of}
use Rattle.durable_table.proofs.opening.create.Goals as goal

pub returns-clause-of : goal.returns-clause-of
returns-clause-of g c =
    let name = c.args.name.now in
    let text : c.deref.result.now ≡ at_rest (head name ∷ []) = c.deref.ensures.value ∙ c.in-Ok.ensures in
    on_ok_weaker c.replace.result (λ is. ap (λ (file : List ℕ). is_of name (lines_of file)) (is ∙ text) ∙ new_is_of name) c.replace.ensures.replaced

pub returns-clause-opens : goal.returns-clause-opens
returns-clause-opens g c =
    let name = c.args.name.now in
    let text : c.deref.result.now ≡ at_rest (head name ∷ []) = c.deref.ensures.value ∙ c.in-Ok.ensures in
    on_ok_weaker c.replace.result (λ is s. ap (table_of s) (is ∙ text) ∙ new_table s name) c.replace.ensures.replaced
