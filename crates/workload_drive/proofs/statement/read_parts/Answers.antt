use Rattle.std.proofs.Common.{◌≡◌, ◌+◌, ◌∙◌, List, ap, sym, Ok}
use Rattle.std.proofs.lemmas.Result.{err_from_is_err_and}
use Rattle.dep_index.specs.Catalogue.{catalogue_of}
use Rattle.workload_drive.specs.Faults.{catalogue_fault}
use Rattle.workload_drive.specs.Statements.{Statement, behind_head, lines_behind, text_before, statements, with_catalogue, parts_behind}
use Rattle.workload_drive.specs.ForProofs.{lines_in, statements_in}
use Rattle.workload_drive.proofs.PartLemmas.{fault_passes, fault_later, reads_on, catalogue_passes, parts_from}
use Rattle.workload_drive.proofs.statement.read_parts.Goals as goal

pub returns-in_err-rest : goal.returns-in_err-rest
returns-in_err-rest c =
    let p = err_from_is_err_and c.from_residual-in_err-rest.result c.from_residual-in_err-rest.ensures.1 in
    let section = c.args.section.now in
    let end = c.len-end.result + 1 in
    let refused = rw c.deref.ensures.value at c.in_err-rest.ensures in
    rw (p.1, p.2, parts_from section c.args.input.now c.in_ok-lines.lines.items c.len-end.result c.in_ok-lines.ensures (c.len-end.ensures ∙ c.in_ok-lines.lines.ok.0))
    (fault_passes c.in_err-rest.field-0.0 (behind_head end (lines_in c.in_ok-lines.lines.items)) (parts_behind section end) refused)

pub returns-in_err-catalogue : goal.returns-in_err-catalogue
returns-in_err-catalogue c =
    let p = err_from_is_err_and c.from_residual-in_err-catalogue.result c.from_residual-in_err-catalogue.ensures.1 in
    let section = c.args.section.now in
    let end = c.len-end.result + 1 in
    let e = c.in_err-catalogue.field-0.0 in
    let head = rw c.deref.ensures.value at c.in_ok-rest.ensures in
    let refused = rw (c.deref-2.ensures.value, c.in_ok-text.ensures) at c.in_err-catalogue.ensures in
    rw (p.1, p.2, parts_from section c.args.input.now c.in_ok-lines.lines.items c.len-end.result c.in_ok-lines.ensures (c.len-end.ensures ∙ c.in_ok-lines.lines.ok.0))
    (fault_later (catalogue_fault e) (behind_head end (lines_in c.in_ok-lines.lines.items)) (parts_behind section end) (lines_in c.in_ok-rest.rest.now) head
    (catalogue_passes e (statements (lines_behind section (lines_in c.in_ok-rest.rest.now))) end (catalogue_of (text_before section (lines_in c.in_ok-rest.rest.now))) refused))

pub returns : goal.returns
returns c =
    let section = c.args.section.now in
    let end = c.len-end.result + 1 in
    let rest = lines_in c.in_ok-rest.rest.now in
    let head = rw c.deref.ensures.value at c.in_ok-rest.ensures in
    let known = rw (c.deref-2.ensures.value, c.in_ok-text.ensures) at c.in_ok-catalogue.ensures in
    let said : statements (lines_behind section rest) ≡ statements_in c.in_ok-statements.statements.items =
    sym (c.in_ok-statements.ensures ∙ ap statements c.lines_behind.ensures) in
    parts_from section c.args.input.now c.in_ok-lines.lines.items c.len-end.result c.in_ok-lines.ensures (c.len-end.ensures ∙ c.in_ok-lines.lines.ok.0)
    ∙ reads_on (behind_head end (lines_in c.in_ok-lines.lines.items)) (parts_behind section end) rest _ head
    (ap (with_catalogue (statements (lines_behind section rest)) end) known
    ∙ ap (λ (ss : List Statement). Ok (record { catalogue = c.in_ok-catalogue.catalogue; statements = ss; end = end })) said)
