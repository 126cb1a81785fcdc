use Rattle.std.proofs.Common.{◌≡◌, ℕ, ◌++◌, ◌∷◌, List, length, map, Some, None, rules, sym, ap, ◌∙◌}
use Rattle.timeline_drive.specs.Reports.{line_at, lines_from, entries_in}
use Rattle.timeline_drive.proofs.ReportLemmas.{refused_at}
use Rattle.timeline_drive.proofs.reports.read_report.Goals as goal

pub returns-in-None-clause-refused : goal.returns-in-None-clause-refused
returns-in-None-clause-refused c =
    let items = c.loop-line.entries.items in
    let left : c.loop-line.lines ≡ c.in-Some.line.now ∷ c.next.new.self = search rules in
    let none : line_at (length items) c.in-Some.line.now ≡ None = search rules in
    refused_at items c.in-Some.line.now c.next.new.self c.args.text.now _
    (ap (λ (ls : List (List ℕ)). map Some (entries_in items) ++ lines_from (length items) ls) (sym left) ∙ c.loop-line.invariant)
    none (search rules)
