use Rattle.std.proofs.Common.{◌∙◌, List, ℕ, Some, ap}
use Rattle.std.specs.Fmt.{option_append}
use Rattle.std.specs.Io.Chain.{chain_remaining}
use Rattle.modsh_drive.specs.Statuses.{Ends}
use Rattle.modsh_drive.proofs.EndLemmas.{ends_whole, joined}
use Rattle.modsh_drive.proofs.program.Program.answer.Goals as goal

pub returns-clause-ends : goal.returns-clause-ends
returns-clause-ends g c =
    let asked = c.args.self.now.asked in
    let held = g.O.Write.contents c.args.writer.now.writer in
    let written = g.O.Write.contents c.serve_watched-answer.new.writer.writer in
    joined c.args.self.now.files.text.items (g.I.Read.remaining c.args.reader) _
    (λ input. Ends asked.workers asked.fail input held written c.status_after.result)
    (ap (λ r. chain_remaining (λ s. Some s.now) g.I.Read.remaining r) c.new-source.ensures.0 ∙ c.chain.ensures.bytes
    ∙ ap (λ (text : List ℕ). option_append (Some text) (g.I.Read.remaining c.args.reader)) c.text.ensures)
    (ends_whole asked.workers asked.fail _ _ held written _ c.serve_watched-answer.result c.status_after.result
    c.serve_watched-answer.ensures.answered c.serve_watched-answer.ensures.errors c.serve_watched-answer.ensures.stands
    c.status_after.ensures)
