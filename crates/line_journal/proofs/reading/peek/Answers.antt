use Rattle.std.proofs.Common.{◌≡◌, ◌∙◌, subst}
use Rattle.line_journal.specs.Journal.{IsFound}
use Rattle.line_journal.proofs.reading.peek.Goals as goal

pub returns-clause-found : goal.returns-clause-found
returns-clause-found g c =
    let rest : c.deref.result.now ≡ g.D.Device.content c.args.device.now = c.deref.ensures.value ∙ c.in_ok-bytes.ensures.bytes in
    subst (λ f. IsFound f c.in_ok-read_lines.field-0) rest c.in_ok-read_lines.ensures
