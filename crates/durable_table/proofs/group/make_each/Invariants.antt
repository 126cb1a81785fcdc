use Rattle.std.proofs.Common.{◌≡◌, take}
use Rattle.line_journal.specs.Lines.{bytes_of}
use Rattle.durable_table.specs.Groups.{AreMade}
use Rattle.durable_table.proofs.group.make_each.Given as goal

abbrev pub invariant-loop-line : goal.invariant-loop-line
invariant-loop-line l =
    AreMade l.initial.session.setup.now l.initial.session.holders.held
    l.session.holders.held l.link (bytes_of (take l.line-index l.lines)) l.replies.items (bytes_of l.sealed.items)
    × (l.session.setup ≡ l.initial.session.setup)
