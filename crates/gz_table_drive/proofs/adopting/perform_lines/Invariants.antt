use Rattle.std.proofs.Common.{◌≡◌, ◌≤◌, ◌-◌, length, take}
use Rattle.line_journal.specs.Device.{AlwaysLeaves}
use Rattle.line_journal.specs.Lines.{bytes_of, lines_of}
use Rattle.line_journal.specs.Journal.{lines_in}
use Rattle.held_lines.specs.Outcomes.{after}
use Rattle.durable_table.specs.Commands.{StaysOf}
use Rattle.durable_table.specs.Durable.{Stands}
use Rattle.durable_table.specs.Groups.{AfterFirstOf}
use Rattle.gz_table_drive.specs.Adopting.{HasRefused}
use Rattle.gz_table_drive.proofs.adopting.perform_lines.Given as goal

abbrev pub invariant-loop-start : goal.invariant-loop-start
invariant-loop-start g l =
    let s = l.initial.table.session.setup.now in
    let h = l.initial.table.session.holders.held in
    let now = l.table.session.holders.held in
    record {
      within : l.start ≤ length l.lines;
      refused : HasRefused s h (take l.start (bytes_of l.lines)) l.initial.replies l.replies;
      becomes : now ≡ after s h (take l.start (bytes_of l.lines));
      stands : Stands g.D.Device.content g.D.Device.history s now l.table.journal;
      moments : AlwaysLeaves (g.D.Device.history l.initial.table.journal.lines.device) (g.D.Device.history l.table.journal.lines.device) (AfterFirstOf s h (bytes_of l.lines));
      of : StaysOf (lines_in g.D.Device.content l.initial.table.journal.lines) (lines_in g.D.Device.content l.table.journal.lines);
      any_of : AlwaysLeaves (g.D.Device.history l.initial.table.journal.lines.device) (g.D.Device.history l.table.journal.lines.device)
          (λ file. StaysOf (lines_in g.D.Device.content l.initial.table.journal.lines) (lines_of file));
      no_fewer : g.D.Device.faults l.initial.table.journal.lines.device ≤ g.D.Device.faults l.table.journal.lines.device;
      setup : l.table.session.setup ≡ l.initial.table.session.setup;
    }

abbrev pub decreases-loop-start : goal.decreases-loop-start
decreases-loop-start g l = length l.lines - l.start
