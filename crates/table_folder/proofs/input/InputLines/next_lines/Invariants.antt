use Rattle.std.proofs.Common.{◌≡◌, ◌<◌, [], length}
use Rattle.line_journal.specs.Lines.{IsLine}
use Rattle.table_folder.specs.InputLines.{text_left, SameInput, BringsLines, CountsTooLong}
use Rattle.table_folder.proofs.input.InputLines.next_lines.Given as goal

-- no line has ended
abbrev pub invariant-loop : goal.invariant-loop
invariant-loop g l = record {
  begun : IsLine l.self.begun.items;
  none : l.lines.items ≡ [];
  room : 0 < length l.piece.items;
  same_input : SameInput l.fn.self l.self;
  brings : BringsLines (text_left g.I.Read.remaining l.fn.self) (text_left g.I.Read.remaining l.self) [];
  counted : CountsTooLong (text_left g.I.Read.remaining l.fn.self) (text_left g.I.Read.remaining l.self) l.fn.self.too_long l.self.too_long;
}
