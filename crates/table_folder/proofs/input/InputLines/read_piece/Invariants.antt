use Rattle.std.proofs.Common.{◌≡◌, length}
use Rattle.std.specs.Io.KnownBytes.{Keeps}
use Rattle.table_folder.proofs.input.InputLines.read_piece.Given as goal

-- no byte was read
abbrev pub invariant-loop : goal.invariant-loop
invariant-loop g l = record {
  begun : l.self.begun ≡ l.fn.self.begun;
  too_long : l.self.too_long ≡ l.fn.self.too_long;
  same_input : l.self.input.ghost_name ≡ l.fn.self.input.ghost_name;
  kept : Keeps (g.I.Read.remaining l.fn.self.input.now) (g.I.Read.remaining l.self.input.now);
  room : length l.piece ≡ length l.fn.piece;
}
