use Rattle.std.proofs.Common.{◌≡◌, length, ◌+◌, ◌<◌, ◌^◌}
use Rattle.kmod_conf.specs.Lines.{lines_from}
use Rattle.kmod_conf.proofs.wrapped_lines.WrappedLines.next_line.Given as goal

-- the begun line, and then the rest, are the lines that were left
abbrev pub invariant-bytes : goal.invariant-bytes
invariant-bytes l = record {
  joins : lines_from l.self-inside.kmod l.first l.self-inside.number l.line.items l.is_escaped l.self-inside.rest.now ≡ l.fn.self;
  few : l.self-inside.number + length l.self-inside.rest.now < 2 ^ 64;
}

abbrev pub decreases-bytes : goal.decreases-bytes
decreases-bytes l = length l.self-inside.rest.now
