use Rattle.std.proofs.Common.{length, ◌+◌, ◌<◌, ◌^◌}
use Rattle.modprobe_conf.proofs.JoinLemmas.{Joins}
use Rattle.modprobe_conf.proofs.joined_lines.JoinedLines.next_line.Given as goal

abbrev pub invariant-pieces : goal.invariant-pieces
invariant-pieces l =
    record {
      joins : Joins l.is_begun l.first l.buffer.items l.self-inside.number l.self-inside.lines l.fn.self;
      few : l.self-inside.number + length l.self-inside.lines < 2 ^ 64;
    }

abbrev pub decreases-pieces : goal.decreases-pieces
decreases-pieces l = length l.self-inside.lines
