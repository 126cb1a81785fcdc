use Rattle.std.proofs.Common.{◌≡◌, length}
use Rattle.kmod_conf.specs.CommandLine.{conf_with_command_line, words_said, with_entries}
use Rattle.kmod_conf.proofs.conf.Conf.add_command_line.Given as goal

abbrev pub invariant-loop-byte : goal.invariant-loop-byte
invariant-loop-byte l = with_entries l.self (words_said l.place l.is_quoted l.word.items l.rest) ≡ conf_with_command_line l.fn.self l.source l.fn.text

abbrev pub decreases-loop-byte : goal.decreases-loop-byte
decreases-loop-byte l = length l.rest
