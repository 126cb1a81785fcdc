use Rattle.std.proofs.Common.{◌≡◌, length}
use Rattle.kmod_conf.specs.Configuration.{conf_with_text, with_lines}
use Rattle.kmod_conf.proofs.conf.Conf.add_text.Given as goal

abbrev pub invariant-lines : goal.invariant-lines
invariant-lines l = with_lines l.kmod l.self l.source l.lines ≡ conf_with_text l.kmod l.fn.self l.source l.fn.text

abbrev pub decreases-lines : goal.decreases-lines
decreases-lines l = length l.lines
