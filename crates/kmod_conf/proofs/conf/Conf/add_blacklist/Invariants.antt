use Rattle.std.proofs.Common.{◌≡◌, [], length}
use Rattle.kmod_conf.specs.CommandLine.{blacklist_from, with_entries}
use Rattle.kmod_conf.proofs.conf.Conf.add_blacklist.Given as goal

abbrev pub invariant-loop-byte : goal.invariant-loop-byte
invariant-loop-byte l = with_entries l.self (blacklist_from l.place l.name.items l.rest) ≡ with_entries l.fn.self (blacklist_from l.place [] l.names)

abbrev pub decreases-loop-byte : goal.decreases-loop-byte
decreases-loop-byte l = length l.rest
