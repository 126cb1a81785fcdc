use Rattle.std.proofs.Common.{arith}
use Rattle.std.proofs.lemmas.Grind.{common_steps}
use Rattle.kmod_conf.proofs.conf.Conf.add_blacklist.Goals as goal

pub loop-byte-preserved : goal.loop-byte-preserved
loop-byte-preserved c = grind (arith, common_steps)

pub loop-byte-preserved-in_ok-add_blacklisted : goal.loop-byte-preserved-in_ok-add_blacklisted
loop-byte-preserved-in_ok-add_blacklisted c = grind (arith, common_steps)
