use Rattle.kmod_index.proofs.FrontLemmas.{front_at, front_whole}
use Rattle.kmod_index.proofs.alias_scan.plain_front.Goals as goal

pub returns-in-Some : goal.returns-in-Some
returns-in-Some c = front_at c.args.name.now c.in-Some.end c.in-Some.ensures

pub returns-in-None : goal.returns-in-None
returns-in-None c = front_whole c.args.name.now c.in-None.ensures
