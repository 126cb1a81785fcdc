use Rattle.kmod_query.proofs.SoftLemmas.{front_set}
use Rattle.kmod_query.proofs.fronts.set_count.Goals as goal

pub returns : goal.returns
returns c facts met place own known =
    front_set facts met place c.args.counts.now.entries c.insert.new.self.entries c.in_ok-key.key c.args.name.now c.args.count c.in_ok-key.ensures.items c.in_ok-insert.ensures.entries own known
