use Rattle.kmod_query.proofs.SoftLemmas.{soft_kept}
use Rattle.kmod_query.proofs.soft_lists.SoftLists.keep.Goals as goal

pub returns : goal.returns
returns c facts own known =
    soft_kept facts c.args.self.now.lists.entries c.insert.new.self.entries c.in_ok-key.key c.args.name.now c.args.items c.in_ok-key.ensures.items c.in_ok-insert.ensures.entries own known
