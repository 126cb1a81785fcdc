use Rattle.std.proofs.Common.{sym}
use Rattle.modprobe_conf.proofs.IndexLemmas.{found_settings}
use Rattle.modprobe_conf.proofs.name_index.NameIndex.at.Goals as goal

pub returns : goal.returns
returns c = rw (sym c.self.view_is) (found_settings c.get.result c.self.inside.settings.entries c.args.name.now c.get.ensures.value)
