use Rattle.std.proofs.Common.{subst}
use Rattle.held_table.specs.Names.{EachOnce, name_bytes}
use Rattle.held_table.proofs.NameLemmas.{each_once}
use Rattle.held_table.proofs.names.Names.len.Goals as goal

pub returns-clause-once : goal.returns-clause-once
returns-clause-once c = subst EachOnce c.self.view_is (each_once name_bytes c.self.inside.names.keys c.len.ensures.unique)
