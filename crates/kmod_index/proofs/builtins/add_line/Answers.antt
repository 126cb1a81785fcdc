use Rattle.std.proofs.Common.{rules}
use Rattle.kmod_names.proofs.KeyLemmas.{own_added}
use Rattle.kmod_index.proofs.builtins.add_line.Goals as goal

pub returns-clause-places : goal.returns-clause-places
returns-clause-places c =
    own_added c.args.places.now c.add.new.self c.args.names.now.items c.push.new.self.items c.in_ok-name.name c.as_bytes.result.now c.len.result
    c.requires c.in_ok-add.ensures.ok c.as_bytes.ensures (search rules) c.in_ok-push.ensures.items
