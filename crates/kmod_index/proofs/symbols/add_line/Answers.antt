use Rattle.std.proofs.Common.{rules}
use Rattle.kmod_index.specs.ForProofs.{key_of}
use Rattle.kmod_names.proofs.KeyLemmas.{key_added}
use Rattle.kmod_index.proofs.symbols.add_line.Goals as goal

pub returns-clause-keys : goal.returns-clause-keys
returns-clause-keys c =
    key_added key_of c.args.keys.now c.add.new.self c.args.lines.now.items c.push.new.self.items c.in-Some.read c.key.result.now c.len.result
    c.requires c.in_ok-add.ensures.ok c.key.ensures (search rules) c.in_ok-push.ensures.items
