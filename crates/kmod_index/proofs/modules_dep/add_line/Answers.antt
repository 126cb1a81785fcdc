use Rattle.std.proofs.Common.{◌∙◌, rules}
use Rattle.kmod_index.specs.Dependencies.{name_of}
use Rattle.kmod_names.proofs.KeyLemmas.{key_added}
use Rattle.kmod_index.proofs.modules_dep.add_line.Goals as goal

pub returns-clause-names : goal.returns-clause-names
returns-clause-names c =
    key_added name_of c.args.names.now c.add.new.self c.args.lines.now.items c.push.new.self.items c.in-Some.read c.as_bytes.result.now c.len.result
    c.requires c.in_ok-add.ensures.ok (c.as_bytes.ensures ∙ c.in_ok-name.ensures) (search rules) c.in_ok-push.ensures.items
