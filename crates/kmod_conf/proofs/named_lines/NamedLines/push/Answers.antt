use Rattle.std.proofs.Common.{◌∙◌, ◌∷◌, ◌++◌, [], ap, rules}
use Rattle.kmod_names.proofs.KeyLemmas.{key_added}
use Rattle.kmod_conf.proofs.named_lines.NamedLines.push.Goals as goal

pub invariant_of-self-2 : goal.invariant_of-self-2
invariant_of-self-2 g c =
    key_added g.L.Named.name c.self.inside.places c.add.new.self c.self.inside.lines.items c.push.new.self.items c.args.line c.name.result.now c.len.result
    c.self.invariant c.in_ok-add.ensures.ok c.name.ensures (search rules) (c.in_ok-push.ensures.items ∙ ap (λ l. l ++ c.args.line ∷ []) c.in_ok-reserve.ensures.items)
