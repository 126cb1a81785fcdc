use Rattle.std.proofs.Common.{sym, rules, ◌∙◌}
use Rattle.modprobe_conf.specs.ForProofs.{line_of}
use Rattle.modprobe_conf.proofs.IndexLemmas.{index_added}
use Rattle.modprobe_conf.proofs.name_index.NameIndex.add.Goals as goal

pub returns : goal.returns
returns c =
    rw (sym c.self.view_is)
    (index_added c.add.result _ c.self.inside.settings.entries c.into_bytes-key.result c.args.name (line_of c.args.line) c.or_insert-settings.result.now c.add.new.self
    c.add.ensures (cc (c.or_insert-settings.ensures.value, c.in_ok-self-inside.ensures.value, c.new.ensures)) c.into_bytes-key.ensures (search rules))
