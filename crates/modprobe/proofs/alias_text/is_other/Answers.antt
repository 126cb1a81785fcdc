use Rattle.std.proofs.Common.{◌∙◌, sym}
use Rattle.modprobe.proofs.AliasTextLemmas.{none_in_line}
use Rattle.modprobe.proofs.alias_text.is_other.Goals as goal

pub returns-in-Some : goal.returns-in-Some
returns-in-Some c = λ yes. none_in_line c.args.line.now c.in-Some.pattern.now c.args.name.now c.in-Some.ensures (sym c.parts_early.ensures ∙ yes)
