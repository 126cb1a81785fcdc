use Rattle.std.proofs.Common.{◌≡◌, ◌∙◌, ap, drop, List, ℕ}
use Rattle.std.specs.List.{before_first}
use Rattle.std.proofs.lemmas.List.{take_rest}
use Rattle.durable_table.specs.Commands.{is_space}
use Rattle.durable_table.proofs.head.setup_named.Goals as goal

pub returns : goal.returns
returns c = c.first_word.ensures ∙ ap (before_first is_space) (take_rest c.args.line.now 20)
