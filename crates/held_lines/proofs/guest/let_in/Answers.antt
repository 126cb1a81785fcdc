use Rattle.std.proofs.Common.{◌∙◌, ap}
use Rattle.std.specs.Option.{is_none}
use Rattle.held_table.specs.Names.{name_bytes}
use Rattle.held_table.specs.Held.{Held}
use Rattle.held_lines.proofs.HolderLemmas.{fresh_from, let_out_new}
use Rattle.held_lines.proofs.guest.let_in.Goals as goal

pub returns-clause-undone : goal.returns-clause-undone
returns-clause-undone c =
    let h : Held = c.args.holders.now.held in
    let_out_new h _ (name_bytes c.args.holder) c.in_ok-number.number c.is_none-is_new.result c.in_ok-number.ensures.enters c.in_ok-number.ensures.number
    (fresh_from c.number.result c.is_none-is_new.result c.is_none-is_new.ensures ∙ ap is_none c.number.ensures) c.holder_laws.ensures.named c.in_ok-number.ensures.below
