use Rattle.std.proofs.Common.{◌<◌, ap, sym, subst, ◌∙◌, length, [], List, ℕ}
use Rattle.std.specs.List.{swap_remove}
use Rattle.held_table.specs.Names.{name_bytes}
use Rattle.held_table.proofs.NameLemmas.{swapped_out}
use Rattle.held_table.proofs.names.Names.remove.Goals as goal

pub returns : goal.returns
returns c =
    swapped_out name_bytes c.self.inside.names.keys c.swap_remove_index-name.new.self.keys c.args.number c.swap_remove_index-name.result
    (subst (λ (names : List (List ℕ)). c.args.number < length names) (sym c.self.view_is) c.requires)
    c.swap_remove_index-name.ensures.key c.swap_remove_index-name.ensures.keys
    ∙ ap (λ (names : List (List ℕ)). swap_remove names c.args.number []) c.self.view_is
