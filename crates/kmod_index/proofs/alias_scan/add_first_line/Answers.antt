use Rattle.std.proofs.Common.{◌≡◌, ◌∙◌, ◌++◌, List, ℕ, true, drop, sym, ap, subst}
use Rattle.std.proofs.lemmas.List.{append-nil}
use Rattle.kmod_index.specs.ForProofs.{parts_early}
use Rattle.kmod_index.proofs.PassLemmas.{none_of_first}
use Rattle.kmod_index.proofs.alias_scan.add_first_line.Goals as goal

pub returns-then-key_parts_early : goal.returns-then-key_parts_early
returns-then-key_parts_early c =
    let text = c.args.text.now in
    let parts = subst (λ (front : List ℕ). parts_early (drop 6 text) front ≡ true) c.requires (sym c.key_parts_early.ensures ∙ c.if-key_parts_early.true) in
    sym (ap (λ l. c.args.found.now.items ++ l) (none_of_first c.args.number text c.args.name.now parts) ∙ append-nil c.args.found.now.items)
