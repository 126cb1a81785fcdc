use Rattle.std.proofs.Common.{rules, ◌≡◌, ◌∙◌, ap, sym, true, drop, nat_eq, ◌&&◌}
use Rattle.std.specs.List.{starts_with}
use Rattle.std.proofs.lemmas.List.{take_rest}
use Rattle.durable_table.specs.Commands.{title, are_two_words}
use Rattle.durable_table.proofs.head.is_head.Goals as goal

pub returns-then-starts_with : goal.returns-then-starts_with
unfolding title
returns-then-starts_with c =
    let line = c.args.line.now in
    let begins : starts_with nat_eq line title ≡ true = search rules in
    c.are_two_words.ensures ∙ ap are_two_words (take_rest line 20) ∙ ap (λ b. b && are_two_words (drop 20 line)) (sym begins)
