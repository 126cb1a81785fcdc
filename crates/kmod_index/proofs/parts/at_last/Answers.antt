use Rattle.std.proofs.Common.{◌∙◌, sym, ap, Some, take}
use Rattle.kmod_index.proofs.PartLemmas.{behind, last_at, last_none}
use Rattle.kmod_index.proofs.parts.at_last.Goals as goal

pub returns-in_err-end : goal.returns-in_err-end
returns-in_err-end c = rw c.from_residual.ensures (last_none c.args.byte c.args.text.now c.in_err-end.ensures)

pub returns : goal.returns
returns c =
    last_at c.args.byte c.args.text.now c.in_ok-end.end c.in_ok-end.ensures.0.high c.in_ok-end.ensures.0.after c.in_ok-end.ensures.1
    ∙ ap (λ rest. Some (take c.in_ok-end.end c.args.text.now, rest)) (sym (behind c.args.text.now c.in_ok-end.end))
