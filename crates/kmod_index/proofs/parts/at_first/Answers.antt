use Rattle.std.proofs.Common.{◌∙◌, sym, ap, Some, take}
use Rattle.kmod_index.proofs.PartLemmas.{behind, first_at, first_none}
use Rattle.kmod_index.proofs.parts.at_first.Goals as goal

pub returns-in_err-end-clause-value : goal.returns-in_err-end-clause-value
returns-in_err-end-clause-value c = rw c.from_residual.ensures (first_none c.args.byte c.args.text.now c.in_err-end.ensures)

pub returns-clause-value : goal.returns-clause-value
returns-clause-value c =
    first_at c.args.byte c.args.text.now c.in_ok-end.end c.in_ok-end.ensures.0.high c.in_ok-end.ensures.0.before c.in_ok-end.ensures.1
    ∙ ap (λ rest. Some (take c.in_ok-end.end c.args.text.now, rest)) (sym (behind c.args.text.now c.in_ok-end.end))
