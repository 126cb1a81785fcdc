use Rattle.std.proofs.Common.{◌∙◌, sym, ap, Some, take}
use Rattle.dep_index.proofs.PathLemmas.{behind, colon_at, colon_none}
use Rattle.dep_index.proofs.dependencies.paths.split_at_colon.Goals as goal

pub returns-in_err-end : goal.returns-in_err-end
returns-in_err-end c = rw c.from_residual.ensures (colon_none c.args.line.now c.in_err-end.ensures)

pub returns : goal.returns
returns c =
    colon_at c.args.line.now c.in_ok-end.end c.in_ok-end.ensures.0.high c.in_ok-end.ensures.0.before c.in_ok-end.ensures.1
    ∙ ap (λ rest. Some (take c.in_ok-end.end c.args.line.now, rest)) (sym (behind c.args.line.now c.in_ok-end.end))
