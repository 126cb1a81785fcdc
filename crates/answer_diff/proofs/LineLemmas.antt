-- What tells two answers apart is told by their lines.
use Rattle.std.proofs.Common.{◌≡◌, ◌∙◌, ℕ, List, ap}
use Rattle.answer_diff.specs.Lines.{telling_lines}

pub told-apart : (told own theirs lines others : List (List ℕ)) → told ≡ telling_lines own theirs → own ≡ lines → theirs ≡ others
    → told ≡ telling_lines lines others
told-apart told own theirs lines others is same alike =
    is ∙ ap (λ l. telling_lines l theirs) same ∙ ap (λ l. telling_lines lines l) alike
