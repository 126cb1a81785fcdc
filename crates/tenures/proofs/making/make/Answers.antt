use Rattle.std.proofs.Common.{sym, subst, List, Vec, ℕ}
use Rattle.std.specs.declared.alloc.Global.{Global}
use Rattle.line_journal.specs.Lines.{bytes_of, AreLines}
use Rattle.tenures.specs.declared.step.Step.{Step}
use Rattle.tenures.specs.Steps.{commands_of}
use Rattle.tenures.proofs.making.make.Goals as goal

pub make_group-requires-clause-lines : goal.make_group-requires-clause-lines
make_group-requires-clause-lines g c =
    subst (λ (lines : List (Vec ℕ Global)). AreLines (bytes_of lines)) (sym c.deref.ensures.value)
    (subst (λ (step : Step). AreLines (commands_of step)) c.in-Group.is c.requires.lines)
