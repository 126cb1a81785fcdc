use Rattle.std.proofs.Common.{◌≡◌, drop}
use Rattle.text_parts.specs.Text.{texts_of}
use Rattle.answer_diff.specs.Lines.{has_not}
use Rattle.answer_diff.proofs.lines.has_not.Given as goal

abbrev pub invariant-loop-own : goal.invariant-loop-own
invariant-loop-own l = has_not (texts_of l.lines) l.line ≡ has_not (texts_of (drop l.own-index l.lines)) l.line
