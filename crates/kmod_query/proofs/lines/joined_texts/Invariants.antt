use Rattle.std.proofs.Common.{◌≡◌, [], fold, take}
use Rattle.kmod_query.specs.Lines.{joined}
use Rattle.kmod_query.specs.World.{text_of}
use Rattle.kmod_query.proofs.lines.joined_texts.Given as goal

abbrev pub invariant-lines : goal.invariant-lines
invariant-lines l = l.text.items ≡ fold (λ front line. joined front (text_of line.now)) [] (take l.line-index l.lines)
