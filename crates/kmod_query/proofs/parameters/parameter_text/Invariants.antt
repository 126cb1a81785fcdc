use Rattle.std.proofs.Common.{◌≡◌, [], fold, take}
use Rattle.kmod_query.specs.Lines.{joined, quoted}
use Rattle.kmod_query.proofs.parameters.parameter_text.Given as goal

abbrev pub invariant-words : goal.invariant-words
invariant-words l = l.text.items ≡ fold (λ front word. joined front (quoted word.now)) [] (take l.word-index l.words)
