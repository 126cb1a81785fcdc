use Rattle.std.proofs.Common.{◌≡◌, map, take}
use Rattle.text_parts.specs.Text.{texts_of, normal_form}
use Rattle.dep_index.proofs.catalogue.directives.names.Given as goal

-- the words up to the index are in normal form
abbrev pub invariant-loop-word : goal.invariant-loop-word
invariant-loop-word l = l.names.items ≡ map normal_form (texts_of (take l.word-index l.words))
