use Rattle.std.proofs.Common.{◌≡◌, map, take}
use Rattle.text_parts.specs.Text.{texts_of}
use Rattle.dep_index.specs.Dependencies.{name_of}
use Rattle.dep_index.proofs.dependencies.paths.names_of.Given as goal

-- the paths up to the index have these names
abbrev pub invariant-loop-path : goal.invariant-loop-path
invariant-loop-path l = l.names.items ≡ map name_of (texts_of (take l.path-index l.paths))
