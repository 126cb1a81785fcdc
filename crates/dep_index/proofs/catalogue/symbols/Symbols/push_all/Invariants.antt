use Rattle.std.proofs.Common.{◌≡◌, ◌++◌, take}
use Rattle.text_parts.specs.Text.{texts_of}
use Rattle.dep_index.proofs.catalogue.symbols.Symbols.push_all.Given as goal

-- the symbols up to the index were added
abbrev pub invariant-loop-symbol : goal.invariant-loop-symbol
invariant-loop-symbol l = l.self ≡ l.initial.self ++ texts_of (take l.symbol-index l.symbols)
