-- How contracts see the lines of the code.
use Rattle.std.specs.Prelude.{ℕ, List}
use Rattle.kmod_conf.specs.declared.wrapped_lines.Numbers.{Numbers}
use Rattle.kmod_conf.specs.Lines.{Wrapped}

-- a line of these numbers
abbrev pub wrapped : Numbers → List ℕ → Wrapped
wrapped numbers text = record { first = numbers.first; last = numbers.last; text = text }
