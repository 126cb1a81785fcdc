-- Where the lines of a configuration stand that a backslash joined (modprobe.d(5)).
use Rattle.std.specs.Prelude.{ℕ, List}
use Rattle.modprobe_conf.specs.declared.joined_lines.Joined.{Joined}
use Rattle.modprobe_conf.specs.declared.joined_lines.Joined.TheVariants.{Whole, Several}

-- a joined line: in the text if it is one line, in a buffer if it is of several
abbrev pub joined_text : Joined → List ℕ → List ℕ
joined_text (Whole line) buffer = line.now
joined_text Several buffer = buffer
