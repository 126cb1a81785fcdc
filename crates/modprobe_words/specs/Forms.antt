-- In which form an answer is explained, or linted lines are told.
use Rattle.std.specs.Prelude.{ℕ, if◌then◌else◌, List, codes, Option, Some, None}
use Rattle.std.specs.Str.{bytes_eq}
use Rattle.modprobe_words.specs.declared.form.Form.{Form}
use Rattle.modprobe_words.specs.declared.form.Form.TheVariants.{Json}

-- the value of `--explain` or `--lint`; without one it is text
abbrev pub form_of : List ℕ → Option Form
form_of word = if bytes_eq word (codes "json") then Some Json else None
