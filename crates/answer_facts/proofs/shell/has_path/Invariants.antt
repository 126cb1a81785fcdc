use Rattle.std.proofs.Common.{◌≡◌, drop}
use Rattle.std.specs.List.{list_any}
use Rattle.std.specs.Str.{bytes_eq}
use Rattle.text_parts.specs.Text.{texts_of}
use Rattle.answer_facts.proofs.shell.has_path.Given as goal

abbrev pub invariant-loop-own : goal.invariant-loop-own
invariant-loop-own l = list_any (bytes_eq l.path) (texts_of l.seen) ≡ list_any (bytes_eq l.path) (texts_of (drop l.own-index l.seen))
