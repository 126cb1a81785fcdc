use Rattle.std.proofs.Common.{◌≡◌, drop}
use Rattle.text_parts.specs.Text.{texts_of}
use Rattle.proc_modules.specs.Reading.{users_in}
use Rattle.proc_modules.proofs.ReadingLemmas.{with_users}
use Rattle.proc_modules.proofs.read.users_in.Given as goal

abbrev pub invariant-loop-i : goal.invariant-loop-i
invariant-loop-i l = users_in (texts_of l.parts) ≡ with_users l.users (users_in (texts_of (drop l.i l.parts)))
