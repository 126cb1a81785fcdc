use Rattle.std.proofs.Common.{ℕ, Option, Some, None, List, IfSome, IfNone, length, take, ◌<◌}
use Rattle.memchr.specs.Find.{IsFirstByte, is_byte}
use Rattle.line_journal.specs.Lines.{IsLine}
use Rattle.table_folder.proofs.FeedLemmas.{no_newline, line_before}
use Rattle.table_folder.proofs.input.line_end.Goals as goal

line : (bytes : List ℕ) (found : Option ℕ) → IsFirstByte (is_byte 10) bytes found → IfSome found (λ len. IsLine (take len bytes))
line bytes None first = tt
line bytes (Some len) first = line_before bytes len first.0.high first.0.before

within : (bytes : List ℕ) (found : Option ℕ) → IsFirstByte (is_byte 10) bytes found → IfSome found (λ len. len < length bytes)
within bytes None first = tt
within bytes (Some len) first = first.0.high

none : (bytes : List ℕ) (found : Option ℕ) → IsFirstByte (is_byte 10) bytes found → IfNone found (IsLine bytes)
none bytes None first = no_newline bytes first
none bytes (Some len) first = tt

pub returns-clause-line : goal.returns-clause-line
returns-clause-line c = line c.args.bytes.now c.memchr.result c.memchr.ensures

pub returns-clause-within : goal.returns-clause-within
returns-clause-within c = within c.args.bytes.now c.memchr.result c.memchr.ensures

pub returns-clause-none : goal.returns-clause-none
returns-clause-none c = none c.args.bytes.now c.memchr.result c.memchr.ensures
