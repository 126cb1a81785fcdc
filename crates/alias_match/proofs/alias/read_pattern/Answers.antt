use Rattle.std.proofs.Common.{Ok, Err}
use Rattle.alias_match.specs.declared.read.PatternError.TheVariants.{Unclosed, Class, Backslash}
use Rattle.alias_match.proofs.AliasLemmas.{read_pattern}
use Rattle.alias_match.proofs.alias.read_pattern.Goals as goal

pub returns-in-Ok : goal.returns-in-Ok
returns-in-Ok c = read_pattern c.args.text.now (Ok c.in-Ok.pattern) c.in-Ok.ensures

pub returns-in-Err-Unclosed : goal.returns-in-Err-Unclosed
returns-in-Err-Unclosed c = read_pattern c.args.text.now (Err Unclosed) (rw c.in-Err-Unclosed.field-0-is at c.in-Err-Unclosed.ensures)

pub returns-in-Err-Class : goal.returns-in-Err-Class
returns-in-Err-Class c = read_pattern c.args.text.now (Err Class) (rw c.in-Err-Class.field-0-is at c.in-Err-Class.ensures)

pub returns-in-Err-Backslash : goal.returns-in-Err-Backslash
returns-in-Err-Backslash c = read_pattern c.args.text.now (Err Backslash) (rw c.in-Err-Backslash.field-0-is at c.in-Err-Backslash.ensures)
