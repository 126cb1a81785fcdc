use Rattle.std.proofs.Common.{arith, ◌≡◌, ℕ, ◌<◌, List, [], ◌++◌, length, refl}
use Rattle.std.proofs.lemmas.Grind.{common_steps}
use Rattle.line_journal.specs.Lines.{bytes_of}
use Rattle.table_folder.specs.InputLines.{brought_unended, GoesOn, Counts}
use Rattle.table_folder.proofs.InputLemmas.{ends-at_end, brings-ends, counts-ends, told-end}
use Rattle.table_folder.proofs.input.InputLines.read_lines.Goals as goal

pub returns-in_ok-end_last-clause-goes_on : goal.returns-in_ok-end_last-clause-goes_on
returns-in_ok-end_last-clause-goes_on g c =
    let told = g.I.Read.remaining in
    let line : List ℕ = c.args.self.now.begun.items in
    let before = bytes_of c.args.lines.now.items in
    let after = bytes_of c.end_last.new.lines.items in
    let read = c.in_ok-count.ensures in
    let zero : c.in_ok-count.count ≡ 0 = omega arith in
    let some : 0 < length line = grind (arith, common_steps) in
    rw (c.in_ok-end_last.ensures.begun, c.end_last.ensures.input)
    (told-end (told c.args.self.now.input.now) (told c.read_piece.new.self.input.now) line (GoesOn before after) (rw zero at read.bytes) (read.end (rw zero refl))
    (brings-ends before before after (brought_unended line) line (line ++ []) (line ++ []) [] refl (ends-at_end line c.requires.begun some) (rw (← read.begun) c.in_ok-end_last.ensures.added)))

pub returns-in_ok-end_last-clause-counted : goal.returns-in_ok-end_last-clause-counted
returns-in_ok-end_last-clause-counted g c =
    let told = g.I.Read.remaining in
    let line : List ℕ = c.args.self.now.begun.items in
    let before = c.args.self.now.too_long in
    let after = c.end_last.new.self.too_long in
    let read = c.in_ok-count.ensures in
    let zero : c.in_ok-count.count ≡ 0 = omega arith in
    let some : 0 < length line = grind (arith, common_steps) in
    rw (c.in_ok-end_last.ensures.begun, c.end_last.ensures.input)
    (told-end (told c.args.self.now.input.now) (told c.read_piece.new.self.input.now) line (Counts before after) (rw zero at read.bytes) (read.end (rw zero refl))
    (counts-ends before before after (brought_unended line) line (line ++ []) (line ++ []) [] refl (ends-at_end line c.requires.begun some) (rw (← read.begun, ← read.too_long) c.in_ok-end_last.ensures.counted)))
