use Rattle.std.proofs.Common.{◌≡◌, ◌∷◌, drop, rules}
use Rattle.std.proofs.lemmas.List.{take_rest}
use Rattle.line_journal.proofs.LineLemmas.{torn_none}
use Rattle.line_journal.proofs.reading.first_line.Goals as goal

pub returns-in-43-clause-none : goal.returns-in-43-clause-none
returns-in-43-clause-none c =
    let is : c.args.bytes.now ≡ 43 ∷ drop 1 c.args.bytes.now = search rules in
    torn_none c.line_end.result c.args.bytes.now is (rw take_rest at c.line_end.ensures.none)
