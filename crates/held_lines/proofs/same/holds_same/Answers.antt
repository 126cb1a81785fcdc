use Rattle.std.proofs.Common.{arith, length}
use Rattle.held_lines.proofs.SameLemmas.{same_row}
use Rattle.held_lines.proofs.same.holds_same.Goals as goal

pub returns-clause-is : goal.returns-clause-is
returns-clause-is g c =
    let t = g.M.Modules.table c.args.table.now in
    let u = g.M.Modules.table c.args.other.now in
    let catalogue = g.M.Modules.catalogue c.args.table.now in
    λ yes. same_row catalogue t u c.args.number (length catalogue) (length t.rows) (length u.rows) c.laws.ensures.shaped (rw c.requires.catalogue at c.laws-2.ensures.shaped)
    c.requires.number c.requires.too c.laws.ensures.lawful (rw c.requires.catalogue at c.laws-2.ensures.lawful) c.requires.book
    (λ p below. c.loop-place.invariant p (omega (arith, below, c.loop-place-test.false, c.loaded-place-end.ensures.all)))
