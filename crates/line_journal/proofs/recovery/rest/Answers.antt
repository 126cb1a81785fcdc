use Rattle.std.proofs.Common.{◌≡◌, true, refl, sym, ◌∙◌, subst, rules}
use Rattle.line_journal.specs.Journal.{MayCut}
use Rattle.line_journal.specs.Lines.{behind}
use Rattle.line_journal.proofs.RepairLemmas.{found_at_rest, may_cut_gate}
use Rattle.line_journal.proofs.recovery.rest.Goals as goal

pub returns-then-is_at_rest-clause-rests : goal.returns-then-is_at_rest-clause-rests
returns-then-is_at_rest-clause-rests g c =
    let file = g.D.Device.content c.args.device.now in
    let found = c.requires.found in
    let shut = c.is_at_rest.ensures.0 c.if-is_at_rest.true in
    let rests = found_at_rest file file (g.D.Device.history c.args.device.now) c.args.found.now found shut c.requires.fits refl c.requires.on_disk in
    (rests.0, rests.1, may_cut_gate c.args.repair (behind file) (sym found.rest ∙ shut))

pub returns-clause-rests : goal.returns-clause-rests
returns-clause-rests g c =
    let closed = c.in_ok-close.ensures.at_rest in
    let may : c.may_cut.result ≡ true = search rules in
    (closed.0, closed.1, subst (MayCut c.args.repair) c.requires.found.rest (c.may_cut.ensures.0 may))
