use Rattle.std.proofs.Common.{◌∙◌, sym, ap, subst}
use Rattle.held_lines.specs.ForProofs.{asked_from}
use Rattle.held_lines.proofs.ReadingLemmas.{AsksAlone, never_asks, session_asks}
use Rattle.held_lines.proofs.session.HeldSession.answer.Goals as goal

pub returns-in-AsSession-clause-asking : goal.returns-in-AsSession-clause-asking
returns-in-AsSession-clause-asking c = λ watched.
    session_asks c.as_session.result c.args.self.now.setup.now c.args.self.now.holders.held.table c.args.line.now (sym c.requires ∙ ap asked_from c.in-AsSession.is) (c.as_session.ensures.idle watched)

pub returns-in-Refer-clause-asking : goal.returns-in-Refer-clause-asking
returns-in-Refer-clause-asking c = λ watched.
    never_asks c.refer.result c.args.line.now (asked_from c.args.asked) c.requires (λ alone. subst AsksAlone (ap asked_from c.in-Refer.is) alone)

pub returns-in-Half-clause-asking : goal.returns-in-Half-clause-asking
returns-in-Half-clause-asking c = λ watched.
    never_asks c.make_half.result c.args.line.now (asked_from c.args.asked) c.requires (λ alone. subst AsksAlone (ap asked_from c.in-Half.is) alone)

pub returns-in-Hold-clause-asking : goal.returns-in-Hold-clause-asking
returns-in-Hold-clause-asking c = λ watched.
    never_asks c.hold.result c.args.line.now (asked_from c.args.asked) c.requires (λ alone. subst AsksAlone (ap asked_from c.in-Hold.is) alone)

pub returns-in-Release-clause-asking : goal.returns-in-Release-clause-asking
returns-in-Release-clause-asking c = λ watched.
    never_asks c.release.result c.args.line.now (asked_from c.args.asked) c.requires (λ alone. subst AsksAlone (ap asked_from c.in-Release.is) alone)

pub returns-in-ReleaseAll-clause-asking : goal.returns-in-ReleaseAll-clause-asking
returns-in-ReleaseAll-clause-asking c = λ watched.
    never_asks c.release_all.result c.args.line.now (asked_from c.args.asked) c.requires (λ alone. subst AsksAlone (ap asked_from c.in-ReleaseAll.is) alone)
