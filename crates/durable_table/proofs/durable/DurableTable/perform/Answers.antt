use Rattle.std.proofs.Common.{◌≡◌, ◌∙◌, ap, sym, subst}
use Rattle.line_journal.specs.Lines.{IsLine}
use Rattle.durable_table.specs.Seals.{seal}
use Rattle.durable_table.specs.Durable.{Stands}
use Rattle.durable_table.proofs.ChainLemmas.{seal_is_line}
use Rattle.durable_table.proofs.MomentLemmas.{no_moments, put_moments, put_stands}
use Rattle.durable_table.proofs.durable.DurableTable.perform.Goals as goal

pub put-requires-clause-line : goal.put-requires-clause-line
put-requires-clause-line g c =
    let is : c.in-Ok.sealed.items ≡ seal c.args.self.now.journal.link.items c.args.line.now = c.in-Ok.ensures ∙ ap (λ link. seal link c.args.line.now) c.deref.ensures.value in
    subst IsLine (sym is) (seal_is_line c.args.self.now.journal.link.items c.args.line.now c.requires.line)

pub returns-in-Ok-put-clause-stands : goal.returns-in-Ok-put-clause-stands
returns-in-Ok-put-clause-stands g c =
    let is : c.in-Ok.sealed.items ≡ seal c.args.self.now.journal.link.items c.args.line.now = c.in-Ok.ensures ∙ ap (λ link. seal link c.args.line.now) c.deref.ensures.value in
    subst (λ h. Stands g.D.Device.content g.D.Device.history c.args.self.now.session.setup.now h c.put.new.self) (sym c.in-Ok-perform.ensures.answers.leaves)
    (put_stands g.D.Device.content g.D.Device.history c.args.self.now.session.setup.now
    c.args.self.now.session.holders.held c.args.line.now c.in-Ok.sealed.items
    c.args.self.now.journal c.put.new.self c.requires.stands is c.in-Ok-put.ensures.acknowledged.0 c.in-Ok-put.ensures.acknowledged.1 c.in-Ok-put.ensures.link)

pub returns-in-Ok-put-clause-any_moment : goal.returns-in-Ok-put-clause-any_moment
returns-in-Ok-put-clause-any_moment g c =
    let is : c.in-Ok.sealed.items ≡ seal c.args.self.now.journal.link.items c.args.line.now = c.in-Ok.ensures ∙ ap (λ link. seal link c.args.line.now) c.deref.ensures.value in
    put_moments g.D.Device.content g.D.Device.history c.args.self.now.session.setup.now
    c.args.self.now.session.holders.held c.args.line.now c.in-Ok.sealed.items
    c.args.self.now.journal (g.D.Device.history c.args.self.now.journal.lines.device) (g.D.Device.history c.put.new.self.lines.device) c.requires.stands is c.in-Ok-put.ensures.any_moment

pub returns-in-Err-clause-any_moment : goal.returns-in-Err-clause-any_moment
returns-in-Err-clause-any_moment g c =
    let is : c.in-Ok.sealed.items ≡ seal c.args.self.now.journal.link.items c.args.line.now = c.in-Ok.ensures ∙ ap (λ link. seal link c.args.line.now) c.deref.ensures.value in
    put_moments g.D.Device.content g.D.Device.history c.args.self.now.session.setup.now
    c.args.self.now.session.holders.held c.args.line.now c.in-Ok.sealed.items
    c.args.self.now.journal (g.D.Device.history c.args.self.now.journal.lines.device) (g.D.Device.history c.put.new.self.lines.device) c.requires.stands is c.in-Err.ensures.any_moment

pub returns-in_default-clause-any_moment : goal.returns-in_default-clause-any_moment
returns-in_default-clause-any_moment g c =
    no_moments g.D.Device.content g.D.Device.history c.args.self.now.session.setup.now c.args.self.now.session.holders.held c.args.line.now c.args.self.now.journal c.requires.stands
