use Rattle.std.proofs.Common.{◌≡◌, rules, refl}
use Rattle.line_journal.specs.Lines.{bytes_of}
use Rattle.held_table.specs.Held.{Held}
use Rattle.durable_table.specs.Compacting.{compacted}
use Rattle.durable_table.specs.Renewing.{CanBeRenewed}
use Rattle.durable_table.proofs.RenewLemmas.{renewal_moments, renewed_file, still_old}
use Rattle.durable_table.proofs.durable.DurableTable.renew.Goals as goal

pub returns-in_default-clause-any_moment : goal.returns-in_default-clause-any_moment
returns-in_default-clause-any_moment g c =
    still_old g.D.Device.content g.D.Device.history c.args.name.now c.args.self.now.session.setup.now c.args.self.now.session.holders.held c.args.next.now c.args.self.now.journal c.requires.stands

pub returns-in_default-found-clause-any_moment : goal.returns-in_default-found-clause-any_moment
returns-in_default-found-clause-any_moment g c =
    still_old g.D.Device.content g.D.Device.history c.args.name.now c.args.self.now.session.setup.now c.args.self.now.session.holders.held c.args.next.now c.args.self.now.journal c.requires.stands

pub returns-in-Ok-rewrite-clause-done : goal.returns-in-Ok-rewrite-clause-done
returns-in-Ok-rewrite-clause-done g c = λ told.
    let s = c.args.self.now.session.setup.now in
    let h : Held = c.args.self.now.session.holders.held in
    let lines = bytes_of c.in-Some.lines.items in
    let is : lines ≡ compacted c.args.name.now s h = search rules in
    let can : CanBeRenewed c.args.name.now s h c.args.next.now = search rules in
    renewed_file c.args.name.now s h c.args.next.now _ lines lines is refl c.in-Ok-rewrite.ensures.acknowledged.1 can

pub returns-in-Ok-rewrite-clause-any_moment : goal.returns-in-Ok-rewrite-clause-any_moment
returns-in-Ok-rewrite-clause-any_moment g c =
    let s = c.args.self.now.session.setup.now in
    let h : Held = c.args.self.now.session.holders.held in
    let lines = bytes_of c.in-Some.lines.items in
    let is : lines ≡ compacted c.args.name.now s h = search rules in
    let can : CanBeRenewed c.args.name.now s h c.args.next.now = search rules in
    renewal_moments g.D.Device.content g.D.Device.history c.args.name.now s h c.args.next.now lines lines c.args.self.now.journal
    (g.D.Device.history c.args.self.now.journal.lines.device) (g.D.Device.history c.rewrite.new.self.lines.device) c.requires.stands is can refl c.in-Ok-rewrite.ensures.any_moment

pub returns-in-Err-clause-any_moment : goal.returns-in-Err-clause-any_moment
returns-in-Err-clause-any_moment g c =
    let s = c.args.self.now.session.setup.now in
    let h : Held = c.args.self.now.session.holders.held in
    let lines = bytes_of c.in-Some.lines.items in
    let is : lines ≡ compacted c.args.name.now s h = search rules in
    let can : CanBeRenewed c.args.name.now s h c.args.next.now = search rules in
    renewal_moments g.D.Device.content g.D.Device.history c.args.name.now s h c.args.next.now lines lines c.args.self.now.journal
    (g.D.Device.history c.args.self.now.journal.lines.device) (g.D.Device.history c.rewrite.new.self.lines.device) c.requires.stands is can refl c.in-Err.ensures.any_moment
