use Rattle.std.proofs.Common.{refl, subst, List, ℕ}
use Rattle.line_journal.specs.Lines.{bytes_of}
use Rattle.line_journal.specs.Journal.{lines_in}
use Rattle.held_table.specs.Held.{Held}
use Rattle.durable_table.specs.Groups.{AreMade}
use Rattle.durable_table.proofs.CommandLemmas.{of_more}
use Rattle.durable_table.proofs.GroupLemmas.{group_moments, group_of, group_stands, none_written, none_written_of}
use Rattle.durable_table.proofs.durable.DurableTable.perform_all.Goals as goal

pub returns-in-Ok-put_group-clause-stands : goal.returns-in-Ok-put_group-clause-stands
returns-in-Ok-put_group-clause-stands g c =
    let s = c.args.self.now.session.setup.now in
    let h : Held = c.args.self.now.session.holders.held in
    let new : Held = c.make_each.new.session.holders.held in
    let sealed = bytes_of c.in-Ok.field-0.sealed.items in
    let made : AreMade s h new c.args.self.now.journal.link.items (bytes_of c.args.lines.now) c.in-Ok.field-0.replies.items sealed =
    subst (λ (link : List ℕ). AreMade s h new link (bytes_of c.args.lines.now) c.in-Ok.field-0.replies.items sealed) c.deref.ensures.value c.in-Ok.ensures.made in
    group_stands g.D.Device.content g.D.Device.history s h new (bytes_of c.args.lines.now) sealed sealed c.in-Ok.field-0.replies.items
    c.args.self.now.journal c.put_group.new.self c.requires.stands made refl c.in-Ok-put_group.ensures.acknowledged.0 c.in-Ok-put_group.ensures.acknowledged.1 c.in-Ok-put_group.ensures.link

pub returns-in-Ok-put_group-clause-of : goal.returns-in-Ok-put_group-clause-of
returns-in-Ok-put_group-clause-of g c =
    of_more (lines_in g.D.Device.content c.args.self.now.journal.lines) (lines_in g.D.Device.content c.put_group.new.self.lines) _ c.in-Ok-put_group.ensures.acknowledged.1

pub returns-in-Ok-put_group-clause-any_moment : goal.returns-in-Ok-put_group-clause-any_moment
returns-in-Ok-put_group-clause-any_moment g c =
    let s = c.args.self.now.session.setup.now in
    let h : Held = c.args.self.now.session.holders.held in
    let new : Held = c.make_each.new.session.holders.held in
    let sealed = bytes_of c.in-Ok.field-0.sealed.items in
    let made : AreMade s h new c.args.self.now.journal.link.items (bytes_of c.args.lines.now) c.in-Ok.field-0.replies.items sealed =
    subst (λ (link : List ℕ). AreMade s h new link (bytes_of c.args.lines.now) c.in-Ok.field-0.replies.items sealed) c.deref.ensures.value c.in-Ok.ensures.made in
    group_moments g.D.Device.content g.D.Device.history s h new (bytes_of c.args.lines.now) sealed sealed c.in-Ok.field-0.replies.items
    c.args.self.now.journal (g.D.Device.history c.args.self.now.journal.lines.device) (g.D.Device.history c.put_group.new.self.lines.device) c.requires.stands made refl c.in-Ok-put_group.ensures.any_moment

pub returns-in-Err-clause-any_moment : goal.returns-in-Err-clause-any_moment
returns-in-Err-clause-any_moment g c =
    let s = c.args.self.now.session.setup.now in
    let h : Held = c.args.self.now.session.holders.held in
    let new : Held = c.make_each.new.session.holders.held in
    let sealed = bytes_of c.in-Ok.field-0.sealed.items in
    let made : AreMade s h new c.args.self.now.journal.link.items (bytes_of c.args.lines.now) c.in-Ok.field-0.replies.items sealed =
    subst (λ (link : List ℕ). AreMade s h new link (bytes_of c.args.lines.now) c.in-Ok.field-0.replies.items sealed) c.deref.ensures.value c.in-Ok.ensures.made in
    group_moments g.D.Device.content g.D.Device.history s h new (bytes_of c.args.lines.now) sealed sealed c.in-Ok.field-0.replies.items
    c.args.self.now.journal (g.D.Device.history c.args.self.now.journal.lines.device) (g.D.Device.history c.put_group.new.self.lines.device) c.requires.stands made refl c.in-Err.ensures.any_moment

pub returns-in-Ok-put_group-clause-any_of : goal.returns-in-Ok-put_group-clause-any_of
returns-in-Ok-put_group-clause-any_of g c =
    group_of (lines_in g.D.Device.content c.args.self.now.journal.lines) (bytes_of c.in-Ok.field-0.sealed.items)
    (g.D.Device.history c.args.self.now.journal.lines.device) (g.D.Device.history c.put_group.new.self.lines.device) c.in-Ok-put_group.ensures.any_moment

pub returns-in-Err-clause-any_of : goal.returns-in-Err-clause-any_of
returns-in-Err-clause-any_of g c =
    group_of (lines_in g.D.Device.content c.args.self.now.journal.lines) (bytes_of c.in-Ok.field-0.sealed.items)
    (g.D.Device.history c.args.self.now.journal.lines.device) (g.D.Device.history c.put_group.new.self.lines.device) c.in-Err.ensures.any_moment

pub returns-in_default-clause-any_of : goal.returns-in_default-clause-any_of
returns-in_default-clause-any_of g c =
    none_written_of g.D.Device.content g.D.Device.history c.args.self.now.session.setup.now c.args.self.now.session.holders.held c.args.self.now.journal c.requires.stands

pub returns-then-is_empty-clause-any_of : goal.returns-then-is_empty-clause-any_of
returns-then-is_empty-clause-any_of g c =
    none_written_of g.D.Device.content g.D.Device.history c.args.self.now.session.setup.now c.args.self.now.session.holders.held c.args.self.now.journal c.requires.stands

pub returns-in_default-clause-any_moment : goal.returns-in_default-clause-any_moment
returns-in_default-clause-any_moment g c =
    none_written g.D.Device.content g.D.Device.history c.args.self.now.session.setup.now c.args.self.now.session.holders.held (bytes_of c.args.lines.now) c.args.self.now.journal c.requires.stands

pub returns-then-is_empty-clause-any_moment : goal.returns-then-is_empty-clause-any_moment
returns-then-is_empty-clause-any_moment g c =
    none_written g.D.Device.content g.D.Device.history c.args.self.now.session.setup.now c.args.self.now.session.holders.held (bytes_of c.args.lines.now) c.args.self.now.journal c.requires.stands
