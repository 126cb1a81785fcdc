use Rattle.std.proofs.Common.{rules, refl}
use Rattle.line_journal.specs.Lines.{bytes_of}
use Rattle.line_journal.specs.Journal.{lines_in}
use Rattle.held_table.specs.Held.{Held}
use Rattle.durable_table.specs.Compacting.{IsRemade}
use Rattle.durable_table.proofs.CompactLemmas.{rewrite_any_of, rewrite_moments, rewrite_of, rewrite_stands, still_of, still_stands}
use Rattle.durable_table.proofs.durable.DurableTable.compact.Goals as goal

pub returns-in-Ok-rewrite-clause-stands : goal.returns-in-Ok-rewrite-clause-stands
returns-in-Ok-rewrite-clause-stands g c =
    let s = c.args.self.now.session.setup.now in
    let h : Held = c.args.self.now.session.holders.held in
    let lines = bytes_of c.in-Some.lines.items in
    let made : IsRemade c.args.name.now s h lines = search rules in
    rewrite_stands g.D.Device.content g.D.Device.history c.args.name.now s h lines lines c.rewrite.new.self made refl
    c.in-Ok-rewrite.ensures.acknowledged.0 c.in-Ok-rewrite.ensures.acknowledged.1 c.in-Ok-rewrite.ensures.link

pub returns-in-Ok-rewrite-clause-of : goal.returns-in-Ok-rewrite-clause-of
returns-in-Ok-rewrite-clause-of g c = λ told.
    let s = c.args.self.now.session.setup.now in
    let h : Held = c.args.self.now.session.holders.held in
    let lines = bytes_of c.in-Some.lines.items in
    let made : IsRemade c.args.name.now s h lines = search rules in
    rewrite_of c.args.name.now s h lines _ made c.in-Ok-rewrite.ensures.acknowledged.1

pub returns-in-Ok-rewrite-clause-any_moment : goal.returns-in-Ok-rewrite-clause-any_moment
returns-in-Ok-rewrite-clause-any_moment g c =
    let s = c.args.self.now.session.setup.now in
    let h : Held = c.args.self.now.session.holders.held in
    let lines = bytes_of c.in-Some.lines.items in
    let made : IsRemade c.args.name.now s h lines = search rules in
    rewrite_moments g.D.Device.content g.D.Device.history c.args.name.now s h lines lines c.args.self.now.journal
    (g.D.Device.history c.args.self.now.journal.lines.device) (g.D.Device.history c.rewrite.new.self.lines.device) c.requires.stands made refl c.in-Ok-rewrite.ensures.any_moment

pub returns-in-Err-clause-any_moment : goal.returns-in-Err-clause-any_moment
returns-in-Err-clause-any_moment g c =
    let s = c.args.self.now.session.setup.now in
    let h : Held = c.args.self.now.session.holders.held in
    let lines = bytes_of c.in-Some.lines.items in
    let made : IsRemade c.args.name.now s h lines = search rules in
    rewrite_moments g.D.Device.content g.D.Device.history c.args.name.now s h lines lines c.args.self.now.journal
    (g.D.Device.history c.args.self.now.journal.lines.device) (g.D.Device.history c.rewrite.new.self.lines.device) c.requires.stands made refl c.in-Err.ensures.any_moment

pub returns-in-Ok-rewrite-clause-any_of : goal.returns-in-Ok-rewrite-clause-any_of
returns-in-Ok-rewrite-clause-any_of g c = λ of.
    let s = c.args.self.now.session.setup.now in
    let h : Held = c.args.self.now.session.holders.held in
    let lines = bytes_of c.in-Some.lines.items in
    let made : IsRemade c.args.name.now s h lines = search rules in
    rewrite_any_of c.args.name.now s h lines (lines_in g.D.Device.content c.args.self.now.journal.lines)
    (g.D.Device.history c.args.self.now.journal.lines.device) (g.D.Device.history c.rewrite.new.self.lines.device) made of c.in-Ok-rewrite.ensures.any_moment

pub returns-in-Err-clause-any_of : goal.returns-in-Err-clause-any_of
returns-in-Err-clause-any_of g c = λ of.
    let s = c.args.self.now.session.setup.now in
    let h : Held = c.args.self.now.session.holders.held in
    let lines = bytes_of c.in-Some.lines.items in
    let made : IsRemade c.args.name.now s h lines = search rules in
    rewrite_any_of c.args.name.now s h lines (lines_in g.D.Device.content c.args.self.now.journal.lines)
    (g.D.Device.history c.args.self.now.journal.lines.device) (g.D.Device.history c.rewrite.new.self.lines.device) made of c.in-Err.ensures.any_moment

pub returns-in_default-clause-any_of : goal.returns-in_default-clause-any_of
returns-in_default-clause-any_of g c =
    still_of g.D.Device.content g.D.Device.history c.args.self.now.session.setup.now c.args.self.now.session.holders.held c.args.name.now c.args.self.now.journal c.requires.stands

pub returns-in_default-found-clause-any_of : goal.returns-in_default-found-clause-any_of
returns-in_default-found-clause-any_of g c =
    still_of g.D.Device.content g.D.Device.history c.args.self.now.session.setup.now c.args.self.now.session.holders.held c.args.name.now c.args.self.now.journal c.requires.stands

pub returns-in_default-clause-any_moment : goal.returns-in_default-clause-any_moment
returns-in_default-clause-any_moment g c =
    still_stands g.D.Device.content g.D.Device.history c.args.self.now.session.setup.now c.args.self.now.session.holders.held c.args.self.now.journal c.requires.stands

pub returns-in_default-found-clause-any_moment : goal.returns-in_default-found-clause-any_moment
returns-in_default-found-clause-any_moment g c =
    still_stands g.D.Device.content g.D.Device.history c.args.self.now.session.setup.now c.args.self.now.session.holders.held c.args.self.now.journal c.requires.stands
