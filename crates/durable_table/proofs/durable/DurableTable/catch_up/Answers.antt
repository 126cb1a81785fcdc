use Rattle.std.proofs.Common.{◌≡◌, ◌∙◌, ap, sym, subst, rules, map, drop, true, false, List, Vec, ℕ}
use Rattle.std.specs.declared.alloc.Global.{Global}
use Rattle.line_journal.specs.Lines.{lines_of, bytes_of}
use Rattle.line_journal.specs.Renewed.{IsRead, IsFollowed}
use Rattle.line_journal.specs.declared.journal.Journal.{Journal}
use Rattle.line_journal.specs.declared.following.Followed.TheVariants.{AtRest, Anew}
use Rattle.line_journal.specs.Journal.{lines_in}
use Rattle.held_table.specs.Held.{Held}
use Rattle.held_lines.specs.Outcomes.{after}
use Rattle.durable_table.specs.Seals.{are_sealed}
use Rattle.durable_table.proofs.CommandLemmas.{of_more}
use Rattle.durable_table.proofs.KeptLemmas.{caught_up, not_sealed}
use Rattle.durable_table.proofs.durable.DurableTable.catch_up.Goals as goal

pub returns-clause-reads : goal.returns-clause-reads
returns-clause-reads g c = λ ready.
    let s = c.args.self.now.session.setup.now in
    let h : Held = c.args.self.now.session.holders.held in
    let now : Held = c.replay.new.session.holders.held in
    let followed : IsFollowed g.D.Device.content c.args.self.now.journal.lines c.follow.new.self (AtRest c.in-AtRest.added) = search rules in
    let sealed : are_sealed c.deref.result.now (bytes_of c.deref-2.result.now) ≡ true = search rules in
    caught_up g.D.Device.content s h now (bytes_of c.in-AtRest.added.items) c.args.self.now.journal c.link_to.new.self c.requires.reads
    (subst (λ (j : Journal g.row.D.Denot). IsRead g.D.Device.content j) (sym c.link_to.ensures.lines) followed.0)
    (ap (λ (j : Journal g.row.D.Denot). lines_of (g.D.Device.content j.device)) c.link_to.ensures.lines ∙ followed.1)
    (rw (c.deref.ensures.value, c.deref-2.ensures.value) at sealed)
    (c.in_ok-replay.ensures.after ∙ ap (λ (l : List (Vec ℕ Global)). after s h (map (drop 17) (bytes_of l))) c.deref-3.ensures.value)
    c.link_to.ensures.link

pub returns-clause-of : goal.returns-clause-of
returns-clause-of g c = λ ready.
    let followed : IsFollowed g.D.Device.content c.args.self.now.journal.lines c.follow.new.self (AtRest c.in-AtRest.added) = search rules in
    of_more (lines_in g.D.Device.content c.args.self.now.journal.lines) (lines_in g.D.Device.content c.link_to.new.self.lines) (bytes_of c.in-AtRest.added.items)
    (ap (λ (j : Journal g.row.D.Denot). lines_of (g.D.Device.content j.device)) c.link_to.ensures.lines ∙ followed.1)

pub returns-in-Anew-clause-anew : goal.returns-in-Anew-clause-anew
returns-in-Anew-clause-anew g c = λ told continues.
    let followed : IsFollowed g.D.Device.content c.args.self.now.journal.lines c.follow.new.self Anew = search rules in
    followed continues.0 continues.1

pub returns-then-is_some-clause-anew : goal.returns-then-is_some-clause-anew
returns-then-is_some-clause-anew g c = λ told.
    let followed : IsFollowed g.D.Device.content c.args.self.now.journal.lines c.follow.new.self (AtRest c.in-AtRest.added) = search rules in
    let changed : are_sealed c.deref.result.now (bytes_of c.deref-2.result.now) ≡ false = search rules in
    not_sealed (g.D.Device.content c.args.self.now.journal.lines.device) (g.D.Device.content c.follow.new.self.device) c.args.self.now.journal.link.items (bytes_of c.in-AtRest.added.items)
    followed.1 c.requires.reads.link (rw (c.deref.ensures.value, c.deref-2.ensures.value) at changed)
