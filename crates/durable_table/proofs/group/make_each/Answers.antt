use Rattle.std.proofs.Common.{◌∙◌, sym, subst, take, ◌+◌}
use Rattle.line_journal.specs.Lines.{bytes_of}
use Rattle.held_table.specs.Held.{Held}
use Rattle.durable_table.specs.Groups.{AreMade}
use Rattle.durable_table.proofs.GroupLemmas.{made_next}
use Rattle.durable_table.proofs.group.make_each.Goals as goal

pub loop-line-preserved : goal.loop-line-preserved
loop-line-preserved c =
    let s = c.args.session.now.setup.now in
    let h : Held = c.args.session.now.holders.held in
    let now : Held = c.loop-line.session.holders.held in
    let new : Held = c.make.new.session.holders.held in
    let setup = c.loop-line.invariant.1 in
    let made = made_next s h now new c.args.link.now c.args.lines.now c.loop-line.line-index c.line-item.result c.deref.result.now c.loop-line.replies.items c.in_ok-make.field-0
    (bytes_of c.loop-line.sealed.items) (bytes_of c.make.new.sealed.items)
    c.loop-line-test.true c.line-item.is c.requires c.deref.ensures.value c.loop-line.invariant.0
    (rw setup at c.in_ok-make.ensures.reply) (rw setup at c.in_ok-make.ensures.becomes) c.in_ok-make.ensures.held c.in_ok-make.ensures.same c.in_ok-make.ensures.asking c.in_ok-make.ensures.sealed in (
      subst (λ replies. AreMade s h new c.args.link.now (bytes_of (take (c.loop-line.line-index + 1) c.args.lines.now)) replies (bytes_of c.make.new.sealed.items)) (sym c.in_ok-push.ensures.items) made,
      c.in_ok-make.ensures.setup ∙ setup,
    )
