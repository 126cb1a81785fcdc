use Rattle.std.proofs.Common.{arith, refl, sym, ap, subst, ◌∙◌, ◌≤◌, take, drop, ◌-◌}
use Rattle.line_journal.specs.Lines.{bytes_of}
use Rattle.held_lines.specs.Outcomes.{after}
use Rattle.gz_table_drive.specs.Adopting.{HasRefused}
use Rattle.durable_table.proofs.GroupLemmas.{none_written, none_written_of}
use Rattle.gz_table_drive.proofs.AnswerLemmas.{after_more, none_more, moments_more, group_behind, group_lines, take_end}
use Rattle.gz_table_drive.proofs.AdoptLemmas.{refused_more}
use Rattle.gz_table_drive.proofs.TenureLemmas.{stays_moments}
use Rattle.gz_table_drive.proofs.adopting.perform_lines.Goals as goal

pub perform_group-requires-clause-lines : goal.perform_group-requires-clause-lines
perform_group-requires-clause-lines g c = group_lines c.args.lines.now c.loop-start.start c.min-end.result c.requires.lines

pub returns-in_err-perform_group-clause-any_moment : goal.returns-in_err-perform_group-clause-any_moment
returns-in_err-perform_group-clause-any_moment g c =
    let s = c.args.table.now.session.setup.now in
    let h = c.args.table.now.session.holders.held in
    let lines = c.args.lines.now in
    let start = c.loop-start.start in
    let end = c.min-end.result in
    let front = take start (bytes_of lines) in
    let group = bytes_of (take (end - start) (drop start lines)) in
    moments_more s h front group (bytes_of lines) _ _ _ (group_behind lines start end) c.loop-start.invariant.moments
    (rw c.loop-start.invariant.becomes at (rw c.loop-start.invariant.setup at c.perform_group.ensures.any_moment))

pub returns-in_err-perform_group-clause-any_of : goal.returns-in_err-perform_group-clause-any_of
returns-in_err-perform_group-clause-any_of g c = stays_moments _ _ c.loop-start.invariant.any_of c.loop-start.invariant.of c.perform_group.ensures.any_of

pub loop-start-preserved : goal.loop-start-preserved
loop-start-preserved g c =
    let s = c.args.table.now.session.setup.now in
    let h = c.args.table.now.session.holders.held in
    let lines = c.args.lines.now in
    let start = c.loop-start.start in
    let end = c.min-end.result in
    let front = take start (bytes_of lines) in
    let group = bytes_of (take (end - start) (drop start lines)) in
    let inv = c.loop-start.invariant in
    let le : start ≤ end = omega (arith, c.min-end.ensures, inv.within) in
    let all = take_end lines start end le in
    let made = c.in_ok-perform_group.ensures in
    record {
      within = omega (arith, c.min-end.ensures);
      refused = subst (λ ls. HasRefused s h ls c.args.replies.now c.perform_group.new.replies) (sym all)
          (refused_more s h front group c.args.replies.now c.loop-start.replies c.perform_group.new.replies inv.refused (rw inv.becomes at (rw inv.setup at made.refused)));
      becomes = (rw inv.becomes at (rw inv.setup at made.becomes)) ∙ sym (after_more s h front group) ∙ ap (after s h) (sym all);
      stands = rw inv.setup at made.stands;
      moments = moments_more s h front group (bytes_of lines) _ _ _ (group_behind lines start end) inv.moments (rw inv.becomes at (rw inv.setup at c.perform_group.ensures.any_moment));
      of = λ name is. made.of name (inv.of name is);
      any_of = stays_moments _ _ inv.any_of inv.of c.perform_group.ensures.any_of;
      no_fewer = omega (arith, inv.no_fewer, c.perform_group.ensures.no_fewer);
      setup = made.setup ∙ inv.setup;
    }

pub loop-start-init : goal.loop-start-init
loop-start-init g c =
    record {
      within = omega arith;
      refused = none_more c.args.replies.now c.args.replies.now refl refl;
      becomes = refl;
      stands = c.requires.stands;
      moments = none_written g.D.Device.content g.D.Device.history c.args.table.now.session.setup.now c.args.table.now.session.holders.held (bytes_of c.args.lines.now) c.args.table.now.journal c.requires.stands;
      of = λ name is. is;
      any_of = none_written_of g.D.Device.content g.D.Device.history c.args.table.now.session.setup.now c.args.table.now.session.holders.held c.args.table.now.journal c.requires.stands;
      no_fewer = omega arith;
      setup = refl;
    }
