use Rattle.std.proofs.Common.{subst, sym, ap, ◌∙◌, not}
use Rattle.std.proofs.lemmas.Bool.{not-false}
use Rattle.modprobe.specs.Session.{half_outcome}
use Rattle.held_lines.specs.declared.reply.HeldReply.{HeldReply}
use Rattle.held_lines.specs.Outcomes.{on_table}
use Rattle.held_lines.specs.ForProofs.{Answers, IsBookOf}
use Rattle.held_lines.proofs.RowLemmas.{half_rows}
use Rattle.held_lines.proofs.ThroughLemmas.{answers_through, answers_unwatched}
use Rattle.held_lines.proofs.through.make_half.Goals as goal

pub returns-in_ok-reply-in-Changes-clause-answers : goal.returns-in_ok-reply-in-Changes-clause-answers
returns-in_ok-reply-in-Changes-clause-answers c =
    let s = c.args.setup.now in
    let t = c.args.holders.now.held.table in
    let names = c.args.holders.now.held.names in
    let after = c.reply_to_half.new.holders in
    let r : HeldReply = record { reply = c.in_ok-reply-in-Changes.reply; changed = not c.is_of-changed.result } in
    answers_through t after.held.table names after.held.names (half_outcome s c.args.name.now c.args.half t) r c.in_ok-before-in-Changes.before
    c.in_ok-reply-in-Changes.ensures.says c.in_ok-reply-in-Changes.ensures.table c.in_ok-reply-in-Changes.ensures.names
    (half_rows s c.args.name.now c.args.half t) c.in_ok-before-in-Changes.ensures
    (λ unchanged. c.is_of-changed.ensures.is (not-false c.is_of-changed.result unchanged))

pub returns-in_ok-reply-in-Changes-clause-idle : goal.returns-in_ok-reply-in-Changes-clause-idle
returns-in_ok-reply-in-Changes-clause-idle c = λ watched same.
    ap not (c.is_of-changed.ensures.all (subst (IsBookOf c.in_ok-before-in-Changes.before) (sym (c.in_ok-reply-in-Changes.ensures.table ∙ same)) c.in_ok-before-in-Changes.ensures))

pub returns-in_ok-reply-in-Nothing-clause-answers : goal.returns-in_ok-reply-in-Nothing-clause-answers
returns-in_ok-reply-in-Nothing-clause-answers c =
    let s = c.args.setup.now in
    let t = c.args.holders.now.held.table in
    let names = c.args.holders.now.held.names in
    let after = c.reply_to_half-in-Nothing.new.holders in
    answers_unwatched t after.held.table names after.held.names (half_outcome s c.args.name.now c.args.half t) c.in_ok-reply-in-Nothing.reply c.unwatched.result
    c.in_ok-reply-in-Nothing.ensures.says c.in_ok-reply-in-Nothing.ensures.table c.in_ok-reply-in-Nothing.ensures.names c.unwatched.ensures
