use Rattle.std.proofs.Common.{arith}
use Rattle.dep_index.specs.Slots.{rows_in}
use Rattle.dep_index.proofs.UserLemmas.{note_noted, note_kept, note_failed}
use Rattle.dep_index.proofs.table.slots.note.Goals as goal

pub returns-in_err-push-clause-kept : goal.returns-in_err-push-clause-kept
returns-in_err-push-clause-kept c =
    note_failed (rows_in c.args.rows.now.items) c.lengthen.new.rows.items c.args.slot c.index_mut-row.result.now c.push.new.self c.in_ok-lengthen.ensures.rows (omega (arith, c.in_ok-lengthen.ensures.len)) c.index_mut-row.ensures.value c.in_err-push.ensures.items

pub returns-clause-kept : goal.returns-clause-kept
returns-clause-kept c =
    note_kept (rows_in c.args.rows.now.items) c.lengthen.new.rows.items c.args.slot c.args.user c.index_mut-row.result.now c.push.new.self c.in_ok-lengthen.ensures.rows (omega (arith, c.in_ok-lengthen.ensures.len)) c.index_mut-row.ensures.value c.in_ok-push.ensures.items

pub returns-clause-noted : goal.returns-clause-noted
returns-clause-noted c =
    note_noted c.lengthen.new.rows.items c.args.slot c.args.user c.index_mut-row.result.now c.push.new.self (omega (arith, c.in_ok-lengthen.ensures.len)) c.index_mut-row.ensures.value c.in_ok-push.ensures.items
