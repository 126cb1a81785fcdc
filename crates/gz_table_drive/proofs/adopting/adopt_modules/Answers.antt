use Rattle.std.proofs.Common.{rules, inl}
use Rattle.held_lines.proofs.LawLemmas.{keeps_held}
use Rattle.durable_table.proofs.GroupLemmas.{none_written, none_written_of}
use Rattle.gz_table_drive.specs.Adopting.{adopting_lines}
use Rattle.gz_table_drive.proofs.AdoptLemmas.{adopting_keeps}
use Rattle.gz_table_drive.proofs.adopting.adopt_modules.Goals as goal

pub returns-clause-holders : goal.returns-clause-holders
returns-clause-holders g c =
    let s = c.args.table.now.session.setup.now in
    let h = c.args.table.now.session.holders.held in
    let now = c.perform_lines.new.table.session.holders.held in
    adopting_keeps s h now c.args.kernel.now (search rules)

pub returns-clause-held : goal.returns-clause-held
returns-clause-held g c =
    let before = rw c.session.ensures at (rw c.holders.ensures at c.laws.ensures.lawful) in
    let after = rw c.session-3.ensures at (rw c.holders-2.ensures at c.laws-2.ensures.lawful) in
    keeps_held _ _ c.args.table.now.session.holders.held.table c.perform_lines.new.table.session.holders.held.table before after (inl (returns-clause-holders g c).rows)

pub returns-in_err-found-clause-any_of : goal.returns-in_err-found-clause-any_of
returns-in_err-found-clause-any_of g c =
    none_written_of g.D.Device.content g.D.Device.history c.args.table.now.session.setup.now c.args.table.now.session.holders.held c.args.table.now.journal c.requires

pub returns-in_err-add_report-clause-any_of : goal.returns-in_err-add_report-clause-any_of
returns-in_err-add_report-clause-any_of g c =
    none_written_of g.D.Device.content g.D.Device.history c.args.table.now.session.setup.now c.args.table.now.session.holders.held c.args.table.now.journal c.requires

pub returns-in_err-found-clause-any_moment : goal.returns-in_err-found-clause-any_moment
returns-in_err-found-clause-any_moment g c =
    let s = c.args.table.now.session.setup.now in
    let h = c.args.table.now.session.holders.held in
    none_written g.D.Device.content g.D.Device.history s h (adopting_lines s h c.args.kernel.now) c.args.table.now.journal c.requires

pub returns-in_err-add_report-clause-any_moment : goal.returns-in_err-add_report-clause-any_moment
returns-in_err-add_report-clause-any_moment g c =
    let s = c.args.table.now.session.setup.now in
    let h = c.args.table.now.session.holders.held in
    none_written g.D.Device.content g.D.Device.history s h (adopting_lines s h c.args.kernel.now) c.args.table.now.journal c.requires
