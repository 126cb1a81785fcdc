use Rattle.line_journal.specs.Lines.{bytes_of}
use Rattle.gz_table_drive.proofs.AnswerLemmas.{on_err}
use Rattle.gz_table_drive.proofs.AskLemmas.{lines_first, reads_still, asked}
use Rattle.gz_table_drive.proofs.TenureLemmas.{asked_first, none_first}
use Rattle.gz_table_drive.proofs.reading.ask_lines.Goals as goal

pub ask-requires : goal.ask-requires
ask-requires g c = record { lines = lines_first c.min-count.result c.args.lines.now c.requires.lines }

pub returns-clause-answered : goal.returns-clause-answered
returns-clause-answered g c =
    let held = c.args.table.now.session.holders.held in
    asked c.args.table.now.session.setup.now held c.min-count.result c.args.lines.now
    c.in_ok-answered.answered.items c.deref.result.now c.args.replies.now c.add_all.new.self
    c.deref.ensures.value c.in_ok-answered.ensures.replies c.in_ok-add_all.ensures.ok

pub returns-clause-reads : goal.returns-clause-reads
returns-clause-reads g c =
    let held = c.args.table.now.session.holders.held in
    let now = c.ask.new.self.session.holders.held in
    reads_still g.D.Device.content c.args.table.now.session.setup.now held now
    c.min-count.result c.args.lines.now c.args.table.now.journal c.ask.new.self.journal
    c.requires.reads c.requires.asks c.in_ok-answered.ensures.becomes c.ask.ensures.journal

pub returns-in_err-answered-clause-stopped : goal.returns-in_err-answered-clause-stopped
returns-in_err-answered-clause-stopped g c =
    let held = c.args.table.now.session.holders.held in
    on_err c.from_residual.result (none_first c.args.table.now.session.setup.now held (bytes_of c.args.lines.now) c.args.replies.now)

pub returns-in_err-add_all-clause-stopped : goal.returns-in_err-add_all-clause-stopped
returns-in_err-add_all-clause-stopped g c =
    let held = c.args.table.now.session.holders.held in
    let stopped = c.in_err-add_all.ensures.err in
    on_err c.from_residual-in_err-add_all.result
    (asked_first c.args.table.now.session.setup.now held c.min-count.result c.args.lines.now stopped.0
    c.in_ok-answered.answered.items c.deref.result.now c.args.replies.now c.add_all.new.self
    c.deref.ensures.value c.in_ok-answered.ensures.replies stopped.1 stopped.2)
