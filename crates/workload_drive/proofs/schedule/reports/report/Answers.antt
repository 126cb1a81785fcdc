use Rattle.std.proofs.Common.{ℕ, sym, subst}
use Rattle.std.specs.Prelude.{Result, IsOkAnd}
use Rattle.std.specs.Global.{Vec}
use Rattle.std.proofs.lemmas.Result.{IfOk-weaker, IfErr-weaker}
use Rattle.workload_drive.specs.declared.fault.LineFault.{LineFault}
use Rattle.workload_drive.specs.Schedule.Report.{IsReport, Reports, Refuses}
use Rattle.workload_drive.specs.Schedule.Steps.{Schedule}
use Rattle.workload_drive.specs.Schedule.ForProofs.{Stops, schedule_in}
use Rattle.workload_drive.proofs.ReportLemmas.{stops_input}
use Rattle.workload_drive.proofs.schedule.reports.report.Goals as goal

pub returns-clause-report : goal.returns-clause-report
returns-clause-report c =
    let s = schedule_in c.in_ok-schedule.schedule in
    IfOk-weaker c.report_of.result (λ (text : Vec ℕ). IsReport text.items s) (λ (text : Vec ℕ). Reports c.args.input.now text.items)
    (λ text is. subst (λ (r : Result Schedule LineFault). IsOkAnd r (IsReport text.items)) (sym c.in_ok-schedule.ensures.value) is)
    c.report_of.ensures.report

pub returns-clause-refused : goal.returns-clause-refused
returns-clause-refused c =
    let s = schedule_in c.in_ok-schedule.schedule in
    IfErr-weaker c.report_of.result (Stops s) (Refuses c.args.input.now) (λ fault stops. stops_input c.args.input.now s fault c.in_ok-schedule.ensures.value stops)
    c.report_of.ensures.refused
