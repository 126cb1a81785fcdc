use Rattle.std.proofs.Common.{ap}
use Rattle.std.proofs.lemmas.Result.{IfOk-weaker}
use Rattle.text_parts.specs.Text.{texts_of}
use Rattle.modprobe_words.specs.Asked.{asked_of}
use Rattle.gz_modprobe_drive.proofs.JobLemmas.{job-done, job-output, job-status, same-job}
use Rattle.gz_modprobe_drive.proofs.program.perform_asked.Goals as goal

pub returns-clause-status : goal.returns-clause-status
returns-clause-status g c =
    IfOk-weaker c.read_and_perform.result _ _
    (λ status within. job-status (asked_of c.args.asked.now) c.in-Some.job status (same-job _ _ _ _ _ _ c.wish_asked-wish.ensures (ap texts_of c.deref.ensures.value) c.in-Some.ensures.job) within)
    c.read_and_perform.ensures.status

pub returns-clause-well : goal.returns-clause-well
returns-clause-well g c =
    IfOk-weaker c.read_and_perform.result _ _
    (λ status well zero. job-done (asked_of c.args.asked.now) c.in-Some.job _ _ (same-job _ _ _ _ _ _ c.wish_asked-wish.ensures (ap texts_of c.deref.ensures.value) c.in-Some.ensures.job) (well zero))
    c.read_and_perform.ensures.well

pub returns-clause-written : goal.returns-clause-written
returns-clause-written g c = job-output (asked_of c.args.asked.now) c.in-Some.job _ _ (same-job _ _ _ _ _ _ c.wish_asked-wish.ensures (ap texts_of c.deref.ensures.value) c.in-Some.ensures.job) c.read_and_perform.ensures.written
