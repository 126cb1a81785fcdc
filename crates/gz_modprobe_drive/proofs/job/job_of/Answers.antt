use Rattle.text_parts.specs.Text.{texts_of}
use Rattle.gz_modprobe_drive.proofs.job.job_of.Goals as goal

pub returns-then-is_why-clause-job : goal.returns-then-is_why-clause-job
returns-then-is_why-clause-job c = c.told_job.ensures c.args.switches (texts_of c.args.words.now)
