use Rattle.timeline_drive.proofs.EscapeLemmas.{escaped_text}
use Rattle.timeline_drive.proofs.laws.escapes_marks.Goals as goal

pub returns : goal.returns
returns c = escaped_text
