use Rattle.std.proofs.Common.{length}
use Rattle.modsh_drive.proofs.texts.setting_line.Given as goal

abbrev pub decreases-lines : goal.decreases-lines
decreases-lines l = length l.lines
