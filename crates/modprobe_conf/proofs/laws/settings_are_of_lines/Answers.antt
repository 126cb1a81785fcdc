use Rattle.modprobe_conf.proofs.SettingsLemmas.{settings_are_of_lines}
use Rattle.modprobe_conf.proofs.laws.settings_are_of_lines.Goals as goal

pub returns : goal.returns
returns c = settings_are_of_lines
