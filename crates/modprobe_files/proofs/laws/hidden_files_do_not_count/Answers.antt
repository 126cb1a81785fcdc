use Rattle.modprobe_files.proofs.HiddenLemmas.{hidden-file, hidden-name, no-file}
use Rattle.modprobe_files.proofs.laws.hidden_files_do_not_count.Goals as goal

pub returns-clause-file : goal.returns-clause-file
returns-clause-file c = hidden-file

pub returns-clause-name : goal.returns-clause-name
returns-clause-name c = hidden-name

pub returns-clause-no_file : goal.returns-clause-no_file
returns-clause-no_file c = no-file
