use Rattle.modprobe_files.specs.Files.{sources_of}
use Rattle.modprobe_files.proofs.machine.chosen_files.Goals as goal

pub returns-clause-files : goal.returns-clause-files
returns-clause-files g c =
    (sources_of c.in_ok-sources.sources.items, c.in_ok-sources.ensures, rw c.deref.ensures.value at c.in_ok-files.ensures)
