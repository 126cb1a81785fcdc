use Rattle.std.proofs.Common.{map}
use Rattle.modprobe_files.specs.Chosen.{AreSomeOf, paths_of_files}
use Rattle.modprobe_files.specs.Files.{files_of}
use Rattle.modprobe_files.specs.Paths.{path_in}
use Rattle.modprobe_files.proofs.beside.read_files.Given as goal

-- of the files so far some were read
abbrev pub invariant-loop-file : goal.invariant-loop-file
invariant-loop-file g l = AreSomeOf (map path_in l.texts.items) (paths_of_files (files_of l.yielded))
