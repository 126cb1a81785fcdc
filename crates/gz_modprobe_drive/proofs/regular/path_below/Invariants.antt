use Rattle.std.proofs.Common.{◌≡◌, drop}
use Rattle.modprobe_words.specs.Variable.{bytes_of}
use Rattle.modprobe_files.specs.Places.{path_below}
use Rattle.gz_modprobe_drive.proofs.regular.path_below.Given as goal

-- what is there and the names that are left make the path
abbrev pub invariant-loop-name : goal.invariant-loop-name
invariant-loop-name l = path_below l.path.items (bytes_of (drop l.name-index l.names)) ≡ path_below l.root (bytes_of l.names)
