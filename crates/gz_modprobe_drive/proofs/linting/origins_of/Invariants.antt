use Rattle.std.proofs.Common.{◌≡◌, map, take}
use Rattle.gz_modprobe_drive.specs.Linted.{origin_of}
use Rattle.gz_modprobe_drive.proofs.linting.origins_of.Given as goal

abbrev pub invariant-loop-file : goal.invariant-loop-file
invariant-loop-file l = l.origins.items ≡ map (origin_of l.directory) (take l.file-index l.files)
