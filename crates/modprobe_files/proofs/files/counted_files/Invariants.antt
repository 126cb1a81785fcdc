use Rattle.std.proofs.Common.{◌≡◌, drop, fold}
use Rattle.std.specs.List.{flat_map}
use Rattle.modprobe_files.specs.Files.{candidates, counted_files, files_of, sources_of, with_file}
use Rattle.modprobe_files.proofs.files.counted_files.Given as goal

-- what was added and what is left to add is all
abbrev pub invariant-loop-source : goal.invariant-loop-source
invariant-loop-source l =
    fold with_file (files_of l.files.items) (flat_map (candidates l.kmod) (sources_of (drop l.source-index l.sources)))
    ≡ counted_files l.kmod (sources_of l.sources)
