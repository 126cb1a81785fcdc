use Rattle.std.proofs.Common.{take}
use Rattle.modprobe_files.specs.Folders.{own_sources}
use Rattle.modprobe_files.proofs.ChosenLemmas.{AreFound}
use Rattle.modprobe_files.proofs.sources.configuration_sources.Given as goal

-- behind the own sources stands what was found at the paths so far
abbrev pub invariant-loop-path : goal.invariant-loop-path
invariant-loop-path g l = AreFound (own_sources l.kmod l.directory) (take l.path-index l.path-items) l.sources.items
