use Rattle.std.proofs.Common.{◌≡◌, ◌++◌, drop}
use Rattle.modprobe_words.specs.Variable.{bytes_of}
use Rattle.modprobe_files.specs.Releases.{listed}
use Rattle.modprobe_files.proofs.releases.listed.Given as goal

abbrev pub invariant-loop-release : goal.invariant-loop-release
invariant-loop-release l = l.text.items ++ listed (bytes_of (drop l.release-index l.releases)) ≡ listed (bytes_of l.releases)
