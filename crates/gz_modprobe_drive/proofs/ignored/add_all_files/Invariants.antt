use Rattle.std.proofs.Common.{◌≡◌, ◌++◌, take}
use Rattle.std.specs.List.{flat_map}
use Rattle.modprobe_words.specs.Variable.{bytes_of}
use Rattle.lint_ignores.specs.Ignores.{file_ignores}
use Rattle.gz_modprobe_drive.proofs.ignored.add_all_files.Given as goal

abbrev pub invariant-loop-text : goal.invariant-loop-text
invariant-loop-text l = l.ignores.items ≡ l.initial.ignores.items ++ flat_map file_ignores (bytes_of (take l.text-index l.texts))
