use Rattle.std.proofs.Common.{◌≡◌, ◌++◌, take}
use Rattle.std.specs.List.{flat_map}
use Rattle.table_folder.specs.Machine.{conf_section}
use Rattle.table_folder.proofs.machine.push_configuration.Given as goal

-- the files so far stand behind what was there
abbrev pub invariant-loop-file : goal.invariant-loop-file
invariant-loop-file l = l.text.items ≡ l.fn.text.items ++ flat_map conf_section (take l.file-index l.files)
