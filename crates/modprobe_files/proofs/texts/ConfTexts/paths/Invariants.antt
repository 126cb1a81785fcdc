use Rattle.std.proofs.Common.{◌≡◌, map, take}
use Rattle.text_parts.specs.Text.{texts_of}
use Rattle.modprobe_files.specs.Paths.{path_in}
use Rattle.modprobe_files.proofs.texts.ConfTexts.paths.Given as goal

abbrev pub invariant-loop-file : goal.invariant-loop-file
invariant-loop-file l = texts_of l.paths.items ≡ map path_in (take l.file-index l.self.files.items)
