use Rattle.std.proofs.Common.{◌≡◌, filter, take}
use Rattle.text_parts.specs.Text.{texts_of}
use Rattle.gz_modprobe_drive.specs.Paths.{is_path, words_of}
use Rattle.gz_modprobe_drive.proofs.paths.read_paths.Given as goal

abbrev pub invariant-loop-word : goal.invariant-loop-word
invariant-loop-word g l = words_of l.paths.items ≡ filter (is_path l.kmod) (texts_of (take l.word-index l.names))
