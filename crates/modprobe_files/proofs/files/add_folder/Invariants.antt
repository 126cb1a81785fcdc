use Rattle.std.proofs.Common.{◌≡◌, fold, take}
use Rattle.modprobe_files.specs.Files.{candidates, files_of, folder, names_of, with_file}
use Rattle.modprobe_files.proofs.files.add_folder.Given as goal

abbrev pub invariant-loop-name : goal.invariant-loop-name
invariant-loop-name l =
    files_of l.files.items
    ≡ fold with_file (files_of l.initial.files.items) (candidates l.kmod (folder l.path (names_of (take l.name-index l.names))))
