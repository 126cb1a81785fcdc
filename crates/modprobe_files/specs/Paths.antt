-- The paths of what a configuration was read from.
use Rattle.std.specs.Prelude.{ℕ, List, [], ◌∷◌, ◌++◌, map, codes, unwrap_or, option_map, slice_get}
use Rattle.modprobe_files.specs.declared.texts.TextFile.{TextFile}
use Rattle.modprobe_files.specs.declared.texts.ConfTexts.{ConfTexts}

abbrev pub path_in : TextFile → List ℕ
path_in file = file.path.items

abbrev pub command_line_path : List ℕ
command_line_path = codes "/proc/cmdline"

-- by the numbers that places of lines have: of the files, and behind them of the kernel's command line
abbrev pub paths_of : ConfTexts → List (List ℕ)
paths_of texts = map path_in texts.files.items ++ command_line_path ∷ []

-- the path of the source of a number
abbrev pub path_at : ConfTexts → ℕ → List ℕ
path_at texts source = unwrap_or (option_map path_in (slice_get texts.files.items source)) command_line_path
