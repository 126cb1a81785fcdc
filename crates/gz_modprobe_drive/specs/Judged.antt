-- How a lint ends, and what leads to names, by what was found.
use Rattle.std.specs.Prelude.{ℕ, Bool, ◌&&◌, if◌then◌else◌, ◌==◌, nat_le, List, []}
use Rattle.gz_modprobe_drive.specs.declared.tree.Tree.{Tree}
use Rattle.gz_modprobe_drive.specs.Tree.{is_whole, notices_of}

-- 2 if a text that is needed is missing, damaged or was not read; else 1 if anything is noted; else 2 if what a line sets could
-- not be checked; else 0
abbrev pub status_by : Bool → Bool → Bool → ℕ
status_by is_judged is_noted is_checked =
    if is_judged then (if is_noted then 1 else (if is_checked then 0 else 2)) else 2

-- by a folder of modules, whether all else was read, and of how many lines it could not be checked what they set
abbrev pub status_of : Tree → Bool → Bool → ℕ → ℕ
status_of tree is_read is_noted unchecked = status_by (is_whole tree && is_read) is_noted (unchecked == 0)

-- notices are shown unless -q hides them
abbrev pub shown_notices : ℕ → Tree → List ℕ
shown_notices verbosity tree = if nat_le 4 verbosity then notices_of tree else []
