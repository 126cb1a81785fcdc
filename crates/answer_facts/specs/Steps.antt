-- The parts of a line of an answer: modprobe(8) writes `insmod`, the path of a file, a blank and options, and so on.
use Rattle.std.specs.Prelude.{ℕ, Bool, nat_eq, ◌==◌, ◌&&◌, ◌||◌, ◌-◌, if◌then◌else◌, List, [], ◌∷◌, ◌++◌, length, take, drop, codes, Option, Some, None, unwrap_or}
use Rattle.std.specs.List.{ends_with, starts_with}
use Rattle.answer_facts.specs.Pieces.{Piece, field, kind}

abbrev pub is_blank : ℕ → Bool
is_blank byte = byte == 32

-- how the file of a module ends (depmod(8))
abbrev pub is_file : List ℕ → Bool
is_file path =
    ends_with nat_eq path (codes ".ko") || ends_with nat_eq path (codes ".ko.gz")
    || ends_with nat_eq path (codes ".ko.xz") || ends_with nat_eq path (codes ".ko.zst")

-- the first path of a module's file behind which a blank stands, by what was passed and what is left
abbrev pub path_with : List ℕ → List ℕ → Option (List ℕ)
path_with front [] = None
path_with front (byte ∷ rest) = if is_blank byte && is_file front then Some front else path_with (front ++ byte ∷ []) rest

-- what stands before the first blank
abbrev pub first_part : List ℕ → List ℕ
first_part [] = []
first_part (byte ∷ rest) = if is_blank byte then [] else byte ∷ first_part rest

-- the path with which a text begins; without such a file it ends before the first blank
abbrev pub path_of : List ℕ → List ℕ
path_of text = unwrap_or (path_with [] text) (first_part text)

-- what stands behind it and a blank
abbrev pub behind_path : List ℕ → List ℕ
behind_path text = drop 1 (drop (length (path_of text)) text)

-- a text without one blank at its end
abbrev pub blank_cut : List ℕ → List ℕ
blank_cut text = if ends_with nat_eq text (32 ∷ []) then take (length text - 1) text else text

abbrev pub insmod_pieces : List ℕ → List Piece
insmod_pieces text = kind (codes "insmod") ∷ field (codes "path") (path_of text) ∷ field (codes "options") (behind_path text) ∷ []

abbrev pub other_pieces : List ℕ → List ℕ → List ℕ → List Piece
other_pieces word key text = kind word ∷ field key text ∷ []

-- a command, which a shell runs
abbrev pub run_pieces : List ℕ → List ℕ → List Piece
run_pieces word text = other_pieces word (codes "command") (blank_cut text)

abbrev pub is_insmod : List ℕ → Bool
is_insmod line = starts_with nat_eq line (codes "insmod ")

abbrev pub is_rmmod : List ℕ → Bool
is_rmmod line = starts_with nat_eq line (codes "rmmod ")

abbrev pub is_builtin : List ℕ → Bool
is_builtin line = starts_with nat_eq line (codes "builtin ")

abbrev pub is_install : List ℕ → Bool
is_install line = starts_with nat_eq line (codes "install ")

abbrev pub is_remove : List ℕ → Bool
is_remove line = starts_with nat_eq line (codes "remove ")

-- a line of another kind, as a name that -R writes, stands as it is
abbrev pub command_pieces : List ℕ → List Piece
command_pieces line =
    if is_install line then run_pieces (codes "install") (drop 8 line)
    else (if is_remove line then run_pieces (codes "remove") (drop 7 line)
    else other_pieces (codes "line") (codes "text") line)

abbrev pub module_pieces : List ℕ → List Piece
module_pieces line =
    if is_builtin line then other_pieces (codes "builtin") (codes "module") (drop 8 line)
    else (if is_rmmod line then other_pieces (codes "rmmod") (codes "module") (drop 6 line) else command_pieces line)

-- what a line says, as fields
abbrev pub step_pieces : List ℕ → List Piece
step_pieces line = if is_insmod line then insmod_pieces (drop 7 line) else module_pieces line
