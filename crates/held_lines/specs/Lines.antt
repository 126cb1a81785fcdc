-- What a line over a table with holders asks for, beside what a session's lines ask for.
use Rattle.std.specs.Prelude.{ℕ, Bool, true, false, not, ◌&&◌, if◌then◌else◌, List, [], ◌∷◌, codes}
use Rattle.std.specs.List.{list_all}
use Rattle.std.specs.Str.{bytes_eq}
use Rattle.text_parts.specs.Text.{words, is_comment, normal_form}
use Rattle.modprobe.specs.Commands.{is_option}
use Rattle.modprobe.specs.declared.half.Half.{Half}
use Rattle.modprobe.specs.declared.half.Half.TheVariants as half_is
use Rattle.held_lines.specs.declared.asked.Reference.{Reference}
use Rattle.held_lines.specs.declared.asked.Reference.TheVariants as reference_is
use Rattle.held_table.specs.Names.{is_holder_name}

-- a line is a session's, is no line, or asks for something of holders or for half of a load or removal
pub data Asked : Type 0 where
  as_session : Asked
  malformed : List ℕ → Asked
  refer : Reference → List ℕ → List ℕ → Asked
  half : Half → List ℕ → Asked
  hold : Bool → List ℕ → List (List ℕ) → Asked
  release : List ℕ → List (List ℕ) → Asked
  release_all : List ℕ → Asked
  holders : List ℕ → Asked
  held_by : List ℕ → Asked
  held : Asked

-- a word that may be a module's name: it does not begin with `-`
abbrev pub may_be_name : List ℕ → Bool
may_be_name word = not (is_option word)

-- `get HOLDER NAME`, `put HOLDER NAME`
abbrev pub with_reference : List ℕ → Reference → List (List ℕ) → Asked
with_reference first reference (holder ∷ name ∷ []) =
    if is_holder_name holder && may_be_name name then refer reference holder (normal_form name) else malformed first
with_reference first reference _ = malformed first

-- one name follows
abbrev pub with_half : List ℕ → Half → List (List ℕ) → Asked
with_half first h (name ∷ []) = if may_be_name name then half h (normal_form name) else malformed first
with_half first h _ = malformed first

-- `end_load NAME ok`, `end_load NAME fail`
abbrev pub with_end : List ℕ → List (List ℕ) → Asked
with_end first (name ∷ how ∷ []) =
    if bytes_eq how (codes "ok") then with_half first (half_is.EndLoad true) (name ∷ [])
    else (if bytes_eq how (codes "fail") then with_half first (half_is.EndLoad false) (name ∷ []) else malformed first)
with_end first _ = malformed first

-- a holder and at least one name follow
abbrev pub with_hold : List ℕ → Bool → List (List ℕ) → Asked
with_hold first again (holder ∷ name ∷ names) =
    if is_holder_name holder && list_all may_be_name (name ∷ names) then hold again holder (name ∷ names) else malformed first
with_hold first again _ = malformed first

-- `hold HOLDER NAME..`, `hold --again HOLDER NAME..`
abbrev pub by_again : List ℕ → List (List ℕ) → Asked
by_again first (word ∷ words) = if bytes_eq word (codes "--again") then with_hold first true words else with_hold first false (word ∷ words)
by_again first [] = malformed first

-- `release HOLDER`, `release HOLDER NAME..`
abbrev pub with_release : List ℕ → List (List ℕ) → Asked
with_release first (holder ∷ []) = if is_holder_name holder then release_all holder else malformed first
with_release first (holder ∷ name ∷ names) =
    if is_holder_name holder && list_all may_be_name (name ∷ names) then release holder (name ∷ names) else malformed first
with_release first [] = malformed first

-- `holders NAME`
abbrev pub with_holders : List ℕ → List (List ℕ) → Asked
with_holders first (name ∷ []) = if may_be_name name then holders (normal_form name) else malformed first
with_holders first _ = malformed first

-- `held`, `held HOLDER`
abbrev pub with_held : List ℕ → List (List ℕ) → Asked
with_held first [] = held
with_held first (holder ∷ []) = if is_holder_name holder then held_by holder else malformed first
with_held first _ = malformed first

-- a first word that is one of the halves'
abbrev pub by_half : List ℕ → List (List ℕ) → Asked
by_half first rest =
    if bytes_eq first (codes "begin_load") then with_half first half_is.BeginLoad rest
    else (if bytes_eq first (codes "end_load") then with_end first rest
    else (if bytes_eq first (codes "begin_remove") then with_half first half_is.BeginRemove rest
    else (if bytes_eq first (codes "end_remove") then with_half first half_is.EndRemove rest
    else (if bytes_eq first (codes "cancel_remove") then with_half first half_is.CancelRemove rest else as_session))))

-- what a first word asks for, with the words that follow it
abbrev pub by_first : List ℕ → List (List ℕ) → Asked
by_first first rest =
    if bytes_eq first (codes "get") then with_reference first reference_is.Get rest
    else (if bytes_eq first (codes "put") then with_reference first reference_is.Put rest
    else (if bytes_eq first (codes "hold") then by_again first rest
    else (if bytes_eq first (codes "release") then with_release first rest
    else (if bytes_eq first (codes "holders") then with_holders first rest
    else (if bytes_eq first (codes "held") then with_held first rest else by_half first rest)))))

abbrev pub by_words : List (List ℕ) → Asked
by_words [] = as_session
by_words (first ∷ rest) = by_first first rest

-- what a line asks for; a line whose first byte is `#` is a session's
abbrev pub asked_of : List ℕ → Asked
asked_of line = if is_comment line then as_session else by_words (words line)
