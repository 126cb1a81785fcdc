-- The one text of a line of /proc/modules (proc(5)).
use Rattle.std.specs.Prelude.{ℕ, Bool, true, false, List, [], ◌∷◌, ◌++◌, flat_map, codes, decimal}
use Rattle.std.specs.List.{join_with_byte}
use Rattle.proc_modules.specs.declared.line.Line.{Line}
use Rattle.proc_modules.specs.declared.line.LineState.{LineState}
use Rattle.proc_modules.specs.declared.line.LineState.TheVariants.{Live, Loading, Unloading}

abbrev pub state_text : LineState → List ℕ
state_text Live = codes "Live"
state_text Loading = codes "Loading"
state_text Unloading = codes "Unloading"

-- what is written as address
abbrev pub no_address : List ℕ
no_address = codes "0x0000000000000000"

-- a user ends with a comma
abbrev pub with_comma : List ℕ → List ℕ
with_comma name = name ++ 44 ∷ []

-- what stands after the users: the mark of a permanent module, or `-` if there is neither user nor mark
abbrev pub users_end : Bool → Bool → List ℕ
users_end is_used true = codes "[permanent],"
users_end true false = []
users_end false false = codes "-"

abbrev pub is_used : List (List ℕ) → Bool
is_used [] = false
is_used (user ∷ users) = true

abbrev pub users_text : List (List ℕ) → Bool → List ℕ
users_text users permanent = flat_map with_comma users ++ users_end (is_used users) permanent

-- the six fields of a line
abbrev pub fields_of : Line → List (List ℕ)
fields_of l =
    l.name ∷ decimal l.size ∷ decimal l.count ∷ users_text l.users l.permanent ∷ state_text l.state ∷ no_address ∷ []

-- the one text of a line: its fields, divided by single spaces, and a line end
abbrev pub line_text : Line → List ℕ
line_text l = join_with_byte 32 (fields_of l) ++ 10 ∷ []

-- the part before the users
abbrev pub head_text : List ℕ → ℕ → ℕ → List ℕ
head_text name size count = name ++ (32 ∷ (decimal size ++ (32 ∷ (decimal count ++ (32 ∷ [])))))

-- the part after the users
abbrev pub tail_text : Bool → Bool → LineState → List ℕ
tail_text used permanent state = users_end used permanent ++ (32 ∷ (state_text state ++ (codes " " ++ (no_address ++ 10 ∷ []))))
