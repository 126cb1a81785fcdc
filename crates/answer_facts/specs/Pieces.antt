-- The parts of what a line says: for people, and for programs.
use Rattle.std.specs.Prelude.{ℕ, Bool, true, false, List, [], ◌∷◌, ◌++◌, map, codes, decimal}
use Rattle.std.specs.Borrow.{Bor}
use Rattle.std.specs.List.{flat_map}
use Rattle.answer_facts.specs.declared.piece.Piece.{Piece as CodePiece}
use Rattle.answer_facts.specs.declared.piece.Piece.TheVariants as code_piece
use Rattle.answer_facts.specs.Quoted.{quoted}

-- A part of what a line says. A field has its key first. A kind, tags and flags stand in JSON alone, words in the text alone.
pub data Piece : Type 0 where
  kind : List ℕ → Piece
  words : List ℕ → Piece
  field : List ℕ → List ℕ → Piece
  tag : List ℕ → List ℕ → Piece
  flag : List ℕ → Bool → Piece
  number : List ℕ → ℕ → Piece
  through : List (List ℕ) → Piece

-- names, each after a comma
abbrev pub comma_name : List ℕ → List ℕ
comma_name name = codes ", " ++ name

-- how a module is needed: by itself, or through these
abbrev pub text_through : List (List ℕ) → List ℕ
text_through [] = codes ", direct"
text_through (name ∷ names) = codes " through " ++ (name ++ flat_map comma_name names)

-- what a part says to people
abbrev pub text_piece : Piece → List ℕ
text_piece (kind word) = []
text_piece (words text) = text
text_piece (field key value) = value
text_piece (tag key value) = []
text_piece (flag key value) = []
text_piece (number key value) = decimal value
text_piece (through names) = text_through names

abbrev pub text_of : List Piece → List ℕ
text_of pieces = flat_map text_piece pieces

-- a field after others, before its value
abbrev pub key_text : List ℕ → List ℕ
key_text key = 44 ∷ (quoted key ++ (58 ∷ []))

abbrev pub truth_text : Bool → List ℕ
truth_text true = codes "true"
truth_text false = codes "false"

abbrev pub flag_text : List ℕ → Bool → List ℕ
flag_text key truth = key_text key ++ truth_text truth

abbrev pub comma_quoted : List ℕ → List ℕ
comma_quoted name = 44 ∷ quoted name

-- a list of strings
unfoldable pub json_list : List ℕ → List (List ℕ) → List ℕ
json_list name names = 91 ∷ (quoted name ++ (flat_map comma_quoted names ++ (93 ∷ [])))

abbrev pub json_through : List (List ℕ) → List ℕ
json_through [] = flag_text (codes "direct") true
json_through (name ∷ names) = flag_text (codes "direct") false ++ (key_text (codes "through") ++ json_list name names)

-- a key without a value is left out
abbrev pub json_tag : List ℕ → List ℕ → List ℕ
json_tag key [] = []
json_tag key (byte ∷ bytes) = key_text key ++ quoted (byte ∷ bytes)

-- what a part says to programs (RFC 8259)
abbrev pub json_piece : Piece → List ℕ
json_piece (kind word) = quoted (codes "what") ++ (58 ∷ quoted word)
json_piece (words text) = []
json_piece (field key value) = key_text key ++ quoted value
json_piece (tag key value) = json_tag key value
json_piece (flag key value) = flag_text key value
json_piece (number key value) = key_text key ++ decimal value
json_piece (through names) = json_through names

-- one object
abbrev pub json_of : List Piece → List ℕ
json_of pieces = 123 ∷ (flat_map json_piece pieces ++ (125 ∷ []))

-- names that stand elsewhere
abbrev pub names_of : List (Bor (List ℕ)) → List (List ℕ)
names_of names = map (λ name. name.now) names

-- how contracts see the code's
abbrev pub piece_of : CodePiece → Piece
piece_of (code_piece.Kind word) = kind word.now
piece_of (code_piece.Words text) = words text.now
piece_of (code_piece.Field key value) = field key.now value.now
piece_of (code_piece.Tag key value) = tag key.now value.now
piece_of (code_piece.Flag key value) = flag key.now value
piece_of (code_piece.Number key value) = number key.now value
piece_of (code_piece.Through names) = through (names_of names.now)

abbrev pub pieces_of : List CodePiece → List Piece
pieces_of pieces = map piece_of pieces

-- what is said of somebody
abbrev pub sentence : List ℕ → Piece → List Piece → List Piece
sentence word whom said = kind word ∷ whom ∷ words (codes ": ") ∷ said
