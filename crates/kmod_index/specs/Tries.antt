-- How kmod compares and orders the keys of its tries, modules.alias.bin and modules.builtin.alias.bin: byte by byte before
-- the first `*`, `?` or `[` of a key, and as fnmatch(3) from there on.
use Rattle.std.specs.Prelude.{ℕ, Bool, true, false, not, if◌then◌else◌, ◌&&◌, ◌||◌, ◌==◌, nat_lt, List, [], ◌∷◌, ◌++◌, filter, fold}
use Rattle.kmod_names.specs.Patterns.{matches_pattern}
use Rattle.kmod_index.specs.Lines.{Keyed}

-- a byte that begins what fnmatch(3) compares
abbrev pub is_wild : ℕ → Bool
is_wild byte = byte == 42 || byte == 63 || byte == 91

-- the pattern of a byte that stands for itself
abbrev pub plain_byte : ℕ → List ℕ
plain_byte byte = if byte == 92 then byte ∷ byte ∷ [] else byte ∷ []

-- the pattern that a key is: a backslash before the first wildcard stands for itself
abbrev pub pattern_of_key : List ℕ → List ℕ
pattern_of_key [] = []
pattern_of_key (b ∷ s) = if is_wild b then b ∷ s else plain_byte b ++ pattern_of_key s

abbrev pub pattern_of : Keyed → List ℕ
pattern_of line = pattern_of_key line.key

-- whether a name matches a key
abbrev pub matches_key : List ℕ → List ℕ → Bool
matches_key key name = matches_pattern (pattern_of_key key) name

-- the lines whose key a name matches, in their order
abbrev pub matching_lines : List Keyed → List ℕ → List Keyed
matching_lines lines name = filter (λ line. matches_key line.key name) lines

-- where two keys part: a plain byte before a wildcard if no wildcard stood before, else the greater byte first
abbrev pub byte_before : Bool → ℕ → ℕ → Bool
byte_before plain c d =
    if plain && is_wild c && not (is_wild d) then false
    else (if plain && not (is_wild c) && is_wild d then true else nat_lt d c)

-- whether what has the first key comes before what has the second, if a name matches both: a key that ends where
-- they part is the first. kmod walks its trie, wildcards first and by rising bytes, and puts what it finds in front.
abbrev pub comes_before : Bool → List ℕ → List ℕ → Bool
comes_before plain p [] = false
comes_before plain [] (d ∷ q) = true
comes_before plain (c ∷ p) (d ∷ q) =
    if c == d then comes_before (plain && not (is_wild c)) p q else byte_before plain c d

-- a line put before the first that it comes before
abbrev pub put_line : Keyed → List Keyed → List Keyed
put_line line [] = line ∷ []
put_line line (other ∷ others) =
    if comes_before true line.key other.key then line ∷ other ∷ others else other ∷ put_line line others

-- lines in kmod's order; equal keys keep theirs
abbrev pub in_order : List Keyed → List Keyed
in_order lines = fold (λ done line. put_line line done) [] lines
