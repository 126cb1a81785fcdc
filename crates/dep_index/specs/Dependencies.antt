-- Which dependencies a modules.dep text says (modules.dep(5)): for each name, the names that it depends on.
pub mod Pairs
use Rattle.std.specs.Prelude.{ℕ, suc, Bool, true, false, not, if◌then◌else◌, ◌||◌, ◌==◌, List, [], ◌∷◌, ◌++◌, map, reverse, take_while, Option, Some, None, Result, Ok, Err}
use Rattle.std.specs.List.{list_any}
use Rattle.std.specs.Str.{bytes_eq}
use Rattle.std.specs.Str.Lines.{lines}
use Rattle.text_parts.specs.Text.{words, is_comment, is_blank, normal_form}

-- why a text is no modules.dep text
pub data DepRefusal : Type 0 where
  no_colon : DepRefusal
  empty_name : DepRefusal
  second_line : DepRefusal

-- a name and the names that it depends on
abbrev pub Pair : Type 0
Pair = List ℕ × List (List ℕ)

-- the part of a path behind its last `/`
abbrev pub last_part : List ℕ → List ℕ
last_part [] = []
last_part (b ∷ s) = if list_any (λ c. c == 47) (b ∷ s) then last_part s else b ∷ s

-- the name of a path: its last part up to the first `.`, in normal form
abbrev pub name_of : List ℕ → List ℕ
name_of path = normal_form (take_while (λ c. not (c == 46)) (last_part path))

-- without the blanks at the front
abbrev pub skip_blanks : List ℕ → List ℕ
skip_blanks [] = []
skip_blanks (b ∷ s) = if is_blank b then skip_blanks s else b ∷ s

-- without the blanks at either end
abbrev pub trim : List ℕ → List ℕ
trim s = reverse (skip_blanks (reverse (skip_blanks s)))

-- bytes before the first of the two parts
abbrev pub before_colon : List ℕ → Option (List ℕ × List ℕ) → Option (List ℕ × List ℕ)
before_colon front None = None
before_colon front (Some x) = Some (front ++ x.0, x.1)

-- the parts before and behind the first colon, if there is one
abbrev pub at_colon : List ℕ → Option (List ℕ × List ℕ)
at_colon [] = None
at_colon (b ∷ s) = if b == 58 then Some ([], s) else before_colon (b ∷ []) (at_colon s)

-- a name without bytes
abbrev pub is_empty : List ℕ → Bool
is_empty [] = true
is_empty (b ∷ s) = false

-- a pair behind the others: no name may be empty, and its own stands once
abbrev pub with_pair : List Pair → Pair → Result (List Pair) DepRefusal
with_pair pairs pair =
    if is_empty pair.0 || list_any is_empty pair.1 then Err empty_name
    else (if list_any (λ p. bytes_eq pair.0 p.0) pairs then Err second_line
    else Ok (pairs ++ pair ∷ []))

-- a line by its two parts
abbrev pub dep_split : List Pair → Option (List ℕ × List ℕ) → Result (List Pair) DepRefusal
dep_split pairs None = Err no_colon
dep_split pairs (Some x) = with_pair pairs (name_of (trim x.0), map name_of (words x.1))

-- a line without a word says nothing
abbrev pub dep_words : List Pair → List ℕ → List (List ℕ) → Result (List Pair) DepRefusal
dep_words pairs line [] = Ok pairs
dep_words pairs line (w ∷ ws) = dep_split pairs (at_colon line)

-- one line: a comment says nothing
abbrev pub dep_line : List Pair → List ℕ → Result (List Pair) DepRefusal
dep_line pairs line = if is_comment line then Ok pairs else dep_words pairs line (words line)

-- after a line, the next ones, or the refusal with the number of the line
abbrev pub then_pairs : ℕ → Result (List Pair) DepRefusal → (List Pair → Result (List Pair) (DepRefusal × ℕ)) → Result (List Pair) (DepRefusal × ℕ)
then_pairs n (Ok pairs) go = go pairs
then_pairs n (Err e) go = Err (e, n)

-- the first fault has the number of its line, from 1
abbrev pub dep_lines : ℕ → List Pair → List (List ℕ) → Result (List Pair) (DepRefusal × ℕ)
dep_lines n pairs [] = Ok pairs
dep_lines n pairs (l ∷ ls) = then_pairs n (dep_line pairs l) (λ more. dep_lines (suc n) more ls)

-- the meaning of a modules.dep text: its pairs, or the first fault with its line
abbrev pub dependencies_of : List ℕ → Result (List Pair) (DepRefusal × ℕ)
dependencies_of text = dep_lines 1 [] (lines text)

-- the dependencies of a name, if it has a line
abbrev pub deps : List Pair → List ℕ → Option (List (List ℕ))
deps [] name = None
deps (p ∷ ps) name = if bytes_eq name p.0 then Some p.1 else deps ps name
