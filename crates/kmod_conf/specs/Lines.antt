-- The lines of a configuration text, and their parts, after modprobe.d(5) and libkmod.
use Rattle.std.specs.Prelude.{ℕ, ◌+◌, nat_le, Bool, false, true, if◌then◌else◌, ◌==◌, ◌&&◌, ◌||◌, List, [], ◌∷◌, ◌++◌, codes, map}
use Rattle.std.specs.List.{after_first, before_first}
use Rattle.std.specs.Str.{bytes_eq}
use Rattle.text_parts.specs.Text.{is_blank, words}
use Rattle.kmod_version.specs.declared.kmod.Kmod.{Kmod}
use Rattle.kmod_version.specs.Versions.{reads_end_as_byte}

-- white space, as isspace(3) has it in the C locale
abbrev pub is_space : ℕ → Bool
is_space byte = byte == 32 || nat_le 9 byte && nat_le byte 13

-- a line, and the numbers of the first and of the last of the lines that are joined in it
pub record Wrapped : Type 0 where
  pub first : ℕ
  pub last : ℕ
  pub text : List ℕ

-- a begun line that has bytes, at the end of the text
abbrev pub last_line : ℕ → ℕ → List ℕ → List Wrapped
last_line first here [] = []
last_line first here (byte ∷ front) = record { first = first; last = here; text = byte ∷ front } ∷ []

-- a begun line at the end of the text, after a backslash or not
abbrev pub with_end : Kmod → Bool → List ℕ → List ℕ
with_end kmod is_escaped front = if is_escaped && reads_end_as_byte kmod then front ++ 255 ∷ [] else front

-- The lines of a text after a begun one, whose first line has a number, from the number `here` of the line that is read.
-- A backslash before a line's end joins two lines, and before another byte it is dropped; one that ends the text stands
-- for the byte 255, or for nothing.
abbrev pub lines_from : Kmod → ℕ → ℕ → List ℕ → Bool → List ℕ → List Wrapped
lines_from kmod first here front is_escaped [] = last_line first here (with_end kmod is_escaped front)
lines_from kmod first here front true (byte ∷ rest) =
    if byte == 10 then lines_from kmod first (here + 1) front false rest
    else lines_from kmod first here (front ++ byte ∷ []) false rest
lines_from kmod first here front false (byte ∷ rest) =
    if byte == 10 then record { first = first; last = here; text = front } ∷ lines_from kmod (here + 1) (here + 1) [] false rest
    else (if byte == 92 then lines_from kmod first here front true rest
    else lines_from kmod first here (front ++ byte ∷ []) false rest)

-- the lines of a text whose first line has a number
abbrev pub lines_at : Kmod → ℕ → List ℕ → List Wrapped
lines_at kmod number text = lines_from kmod number number [] false text

abbrev pub wrapped_lines : Kmod → List ℕ → List Wrapped
wrapped_lines kmod text = lines_at kmod 1 text

-- what stands before the first NUL
abbrev pub line_text : List ℕ → List ℕ
line_text line = before_first (λ byte. byte == 0) line

abbrev pub skip_blanks : List ℕ → List ℕ
skip_blanks [] = []
skip_blanks (byte ∷ rest) = if is_blank byte then skip_blanks rest else byte ∷ rest

-- the first word of a text; none is empty
abbrev pub word_of : List ℕ → List ℕ
word_of text = before_first is_blank (skip_blanks text)

-- what stands after the blank that ends the first word
abbrev pub rest_of : List ℕ → List ℕ
rest_of text = after_first is_blank (skip_blanks text)

-- what a softdep line names before and after its name
pub record SoftWords : Type 0 where
  pub pre : List (List ℕ)
  pub post : List (List ℕ)

-- a blank for white space
abbrev pub as_blank : ℕ → ℕ
as_blank byte = if is_space byte then 32 else byte

-- the words after one mark, up to the other
abbrev pub words_behind : List ℕ → List ℕ → Bool → List (List ℕ) → List (List ℕ)
words_behind mark other within [] = []
words_behind mark other within (w ∷ ws) =
    if bytes_eq w mark then words_behind mark other true ws
    else (if bytes_eq w other then words_behind mark other false ws
    else (if within then w ∷ words_behind mark other within ws else words_behind mark other within ws))

-- the words of a weakdep line, between white space
abbrev pub weak_words : List ℕ → List (List ℕ)
weak_words text = words (map as_blank text)

-- the words, between white space, after `pre:` and after `post:`
abbrev pub soft_words : List ℕ → SoftWords
soft_words text =
    record {
      pre = words_behind (codes "pre:") (codes "post:") false (words (map as_blank text));
      post = words_behind (codes "post:") (codes "pre:") false (words (map as_blank text));
    }
