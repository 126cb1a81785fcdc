-- The words of MODPROBE_OPTIONS, which stand before those of the command line (modprobe(8)).
use Rattle.std.specs.Prelude.{ℕ, Bool, ◌==◌, ◌||◌, nat_lt, if◌then◌else◌, List, [], ◌∷◌, ◌++◌, length, map, Vec}
use Rattle.std.specs.Global.{Global}
use Rattle.modprobe_words.specs.declared.variable.Quote.{Quote as CodeQuote}
use Rattle.modprobe_words.specs.declared.variable.Quote.TheVariants as code_quote

-- no quote is open, or one, with what stands behind it
pub data Quote : Type 0 where
  closed : Quote
  opened : ℕ → List ℕ → Quote

abbrev pub is_mark : ℕ → Bool
is_mark byte = byte == 34 || byte == 39

-- an empty last word is none
abbrev pub last_word : List ℕ → List (List ℕ)
last_word word = if nat_lt 0 (length word) then word ∷ [] else []

-- The words that are left, behind what is read of a word. A blank ends a word, each one. Quotes `"` and `'` hold blanks
-- together. A word that begins with a quote ends with it. A quote without its end stays as it stands.
abbrev pub words_from : Quote → List ℕ → List ℕ → List (List ℕ)
words_from closed word [] = last_word word
words_from (opened mark text) word [] = last_word (word ++ (mark ∷ text))
words_from closed word (byte ∷ rest) =
    if byte == 32 then word ∷ words_from closed [] rest
    else (if is_mark byte then words_from (opened byte []) word rest else words_from closed (word ++ byte ∷ []) rest)
words_from (opened mark text) word (byte ∷ rest) =
    if byte == mark then
    (if nat_lt 0 (length word) then words_from closed (word ++ text) rest else text ∷ words_from closed [] rest)
    else words_from (opened mark (text ++ byte ∷ [])) word rest

-- what quotes hold ends a word of their own, and goes on with one that was begun
abbrev pub behind_quotes : List ℕ → List ℕ → List ℕ → List (List ℕ)
behind_quotes word text rest =
    if nat_lt 0 (length word) then words_from closed (word ++ text) rest else text ∷ words_from closed [] rest

abbrev pub words_of : List ℕ → List (List ℕ)
words_of text = words_from closed [] text

-- how contracts see the code's
abbrev pub quote_of : CodeQuote → Quote
quote_of code_quote.Closed = closed
quote_of (code_quote.Opened mark text) = opened mark text.items

abbrev pub bytes_of : List (Vec ℕ Global) → List (List ℕ)
bytes_of texts = map (λ text. text.items) texts
