-- What the words of a command line say, in getopt_long's manner (getopt_long(3)): options in any order among other
-- words, letters joined, long words by their beginnings, and `--` before words that are no options.
use Rattle.std.specs.Prelude.{ℕ, Bool, false, ◌==◌, ◌&&◌, nat_lt, not, if◌then◌else◌, List, [], ◌∷◌, ◌++◌, length, map, take_while, drop, codes, nat_eq, Option, Some, None}
use Rattle.std.specs.List.{starts_with}
use Rattle.std.specs.Str.{bytes_eq}
use Rattle.modprobe_words.specs.declared.options.Switch.{Switch}
use Rattle.modprobe_words.specs.declared.options.Valued.{Valued}
use Rattle.modprobe_words.specs.declared.options.Meaning.{Meaning}
use Rattle.modprobe_words.specs.declared.options.Meaning.TheVariants.{Plain, WithValue}
use Rattle.modprobe_words.specs.declared.options.LongOption.{LongOption}
use Rattle.modprobe_words.specs.declared.found.Found.{Found}
use Rattle.modprobe_words.specs.declared.found.Found.TheVariants.{One, Ambiguous, Unknown}
use Rattle.modprobe_words.specs.declared.items.Asker.{Asker}
use Rattle.modprobe_words.specs.declared.items.Asker.TheVariants.{ByLetter, ByWord}
use Rattle.modprobe_words.specs.declared.items.Waiting.{Waiting}
use Rattle.modprobe_words.specs.declared.items.Fault.{Fault as CodeFault}
use Rattle.modprobe_words.specs.declared.items.Fault.TheVariants as code_fault
use Rattle.modprobe_words.specs.declared.items.Item.{Item as CodeItem}
use Rattle.modprobe_words.specs.declared.items.Item.TheVariants as code_item
use Rattle.modprobe_words.specs.declared.long_words.Step.{Step as CodeStep}
use Rattle.modprobe_words.specs.declared.long_words.Step.TheVariants as code_step
use Rattle.modprobe_words.specs.Options.{meaning_of_letter, meaning_of, valued_form}
use Rattle.modprobe_words.specs.Found.{found_long}

-- why words are refused
pub data Fault : Type 0 where
  bad_letter : ℕ → Fault
  letter_wants_value : ℕ → Fault
  unknown_word : List ℕ → Fault
  ambiguous_word : List ℕ → Fault
  word_takes_none : LongOption → Fault
  word_wants_value : LongOption → Fault

-- an option, an option with its value, another word, or why the words are refused
pub data Item : Type 0 where
  plain : Switch → Item
  with_value : Valued → List ℕ → Item
  operand : List ℕ → Item
  fault : Fault → Item

-- what is read of a word, and the option whose value is the next word
pub record Read : Type 0 where
  pub items : List Item
  pub waiting : Option Waiting

abbrev pub only : Item → Read
only item = record { items = item ∷ []; waiting = None }

abbrev pub wait_for : Valued → Asker → Read
wait_for valued asker = record { items = []; waiting = Some (record { valued = valued; asker = asker }) }

-- a letter before others, of which `later` is read
abbrev pub letter_read : Option Meaning → ℕ → List ℕ → Read → Read
letter_read None letter rest later = only (fault (bad_letter letter))
letter_read (Some (Plain switch)) letter rest later = record later { items = plain switch ∷ later.items }
letter_read (Some (WithValue valued)) letter [] later = wait_for valued (ByLetter letter)
letter_read (Some (WithValue valued)) letter (byte ∷ bytes) later = only (with_value valued (byte ∷ bytes))

-- joined letters; what stands behind one that has a value is that value
abbrev pub letters_read : List ℕ → Read
letters_read [] = record { items = []; waiting = None }
letters_read (letter ∷ rest) = letter_read (meaning_of_letter letter) letter rest (letters_read rest)

-- what stands before and behind the first `=` of a long word
abbrev pub is_of_name : ℕ → Bool
is_of_name byte = not (byte == 61)

abbrev pub name_part : List ℕ → List ℕ
name_part text = take_while is_of_name text

abbrev pub value_part : List ℕ → Option (List ℕ)
value_part [] = None
value_part (byte ∷ rest) = if byte == 61 then Some rest else value_part rest

-- a value of an option that needs none
abbrev pub with_form : LongOption → Option Valued → List ℕ → Read
with_form option None value = only (fault (word_takes_none option))
with_form option (Some valued) value = only (with_value valued value)

abbrev pub option_read : LongOption → Meaning → Option (List ℕ) → Read
option_read option (Plain switch) None = only (plain switch)
option_read option (Plain switch) (Some value) = with_form option (valued_form option) value
option_read option (WithValue valued) None = wait_for valued (ByWord option)
option_read option (WithValue valued) (Some value) = only (with_value valued value)

abbrev pub found_read : List ℕ → Found → Read
found_read text Unknown = only (fault (unknown_word text))
found_read text Ambiguous = only (fault (ambiguous_word text))
found_read text (One option) = option_read option (meaning_of option) (value_part text)

-- what stands behind `--`
unfoldable pub long_read : List ℕ → Read
long_read text = found_read text (found_long (name_part text))

abbrev pub is_long : List ℕ → Bool
is_long word = starts_with nat_eq word (codes "--")

abbrev pub is_joined : List ℕ → Bool
is_joined word = starts_with nat_eq word (codes "-") && nat_lt 1 (length word)

unfoldable pub word_read : List ℕ → Read
word_read word =
    if is_long word then long_read (drop 2 word)
    else (if is_joined word then letters_read (drop 1 word) else only (operand word))

abbrev pub wanting : Asker → Fault
wanting (ByLetter letter) = letter_wants_value letter
wanting (ByWord option) = word_wants_value option

-- a word that may be the value of the option before it
abbrev pub next_read : Option Waiting → List ℕ → Read
next_read None word = word_read word
next_read (Some waiting) word = only (with_value waiting.valued word)

-- whether all words behind this one are no options
abbrev pub is_end : Option Waiting → List ℕ → Bool
is_end None word = bytes_eq word (codes "--")
is_end (Some waiting) word = false

-- what words say, behind an option that may wait for its value
abbrev pub items_from : Option Waiting → List (List ℕ) → List Item
items_from None [] = []
items_from (Some waiting) [] = fault (wanting waiting.asker) ∷ []
items_from waiting (word ∷ words) =
    if is_end waiting word then map operand words
    else (next_read waiting word).items ++ items_from (next_read waiting word).waiting words

abbrev pub items : List (List ℕ) → List Item
items words = items_from None words

-- how contracts see the code's
abbrev pub fault_of : CodeFault → Fault
fault_of (code_fault.BadLetter letter) = bad_letter letter
fault_of (code_fault.LetterWantsValue letter) = letter_wants_value letter
fault_of (code_fault.UnknownWord text) = unknown_word text.now
fault_of (code_fault.AmbiguousWord text) = ambiguous_word text.now
fault_of (code_fault.WordTakesNone option) = word_takes_none option
fault_of (code_fault.WordWantsValue option) = word_wants_value option

abbrev pub item_of : CodeItem → Item
item_of (code_item.Plain switch) = plain switch
item_of (code_item.WithValue valued text) = with_value valued text.now
item_of (code_item.Operand text) = operand text.now
item_of (code_item.Refused why) = fault (fault_of why)

abbrev pub items_of : List CodeItem → List Item
items_of list = map item_of list

abbrev pub step_of : CodeStep → Read
step_of (code_step.Ready item) = only (item_of item)
step_of (code_step.Waits waiting) = record { items = []; waiting = Some waiting }
