-- What a long word stands for, in getopt_long's manner (getopt_long(3)).
use Rattle.std.specs.Prelude.{ℕ, Bool, ◌==◌, not, ◌&&◌, ◌||◌, if◌then◌else◌, List, find, nat_eq, Option, Some, None}
use Rattle.std.specs.List.{list_all, starts_with}
use Rattle.std.specs.Str.{bytes_eq}
use Rattle.modprobe_words.specs.declared.options.LongOption.{LongOption}
use Rattle.modprobe_words.specs.declared.found.Found.{Found}
use Rattle.modprobe_words.specs.declared.found.Found.TheVariants.{One, Ambiguous, Unknown}
use Rattle.modprobe_words.specs.Options.{kind_of, may_be_cut, meaning_of, word_of, long_options}

abbrev pub is_exact : List ℕ → LongOption → Bool
is_exact word option = bytes_eq (word_of option) word

-- the word is a beginning of the option's that may stand for it
abbrev pub is_near : List ℕ → LongOption → Bool
is_near word option = may_be_cut option && starts_with nat_eq (word_of option) word

-- an option that the word may stand for means the same as another
abbrev pub is_alike : List ℕ → LongOption → LongOption → Bool
is_alike word other option =
    not (is_near word option) || kind_of (meaning_of option) == kind_of (meaning_of other)

abbrev pub found_near : List ℕ → Option LongOption → Found
found_near word None = Unknown
found_near word (Some option) = if list_all (is_alike word option) long_options then One option else Ambiguous

abbrev pub found_else : List ℕ → Option LongOption → Found
found_else word None = found_near word (find (is_near word) long_options)
found_else word (Some option) = One option

-- An option's whole word, or a beginning of words that all mean the same.
unfoldable pub found_long : List ℕ → Found
found_long word = found_else word (find (is_exact word) long_options)
