-- The lines of a configuration that have no effect, and why.
use Rattle.std.specs.Prelude.{ℕ, nat_lt, Bool, ◌||◌, if◌then◌else◌, List, [], ◌∷◌, length, codes}
use Rattle.std.specs.Str.{bytes_eq}
use Rattle.std.specs.Str.Lines.{lines}
use Rattle.alias_match.specs.declared.idle.NoEffect.{NoEffect}
use Rattle.alias_match.specs.declared.idle.NoEffect.TheVariants.{UnknownWord, FewWords, BadPattern}
use Rattle.alias_match.specs.declared.idle.IdleLine.{IdleLine}
use Rattle.alias_match.specs.Idle.{idle_lines}
use Rattle.modprobe_conf.specs.Configuration.{joined_lines, entry_of}

-- a word that a line other than an alias may begin with
abbrev pub is_line_word : List ℕ → Bool
is_line_word w =
    bytes_eq w (codes "blacklist") || bytes_eq w (codes "install") || bytes_eq w (codes "remove") || bytes_eq w (codes "options")
    || bytes_eq w (codes "softdep")

-- why words that are no entry are none: an alias has fewer than three words, or else its pattern is refused; another line has too few
-- words, or else its first word is unknown
abbrev pub why_no_entry : List (List ℕ) → NoEffect
why_no_entry [] = FewWords
why_no_entry (w ∷ ws) =
    if bytes_eq w (codes "alias") then (if nat_lt (length ws) 2 then FewWords else BadPattern)
    else (if is_line_word w then FewWords else UnknownWord)

-- the lines of a configuration text that have no effect, each with the number of the first that is joined in it
abbrev pub idle_settings : List ℕ → List IdleLine
idle_settings text = idle_lines entry_of why_no_entry (joined_lines 1 (lines text))
