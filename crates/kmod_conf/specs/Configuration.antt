-- What a configuration says, line by line: modprobe.d(5) as libkmod reads it.
use Rattle.std.specs.Prelude.{ℕ, if◌then◌else◌, ◌==◌, ◌&&◌, List, [], ◌∷◌, ◌++◌, codes, map, Option, Some, None, option_map}
use Rattle.std.specs.Option.{unwrap_or}
use Rattle.std.specs.Str.{bytes_eq}
use Rattle.text_parts.specs.Text.{is_comment}
use Rattle.kmod_names.specs.declared.alias_table.AliasEntry.{AliasEntry}
use Rattle.kmod_names.specs.declared.place.Place.{Place}
use Rattle.kmod_names.specs.Names.{normal_alias}
use Rattle.kmod_version.specs.declared.kmod.Kmod.{Kmod}
use Rattle.kmod_version.specs.Versions.{knows_weakdeps}
use Rattle.kmod_conf.specs.declared.line.NameLine.{NameLine}
use Rattle.kmod_conf.specs.declared.line.TextLine.{TextLine}
use Rattle.kmod_conf.specs.declared.line.SoftdepLine.{SoftdepLine}
use Rattle.kmod_conf.specs.declared.line.WeakdepLine.{WeakdepLine}
use Rattle.kmod_conf.specs.declared.entry.Entry.{Entry}
use Rattle.kmod_conf.specs.declared.entry.Entry.TheVariants.{Alias, Blacklist, Options, Install, Remove, Softdep, Weakdep, Bad}
use Rattle.kmod_conf.specs.Lines.{Wrapped, line_text, rest_of, soft_words, weak_words, word_of, wrapped_lines}

-- the lines of each kind in the order of the texts; of bad lines their first words, and the places of their ends
pub record Configuration : Type 0 where
  pub aliases : List AliasEntry
  pub blacklist : List NameLine
  pub options : List TextLine
  pub installs : List TextLine
  pub removes : List TextLine
  pub softdeps : List SoftdepLine
  pub weakdeps : List WeakdepLine
  pub bad : List NameLine

abbrev pub no_lines : Configuration
no_lines =
    record { aliases = []; blacklist = []; options = []; installs = []; removes = []; softdeps = []; weakdeps = []; bad = [] }

-- the normal form of a word; none is there if there is no word
abbrev pub name_of_word : List ℕ → Option (List ℕ)
name_of_word [] = None
name_of_word (byte ∷ rest) = normal_alias (byte ∷ rest)

abbrev pub alias_by : Place → Option (List ℕ) → Option (List ℕ) → Option Entry
alias_by place None target = None
alias_by place (Some pattern) None = None
alias_by place (Some pattern) (Some target) = Some (Alias (record { pattern = pattern; target = target; place = place }))

-- an alias line has a pattern and a name
abbrev pub alias_entry : Place → List ℕ → Option Entry
alias_entry place text = alias_by place (name_of_word (word_of text)) (name_of_word (word_of (rest_of text)))

abbrev pub blacklist_entry : Place → List ℕ → Option Entry
blacklist_entry place text = option_map (λ name. Blacklist (record { name = name; place = place })) (name_of_word (word_of text))

abbrev pub text_line_by : Place → Option (List ℕ) → List ℕ → Option TextLine
text_line_by place None rest = None
text_line_by place (Some name) [] = None
text_line_by place (Some name) (byte ∷ rest) = Some (record { name = name; text = byte ∷ rest; place = place })

-- a name, and the text after it as it stands, which is not empty
abbrev pub text_line : Place → List ℕ → Option TextLine
text_line place text = text_line_by place (name_of_word (word_of text)) (rest_of text)

-- a blank for a tab
abbrev pub untabbed : ℕ → ℕ
untabbed byte = if byte == 9 then 32 else byte

abbrev pub options_entry : Place → List ℕ → Option Entry
options_entry place text =
    option_map (λ line. Options (record { name = line.name; text = map untabbed line.text; place = line.place })) (text_line place text)

abbrev pub install_entry : Place → List ℕ → Option Entry
install_entry place text = option_map (λ line. Install line) (text_line place text)

abbrev pub remove_entry : Place → List ℕ → Option Entry
remove_entry place text = option_map (λ line. Remove line) (text_line place text)

abbrev pub softdep_entry : Place → List ℕ → Option Entry
softdep_entry place text =
    option_map (λ line. Softdep (record { name = line.name; items = soft_words line.text; place = line.place })) (text_line place text)

abbrev pub weakdep_entry : Place → List ℕ → Option Entry
weakdep_entry place text =
    option_map (λ line. Weakdep (record { name = line.name; items = weak_words line.text; place = line.place })) (text_line place text)

-- a line of weak dependencies is a bad one if they are not known
abbrev pub dependency_entry : Kmod → Place → List ℕ → List ℕ → Option Entry
dependency_entry kmod place w text =
    if bytes_eq w (codes "softdep") then softdep_entry place text
    else (if bytes_eq w (codes "weakdep") && knows_weakdeps kmod then weakdep_entry place text else None)

abbrev pub command_entry : Kmod → Place → List ℕ → List ℕ → Option Entry
command_entry kmod place w text =
    if bytes_eq w (codes "install") then install_entry place text
    else (if bytes_eq w (codes "remove") then remove_entry place text else dependency_entry kmod place w text)

-- what a line with this first word and this text after it says; none is a bad line
abbrev pub known_entry : Kmod → Place → List ℕ → List ℕ → Option Entry
known_entry kmod place w text =
    if bytes_eq w (codes "alias") then alias_entry place text
    else (if bytes_eq w (codes "blacklist") then blacklist_entry place text
    else (if bytes_eq w (codes "options") then options_entry place text else command_entry kmod place w text))

abbrev pub words_entry : Kmod → Place → Place → List ℕ → List ℕ → Option Entry
words_entry kmod place end [] text = None
words_entry kmod place end (byte ∷ w) text =
    Some (unwrap_or (known_entry kmod place (byte ∷ w) text) (Bad (record { name = byte ∷ w; place = end })))

-- what a line says, up to its first NUL; none is a comment or a line without a word. A bad line is told by its end.
abbrev pub text_entry : Kmod → Place → Place → List ℕ → Option Entry
text_entry kmod place end text = if is_comment text then None else words_entry kmod place end (word_of text) (rest_of text)

abbrev pub line_entry : Kmod → Place → Place → List ℕ → Option Entry
line_entry kmod place end line = text_entry kmod place end (line_text line)

-- a line more
abbrev pub with_entry : Configuration → Entry → Configuration
with_entry conf (Alias line) = record conf { aliases = conf.aliases ++ line ∷ [] }
with_entry conf (Blacklist line) = record conf { blacklist = conf.blacklist ++ line ∷ [] }
with_entry conf (Options line) = record conf { options = conf.options ++ line ∷ [] }
with_entry conf (Install line) = record conf { installs = conf.installs ++ line ∷ [] }
with_entry conf (Remove line) = record conf { removes = conf.removes ++ line ∷ [] }
with_entry conf (Softdep line) = record conf { softdeps = conf.softdeps ++ line ∷ [] }
with_entry conf (Weakdep line) = record conf { weakdeps = conf.weakdeps ++ line ∷ [] }
with_entry conf (Bad line) = record conf { bad = conf.bad ++ line ∷ [] }

abbrev pub with_found : Configuration → Option Entry → Configuration
with_found conf None = conf
with_found conf (Some entry) = with_entry conf entry

-- where a line of a source stands
abbrev pub place_in : ℕ → ℕ → Place
place_in source number = record { source = source; line = number }

-- the lines of a source
abbrev pub with_lines : Kmod → Configuration → ℕ → List Wrapped → Configuration
with_lines kmod conf source [] = conf
with_lines kmod conf source (line ∷ lines) =
    with_lines kmod (with_found conf (line_entry kmod (place_in source line.first) (place_in source line.last) line.text)) source lines

-- a text more, as this version of kmod reads it
unfoldable pub conf_with_text : Kmod → Configuration → ℕ → List ℕ → Configuration
conf_with_text kmod conf source text = with_lines kmod conf source (wrapped_lines kmod text)
