-- What --showconfig tells: the lines of the configuration, kind by kind, and the lines of the indexes.
use Rattle.std.specs.Prelude.{ℕ, Bool, true, false, if◌then◌else◌, ◌==◌, nat_lt, List, [], ◌∷◌, ◌++◌, length, fold, codes}
use Rattle.std.specs.List.{flat_map}
use Rattle.kmod_names.specs.declared.alias_table.AliasEntry.{AliasEntry}
use Rattle.kmod_conf.specs.declared.line.NameLine.{NameLine}
use Rattle.kmod_conf.specs.declared.line.SoftdepLine.{SoftdepLine}
use Rattle.kmod_conf.specs.declared.line.TextLine.{TextLine}
use Rattle.kmod_conf.specs.declared.line.WeakdepLine.{WeakdepLine}
use Rattle.kmod_index.specs.Indexes.{Indexes}
use Rattle.kmod_index.specs.Lines.{Keyed}
use Rattle.kmod_conf.specs.Configuration.{Configuration}
use Rattle.kmod_query.specs.Lines.{joined, line}

abbrev pub blacklist_line : NameLine → List ℕ
blacklist_line own = codes "blacklist " ++ own.name ++ (10 ∷ [])

abbrev pub text_line : List ℕ → TextLine → List ℕ
text_line verb own = line verb own.name own.text

abbrev pub alias_line : AliasEntry → List ℕ
alias_line own = line (codes "alias ") own.pattern own.target

-- words, each after a blank
abbrev pub spaced : List (List ℕ) → List ℕ
spaced words = flat_map (λ word. 32 ∷ word) words

-- a mark and the words after it, if there are any
abbrev pub marked : List ℕ → List (List ℕ) → List ℕ
marked mark words = if length words == 0 then [] else mark ++ spaced words

-- with a blank between them if there are both
abbrev pub soft_items : List ℕ → List ℕ → List ℕ
soft_items pre post = if length post == 0 then pre else joined pre post

abbrev pub softdep_line : SoftdepLine → List ℕ
softdep_line own =
    line (codes "softdep ") own.name (soft_items (marked (codes "pre:") own.items.pre) (marked (codes "post:") own.items.post))

-- words with a blank between each two
abbrev pub joined_words : List (List ℕ) → List ℕ
joined_words words = fold joined [] words

abbrev pub weakdep_line : WeakdepLine → List ℕ
weakdep_line own = line (codes "weakdep ") own.name (joined_words own.items)

-- the lines of the configuration, kind by kind
abbrev pub shown_configuration : Configuration → List ℕ
shown_configuration conf =
    flat_map blacklist_line conf.blacklist
    ++ flat_map (text_line (codes "install ")) conf.installs
    ++ flat_map (text_line (codes "remove ")) conf.removes
    ++ flat_map alias_line conf.aliases
    ++ flat_map (text_line (codes "options ")) conf.options
    ++ flat_map softdep_line conf.softdeps
    ++ flat_map weakdep_line conf.weakdeps

-- whether a key comes before another, by their bytes
abbrev pub is_before : List ℕ → List ℕ → Bool
is_before key [] = false
is_before [] (other ∷ others) = true
is_before (byte ∷ key) (other ∷ others) = if byte == other then is_before key others else nat_lt byte other

-- a line put before the first one whose key its own key comes before
abbrev pub put_line : List Keyed → Keyed → List Keyed
put_line [] own = own ∷ []
put_line (line ∷ lines) own = if is_before own.key line.key then own ∷ line ∷ lines else line ∷ put_line lines own

-- lines by the bytes of their keys; those of one key keep their order
abbrev pub by_key : List Keyed → List Keyed
by_key lines = fold put_line [] lines

abbrev pub index_line : Keyed → List ℕ
index_line own = line (codes "alias ") own.key own.name

abbrev pub shown_index : List Keyed → List ℕ
shown_index lines = flat_map index_line (by_key lines)

abbrev pub heading : List ℕ
heading = codes "\n# End of configuration files. Dumping indexes now:\n\n"

-- the configuration, the lines of modules.alias, and those of modules.symbols
abbrev pub shown : Configuration → Indexes → List ℕ
shown conf indexes = shown_configuration conf ++ heading ++ shown_index indexes.aliases ++ shown_index indexes.symbols
