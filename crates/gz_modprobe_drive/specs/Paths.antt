-- Which words are paths of modules' files (modprobe(8), since kmod 31).
use Rattle.std.specs.Prelude.{ℕ, Bool, ◌&&◌, ◌||◌, if◌then◌else◌, List, [], codes, filter, map, nat_eq, take}
use Rattle.std.specs.List.{starts_with}
use Rattle.text_parts.specs.Text.{texts_of}
use Rattle.kmod_version.specs.declared.kmod.Kmod.{Kmod}
use Rattle.kmod_version.specs.Versions.{takes_paths}
use Rattle.kmod_query.specs.declared.paths.PathWord.{PathWord}
use Rattle.kmod_query.specs.declared.query.Query.{Query}
use Rattle.kmod_query.specs.Early.{loads}

-- a word that begins with `/` or `./`, for a kmod that takes paths
abbrev pub is_path : Kmod → List ℕ → Bool
is_path kmod word = takes_paths kmod && (starts_with nat_eq word (codes "/") || starts_with nat_eq word (codes "./"))

-- the words that are loaded or resolved: all under --all, and else the first
abbrev pub names_of : Query → List (List ℕ)
names_of query =
    if loads query.ask then texts_of (if query.all then query.words.now else take 1 query.words.now) else []

-- those of them that are paths
abbrev pub paths_of : Kmod → Query → List (List ℕ)
paths_of kmod query = filter (is_path kmod) (names_of query)

-- the words of which it is known what stands there
abbrev pub words_of : List PathWord → List (List ℕ)
words_of paths = map (λ own. own.word) paths
