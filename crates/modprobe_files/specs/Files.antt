-- Which files of a configuration count (modprobe.d(5), and libkmod).
use Rattle.std.specs.Prelude.{ℕ, ◌-◌, Bool, true, false, not, ◌&&◌, ◌||◌, nat_eq, nat_lt, if◌then◌else◌, List, [], ◌∷◌, ◌++◌, length, drop, codes, map, filter, fold, insert}
use Rattle.std.specs.Cmp.Lexicographic.{slice_cmp}
use Rattle.std.specs.Ordering.{is_lt, nat_cmp}
use Rattle.std.specs.List.{flat_map, list_any, position_or_len, starts_with}
use Rattle.std.specs.Str.{bytes_eq}
use Rattle.program_frame.specs.Folders.{counts}
use Rattle.kmod_version.specs.declared.kmod.Kmod.{Kmod}
use Rattle.kmod_version.specs.Versions.{counts_dangling_links, reads_alias_files}
use Rattle.modprobe_files.specs.declared.files.File.{File as CodeFile}
use Rattle.modprobe_files.specs.declared.files.Name.{Name as CodeName}
use Rattle.modprobe_files.specs.declared.files.Source.{Source as CodeSource}
use Rattle.modprobe_files.specs.declared.files.Source.TheVariants as code_source
use Rattle.modprobe_files.specs.declared.system.Kind.{Kind}
use Rattle.modprobe_files.specs.declared.system.Kind.TheVariants as kinds

-- a file, and the name by which it stands for others of this name
pub record File : Type 0 where
  pub name : List ℕ
  pub path : List ℕ

-- a name of a folder, and what it leads to, through links
pub record Name : Type 0 where
  pub text : List ℕ
  pub leads_to : Kind

-- a file of its own, or a folder with names that it holds
pub data Source : Type 0 where
  single : List ℕ → List ℕ → Source
  folder : List ℕ → List Name → Source

-- a file of a folder, as a source of its own
abbrev pub single_in : List ℕ → List ℕ → Source
single_in path name = single name (path ++ (47 ∷ name))

-- where a source lies
abbrev pub path_of : Source → List ℕ
path_of (single name path) = path
path_of (folder path names) = path

-- files of which modprobe.d(5) does not speak
abbrev pub is_alias_file : List ℕ → Bool
is_alias_file name =
    not (starts_with nat_eq name (codes ".")) && nat_lt 6 (length name) && bytes_eq (drop (length name - 6) name) (codes ".alias")

-- some kmod reads those too
abbrev pub is_read : Kmod → List ℕ → Bool
is_read kmod name = counts name || (reads_alias_files kmod && is_alias_file name)

-- a folder is no file; a dangling link is one for some kmod
abbrev pub is_file : Kmod → Kind → Bool
is_file kmod kinds.Nothing = counts_dangling_links kmod
is_file kmod kinds.Folder = false
is_file kmod kinds.File = true

-- the names of a folder that count
abbrev pub is_counted : Kmod → Name → Bool
is_counted kmod name = is_read kmod name.text && is_file kmod name.leads_to

abbrev pub file_in : List ℕ → Name → File
file_in path name = record { name = name.text; path = path ++ (47 ∷ name.text) }

abbrev pub candidates : Kmod → Source → List File
candidates kmod (single name path) = record { name = name; path = path } ∷ []
candidates kmod (folder path names) = map (file_in path) (filter (is_counted kmod) names)

abbrev pub is_named : List ℕ → File → Bool
is_named name file = bytes_eq file.name name

abbrev pub has_name : List File → List ℕ → Bool
has_name files name = list_any (is_named name) files

-- by their bytes; what ends first comes first
abbrev pub is_before : List ℕ → List ℕ → Bool
is_before name other = is_lt (slice_cmp nat_cmp name other)

-- before the first file that has a later name
abbrev pub in_order : List File → File → List File
in_order files file = insert files (position_or_len (λ other. is_before file.name other.name) files) file

-- a file of a name that is there already does not count
abbrev pub with_file : List File → File → List File
with_file files file = if has_name files file.name then files else in_order files file

-- the files that count, in the order in which they are read
abbrev pub counted : List File → List File
counted files = fold with_file [] files

-- the same of sources
abbrev pub counted_files : Kmod → List Source → List File
counted_files kmod sources = counted (flat_map (candidates kmod) sources)

-- how contracts see the code's
abbrev pub file_of : CodeFile → File
file_of f = record { name = f.name.items; path = f.path.items }

abbrev pub files_of : List CodeFile → List File
files_of files = map file_of files

abbrev pub name_of : CodeName → Name
name_of name = record { text = name.text.items; leads_to = name.leads_to }

abbrev pub names_of : List CodeName → List Name
names_of names = map name_of names

abbrev pub source_of : CodeSource → Source
source_of (code_source.Single name path) = single name.items path.items
source_of (code_source.Folder path names) = folder path.items (names_of names.items)

abbrev pub sources_of : List CodeSource → List Source
sources_of sources = map source_of sources
