-- What stands before standard input.
use Rattle.std.specs.Prelude.{ℕ, List, ◌++◌, if◌then◌else◌, codes, Option, Some, None}
use Rattle.std.specs.Str.{bytes_eq}
use Rattle.modprobe.specs.declared.section.Section.{Section}
use Rattle.modprobe.specs.declared.section.Section.TheVariants.{Catalogue, Dep, Alias, Conf, Session}

-- the section that a word names before its `=`
abbrev pub section_named : List ℕ → Option Section
section_named name =
    if bytes_eq name (codes "catalogue") then Some Catalogue
    else (if bytes_eq name (codes "dep") then Some Dep
    else (if bytes_eq name (codes "alias") then Some Alias
    else (if bytes_eq name (codes "conf") then Some Conf else None)))

abbrev pub section_line : Section → List ℕ
section_line Catalogue = codes "%catalogue\n"
section_line Dep = codes "%dep\n"
section_line Alias = codes "%alias\n"
section_line Conf = codes "%conf\n"
section_line Session = codes "%session\n"

-- a section of a file's bytes: its line, the bytes as they are, and a line feed
abbrev pub section_text : Section → List ℕ → List ℕ
section_text section bytes = section_line section ++ bytes ++ codes "\n"
