-- Why names of a folder of the configuration are not read (modprobe.d(5)).
use Rattle.std.specs.Prelude.{ℕ, nat_eq, if◌then◌else◌, List, codes, Option, Some, None}
use Rattle.std.specs.List.{starts_with}
use Rattle.kmod_version.specs.declared.kmod.Kmod.{Kmod}
use Rattle.modprobe_files.specs.Files.{is_read}
use Rattle.modprobe_files.specs.declared.system.Kind.{Kind}
use Rattle.modprobe_files.specs.declared.system.Kind.TheVariants as kinds
use Rattle.answer_facts.specs.declared.file_fact.Unread.{Unread}
use Rattle.answer_facts.specs.declared.file_fact.Unread.TheVariants.{Dotted, OtherEnding, Folder, LeadsNowhere}

-- a name that is not one of a file to be read begins with a dot, or ends otherwise
abbrev pub unread_name : List ℕ → Unread
unread_name name = if starts_with nat_eq name (codes ".") then Dotted else OtherEnding

-- Why a name is not read, by what it leads to. None is for a file that is read, or gives way to one of its name.
abbrev pub unread_by : Kmod → List ℕ → Kind → Option Unread
unread_by kmod name kinds.Folder = Some Folder
unread_by kmod name kinds.Nothing = Some (if is_read kmod name then LeadsNowhere else unread_name name)
unread_by kmod name kinds.File = if is_read kmod name then None else Some (unread_name name)
