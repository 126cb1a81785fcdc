-- The sections of a new table, of a machine's texts.
use Rattle.std.specs.Prelude.{ℕ, List, ◌++◌}
use Rattle.std.specs.List.{flat_map}
use Rattle.modprobe.specs.declared.section.Section.TheVariants.{Catalogue, Dep, Alias, Conf}
use Rattle.modprobe_files.specs.declared.texts.TextFile.{TextFile}
use Rattle.session_files.specs.Inputs.{section_text}
use Rattle.table_setup.specs.Host.{host_catalogue}

abbrev pub conf_section : TextFile → List ℕ
conf_section file = section_text Conf file.text.items

-- the catalogue that modules.dep makes, modules.dep, modules.alias, and each file of the configuration in its order
abbrev pub machine_sections : List ℕ → List ℕ → List TextFile → List ℕ
machine_sections dep alias files =
    section_text Catalogue (host_catalogue dep) ++ section_text Dep dep ++ section_text Alias alias ++ flat_map conf_section files
