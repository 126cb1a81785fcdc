-- What modinfo(8) tells of a module of a catalogue.
use Rattle.std.specs.Prelude.{ℕ, List, ◌++◌, flat_map, codes, decimal}
use Rattle.std.specs.List.{join_with_byte}
use Rattle.dep_index.specs.declared.catalogue.params.ParamKind.{ParamKind}
use Rattle.dep_index.specs.declared.catalogue.params.ParamKind.TheVariants.{Charp, One, Array}
use Rattle.dep_index.specs.declared.catalogue.params.Scalar.{Scalar}
use Rattle.dep_index.specs.declared.catalogue.params.Scalar.TheVariants.{Byte, Short, Ushort, Int, Uint, Long, Ulong, Ullong, Hexint, Bool, Bint, Invbool}
use Rattle.dep_index.specs.declared.catalogue.params.Param.{Param}
use Rattle.dep_index.specs.Catalogue.{Description, description_at, needs_of}
use Rattle.proc_modules.specs.Listings.{left_in, name_of, names_of, size_of}

-- a line of modinfo: the field and its colon in 16 places, then the value
abbrev pub field : List ℕ → List ℕ → List ℕ
field label value = left_in 16 label ++ (value ++ codes "\n")

-- a type of one value as a catalogue writes it
abbrev pub scalar_text : Scalar → List ℕ
scalar_text Byte = codes "byte"
scalar_text Short = codes "short"
scalar_text Ushort = codes "ushort"
scalar_text Int = codes "int"
scalar_text Uint = codes "uint"
scalar_text Long = codes "long"
scalar_text Ulong = codes "ulong"
scalar_text Ullong = codes "ullong"
scalar_text Hexint = codes "hexint"
scalar_text Bool = codes "bool"
scalar_text Bint = codes "bint"
scalar_text Invbool = codes "invbool"

-- a kind of parameter as a catalogue writes it
abbrev pub kind_text : ParamKind → List ℕ
kind_text Charp = codes "charp"
kind_text (One scalar) = scalar_text scalar
kind_text (Array scalar) = scalar_text scalar ++ codes "[]"

abbrev pub param_line : Param → List ℕ
param_line param = field (codes "parm:") (param.name ++ (codes ":" ++ kind_text param.kind))

abbrev pub depends_line : List Description → ℕ → List ℕ
depends_line catalogue slot = field (codes "depends:") (join_with_byte 44 (names_of catalogue (needs_of catalogue slot)))

abbrev pub modinfo_text : List Description → ℕ → List ℕ
modinfo_text catalogue slot =
    field (codes "name:") (name_of catalogue slot)
    ++ (field (codes "size:") (decimal (size_of catalogue slot))
    ++ (depends_line catalogue slot
    ++ flat_map param_line (description_at catalogue slot).params))
