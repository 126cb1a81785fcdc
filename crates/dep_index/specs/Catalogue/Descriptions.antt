-- What the program keeps of a catalogue, as descriptions.
use Rattle.std.specs.Prelude.{ℕ, List, map, Vec}
use Rattle.std.specs.declared.alloc.Global.{Global}
use Rattle.dep_index.specs.Catalogue.{Description}
use Rattle.dep_index.specs.declared.catalogue.details.Details.{Details}
use Rattle.dep_index.specs.declared.catalogue.details.Open.{Open}

-- a name and what is kept beside it, as a description
abbrev pub description_in : List ℕ → Details → Description
description_in name details =
    record {
      name = name;
      size = details.size;
      exports = details.exports;
      needed_symbols = details.needed_symbols;
      params = details.params.items;
      softneeds = details.softneeds.items;
      permanent = details.permanent;
    }

-- an entry of the index of names, as a description
abbrev pub description_of : Vec ℕ Global × Details → Description
description_of entry = description_in entry.0.items entry.1

-- the entries of the index, as descriptions in their order
abbrev pub descriptions_in : List (Vec ℕ Global × Details) → List Description
descriptions_in entries = map description_of entries

-- the module that is open, as a description
abbrev pub open_in : Open → Description
open_in open_module =
    record {
      name = open_module.name.items;
      size = open_module.size;
      exports = open_module.exports;
      needed_symbols = open_module.needed_symbols;
      params = open_module.params;
      softneeds = open_module.softneeds.items;
      permanent = open_module.permanent;
    }
