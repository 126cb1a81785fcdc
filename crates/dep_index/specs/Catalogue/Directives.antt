-- The directives of the program, as those of the definitions.
use Rattle.text_parts.specs.Text.{texts_of}
use Rattle.dep_index.specs.Catalogue as spec
use Rattle.dep_index.specs.declared.catalogue.directives.Directive.{Directive}
use Rattle.dep_index.specs.declared.catalogue.directives.Directive.TheVariants.{Version, Module, Size, Exports, Needs, Softneeds, Param, Permanent, End}

-- a directive of the program, as one of the definitions
abbrev pub directive_in : Directive → spec.Directive
directive_in (Version version) = spec.version version
directive_in (Module name) = spec.begin name
directive_in (Size n) = spec.size n
directive_in (Exports symbols) = spec.exports (texts_of symbols.now)
directive_in (Needs symbols) = spec.needs (texts_of symbols.now)
directive_in (Softneeds names) = spec.softneeds names.items
directive_in (Param name kind) = spec.param name kind
directive_in Permanent = spec.permanent
directive_in (End n) = spec.end n
