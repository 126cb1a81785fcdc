use Rattle.std.proofs.Common.{rules, tests, sym, ◌∙◌}
use Rattle.std.proofs.lemmas.Iterator.{YieldsList-from_slice}
use Rattle.std.proofs.lemmas.Iterator.Search.{any_from_yields_List}
use Rattle.modprobe_files.specs.Files.{file_of, is_named}
use Rattle.modprobe_files.proofs.FileLemmas.{list_any-map}
use Rattle.modprobe_files.proofs.files.has_name.Goals as goal

pub returns : goal.returns
returns c =
    any_from_yields_List (λ file. is_named c.args.name.now (file_of file)) _ _ c.any.result c.any.ensures.ran
    (YieldsList-from_slice _ c.iter.ensures.rest) (λ x b q k. search (rules, tests))
    ∙ sym (list_any-map (is_named c.args.name.now) file_of c.args.files.now)
