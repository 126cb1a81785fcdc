use Rattle.std.proofs.Common.{rules, tests}
use Rattle.std.proofs.lemmas.Iterator.{YieldsList-from_slice}
use Rattle.std.proofs.lemmas.Iterator.Search.{any_from_yields_List}
use Rattle.gz_modprobe_drive.specs.Masks.{is_empty_of}
use Rattle.gz_modprobe_drive.proofs.masks.is_empty_at.Goals as goal

pub returns : goal.returns
returns c =
    any_from_yields_List (is_empty_of c.args.path.now) _ _ c.any.result c.any.ensures.ran
    (YieldsList-from_slice _ c.iter.ensures.rest) (λ x b q k. search (rules, tests))
