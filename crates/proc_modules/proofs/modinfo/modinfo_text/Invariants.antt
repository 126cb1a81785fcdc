use Rattle.std.proofs.Common.{◌≡◌, ◌++◌, take, flat_map}
use Rattle.proc_modules.specs.Details.{param_line}
use Rattle.proc_modules.proofs.modinfo.modinfo_text.Given as goal

abbrev pub invariant-loop-param : goal.invariant-loop-param
invariant-loop-param l =
    l.text.items ≡ l.initial.text.items ++ flat_map param_line (take l.param-index l.params)
