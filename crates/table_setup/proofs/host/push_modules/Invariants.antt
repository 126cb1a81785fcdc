use Rattle.std.proofs.Common.{◌≡◌, ◌++◌, take}
use Rattle.std.specs.List.{flat_map}
use Rattle.table_setup.specs.Host.{module_lines}
use Rattle.table_setup.proofs.host.push_modules.Given as goal

-- the modules so far stand behind what was there
abbrev pub invariant-loop-line : goal.invariant-loop-line
invariant-loop-line l = l.text.items ≡ l.fn.text.items ++ flat_map module_lines (take l.line-index l.lines)
