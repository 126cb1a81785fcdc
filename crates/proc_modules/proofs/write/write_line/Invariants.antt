use Rattle.std.proofs.Common.{◌≡◌, ◌++◌, take, flat_map}
use Rattle.proc_modules.specs.LineText.{head_text, with_comma}
use Rattle.proc_modules.proofs.write.write_line.Given as goal

abbrev pub invariant-loop-user : goal.invariant-loop-user
invariant-loop-user l =
    l.text.items ≡ head_text l.line.name l.line.size l.line.count ++ flat_map with_comma (take l.user-index l.users)
