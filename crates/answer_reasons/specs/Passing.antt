-- Why an install line does not count for a module that it is the line of (modprobe(8), modprobe.d(5)).
use Rattle.std.specs.Prelude.{Bool, if◌then◌else◌}
use Rattle.answer_facts.specs.declared.line_fact.Passed.{Passed}
use Rattle.answer_facts.specs.declared.line_fact.Passed.TheVariants.{ByOption, BySoftItems, Never}

-- -i passes the line of a module of the query over, and soft items pass over that of theirs
abbrev pub passed_by : Bool → Bool → Passed
passed_by bare has_soft = if bare then ByOption else (if has_soft then BySoftItems else Never)
