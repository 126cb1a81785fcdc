use Rattle.std.proofs.Common.{◌≡◌, take}
use Rattle.std.specs.List.{flat_map}
use Rattle.text_parts.specs.Text.{texts_of}
use Rattle.answer_facts.specs.Plan.{plan_line}
use Rattle.answer_facts.proofs.plan.part_lines.Given as goal

abbrev pub invariant-loop-part : goal.invariant-loop-part
invariant-loop-part l = l.lines.items ≡ flat_map (plan_line l.origin) (texts_of (take l.part-index l.parts))
