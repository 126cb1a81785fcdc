-- Facts in the form that is asked for.
use Rattle.std.specs.Prelude.{◌≡◌, ℕ, true, List, Option, unwrap_or}
use Rattle.std.specs.Io.KnownBytes.{Appends}
use Rattle.std.specs.List.{list_all}
use Rattle.answer_facts.specs.declared.fact.Fact.{Fact}
use Rattle.answer_facts.specs.Facts.{json_lines, text_lines}
use Rattle.answer_facts.specs.Shown.{is_shown}
use Rattle.modprobe_words.specs.declared.form.Form.{Form}
use Rattle.modprobe_words.specs.declared.form.Form.TheVariants.{Json, Text}

-- text, unless --explain or --lint has another form
abbrev pub form_by : Option Form → Form
form_by explain = unwrap_or explain Text

-- the same facts, whatever the form
abbrev pub lines_by : Form → List Fact → List ℕ
lines_by Text facts = text_lines facts
lines_by Json facts = json_lines facts

-- standard output has grown by facts, as lines for people or in JSON
pub record AreWritten (form : Form) (facts : List Fact) (before after : Option (List ℕ)) : Type 0 where
  pub lines : List ℕ
  pub are : lines ≡ lines_by form facts
  pub shown : list_all is_shown lines ≡ true
  pub written : Appends before after lines
