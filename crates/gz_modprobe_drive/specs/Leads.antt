-- What is told of what leads to names.
use Rattle.std.specs.Prelude.{◌≡◌, ℕ, true, List, Option}
use Rattle.std.specs.List.{list_all}
use Rattle.answer_facts.specs.declared.fact.Fact.{Fact}
use Rattle.modprobe_words.specs.declared.form.Form.{Form}
use Rattle.answer_facts.specs.Shown.{is_shown}
use Rattle.gz_modprobe_drive.specs.Formed.{AreWritten, lines_by}

-- a text is the lines of facts, and can be shown
pub record AreLines (form : Form) (text : List ℕ) : Type 0 where
  pub facts : List Fact
  pub are : text ≡ lines_by form facts
  pub shown : list_all is_shown text ≡ true

-- facts were written
pub record WasTold (form : Form) (before after : Option (List ℕ)) : Type 0 where
  pub facts : List Fact
  pub written : AreWritten form facts before after
