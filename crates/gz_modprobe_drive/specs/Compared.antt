-- What is told of two machines.
use Rattle.std.specs.Prelude.{◌≡◌, ℕ, true, List}
use Rattle.std.specs.List.{list_all}
use Rattle.answer_diff.specs.Differences.{Difference}
use Rattle.answer_facts.specs.declared.fact.Fact.{Fact}
use Rattle.answer_facts.specs.declared.origin.Origin.{Origin}
use Rattle.answer_facts.specs.Facts.{pieces_of_facts}
use Rattle.answer_facts.specs.Shown.{is_shown}
use Rattle.modprobe_words.specs.declared.form.Form.{Form}
use Rattle.gz_modprobe_drive.specs.Changes.{changes}
use Rattle.gz_modprobe_drive.specs.Formed.{lines_by}

-- a text is the lines of facts that say just what tells answers apart, and can be shown
pub record AreChanges (form : Form) (one other : Origin) (all : List Difference) (text : List ℕ) : Type 0 where
  pub facts : List Fact
  pub say : pieces_of_facts facts ≡ changes one other all
  pub are : text ≡ lines_by form facts
  pub shown : list_all is_shown text ≡ true
