-- What was written of facts, if writes may fail.
use Rattle.std.specs.Prelude.{◌≢◌, ℕ, List, Option}
use Rattle.answer_facts.specs.declared.fact.Fact.{Fact}
use Rattle.modprobe_words.specs.declared.form.Form.{Form}
use Rattle.modprobe_words.specs.Begun.{IsBegun}
use Rattle.gz_modprobe_drive.specs.Formed.{lines_by}

-- a beginning of the lines of some facts was written
pub record AreBegun (form : Form) (before after : Option (List ℕ)) : Type 0 where
  pub facts : List Fact
  pub begun : IsBegun before after (lines_by form facts)

-- if anything was written, it is such a beginning
abbrev pub WritesFacts : Form → Option (List ℕ) → Option (List ℕ) → Type 0
WritesFacts form before after = after ≢ before → AreBegun form before after
