-- What is believed of a file after others had it.
use Rattle.std.specs.Prelude.{⊤, ◌≢◌, ℕ, List}
use Rattle.line_journal.specs.Renewed.{IsRenewed}
use Rattle.line_journal.specs.declared.renewable.Renewed.{Renewed}
use Rattle.line_journal.specs.declared.renewable.Renewed.TheVariants.{Same, Longer, Other}
use Rattle.file_journal.specs.Belief.{history_of, MayBeAnything}
use Rattle.file_journal.specs.declared.belief.Belief.{Belief}

-- of a file that is told to be longer: it has other bytes
abbrev pub IsOther : List ℕ → List ℕ → Renewed → Type 0
IsOther old new Same = ⊤
IsOther old new Longer = new ≢ old
IsOther old new Other = ⊤

-- The file was looked at, so nobody knows what a crash leaves.
pub record IsRenewedTo (kept : ℕ) (old new : Belief) (renewed : Renewed) : Type 0 where
  pub reads : IsRenewed kept old.bytes.items new.bytes.items renewed
  pub other : IsOther old.bytes.items new.bytes.items renewed
  pub unknown : MayBeAnything (history_of new)
