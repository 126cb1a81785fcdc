-- A file that others have written to meanwhile, and its journal.
use Rattle.std.specs.Prelude.{◌≡◌, ℕ, ◌+◌, ◌<◌, ◌≤◌, ◌^◌, List, ◌++◌, length, take}
use Rattle.line_journal.specs.Lines.{lines_of, open_text, at_rest, bytes_of}
use Rattle.line_journal.specs.declared.journal.Journal.{Journal}
use Rattle.line_journal.specs.declared.renewable.Renewed.{Renewed}
use Rattle.line_journal.specs.declared.renewable.Renewed.TheVariants.{Same, Longer, Other}
use Rattle.line_journal.specs.declared.following.Followed.{Followed}
use Rattle.line_journal.specs.declared.following.Followed.TheVariants.{AtRest, Anew}

-- The first bytes of a file are there still.
pub record StaysTo (kept : ℕ) (old new : List ℕ) : Type 0 where
  pub within : kept ≤ length new
  pub front : take kept new ≡ take kept old

-- what a file reads that was renewed: the same; the same first bytes; or others
abbrev pub IsRenewed : ℕ → List ℕ → List ℕ → Renewed → Type 0
IsRenewed kept old new Same = new ≡ old
IsRenewed kept old new Longer = StaysTo kept old new
IsRenewed kept old new Other = StaysTo kept old new → ⊥

-- The file reads as one at rest: its lines, and a closed gate at `end`. It may not be on the disk yet.
pub record ReadsAtRest (file : List ℕ) (end : ℕ) : Type 0 where
  pub whole : file ≡ at_rest (lines_of file)
  pub ends : end ≡ length (open_text (lines_of file))
  pub fits : end + 1 < 2 ^ 64

-- the journal's file reads as one at rest
abbrev pub IsRead : {D : Type 0} → (D → List ℕ) → Journal D → Type 0
IsRead content journal = ReadsAtRest (content journal.device) journal.end

-- The new file reads as one at rest, and has these lines more than the old one.
pub record Continues (old new : List ℕ) (added : List (List ℕ)) : Type 0 where
  pub end : ℕ
  pub rests : ReadsAtRest new end
  pub more : lines_of new ≡ lines_of old ++ added

-- The file reads as one at rest, with these lines more than before; or with none does it read so.
abbrev pub IsFollowed : {D : Type 0} → (D → List ℕ) → Journal D → Journal D → Followed → Type 0
IsFollowed content old new (AtRest lines) =
    IsRead content new × (lines_of (content new.device) ≡ lines_of (content old.device) ++ bytes_of lines.items)
IsFollowed content old new Anew = (added : List (List ℕ)) → Continues (content old.device) (content new.device) added → ⊥

-- The file reads as one at rest, with these lines behind those of its first bytes; or it does not read as one at rest.
abbrev pub IsAdded : {D : Type 0} → (D → List ℕ) → Journal D → Journal D → Followed → Type 0
IsAdded content old new (AtRest lines) =
    IsRead content new × (lines_of (content new.device) ≡ lines_of (take old.end (content old.device)) ++ bytes_of lines.items)
IsAdded content old new Anew = (end : ℕ) → ReadsAtRest (content new.device) end → ⊥
