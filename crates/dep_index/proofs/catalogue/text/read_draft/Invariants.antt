use Rattle.std.proofs.Common.{◌≡◌, ◌≤◌, ◌+◌, length}
use Rattle.std.specs.Str.Lines.{lines}
use Rattle.dep_index.specs.Catalogue.{read_lines, no_draft}
use Rattle.dep_index.specs.Catalogue.Drafts.{draft_in, IsSound}
use Rattle.dep_index.proofs.catalogue.text.read_draft.Given as goal

-- the lines that are left go on from the draft
abbrev pub invariant-loop-line : goal.invariant-loop-line
invariant-loop-line l = record {
  same : read_lines l.number (draft_in l.draft) l.lines ≡ read_lines 1 no_draft (lines l.fn.text);
  sound : IsSound l.draft;
  few : l.number + length l.lines ≤ length l.fn.text + 1;
}

abbrev pub decreases-loop-line : goal.decreases-loop-line
decreases-loop-line l = length l.lines
