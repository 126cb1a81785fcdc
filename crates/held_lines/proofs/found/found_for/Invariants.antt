use Rattle.std.proofs.Common.{◌≡◌, ◌<◌, ℕ, drop, length, All}
use Rattle.text_parts.specs.Text.{texts_of}
use Rattle.held_lines.specs.Found.{add_words, found_for}
use Rattle.held_lines.proofs.found.found_for.Given as goal

-- the words that are left come to what all come to
abbrev pub invariant-loop-word : goal.invariant-loop-word
invariant-loop-word l = record {
  left : add_words l.setup l.slots.items (texts_of (drop l.word-index l.words)) ≡ found_for l.setup (texts_of l.words);
  within : All (λ (slot : ℕ). slot < length l.setup.catalogue) l.slots.items;
}
