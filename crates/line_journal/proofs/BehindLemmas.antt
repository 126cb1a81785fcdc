-- What stands behind lines that were read before.
use Rattle.std.proofs.Common.{◌≡◌, ℕ, ◌+◌, ◌≤◌, List, [], ◌++◌, length, take, drop, refl, sym, ◌∙◌, ap, subst, arith, append_assoc, length-append, take-append-drop}
use Rattle.std.proofs.lemmas.List.{append-nil, length-take-le, take_at, take-append-le, drop-drop}
use Rattle.std.proofs.lemmas.List.Elements.{All-take}
use Rattle.line_journal.specs.Lines.{lines_of, open_text, behind, IsLine, AreLines, IsWhole, StandsWithFirstOf}
use Rattle.line_journal.proofs.ByteLemmas.{take_past}
use Rattle.line_journal.proofs.LineLemmas.{open_text-append, lines_of-open_text, parts}

module _ (file : List ℕ) (from : ℕ) (within : from ≤ length file) (whole : IsWhole (take from file)) where
  abbrev known : List (List ℕ)
  known = lines_of (take from file)

  split : file ≡ open_text known ++ drop from file
  split = sym (take-append-drop from file) ∙ ap (λ (l : List ℕ). l ++ drop from file) whole

  pub lines_behind : lines_of file ≡ known ++ lines_of (drop from file)
  lines_behind = ap lines_of split ∙ lines_of-open_text known (drop from file) (parts (take from file)).are_lines

  texts : open_text (lines_of file) ≡ open_text known ++ open_text (lines_of (drop from file))
  texts = ap open_text lines_behind ∙ open_text-append known (lines_of (drop from file))

  pub end_behind : (end : ℕ) → end ≡ length (open_text (lines_of (drop from file))) → end + from ≡ length (open_text (lines_of file))
  end_behind end is =
      omega (arith, is, within, ap length texts, length-append (open_text known) (open_text (lines_of (drop from file))), ap length whole, length-take-le from file within)

  pub same_behind : behind (drop from file) ≡ behind file
  same_behind =
      let rest = drop from file in
      let size : from + length (open_text (lines_of rest)) ≡ length (open_text (lines_of file)) = omega (arith, ap length texts, length-append (open_text known) (open_text (lines_of rest)), ap length whole, length-take-le from file within) in
      drop-drop (length (open_text (lines_of rest))) from file ∙ ap (λ (n : ℕ). drop n file) size

-- lines that were read before still stand at the front, whatever was added: what `peek_from` requires
pub record ReadBefore (file : List ℕ) (lines : List (List ℕ)) (end : ℕ) : Type 0 where
  pub within : end ≤ length file
  pub whole : IsWhole (take end file)
  pub same : lines_of (take end file) ≡ lines

pub read_before : (file : List ℕ) (lines added : List (List ℕ)) (end : ℕ) → lines_of file ≡ lines ++ added → end ≡ length (open_text lines) → ReadBefore file lines end
read_before file lines added end is is_end =
    let rest = open_text added ++ (parts file).end in
    let are : AreLines lines = subst AreLines (take_at lines added (length lines) refl) (All-take IsLine (length lines) (lines ++ added) (subst AreLines is (parts file).are_lines)) in
    let split_ : file ≡ open_text lines ++ rest =
    (parts file).split
    ∙ ap (λ (ls : List (List ℕ)). open_text ls ++ (parts file).end) is
    ∙ ap (λ (l : List ℕ). l ++ (parts file).end) (open_text-append lines added)
    ∙ append_assoc (open_text lines) (open_text added) (parts file).end in
    let front : take end file ≡ open_text lines = ap (λ (l : List ℕ). take end l) split_ ∙ take_at (open_text lines) rest end (sym is_end) in
    let same : lines_of (take end file) ≡ lines = ap lines_of (front ∙ sym (append-nil (open_text lines))) ∙ lines_of-open_text lines [] are ∙ append-nil lines in
    record {
      within = omega (arith, is_end, ap length split_, length-append (open_text lines) rest);
      whole = front ∙ ap open_text (sym same);
      same = same;
    }

-- over many groups: a beginning of one of them, behind those that are done, is a beginning of all
pub beginning_of_all : (old done group later : List (List ℕ)) (c : List ℕ) → StandsWithFirstOf (old ++ done) group c → StandsWithFirstOf old (done ++ (group ++ later)) c
beginning_of_all old done group later c one = (
  length done + one.0,
  omega (arith, one.1, length-append done (group ++ later), length-append group later),
  one.2
      ∙ append_assoc old done (take one.0 group)
      ∙ ap (λ (ls : List (List ℕ)). old ++ ls) (sym (take_past done (group ++ later) (length done + one.0) one.0 refl ∙ ap (λ (ls : List (List ℕ)). done ++ ls) (take-append-le one.0 group later one.1))),
)
