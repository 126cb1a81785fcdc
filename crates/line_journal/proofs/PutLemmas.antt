-- What a crash leaves while lines are put behind a file at rest.
use Rattle.std.proofs.Common.{◌≡◌, ℕ, ◌+◌, ◌<◌, ◌^◌, List, [], ◌∷◌, ◌++◌, length, sym, ◌∙◌, ap, subst, arith, length-append}
use Rattle.std.proofs.lemmas.List.Elements.{All-push}
use Rattle.line_journal.specs.Device.{History, IsOnDisk, overwritten, Torn}
use Rattle.line_journal.specs.Journal.{IsAtRest}
use Rattle.line_journal.specs.Lines.{lines_of, open_text, at_rest, with_gates, with_waiting, IsLine, StandsFor, StandsWithOrWithout}
use Rattle.line_journal.proofs.ByteLemmas.{overwritten_byte, torn_end, torn_byte}
use Rattle.line_journal.proofs.GroupLemmas.{written_waiting, length-waiting}
use Rattle.line_journal.proofs.LineLemmas.{are_lines, length-at_rest, lines_of-behind, lines_of_gate, length-open_text_push, open_text-push, rests}

module _ (file : List ℕ) (history : History) (end : ℕ) (rest : IsAtRest file history end) where
  abbrev lines : List (List ℕ)
  lines = lines_of file

  pub size : length file ≡ end + 1
  size = omega (arith, rest.ends, ap length rest.whole, length-at_rest lines)

  -- whatever is torn behind the closed gate, the lines are the same
  pub torn_behind : (count : ℕ) (left : List ℕ) → Torn (end + 1) count file left → lines_of left ≡ lines
  torn_behind count left torn =
      let grown = torn_end file left (end + 1) count (sym size) torn in
      ap lines_of (grown.2 ∙ ap (λ (f : List ℕ). f ++ grown.0) rest.whole) ∙ lines_of-behind lines grown.0 (are_lines file)

  module _ (group : List (List ℕ)) (bytes mid : List ℕ) (is : 32 ∷ bytes ≡ with_gates [] group) (written : mid ≡ overwritten file (end + 1) bytes) where
    pub waiting_is : mid ≡ with_waiting lines group
    waiting_is = written ∙ ap (λ (f : List ℕ). overwritten f (end + 1) bytes) rest.whole ∙ written_waiting lines group bytes end rest.ends is

    pub waiting_size : length mid ≡ end + 1 + length bytes
    waiting_size = ap length waiting_is ∙ length-waiting lines group bytes end rest.ends is

  -- one line
  module _ (line bytes mid : List ℕ) (is_line : IsLine line) (is : 32 ∷ bytes ≡ with_gates [] (line ∷ [])) (written : mid ≡ overwritten file (end + 1) bytes) where
    pub gate_torn : (left : List ℕ) → Torn end 1 mid left → StandsWithOrWithout lines line left
    gate_torn left torn =
        let whole = torn_byte (open_text lines) 32 (line ++ 10 ∷ 32 ∷ []) end (sym rest.ends) left (subst (λ (f : List ℕ). Torn end 1 f left) (waiting_is (line ∷ []) bytes mid is written) torn) in
        subst (StandsWithOrWithout lines line) (sym whole.1) (lines_of_gate lines whole.0 line (are_lines file) is_line)

    pub gate_opened : (new : List ℕ) (later : History) (last : ℕ) → new ≡ overwritten mid end (43 ∷ []) → last ≡ end + length bytes → end + 1 + length bytes < 2 ^ 64 → IsOnDisk new later
        → IsAtRest new later last × StandsFor (lines ++ line ∷ []) new
    gate_opened new later last opened is_last fits on_disk =
        let whole : new ≡ at_rest (lines ++ line ∷ []) =
        opened
        ∙ ap (λ (f : List ℕ). overwritten f end (43 ∷ [])) (waiting_is (line ∷ []) bytes mid is written)
        ∙ overwritten_byte (open_text lines) 32 (line ++ 10 ∷ 32 ∷ []) end (sym rest.ends) 43
        ∙ sym (open_text-push lines line (32 ∷ [])) in
        rests
        new
        later
        last
        (lines ++ line ∷ [])
        (All-push IsLine lines line (are_lines file) is_line)
        whole
        (omega (arith, is_last, rest.ends, ap length is, length-append line (10 ∷ 32 ∷ []), length-open_text_push lines line))
        (omega (arith, is_last, fits))
        on_disk
