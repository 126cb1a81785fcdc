-- What a crash leaves while the end of a file is brought to rest.
use Rattle.std.proofs.Common.{◌≡◌, ◌≢◌, inl, inr, ⊎_elim, ℕ, zero, suc, ◌-◌, ◌<◌, ◌≤◌, ◌^◌, List, [], ◌∷◌, ◌++◌, length, take, refl, sym, ◌∙◌, ap, subst, arith, length-append}
use Rattle.std.proofs.lemmas.Bool.{cases_eq}
use Rattle.std.proofs.lemmas.List.{append-nil, take_at}
use Rattle.std.proofs.lemmas.List.Elements.{All-nil, All-take}
use Rattle.line_journal.specs.Device.{History, IsOnDisk, overwritten, Torn, Shortened}
use Rattle.line_journal.specs.Lines.{lines_of, open_text, at_rest, behind, IsLine, StandsFor, open_gates}
use Rattle.line_journal.specs.Journal.{IsAtRest, IsFound, MayCut}
use Rattle.line_journal.specs.declared.recovery.Repair.{Repair}
use Rattle.line_journal.specs.declared.recovery.Repair.TheVariants.{Cut, CutAtMost}
use Rattle.line_journal.specs.declared.reading.Found.{Found}
use Rattle.line_journal.proofs.ByteLemmas.{overwritten_end, torn_end, take_past}
use Rattle.line_journal.proofs.LineLemmas.{rests, length-at_rest, Ended, ended_or_not, lines_of-line, lines_of_torn, lines_of-open_text, closed, parts, are_lines, behind_is}

-- if an end stands for nothing, so does the front of it
front_nothing : (n : ℕ) (end : List ℕ) → lines_of end ≡ [] → lines_of (take n end) ≡ []
front_nothing zero end none = refl
front_nothing (suc n) [] none = refl
front_nothing (suc n) (gate ∷ rest) none = elim (cases_eq gate 43) [
  | inl is_open ↦ ⊎_elim
      (λ (e : Ended rest). absurd (line_there e is_open none))
      (λ (is : IsLine rest). ap (λ (g : ℕ). lines_of (g ∷ take n rest)) is_open ∙ lines_of_torn (take n rest) (All-take (λ (b : ℕ). b ≢ 10) n rest is))
      (ended_or_not rest)
  | inr shut ↦ closed gate (take n rest) shut
]
  where
    line_there : (e : Ended rest) → gate ≡ 43 → lines_of (gate ∷ rest) ≡ [] → ⊥
    line_there e is_open none =
        let whole : gate ∷ rest ≡ 43 ∷ e.line ++ 10 ∷ e.rest = (λ i. is_open i ∷ e.is i) in
        let lines : lines_of (gate ∷ rest) ≡ e.line ∷ lines_of e.rest = ap lines_of whole ∙ lines_of-line e.line e.rest e.is_line in
        cc (lines, none)

short_nothing : (bytes : List ℕ) → length bytes ≤ 1 → lines_of bytes ≡ []
short_nothing [] short = refl
short_nothing (a ∷ []) short = elim (cases_eq a 43) [
  | inl is_open ↦ ap (λ (g : ℕ). lines_of (g ∷ [])) is_open ∙ lines_of_torn [] (All-nil (λ (b : ℕ). b ≢ 10))
  | inr shut ↦ closed a [] shut
]
short_nothing (a ∷ b ∷ bytes) short = absurd (omega arith)

module _ (file : List ℕ) (end : ℕ) (is_end : end ≡ length (open_text (lines_of file))) where
  abbrev lines : List (List ℕ)
  lines = lines_of file

  nothing_more : (rest : List ℕ) → lines_of rest ≡ [] → lines_of (open_text lines ++ rest) ≡ lines
  nothing_more rest none = lines_of-open_text lines rest (are_lines file) ∙ ap (λ (ls : List (List ℕ)). lines ++ ls) none ∙ append-nil lines

  pub end_within : end ≤ length file
  end_within = omega (arith, is_end, ap length (parts file).split, length-append (open_text lines) (parts file).end)

  -- each cut behind the lines keeps them
  pub cut_keeps : (left : List ℕ) → Shortened end file left → lines_of left ≡ lines
  cut_keeps left shortened =
      let n = shortened.size - end in
      let is : left ≡ open_text lines ++ take n (parts file).end =
      shortened.is
      ∙ ap (λ (l : List ℕ). take shortened.size l) (parts file).split
      ∙ take_past (open_text lines) (parts file).end shortened.size n (omega (arith, is_end, shortened.no_less)) in
      ap lines_of is ∙ nothing_more (take n (parts file).end) (front_nothing n (parts file).end (parts file).nothing)

  pub cut_is : take end file ≡ open_text lines
  cut_is = ap (λ (l : List ℕ). take end l) (parts file).split ∙ take_at (open_text lines) (parts file).end end (sym is_end)

  -- one byte behind the lines is no line
  pub torn_gate_keeps : (left : List ℕ) → Torn end 1 (open_text lines) left → lines_of left ≡ lines
  torn_gate_keeps left torn =
      let grown = torn_end (open_text lines) left end 1 is_end torn in
      ap lines_of grown.2 ∙ nothing_more grown.0 (short_nothing grown.0 grown.1)

  pub closed_is : overwritten (open_text lines) end (32 ∷ []) ≡ at_rest lines
  closed_is = overwritten_end (open_text lines) (32 ∷ []) end is_end

  -- nothing but a closed gate stands behind the lines
  pub is_whole : behind file ≡ 32 ∷ [] → file ≡ at_rest lines
  is_whole shut = (parts file).split ∙ ap (λ (l : List ℕ). open_text lines ++ l) (sym (behind_is file) ∙ shut)

-- a file with nothing but a closed gate behind its lines is at rest
pub found_at_rest : (old new : List ℕ) (history : History) (found : Found) → IsFound old found → found.behind.items ≡ 32 ∷ [] → length old < 2 ^ 64 → new ≡ old → IsOnDisk old history
    → IsAtRest new history found.end × StandsFor (lines_of old) new
found_at_rest old new history found is shut fits same on_disk =
    let whole : old ≡ at_rest (lines_of old) = is_whole old (length (open_text (lines_of old))) refl (sym is.rest ∙ shut) in
    rests
    new
    history
    found.end
    (lines_of old)
    (are_lines old)
    (same ∙ whole)
    is.ends
    (omega (arith, is.ends, fits, ap length whole, length-at_rest (lines_of old)))
    (subst (λ f. IsOnDisk f history) (sym same) on_disk)

-- a closed gate alone may be cut off by any repair
pub may_cut_gate : (repair : Repair) (bytes : List ℕ) → bytes ≡ 32 ∷ [] → MayCut repair bytes
may_cut_gate Cut bytes is = tt
may_cut_gate (CutAtMost most) bytes is =
    let none : open_gates bytes ≡ 0 = ap open_gates is in
    omega (arith, none)
