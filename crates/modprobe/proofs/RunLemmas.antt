-- What was written and answered, one step on.
use Rattle.std.proofs.Common.{arith, ◌≡◌, ℕ, ◌≤◌, ◌+◌, ◌-◌, ◌^◌, List, [], ◌∷◌, ◌++◌, length, take, drop, refl, sym, ap, ◌∙◌, Option, Some, None}
use Rattle.std.specs.Io.KnownBytes.{Appends, IsAtEnd}
use Rattle.std.proofs.KnownBytes.{Appends-nil, Appends-trans}
use Rattle.std.proofs.Math.Seq.{take-add}
use Rattle.std.proofs.lemmas.List.Elements.{All-append, All-cons, All-nil}
use Rattle.std.proofs.lemmas.List.{append_assoc, append-nil, map-append, take_rest}
use Rattle.std.specs.Str.Lines.{lines}
use Rattle.text_parts.specs.Text.{Line}
use Rattle.modprobe.specs.declared.lines.LineFault.{LineFault}
use Rattle.modprobe.specs.declared.lines.LineFault.TheVariants.{Read, Memory, Turns, LongLine}
use Rattle.modprobe.specs.Lines.{AtHand, IfTold, GivesCut, GivesCuts, AllEnded, texts, IsPartOfLine, BeginsWithLongLine}
use Rattle.modprobe.proofs.CutLemmas.{is_long_line, cuts_none, cuts_more, cuts_in_hand, cuts_all}
use Rattle.dep_index.specs.Table.{Table}
use Rattle.modprobe.specs.Setup.{Setup}
use Rattle.modprobe.specs.Outcomes.{Outcome, errors_of}
use Rattle.modprobe.specs.Session.{line_outcome, line_reply, answer, error_count}
use Rattle.modprobe.specs.Run.{Answered, AllShort, StandsAfter, run_fault_of}
use Rattle.std.proofs.Common.{All, false, Ok, inl, subst}
use Rattle.std.specs.Prelude.{◌&&◌, ◌≢◌, nat_lt, min}
use Rattle.std.proofs.lemmas.Bool.{ne_eqb, false≢true}
use Rattle.modprobe.specs.Device.{write_failed}

-- The next bytes of a text that is written in pieces.
pub appends_more : (a b c : Option (List ℕ)) (bytes : List ℕ) (written count : ℕ) → Appends a b (take written bytes) → Appends b c (take count (take (length bytes - written) (drop written bytes)))
    → Appends a c (take (written + count) bytes)
appends_more a b c bytes written count ab bc =
    let piece : take count (take (length bytes - written) (drop written bytes)) ≡ take count (drop written bytes) = ap (take count) (take_rest bytes written) in
    rw take-add (Appends-trans a b c (take written bytes) (take count (drop written bytes)) ab (rw piece at bc))

-- One more line: its reply comes behind the others, and its table is the last.
pub answer-more : (s : Setup) (t : Table) (done : List Line) (line : Line) → (answer s t (texts (done ++ line ∷ []))).0 ≡ (answer s t (texts done)).0 ++ (line_reply s (answer s t (texts done)).1 line.text).0
answer-more s t [] line = append-nil (line_reply s t line.text).0
answer-more s t (first ∷ done) line =
    let reply = (line_reply s t first.text).0 in
    let next = (line_reply s t first.text).1 in
    ap (λ l. reply ++ l) (answer-more s next done line)
    ∙ sym (append_assoc reply (answer s next (texts done)).0 (line_reply s (answer s next (texts done)).1 line.text).0)

pub table-more : (s : Setup) (t : Table) (done : List Line) (line : Line) → (answer s t (texts (done ++ line ∷ []))).1 ≡ (line_reply s (answer s t (texts done)).1 line.text).1
table-more s t [] line = refl
table-more s t (first ∷ done) line = table-more s (line_reply s t first.text).1 done line

-- One more line: it is one more error, or none.
pub error_count-more : (s : Setup) (t : Table) (done : List Line) (line : Line) → error_count s t (texts (done ++ line ∷ [])) ≡ error_count s t (texts done) + errors_of (line_outcome s (answer s t (texts done)).1 line.text).0
error_count-more s t [] line = omega arith
error_count-more s t (first ∷ done) line =
    let next = (line_reply s t first.text).1 in
    let later = error_count-more s next done line in
    omega (arith, later)

pub counted_more : (s : Setup) (start table : Table) (done : List Line) (line : Line) (reply : Outcome) (errors errors' : ℕ)
    → errors ≡ min (error_count s start (texts done)) (2 ^ 64 - 1) → table ≡ (answer s start (texts done)).1 → reply ≡ (line_outcome s table line.text).0
    → errors' ≡ min (errors + errors_of reply) (2 ^ 64 - 1) → errors' ≡ min (error_count s start (texts (done ++ line ∷ []))) (2 ^ 64 - 1)
counted_more s start table done line reply errors errors' before after is next =
    let more = error_count-more s start done line in
    let same : errors_of reply ≡ errors_of (line_outcome s (answer s start (texts done)).1 line.text).0 = ap errors_of is ∙ ap (λ t. errors_of (line_outcome s t line.text).0) after in
    omega (arith, before, next, more, same)

-- No line was counted.
pub none_counted : (s : Setup) (start : Table) → 0 ≡ min (error_count s start (texts [])) (2 ^ 64 - 1)
none_counted s start = omega arith

-- All lines were counted.
pub all_counted : (s : Setup) (start : Table) (text left : Option (List ℕ)) (done : List Line) (errors : ℕ)
    → errors ≡ min (error_count s start (texts done)) (2 ^ 64 - 1) → GivesCuts text left done → IsAtEnd left
    → IfTold text (λ t. errors ≡ min (error_count s start (lines t)) (2 ^ 64 - 1))
all_counted s start None left done errors counted gives e = tt
all_counted s start (Some x) None done errors counted gives e = absurd gives
all_counted s start (Some x) (Some y) done errors counted gives e =
    subst (λ ls. errors ≡ min (error_count s start ls) (2 ^ 64 - 1)) (cuts_all x y done gives e) counted

pub short-more : (done : List Line) (line : Line) → AllShort (texts done) → length line.text ≤ 65535 → AllShort (texts (done ++ line ∷ []))
short-more done line before short =
    let P : List ℕ → Type 0 = λ l. length l ≤ 65535 in
    let all = All-append P (texts done) (line.text ∷ []) before (All-cons P line.text [] short (All-nil P)) in
    subst (All P) (sym (map-append (λ (l : Line). l.text) done (line ∷ []))) all

pub told_map : (text : Option (List ℕ)) (P Q : List ℕ → Type 0) → ((t : List ℕ) → P t → Q t) → IfTold text P → IfTold text Q
told_map None P Q f told = tt
told_map (Some t) P Q f told = f t told

module _ (s : Setup) (start : Table) (text : Option (List ℕ)) (held : Option (List ℕ)) where
  pub answered_none : Answered s start text text held held start []
  answered_none = record { gives = cuts_none text; short = All-nil (λ (l : List ℕ). length l ≤ 65535); wrote = Appends-nil held; after = refl }

  -- One more line was answered.
  pub answered_more : (left left' wrote wrote' : Option (List ℕ)) (table table' : Table) (done : List Line) (line : Line) (reply : List ℕ)
      → Answered s start text left held wrote table done → GivesCut left left' line → length line.text ≤ 65535 → reply ≡ (line_reply s table line.text).0 → table' ≡ (line_reply s table line.text).1 → Appends wrote wrote' reply
      → Answered s start text left' held wrote' table' (done ++ line ∷ [])
  answered_more left left' wrote wrote' table table' done line reply before gives short is after appends = record {
    gives = cuts_more text left left' done line before.gives gives;
    short = short-more done line before.short short;
    wrote = rw (answer-more s start done line, ← before.after, ← is) (Appends-trans held wrote wrote' (answer s start (texts done)).0 reply before.wrote appends);
    after = rw (table-more s start done line, ← before.after) after;
  }

  -- All lines were answered.
  pub all_answered : (left wrote : Option (List ℕ)) (table : Table) (done : List Line) → Answered s start text left held wrote table done → IsAtEnd left
      → IfTold text (λ t. Appends held wrote (answer s start (lines t)).0 × (table ≡ (answer s start (lines t)).1) × AllShort (lines t))
  all_answered left wrote table done before end = by_cases text left before.gives end
    where
      by_cases : (a b : Option (List ℕ)) → GivesCuts a b done → IsAtEnd b → IfTold a (λ t. Appends held wrote (answer s start (lines t)).0 × (table ≡ (answer s start (lines t)).1) × AllShort (lines t))
      by_cases None b gives e = tt
      by_cases (Some x) None gives e = absurd gives
      by_cases (Some x) (Some y) gives e =
          let all : texts done ≡ lines x = cuts_all x y done gives e in
          rw (← all) (before.wrote, before.after, before.short)

  -- The lines stopped in a line.
  pub stands_in_line : (middle : Option (List ℕ)) (hand : AtHand) (wrote : Option (List ℕ)) (table : Table) (done : List Line) (fault : LineFault)
      → Answered s start text middle held wrote table done → AllEnded done → (fault ≢ LongLine → IsPartOfLine middle hand.left hand.line)
      → (fault ≡ Read → hand.left ≡ hand.ungiven) → (fault ≡ Turns → hand.left ≡ hand.ungiven) → (fault ≡ LongLine → IfTold middle BeginsWithLongLine)
      → StandsAfter (run_fault_of fault) s start text hand held wrote table
  stands_in_line middle hand wrote table done Read before ended part read turns long =
      let here = subst (λ l. IsPartOfLine middle l hand.line) (read refl) (part (λ e. false≢true (ap is_long_line e))) in
      (done, record { gives = cuts_in_hand text middle hand.ungiven done hand.line before.gives here.0; short = before.short; wrote = before.wrote; after = before.after }, ended, here.1)
  stands_in_line middle hand wrote table done Turns before ended part read turns long =
      let here = subst (λ l. IsPartOfLine middle l hand.line) (turns refl) (part (λ e. false≢true (ap is_long_line e))) in
      (done, record { gives = cuts_in_hand text middle hand.ungiven done hand.line before.gives here.0; short = before.short; wrote = before.wrote; after = before.after }, ended, here.1)
  stands_in_line middle hand wrote table done Memory before ended part read turns long =
      (done, middle, before, ended, inl (part (λ e. false≢true (ap is_long_line e))))
  stands_in_line middle hand wrote table done LongLine before ended part read turns long = (done, middle, before, ended, long refl)

-- A write that took some bytes has not failed.
pub not_failed : (E : Type 0) (count : ℕ) (bytes : List ℕ) → (count ≡ 0 → ⊥) → write_failed {E = E} (Ok count) bytes ≡ false
not_failed E count bytes some = ap (λ t. t && nat_lt 0 (length bytes)) (ne_eqb count 0 some)
