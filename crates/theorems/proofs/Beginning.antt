-- What a session wrote before it stopped is a beginning of its output.
use Rattle.std.proofs.Common.{◌≡◌, ℕ, List, [], ◌∷◌, ◌++◌, take, drop, Option, Some, None, Ok, refl, sym, ◌∙◌, ap, subst}
use Rattle.std.proofs.lemmas.List.{append_assoc, append-nil, take-append-drop}
use Rattle.std.specs.Io.KnownBytes.{Appends, Keeps, prepend_known}
use Rattle.text_parts.specs.Text.{Line, cut_lines}
use Rattle.dep_index.specs.Table.{Table}
use Rattle.modprobe.specs.declared.fault.RunFault.{RunFault}
use Rattle.modprobe.specs.declared.fault.RunFault.TheVariants.{Read, Write, Memory, Turns, LongLine}
use Rattle.modprobe.specs.declared.fault.ServeFault.{ServeFault}
use Rattle.modprobe.specs.declared.fault.ServeFault.TheVariants as serve_fault
use Rattle.modprobe.specs.Lines.{IfTold, AtHand, GivesCuts, texts}
use Rattle.modprobe.specs.Setup.{Setup}
use Rattle.modprobe.specs.SetupInput.{setup_of}
use Rattle.modprobe.specs.Session.{line_reply, answer}
use Rattle.modprobe.specs.Run.{Answered, StandsAfter, line_in}
use Rattle.modprobe.specs.Serve.{opening_of, ServeStands}
use Rattle.modprobe.proofs.RunLemmas.{answer-more}
use Rattle.theorems.specs.Sessions.{output, output_of, IsBeginning, WritesBeginning}

-- the answer to some lines and then others
answer-append : (s : Setup) (t : Table) (done more : List Line)
    → (answer s t (texts (done ++ more))).0 ≡ (answer s t (texts done)).0 ++ (answer s (answer s t (texts done)).1 (texts more)).0
answer-append s t [] more = refl
answer-append s t (line ∷ done) more =
    let reply = (line_reply s t line.text).0 in
    let next = (line_reply s t line.text).1 in
    ap (λ l. reply ++ l) (answer-append s next done more)
    ∙ sym (append_assoc reply (answer s next (texts done)).0 (answer s (answer s next (texts done)).1 (texts more)).0)

nothing_begins : (whole : Option (List ℕ)) → IsBeginning [] whole
nothing_begins None = refl
nothing_begins (Some whole) = (whole, refl)

kept_appends : (held written : Option (List ℕ)) → Keeps held written → Appends held written []
kept_appends None written same = tt
kept_appends (Some xs) None same = absurd same
kept_appends (Some xs) (Some ys) same = same ∙ sym (append-nil xs)

kept_begins : (workers : ℕ) (input : List ℕ) (held written : Option (List ℕ)) → Keeps held written → WritesBeginning workers input held written
kept_begins workers input held written same = ([], kept_appends held written same, nothing_begins (output workers input))

-- a part of a reply, between what was written before and the rest
regrouped : (before reply more : List ℕ) (count : ℕ) → (before ++ reply) ++ more ≡ (before ++ take count reply) ++ (drop count reply ++ more)
regrouped before reply more count =
    append_assoc before reply more
    ∙ ap (λ l. before ++ (l ++ more)) (sym (take-append-drop count reply))
    ∙ ap (λ l. before ++ l) (append_assoc (take count reply) (drop count reply) more)
    ∙ sym (append_assoc before (take count reply) (drop count reply ++ more))

module _ (workers : ℕ) (input session : List ℕ) (s : Setup) (is : setup_of input ≡ Ok (s, cut_lines session)) (held written : Option (List ℕ)) where
  abbrev start : Table
  start = opening_of s workers

  begins : (bytes rest : List ℕ) → (answer s start (texts (cut_lines session))).0 ≡ bytes ++ rest → IsBeginning bytes (output workers input)
  begins bytes rest splits = subst (IsBeginning bytes) (sym (ap (output_of workers) is)) (rest, splits)

  -- the answer to the first lines of the session was written
  answered_begins : (left : Option (List ℕ)) (table : Table) (done : List Line)
      → Answered s start (Some session) left held written table done → WritesBeginning workers input held written
  answered_begins None table done before = absurd before.gives
  answered_begins (Some left) table done before =
      let first = (answer s start (texts done)).0 in
      let rest = (answer s (answer s start (texts done)).1 (texts (cut_lines left))).0 in
      (first, before.wrote, begins first rest (ap (λ (ls : List Line). (answer s start (texts ls)).0) before.gives ∙ answer-append s start done (cut_lines left)))

  -- the answer to the first lines was written, and a part of the reply to the next
  part_begins : (left : Option (List ℕ)) (done : List Line) (line : Line) (count : ℕ) → GivesCuts (Some session) left (done ++ line ∷ [])
      → Appends held written ((answer s start (texts done)).0 ++ take count (line_reply s (answer s start (texts done)).1 line.text).0)
      → WritesBeginning workers input held written
  part_begins None done line count gives wrote = absurd gives
  part_begins (Some left) done line count gives wrote =
      let before = (answer s start (texts done)).0 in
      let reply = (line_reply s (answer s start (texts done)).1 line.text).0 in
      let more = (answer s (answer s start (texts (done ++ line ∷ []))).1 (texts (cut_lines left))).0 in (
        before ++ take count reply,
        wrote,
        begins (before ++ take count reply) (drop count reply ++ more) (
            ap (λ (ls : List Line). (answer s start (texts ls)).0) gives
            ∙ answer-append s start (done ++ line ∷ []) (cut_lines left)
            ∙ ap (λ l. l ++ more) (answer-more s start done line)
            ∙ regrouped before reply more count
            ),
      )

  stopped_begins : (fault : RunFault) (hand : AtHand) (table : Table) → StandsAfter fault s start (Some session) hand held written table → WritesBeginning workers input held written
  stopped_begins Read hand table stands = answered_begins (prepend_known hand.line hand.ungiven) table stands.0 stands.1
  stopped_begins Turns hand table stands = answered_begins (prepend_known hand.line hand.ungiven) table stands.0 stands.1
  stopped_begins LongLine hand table stands = answered_begins stands.1 table stands.0 stands.2
  stopped_begins Memory hand table stands = answered_begins stands.1 table stands.0 stands.2
  stopped_begins Write hand table stands = part_begins hand.left stands.0 (line_in hand) stands.1 stands.2 stands.6

pub stands_begins : (workers : ℕ) (told ungiven held written : Option (List ℕ)) (fault : ServeFault) → ServeStands workers fault told ungiven held written
    → IfTold told (λ input. WritesBeginning workers input held written)
stands_begins workers None ungiven held written fault stands = tt
stands_begins workers (Some input) ungiven held written (serve_fault.Setup fault) stands = kept_begins workers input held written stands.0
stands_begins workers (Some input) ungiven held written (serve_fault.Run fault) stands =
    stopped_begins workers input stands.1 stands.0 stands.2 held written fault stands.3.0 stands.3.1 stands.3.3
stands_begins workers (Some input) ungiven held written serve_fault.Memory stands = kept_begins workers input held written stands
