-- What a lint says that finds nothing which counts.
use Rattle.std.proofs.Common.{◌≡◌, ◌∙◌, ◌≤◌, ℕ, Bool, true, false, true≢false, ◌||◌, if◌then◌else◌, List, [], ◌∷◌, ◌++◌, map, Option, length, refl, sym, ap, subst, arith, eqb-true, ◌&&◌, ◌==◌, ◌+◌, nat_lt, length-append}
use Rattle.std.proofs.lemmas.Bool.{ltb-false}
use Rattle.std.proofs.lemmas.List.{length-map}
use Rattle.std.specs.List.{list_any}
use Rattle.machine_lint.specs.declared.note.Note.{Note}
use Rattle.machine_lint.specs.declared.known.Known.{Known}
use Rattle.machine_lint.specs.Unchecked.{unchecked}
use Rattle.modprobe_files.specs.declared.texts.ConfTexts.{ConfTexts}
use Rattle.modprobe_files.specs.declared.texts.LaterTexts.{LaterTexts}
use Rattle.modprobe_files.specs.declared.texts.ModuleTexts.{ModuleTexts}
use Rattle.kmod_query.specs.declared.query.Query.{Query}
use Rattle.kmod_version.specs.declared.kmod.Kmod.{Kmod}
use Rattle.modprobe_words.specs.declared.switches.Switches.{Switches}
use Rattle.modprobe_words.specs.declared.wishes.Wish.{Wish}
use Rattle.modprobe_words.specs.Asked.{Asked}
use Rattle.gz_modprobe_drive.specs.Ends.{EndsWell, IsDone, WereAnswered, wish_by, worst_of}
use Rattle.gz_modprobe_drive.specs.Formed.{form_by}
use Rattle.gz_modprobe_drive.specs.Leads.{WasTold}
use Rattle.answer_facts.specs.declared.fact.Fact.{Fact}
use Rattle.answer_facts.specs.Facts.{pieces_of_fact, pieces_of_facts}
use Rattle.answer_reasons.specs.declared.sources.UnreadFile.{UnreadFile}
use Rattle.answer_reasons.specs.FileFacts.{unread_file}
use Rattle.lint_ignores.specs.declared.ignore.Ignore.{Ignore}
use Rattle.gz_modprobe_drive.specs.Counted.{is_counted, is_noted}
use Rattle.gz_modprobe_drive.specs.LintFacts.{lint_pieces, pieces_of_note}
use Rattle.gz_modprobe_drive.specs.Masks.{hidden_notes}
use Rattle.gz_modprobe_drive.specs.Linted.{AreTold, FoundNothing, IsSilent, IsUnnoted, WasLinted}
use Rattle.gz_modprobe_drive.specs.Judged.{status_by, status_of}
use Rattle.gz_modprobe_drive.specs.Tree.{AreUncut, is_whole}
use Rattle.gz_modprobe_drive.specs.declared.tree.Tree.{Tree}
use Rattle.gz_modprobe_drive.specs.Queries.{IsQueryOf, ask_of, is_lint, is_why}

without-length : {A : Type 0} (notes : List A) → ◌≡◌ {A = ℕ} (length notes) 0 → notes ≡ []
without-length [] e = refl
without-length (note ∷ notes) e = absurd (omega arith)

without-first : (one other : Bool) → (one || other) ≡ false → one ≡ false
without-first false other e = refl
without-first true other e = absurd (true≢false e)

without-second : (one other : Bool) → (one || other) ≡ false → other ≡ false
without-second false other e = e
without-second true other e = absurd (true≢false e)

-- what is told of notes, hidden files and others has as many parts as these are
parts : {X Y : Type 0} (f : X → Y) (notes : List X) (hidden rest : List Y)
    → length (map f notes ++ hidden ++ rest) ≡ length notes + length hidden + length rest
parts f notes hidden rest =
    omega (arith, length-append (map f notes ++ hidden) rest, length-append (map f notes) hidden, length-map notes f)

-- if no fact is more than the notes are, no file is hidden
no-hidden : {X Y Z : Type 0} (f : X → Y) (g : Z → Y) (notes : List X) (hidden rest : List Y) (facts : List Z)
    → map g facts ≡ map f notes ++ hidden ++ rest → nat_lt (length notes) (length facts) ≡ false → hidden ≡ []
no-hidden f g notes hidden rest facts are more =
    without-length hidden
    (omega (arith, length-map facts g, ap length are, parts f notes hidden rest, ltb-false (length notes) (length facts) more))

no-facts : {X Z : Type 0} (notes : List X) (facts : List Z) → nat_lt (length notes) (length facts) ≡ false → notes ≡ [] → facts ≡ []
no-facts [] facts more none = without-length facts (omega (arith, ltb-false 0 (length facts) more))
no-facts (note ∷ notes) facts more none = absurd (cc)

-- nothing counts of what is told
pub found-nothing : (whole strict : Bool) (texts : ConfTexts) (known : Known) (ignores : List Ignore) (notes : List Note) (unread : List UnreadFile) (facts : List Fact)
    (before after : Option (List ℕ)) → AreTold whole texts known ignores notes → pieces_of_facts facts ≡ lint_pieces texts ignores notes unread
    → IsSilent facts before after → is_noted strict notes facts ≡ false
    → FoundNothing whole strict texts known ignores before after
found-nothing whole strict texts known ignores notes unread facts before after told are silent none =
    let counts = list_any (is_counted strict) notes in
    let more = nat_lt (length notes) (length facts) in
    record {
      notes = notes;
      told = told;
      none = without-first counts more none;
      read = no-hidden (pieces_of_note texts) pieces_of_fact notes (hidden_notes texts ignores) (map unread_file unread) facts are (without-second counts more none);
      kept = λ empty. silent (no-facts notes facts (without-second counts more none) empty);
    }

-- a lint that found nothing that counts over whole texts
pub was-linted : (whole strict : Bool) (count : ℕ) (texts : ConfTexts) (modules : ModuleTexts) (later : LaterTexts)
    (before after : Option (List ℕ)) → whole ≡ true → count ≡ 0 → AreUncut modules later → IsUnnoted whole strict count texts modules later before after
    → WasLinted texts.kmod strict before after
was-linted whole strict count texts modules later before after all-whole all-checked uncut unnoted = record {
  texts = texts;
  modules = modules;
  later = later;
  directory = unnoted.directory;
  known = unnoted.known;
  files = unnoted.files;
  ignores = unnoted.ignores;
  version = refl;
  is = unnoted.is;
  uncut = uncut;
  ignored = unnoted.ignored;
  nothing = subst (λ w. FoundNothing w strict texts unnoted.known unnoted.ignores before after) all-whole unnoted.nothing;
  checked = without-length (unchecked unnoted.known) (sym unnoted.checked ∙ all-checked);
}

-- a status of 0 says that all could be judged, that nothing is noted, and that all was checked
zero-judged : (judged noted checked : Bool) → status_by judged noted checked ≡ 0 → judged ≡ true
zero-judged true noted checked e = refl
zero-judged false noted checked e = absurd (omega arith)

zero-noted : (judged noted checked : Bool) → status_by judged noted checked ≡ 0 → noted ≡ false
zero-noted true false checked e = refl
zero-noted true true checked e = absurd (omega arith)
zero-noted false noted checked e = absurd (omega arith)

zero-checked : (judged noted checked : Bool) → status_by judged noted checked ≡ 0 → checked ≡ true
zero-checked true false true e = refl
zero-checked true false false e = absurd (omega arith)
zero-checked true true checked e = absurd (omega arith)
zero-checked false noted checked e = absurd (omega arith)

first : (a b : Bool) → (a && b) ≡ true → a ≡ true
first true b e = refl
first false b e = e

pub none-noted : (tree : Tree) (read noted : Bool) (count status : ℕ) → status ≡ status_of tree read noted count → status ≡ 0 → noted ≡ false
none-noted tree read noted count status is zero = zero-noted (is_whole tree && read) noted (count == 0) (sym is ∙ zero)

-- a lint that ends with 0 found nothing
pub linted-well : (kmod : Kmod) (strict : Bool) (texts : ConfTexts) (modules : ModuleTexts) (later : LaterTexts) (tree : Tree) (read noted : Bool) (count status : ℕ)
    (before after : Option (List ℕ)) → texts.kmod ≡ kmod → (is_whole tree ≡ true → AreUncut modules later)
    → (noted ≡ false → IsUnnoted (is_whole tree) strict count texts modules later before after) → status ≡ status_of tree read noted count → status ≡ 0
    → WasLinted kmod strict before after
linted-well kmod strict texts modules later tree read noted count status before after same uncut none is zero =
    let e : status_by (is_whole tree && read) noted (count == 0) ≡ 0 = sym is ∙ zero in
    let whole : is_whole tree ≡ true = first (is_whole tree) read (zero-judged (is_whole tree && read) noted (count == 0) e) in
    subst (λ k. WasLinted k strict before after) same
    (was-linted (is_whole tree) strict count texts modules later before after whole (eqb-true count 0 (zero-checked (is_whole tree && read) noted (count == 0) e))
    (uncut whole) (none (zero-noted (is_whole tree && read) noted (count == 0) e)))

-- how a run ends well, by what it asks for
ends-lint : (lint why : Bool) (asked : Asked) (before after : Option (List ℕ)) → lint ≡ true → WasLinted asked.kmod asked.switches.strict before after → EndsWell lint why asked before after
ends-lint true why asked before after e done = done
ends-lint false why asked before after e done = absurd (true≢false (sym e))

ends-why : (lint why : Bool) (asked : Asked) (before after : Option (List ℕ)) → lint ≡ false → why ≡ true → WasTold (form_by asked.switches.explain) before after → EndsWell lint why asked before after
ends-why false true asked before after e f done = done
ends-why false false asked before after e f done = absurd (true≢false (sym f))
ends-why true why asked before after e f done = absurd (true≢false e)

ends-query : (lint why : Bool) (asked : Asked) (before after : Option (List ℕ)) → lint ≡ false → why ≡ false → WereAnswered asked before after → EndsWell lint why asked before after
ends-query false false asked before after e f done = done
ends-query false true asked before after e f done = absurd (true≢false f)
ends-query true why asked before after e f done = absurd (true≢false e)

-- a lint that found nothing is done
pub lint-done : (asked : Asked) (wish : Wish) (before after : Option (List ℕ)) → wish ≡ wish_by asked → is_lint wish ≡ true
    → WasLinted asked.kmod asked.switches.strict before after → IsDone asked before after
lint-done asked wish before after is lints done =
    ends-lint (is_lint (wish_by asked)) (is_why (wish_by asked)) asked before after (ap is_lint (sym is) ∙ lints) done

-- what leads to names is told
pub why-done : (asked : Asked) (wish : Wish) (before after : Option (List ℕ)) → wish ≡ wish_by asked → is_lint wish ≡ false → is_why wish ≡ true
    → WasTold (form_by asked.switches.explain) before after → IsDone asked before after
why-done asked wish before after is lints tells done =
    ends-why (is_lint (wish_by asked)) (is_why (wish_by asked)) asked before after (ap is_lint (sym is) ∙ lints) (ap is_why (sym is) ∙ tells) done

-- a query of the wish and of the words is that of what they are
pub same-query : (wish own : Wish) (switches : Switches) (given words : List (List ℕ)) (query : Query) → wish ≡ own → given ≡ words
    → IsQueryOf wish switches given query → IsQueryOf own switches words query
same-query wish own switches given words query is lent asks = record {
  ask = ap ask_of (sym is) ∙ asks.ask;
  all = asks.all;
  use_blacklist = asks.use_blacklist;
  ignore_commands = asks.ignore_commands;
  first_time = asks.first_time;
  verbosity = asks.verbosity;
  words = asks.words ∙ lent;
}

-- a query that was answered well is done
pub query-done : (asked : Asked) (wish : Wish) (before after : Option (List ℕ)) → wish ≡ wish_by asked → is_lint wish ≡ false → is_why wish ≡ false
    → WereAnswered asked before after → IsDone asked before after
query-done asked wish before after is lints tells done =
    ends-query (is_lint (wish_by asked)) (is_why (wish_by asked)) asked before after (ap is_lint (sym is) ∙ lints) (ap is_why (sym is) ∙ tells) done

below-worst : (judges : Bool) (status : ℕ) → status ≤ 1 → status ≤ (if judges then 2 else 1)
below-worst true status h = omega arith
below-worst false status h = h

two-below : (lint why : Bool) (status : ℕ) → lint ≡ true → status ≤ 2 → status ≤ (if lint || why then 2 else 1)
two-below true why status e h = h
two-below false why status e h = absurd (true≢false (sym e))

why-below : (lint why : Bool) (status : ℕ) → why ≡ true → status ≤ 2 → status ≤ (if lint || why then 2 else 1)
why-below true why status e h = h
why-below false true status e h = h
why-below false false status e h = absurd (true≢false (sym e))

-- a status of 1 is none too great
pub one-status : (asked : Asked) (status : ℕ) → status ≤ 1 → status ≤ worst_of asked
one-status asked status h = below-worst (is_lint (wish_by asked) || is_why (wish_by asked)) status h

-- a lint may end with 2
pub lint-status : (asked : Asked) (wish : Wish) (status : ℕ) → wish ≡ wish_by asked → is_lint wish ≡ true → status ≤ 2 → status ≤ worst_of asked
lint-status asked wish status is lints h = two-below (is_lint (wish_by asked)) (is_why (wish_by asked)) status (ap is_lint (sym is) ∙ lints) h

-- and so may what leads to names
pub why-status : (asked : Asked) (wish : Wish) (status : ℕ) → wish ≡ wish_by asked → is_why wish ≡ true → status ≤ 2 → status ≤ worst_of asked
why-status asked wish status is tells h = why-below (is_lint (wish_by asked)) (is_why (wish_by asked)) status (ap is_why (sym is) ∙ tells) h
