-- The notes of a machine are of lines of its configuration.
use Rattle.std.proofs.Common.{◌≡◌, ℕ, Bool, true, false, cond, List, [], ◌∷◌, ◌++◌, Contains, Option, Some, None, option_map, ◌⊎◌, inl, inr, refl, sym, ap, arith}
use Rattle.std.proofs.lemmas.List.Elements.{Contains-append_left, Contains-append_right, Contains-append_cases, Contains-push, Contains-push_cases}
use Rattle.std.specs.List.{cons_option, filter_map, flat_map}
use Rattle.std.specs.Option.{option_to_list}
use Rattle.machine_lint.specs.declared.known.Origin.{Origin}
use Rattle.machine_lint.specs.declared.note.Note.{Note}
use Rattle.machine_lint.specs.declared.note.NoteKind.{NoteKind}
use Rattle.machine_lint.specs.Laws.{NotesAreOfLines}
use Rattle.machine_lint.specs.Lines.{Said, is_depmod, lines_of, origin_at}
use Rattle.machine_lint.specs.Notes.{Facts, due, facts_of, item_kind, item_note, kind_of, line_notes, note_of, note_with, notes_of, own_notes, sets_parameters, word_kind, word_note, word_notes}
use Rattle.machine_lint.specs.Options.{option_words, words_of}

-- the note is one of the line
abbrev IsTold : Said → Note → Type 0
IsTold line note = (kind : NoteKind) × (note ≡ note_with line kind)

none : {X : Type 0} (x : X) → Contains [] x → ⊥
none x h = let below = h.1 in omega arith

one : (first note : Note) → Contains (first ∷ []) note → first ≡ note
one first note h = by (Contains-push_cases [] first note h)
  where
    by : Contains [] note ⊎ (first ≡ note) → first ≡ note
    by (inl before) = absurd (none note before)
    by (inr is) = is

of_option : (line : Said) (kind : Option NoteKind) (note : Note) → Contains (option_to_list (option_map (note_with line) kind)) note → IsTold line note
of_option line None note h = absurd (none note h)
of_option line (Some kind) note h = (kind, sym (one (note_with line kind) note h))

first_or : (line : Said) (kind : Option NoteKind) (rest : List Note) (note : Note) → Contains (cons_option (option_map (note_with line) kind) rest) note
    → (Contains rest note → IsTold line note) → IsTold line note
first_or line None rest note h go = go h
first_or line (Some kind) rest note h go = by (Contains-append_cases (note_with line kind ∷ []) rest note h)
  where
    by : Contains (note_with line kind ∷ []) note ⊎ Contains rest note → IsTold line note
    by (inl own) = (kind, sym (one (note_with line kind) note own))
    by (inr later) = go later

-- notes that are made of items or words
of_texts : (line : Said) (kind : List ℕ → Option NoteKind) (texts : List (List ℕ)) (note : Note)
    → Contains (filter_map (λ text. option_map (note_with line) (kind text)) texts) note → IsTold line note
of_texts line kind [] note h = absurd (none note h)
of_texts line kind (text ∷ texts) note h =
    first_or line (kind text) (filter_map (λ text. option_map (note_with line) (kind text)) texts) note h (of_texts line kind texts note)

of_some_notes : (line : Said) (are_noted : Bool) (notes : List Note) (note : Note) → (Contains notes note → IsTold line note)
    → Contains (cond are_noted notes []) note → IsTold line note
of_some_notes line true notes note go h = go h
of_some_notes line false notes note go h = absurd (none note h)

of_words : (facts : Facts) (origin : Origin) (line : Said) (note : Note) → Contains (word_notes facts origin line) note → IsTold line note
of_words facts origin line note h =
    of_some_notes line (sets_parameters facts origin line) (filter_map (word_note facts origin line (words_of line.name facts.conf)) (option_words line.text)) note
    (of_texts line (λ word. due origin (word_kind facts line (words_of line.name facts.conf) word)) (option_words line.text) note) h

of_either : (line : Said) (front back : List Note) (note : Note) → (Contains front note → IsTold line note) → (Contains back note → IsTold line note)
    → Contains (front ++ back) note → IsTold line note
of_either line front back note go on h = by (Contains-append_cases front back note h)
  where
    by : Contains front note ⊎ Contains back note → IsTold line note
    by (inl before) = go before
    by (inr after) = on after

of_own : (facts : Facts) (origin : Origin) (line : Said) (note : Note) → Contains (own_notes facts origin line) note → IsTold line note
of_own facts origin line note h =
    of_either line (option_to_list (note_of facts origin line) ++ filter_map (item_note facts origin line) line.items) (word_notes facts origin line) note
    (of_either line (option_to_list (note_of facts origin line)) (filter_map (item_note facts origin line) line.items) note
    (of_option line (due origin (kind_of facts origin line)) note)
    (of_texts line (λ item. due origin (item_kind facts line item)) line.items note))
    (of_words facts origin line note) h

of_line : (files : List Origin) (facts : Facts) (line : Said) (note : Note) → Contains (line_notes files facts line) note
    → (is_depmod (origin_at files line.place.source) ≡ false) × IsTold line note
of_line files facts line note h = by (is_depmod (origin_at files line.place.source)) refl h
  where
    by : (is_depmods : Bool) → is_depmod (origin_at files line.place.source) ≡ is_depmods
        → Contains (cond is_depmods [] (own_notes facts (origin_at files line.place.source) line)) note
        → (is_depmod (origin_at files line.place.source) ≡ false) × IsTold line note
    by true is own = absurd (none note own)
    by false is own = (is, of_own facts (origin_at files line.place.source) line note own)

of_some : (f : Said → List Note) (lines : List Said) (note : Note) → Contains (flat_map f lines) note
    → (line : Said) × Contains lines line × Contains (f line) note
of_some f [] note h = absurd (none note h)
of_some f (line ∷ lines) note h = by (Contains-append_cases (f line) (flat_map f lines) note h) (of_some f lines note)
  where
    by : Contains (f line) note ⊎ Contains (flat_map f lines) note
        → (Contains (flat_map f lines) note → (own : Said) × Contains lines own × Contains (f own) note)
        → (own : Said) × Contains (line ∷ lines) own × Contains (f own) note
    by (inl own) go = (line, Contains-append_left (line ∷ []) lines line (Contains-push [] line), own)
    by (inr later) go = let found = go later in (found.0, Contains-append_right (line ∷ []) lines found.0 found.1, found.2)

pub notes_are_of_lines : NotesAreOfLines
unfolding notes_of
notes_are_of_lines known note h =
    let found = of_some (line_notes known.files.now (facts_of known)) (lines_of known.conf.now) note h in
    let told = of_line known.files.now (facts_of known) found.0 note found.2 in
    record {
      line = found.0;
      stands = found.1;
      own = told.0;
      place = ap (λ (own : Note). own.place) told.1.1;
      setting = ap (λ (own : Note). own.setting) told.1.1;
      name = ap (λ (own : Note). own.name) told.1.1;
    }
