-- What a configuration has after entries, and then others.
use Rattle.std.proofs.Common.{◌≡◌, ℕ, List, [], ◌∷◌, ◌++◌, Bool, true, false, refl, sym}
use Rattle.kmod_names.specs.declared.place.Place.{Place}
use Rattle.kmod_conf.specs.declared.entry.Entry.{Entry}
use Rattle.kmod_conf.specs.Configuration.{Configuration, with_entry}
use Rattle.kmod_conf.specs.CommandLine.{with_entries, word_said, words_said}
use Rattle.kmod_conf.specs.Lines.{is_space}

pub with_entries-append : (conf : Configuration) (front later : List Entry) → with_entries conf (front ++ later) ≡ with_entries (with_entries conf front) later
with_entries-append conf [] later = refl
with_entries-append conf (entry ∷ front) later = with_entries-append (with_entry conf entry) front later

space_is : (conf : Configuration) (place : Place) (word : List ℕ) (byte : ℕ) (later : List ℕ) → is_space byte ≡ true
    → with_entries (with_entries conf (word_said place word)) (words_said place false [] later) ≡ with_entries conf (words_said place false word (byte ∷ later))
space_is conf place word byte later h = rw h (sym (with_entries-append conf (word_said place word) (words_said place false [] later)))

-- white space outside quotes ends a word
pub space_read : (conf grown : Configuration) (place : Place) (is_quoted : Bool) (word next : List ℕ) (byte : ℕ) (later rest : List ℕ)
    → rest ≡ byte ∷ later → is_space byte ≡ true → is_quoted ≡ false → next ≡ [] → grown ≡ with_entries conf (word_said place word)
    → with_entries grown (words_said place is_quoted next later) ≡ with_entries conf (words_said place is_quoted word rest)
space_read conf grown place is_quoted word next byte later rest begins space plain none grows = rw (begins, plain, none, grows) (space_is conf place word byte later space)
