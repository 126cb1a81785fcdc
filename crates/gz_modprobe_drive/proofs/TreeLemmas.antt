-- What was found of a folder of modules, and what is told of it.
use Rattle.std.proofs.Common.{◌≡◌, ◌∙◌, ℕ, Bool, true, false, true≢false, not, ◌&&◌, List, [], ◌∷◌, ◌++◌, filter, codes, refl, sym, ap}
use Rattle.kmod_index.specs.Index.{Texts}
use Rattle.machine_lint.specs.declared.note.Note.{Note}
use Rattle.modprobe_files.specs.Texts.{is_cut}
use Rattle.modprobe_files.specs.declared.texts.LaterTexts.{LaterTexts}
use Rattle.modprobe_files.specs.declared.texts.ModuleTexts.{ModuleTexts}
use Rattle.gz_modprobe_drive.specs.declared.tree.Found.{Found}
use Rattle.gz_modprobe_drive.specs.declared.tree.Tree.{Tree}
use Rattle.gz_modprobe_drive.specs.Absences.{certain_notes, is_certain}
use Rattle.gz_modprobe_drive.specs.Texts.{folder_texts}
use Rattle.gz_modprobe_drive.specs.Tree.{AreUncut, by_build, by_depmod, is_sound, text_notice, text_notices}

first : (a b : Bool) → (a && b) ≡ true → a ≡ true
first true b e = refl
first false b e = e

second : (a b : Bool) → (a && b) ≡ true → b ≡ true
second true b e = e
second false b e = absurd (true≢false (sym e))

-- texts that are whole do not end within a line
pub uncut : (dep alias symbols builtin : Found) (modules : ModuleTexts) (later : LaterTexts) (texts : Texts) → texts ≡ folder_texts modules later
    → (is_sound dep ≡ true → is_cut texts.dep ≡ false) → (is_sound alias ≡ true → is_cut texts.alias ≡ false)
    → (is_sound symbols ≡ true → is_cut texts.symbols ≡ false) → (is_sound builtin ≡ true → is_cut texts.builtin ≡ false)
    → (is_sound dep && is_sound alias && is_sound symbols && is_sound builtin) ≡ true → AreUncut modules later
uncut dep alias symbols builtin modules later texts are of-dep of-alias of-symbols of-builtin whole =
    let two = is_sound dep && is_sound alias in
    let three = two && is_sound symbols in
    let whole-three : three ≡ true = first three (is_sound builtin) whole in
    let whole-two : two ≡ true = first two (is_sound symbols) whole-three
    in record {
      dep = ap (λ own. is_cut own.dep) (sym are) ∙ of-dep (first (is_sound dep) (is_sound alias) whole-two);
      alias = ap (λ own. is_cut own.alias) (sym are) ∙ of-alias (second (is_sound dep) (is_sound alias) whole-two);
      symbols = ap (λ own. is_cut own.symbols) (sym are) ∙ of-symbols (second two (is_sound symbols) whole-three);
      builtin = ap (λ own. is_cut own.builtin) (sym are) ∙ of-builtin (second three (is_sound builtin) whole);
    }

-- over texts that are not whole, what is certain is kept
pub kept-certain : (whole : Bool) (notes kept : List Note) → not whole ≡ true → kept ≡ filter is_certain notes → kept ≡ certain_notes whole notes
kept-certain false notes kept e are = are
kept-certain true notes kept e are = absurd (true≢false (sym e))

-- parts, one after another
parts : (old p a b c e : List ℕ) → ((((old ++ p) ++ a) ++ b) ++ c) ++ e ≡ old ++ (p ++ a ++ b ++ c ++ e)
parts [] p a b c e = refl
parts (x ∷ old) p a b c e = ap (λ l. x ∷ l) (parts old p a b c e)

pub five-parts : (old p a b c e one two three four five : List ℕ) → one ≡ old ++ p → two ≡ one ++ a → three ≡ two ++ b → four ≡ three ++ c → five ≡ four ++ e
    → five ≡ old ++ (p ++ a ++ b ++ c ++ e)
five-parts old p a b c e one two three four five q1 q2 q3 q4 q5 =
    q5 ∙ ap (λ l. l ++ e) (q4 ∙ ap (λ l. l ++ c) (q3 ∙ ap (λ l. l ++ b) (q2 ∙ ap (λ l. l ++ a) q1))) ∙ parts old p a b c e

-- what is told of four texts, one after another
pub four-notices : (tree : Tree) (dep alias symbols builtin none one two three four : List ℕ)
    → dep ≡ tree.directory.now ++ codes "/" ++ codes "modules.dep" → alias ≡ tree.directory.now ++ codes "/" ++ codes "modules.alias"
    → symbols ≡ tree.directory.now ++ codes "/" ++ codes "modules.symbols" → builtin ≡ tree.directory.now ++ codes "/" ++ codes "modules.builtin"
    → none ≡ [] → one ≡ none ++ text_notice dep by_depmod tree.dep → two ≡ one ++ text_notice alias by_depmod tree.alias
    → three ≡ two ++ text_notice symbols by_depmod tree.symbols → four ≡ three ++ text_notice builtin by_build tree.builtin
    → four ≡ text_notices tree
four-notices tree dep alias symbols builtin none one two three four p q r s empty is1 is2 is3 is4 =
    is4
    ∙ ap (λ l. l ++ text_notice builtin by_build tree.builtin) (is3
    ∙ ap (λ l. l ++ text_notice symbols by_depmod tree.symbols) (is2
    ∙ ap (λ l. l ++ text_notice alias by_depmod tree.alias) (is1
    ∙ ap (λ l. l ++ text_notice dep by_depmod tree.dep) empty)))
    ∙ ap (λ own. text_notice own by_depmod tree.dep ++ text_notice alias by_depmod tree.alias ++ text_notice symbols by_depmod tree.symbols ++ text_notice builtin by_build tree.builtin) p
    ∙ ap (λ own. text_notice (tree.directory.now ++ codes "/" ++ codes "modules.dep") by_depmod tree.dep ++ text_notice own by_depmod tree.alias ++ text_notice symbols by_depmod tree.symbols ++ text_notice builtin by_build tree.builtin) q
    ∙ ap (λ own. text_notice (tree.directory.now ++ codes "/" ++ codes "modules.dep") by_depmod tree.dep ++ text_notice (tree.directory.now ++ codes "/" ++ codes "modules.alias") by_depmod tree.alias ++ text_notice own by_depmod tree.symbols ++ text_notice builtin by_build tree.builtin) r
    ∙ ap (λ own. text_notice (tree.directory.now ++ codes "/" ++ codes "modules.dep") by_depmod tree.dep ++ text_notice (tree.directory.now ++ codes "/" ++ codes "modules.alias") by_depmod tree.alias ++ text_notice (tree.directory.now ++ codes "/" ++ codes "modules.symbols") by_depmod tree.symbols ++ text_notice own by_build tree.builtin) s
