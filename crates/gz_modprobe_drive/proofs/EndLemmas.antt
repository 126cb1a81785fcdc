-- How a run ends.
use Rattle.std.proofs.Common.{◌≡◌, ℕ, Bool, true, false, not, ◌||◌, if◌then◌else◌, Option, Some, None, List, refl, sym, subst, ◌∙◌, arith}
use Rattle.kmod_query.specs.Answers.{Answer}
use Rattle.kmod_query.specs.declared.query.Query.{Query}
use Rattle.modprobe_files.specs.declared.texts.ModuleTexts.{ModuleTexts}
use Rattle.kmod_version.specs.declared.kmod.Kmod.{Kmod}
use Rattle.modprobe_words.specs.declared.written.Written.{Written}
use Rattle.modprobe_words.specs.declared.written.Written.TheVariants as written
use Rattle.gz_modprobe_drive.specs.declared.answered.Answered.{Answered}
use Rattle.gz_modprobe_drive.specs.declared.texts.Machine.{Machine}
use Rattle.gz_modprobe_drive.specs.Answered.{IsAnswer, IsAnswerOf, IsAnswerWith, IsWritten, is_whole, manner_of, said_by, status_of}
use Rattle.gz_modprobe_drive.specs.Texts.{AreRead, IsThis, Large, large_texts, or_empty, texts_with}
use Rattle.gz_modprobe_drive.specs.Ends.{IsAnswerBy, IsReadBy, WasAnswered}
use Rattle.gz_modprobe_drive.specs.Outputs.{WritesAnswer}
use Rattle.gz_modprobe_drive.specs.declared.shape.Shape.{Shape}
use Rattle.gz_modprobe_drive.specs.Shapes.{IsPart, IsWhole}
use Rattle.gz_modprobe_drive.specs.Paths.{paths_of, words_of as path_words}
use Rattle.kmod_index.specs.Index.{Texts}

-- what was read is among the texts that have it
own_text : (text : Option (List ℕ)) → IsThis text (or_empty text)
own_text None = tt
own_text (Some text) = refl

own_texts : (modules : ModuleTexts) (large : Large) → AreRead modules large (texts_with modules large)
own_texts modules large = record {
  dep = refl;
  builtin = refl;
  builtin_modinfo = refl;
  alias = own_text large.alias;
  symbols = own_text large.symbols;
}

-- the configuration is what the machine's texts say
read-by : (machine : Machine) (whole : Texts) → IsReadBy machine.conf.now.kmod (said_by machine whole)
unfolding said_by
read-by machine whole = record { texts = machine.conf.now; version = refl; is = refl }

known-paths : (machine : Machine) (whole : Texts) → path_words (said_by machine whole).paths ≡ path_words machine.paths.now
unfolding said_by
known-paths machine whole = refl

-- the answer of a machine that was read is one with the large texts that were read
pub read-with : (machine : Machine) (query : Query) (answer : Answer) → IsAnswerOf machine query answer → IsAnswerWith machine query answer
read-with machine query answer is = record { large = large_texts machine.later.now; is = is.is }

-- which large texts were read before does not matter
pub later-with : (machine own : Machine) (query : Query) (answer : Answer) → own.modules ≡ machine.modules → manner_of own ≡ manner_of machine
    → ((whole : Texts) → said_by own whole ≡ said_by machine whole) → IsAnswerWith own query answer → IsAnswerWith machine query answer
later-with machine own query answer modules manner said is = record {
  large = is.large;
  is = λ whole read.
      subst (λ m. IsAnswer (said_by machine whole) m query answer) manner
      (subst (λ k. IsAnswer k (manner_of own) query answer) (said whole) (is.is whole (subst (λ m. AreRead m.now is.large whole) (sym modules) read)));
}

-- and an answer with large texts is one of such a machine
answer-by : (machine : Machine) (query : Query) (answer : Answer) → path_words machine.paths.now ≡ paths_of machine.conf.now.kmod query
    → IsAnswerWith machine query answer → IsAnswerBy machine.conf.now.kmod machine.whole query answer
answer-by machine query answer paths is = record {
  known = said_by machine (texts_with machine.modules.now is.large);
  holders = machine.evidence.now.holders.items;
  read = read-by machine (texts_with machine.modules.now is.large);
  paths = known-paths machine (texts_with machine.modules.now is.large) ∙ paths;
  is = is.is (texts_with machine.modules.now is.large) (own_texts machine.modules.now is.large);
}

-- with any status, a beginning of it was written
pub answer-begun : (machine : Machine) (query : Query) (own : Answered) (kmod : Kmod) (shape : Shape) (before after : Option (List ℕ)) → machine.conf.now.kmod ≡ kmod
    → machine.shape ≡ shape → path_words machine.paths.now ≡ paths_of machine.conf.now.kmod query → IsAnswerWith machine query own.answer
    → IsWritten machine.shape before after own → WritesAnswer kmod machine.whole shape query before after
answer-begun machine query own kmod shape before after same alike paths is how changed = record {
  answer = own.answer;
  is = subst (λ k. IsAnswerBy k machine.whole query own.answer) same (answer-by machine query own.answer paths is);
  begun = subst (λ s. IsPart s own.answer before after) alike (how.begun changed);
}

-- a status of 0 says that no name failed, and that all was written
not-failed : (failed : Bool) (how : Written) → ◌≡◌ {A = ℕ} (if failed || not (is_whole how) then 1 else 0) 0 → failed ≡ false
not-failed false how e = refl
not-failed true how e = absurd (omega arith)

all-written : (failed : Bool) (how : Written) → ◌≡◌ {A = ℕ} (if failed || not (is_whole how) then 1 else 0) 0 → how ≡ written.Whole
all-written false written.Whole e = refl
all-written false written.Closed e = absurd (omega arith)
all-written false written.Failed e = absurd (omega arith)
all-written true how e = absurd (omega arith)

pub answered-well : (machine : Machine) (query : Query) (own : Answered) (kmod : Kmod) (shape : Shape) (before after : Option (List ℕ)) → machine.conf.now.kmod ≡ kmod
    → machine.shape ≡ shape → path_words machine.paths.now ≡ paths_of machine.conf.now.kmod query → IsAnswerWith machine query own.answer
    → IsWritten machine.shape before after own → status_of own.answer own.written ≡ 0 → WasAnswered kmod machine.whole shape query before after
answered-well machine query own kmod shape before after same alike paths is how zero = record {
  answer = own.answer;
  is = subst (λ k. IsAnswerBy k machine.whole query own.answer) same (answer-by machine query own.answer paths is);
  well = not-failed own.answer.failed own.written zero;
  written = subst (λ s. IsWhole s own.answer before after) alike (how.whole (all-written own.answer.failed own.written zero));
}
