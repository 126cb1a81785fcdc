-- A line that asks leaves all as it is.
use Rattle.std.proofs.Common.{◌≡◌, refl, sym, ap, subst, ◌∙◌, ℕ, Bool, true, false, cond, ◌||◌, List, [], ◌∷◌, codes, Option, Some, None, Result, Ok, Err, IfOk}
use Rattle.std.specs.Bool.{⊤}
use Rattle.std.specs.Str.{bytes_eq}
use Rattle.std.proofs.lemmas.Slice.Eq.{bytes_eq-Decides}
use Rattle.text_parts.specs.Text.{words, is_comment, normal_form}
use Rattle.dep_index.specs.Table.{Table}
use Rattle.dep_index.specs.Catalogue.{slot_named}
use Rattle.modprobe.specs.Setup.{Setup}
use Rattle.modprobe.specs.Commands as commands
use Rattle.modprobe.specs.Commands.{Action, query, Request, act, modinfo, plan, Command, nothing, malformed, by_name, lsmod, proc}
use Rattle.modprobe.specs.Session.{command_outcome, named_outcome, line_outcome}
use Rattle.held_table.specs.Names.{is_holder_name}
use Rattle.held_table.specs.Held.{Held}
use Rattle.held_lines.specs.declared.reply.HeldReply.{HeldReply}
use Rattle.held_lines.specs.Held.{holding}
use Rattle.held_lines.specs.Lines as asked
use Rattle.held_lines.specs.Outcomes.{asked_outcome, held_line_outcome}
use Rattle.held_lines.specs.Reading.{asks, asks_by, is_reading}

-- a request that changes nothing
abbrev pub AsksBy : Request → Type 0
AsksBy (act query) = ⊤
AsksBy modinfo = ⊤
AsksBy plan = ⊤
AsksBy _ = ⊥

-- a session's command that changes nothing
abbrev pub Asks : Command → Type 0
Asks (by_name name request) = AsksBy request
Asks _ = ⊤

named_same : (s : Setup) (name : List ℕ) (o : Option ℕ) (t : Table) → (named_outcome s name o query t).1 ≡ t
named_same s name None t = refl
named_same s name (Some slot) t = refl

command_same : (s : Setup) (c : Command) (t : Table) → Asks c → (command_outcome s c t).1 ≡ t
command_same s nothing t a = refl
command_same s (malformed first) t a = refl
command_same s (by_name name (act query)) t a = named_same s name (slot_named s.catalogue name) t
command_same s (by_name name modinfo) t a = refl
command_same s (by_name name plan) t a = refl
command_same s (by_name name (act (commands.insmod ws))) t a = absurd a
command_same s (by_name name (act commands.rmmod)) t a = absurd a
command_same s (by_name name (act commands.drain)) t a = absurd a
command_same s (by_name name (act (commands.get worker))) t a = absurd a
command_same s (by_name name (act (commands.put worker))) t a = absurd a
command_same s (by_name name (commands.modprobe ws)) t a = absurd a
command_same s (by_name name commands.modprobe_remove) t a = absurd a
command_same s lsmod t a = refl
command_same s proc t a = refl

session_same : (s : Setup) (h : Held) (line : List ℕ) → asked.asked_of line ≡ asked.as_session → Asks (commands.command_of line) → (held_line_outcome s h line).1 ≡ h
unfolding held_line_outcome line_outcome
session_same s h line is a =
    ap (λ found. (asked_outcome s h line found).1) is ∙ ap (λ t. holding t h.names) (command_same s (commands.command_of line) h.table a)

named_asks : (first name : List ℕ) (request : Request) → AsksBy request → Asks (commands.with_name first name (Some request))
named_asks first name request a = at (commands.is_option name) where
  at : (b : Bool) → Asks (cond b (malformed first) (by_name (normal_form name) request))
  at true = tt
  at false = a

words_ask : (first name : List ℕ) (ws : List (List ℕ)) (request : Request) → AsksBy request → Asks (commands.with_name first name (commands.if_no_words ws (Some request)))
words_ask first name [] request a = named_asks first name request a
words_ask first name (word ∷ ws) request a = tt

no_words_ask : (first name : List ℕ) (ws : List (List ℕ)) → Asks (commands.with_name first name (commands.if_no_words ws None))
no_words_ask first name [] = tt
no_words_ask first name (word ∷ ws) = tt

-- what a line's words ask for, also if it is a comment
asked_by : (line first : List ℕ) (rest : List (List ℕ)) → words line ≡ first ∷ rest → asked.by_first first rest ≡ asked.as_session → asked.asked_of line ≡ asked.as_session
asked_by line first rest are is = at (is_comment line) (words line) are where
  at : (c : Bool) (ws : List (List ℕ)) → ws ≡ first ∷ rest → cond c asked.as_session (asked.by_words ws) ≡ asked.as_session
  at true ws e = refl
  at false ws e = ap asked.by_words e ∙ is

command_by : (line first : List ℕ) (rest : List (List ℕ)) → words line ≡ first ∷ rest → Asks (commands.by_first first rest) → Asks (commands.command_of line)
command_by line first rest are a = at (is_comment line) (words line) are where
  at : (c : Bool) (ws : List (List ℕ)) → ws ≡ first ∷ rest → Asks (cond c nothing (commands.by_words ws))
  at true ws e = tt
  at false ws e = subst (λ found. Asks (commands.by_words found)) (sym e) a

or_else : {P : Type 0} (a b : Bool) → (a || b) ≡ true → (a ≡ true → P) → (b ≡ true → P) → P
or_else true b e one other = one refl
or_else false b e one other = other e

comment_same : (s : Setup) (h : Held) (line : List ℕ) → is_comment line ≡ true → (held_line_outcome s h line).1 ≡ h
comment_same s h line e =
    session_same s h line (ap (λ c. cond c asked.as_session (asked.by_words (words line))) e)
    (subst (λ c. Asks (cond c nothing (commands.by_words (words line)))) (sym e) tt)

empty_same : (s : Setup) (h : Held) (line : List ℕ) → words line ≡ [] → (held_line_outcome s h line).1 ≡ h
empty_same s h line are = session_same s h line (at (is_comment line) (words line) are) (of (is_comment line) (words line) are) where
  at : (c : Bool) (ws : List (List ℕ)) → ws ≡ [] → cond c asked.as_session (asked.by_words ws) ≡ asked.as_session
  at true ws e = refl
  at false ws e = ap asked.by_words e

  of : (c : Bool) (ws : List (List ℕ)) → ws ≡ [] → Asks (cond c nothing (commands.by_words ws))
  of true ws e = tt
  of false ws e = subst (λ found. Asks (commands.by_words found)) (sym e) tt

-- a question of holders, or none at all
abbrev pub AsksHolders : asked.Asked → Type 0
AsksHolders (asked.malformed first) = ⊤
AsksHolders (asked.holders name) = ⊤
AsksHolders (asked.held_by holder) = ⊤
AsksHolders asked.held = ⊤
AsksHolders _ = ⊥

holders_same : (s : Setup) (h : Held) (line : List ℕ) (a : asked.Asked) → AsksHolders a → (asked_outcome s h line a).1 ≡ h
holders_same s h line (asked.malformed first) a = refl
holders_same s h line (asked.holders name) a = refl
holders_same s h line (asked.held_by holder) a = refl
holders_same s h line asked.held a = refl
holders_same s h line asked.as_session a = absurd a
holders_same s h line (asked.refer reference holder name) a = absurd a
holders_same s h line (asked.half which name) a = absurd a
holders_same s h line (asked.hold again holder names) a = absurd a
holders_same s h line (asked.release holder names) a = absurd a
holders_same s h line (asked.release_all holder) a = absurd a

with_holders_asks : (first : List ℕ) (rest : List (List ℕ)) → AsksHolders (asked.with_holders first rest)
with_holders_asks first [] = tt
with_holders_asks first (name ∷ []) = at (asked.may_be_name name) where
  at : (b : Bool) → AsksHolders (cond b (asked.holders (normal_form name)) (asked.malformed first))
  at true = tt
  at false = tt
with_holders_asks first (name ∷ other ∷ rest) = tt

with_held_asks : (first : List ℕ) (rest : List (List ℕ)) → AsksHolders (asked.with_held first rest)
with_held_asks first [] = tt
with_held_asks first (holder ∷ []) = at (is_holder_name holder) where
  at : (b : Bool) → AsksHolders (cond b (asked.held_by holder) (asked.malformed first))
  at true = tt
  at false = tt
with_held_asks first (holder ∷ other ∷ rest) = tt

-- a line of such words, also if it is a comment
word_same : (s : Setup) (h : Held) (line first : List ℕ) (rest : List (List ℕ)) → words line ≡ first ∷ rest → AsksHolders (asked.by_first first rest) → (held_line_outcome s h line).1 ≡ h
unfolding held_line_outcome
word_same s h line first rest are a = at (is_comment line) refl where
  at : (c : Bool) → is_comment line ≡ c → (held_line_outcome s h line).1 ≡ h
  at true e = comment_same s h line e
  at false e =
      ap (λ found. (asked_outcome s h line found).1) (ap (λ c. cond c asked.as_session (asked.by_words (words line))) e ∙ ap asked.by_words are)
      ∙ holders_same s h line (asked.by_first first rest) a

session_word : (s : Setup) (h : Held) (line first : List ℕ) (rest : List (List ℕ)) → words line ≡ first ∷ rest → asked.by_first first rest ≡ asked.as_session
    → Asks (commands.by_first first rest) → (held_line_outcome s h line).1 ≡ h
session_word s h line first rest are is a = session_same s h line (asked_by line first rest are is) (command_by line first rest are a)

query_asks : (rest : List (List ℕ)) → Asks (commands.by_first (codes "query") rest)
query_asks [] = tt
query_asks (second ∷ rest) = words_ask (codes "query") second rest (act query) tt

modinfo_asks : (rest : List (List ℕ)) → Asks (commands.by_first (codes "modinfo") rest)
modinfo_asks [] = tt
modinfo_asks (second ∷ rest) = words_ask (codes "modinfo") second rest modinfo tt

plan_asks : (rest : List (List ℕ)) → Asks (commands.by_first (codes "plan") rest)
plan_asks [] = tt
plan_asks (second ∷ rest) = words_ask (codes "plan") second rest plan tt

lsmod_asks : (rest : List (List ℕ)) → Asks (commands.by_first (codes "lsmod") rest)
lsmod_asks [] = tt
lsmod_asks (second ∷ rest) = no_words_ask (codes "lsmod") second rest

proc_asks : (rest : List (List ℕ)) → Asks (commands.by_first (codes "proc") rest)
proc_asks [] = tt
proc_asks (second ∷ rest) = no_words_ask (codes "proc") second rest

is_word : (first word : List ℕ) (line : List ℕ) (rest : List (List ℕ)) → words line ≡ first ∷ rest → bytes_eq first word ≡ true → words line ≡ word ∷ rest
is_word first word line rest are e = are ∙ ap (λ w. w ∷ rest) ((bytes_eq-Decides first word).0 e)

asked_same : (s : Setup) (h : Held) (line first : List ℕ) (rest : List (List ℕ)) → words line ≡ first ∷ rest → asks first ≡ true → (held_line_outcome s h line).1 ≡ h
asked_same s h line first rest are e =
    or_else (bytes_eq first (codes "query")) _ e (λ t. session_word s h line (codes "query") rest (is_word first (codes "query") line rest are t) refl (query_asks rest)) (λ e1.
    or_else (bytes_eq first (codes "modinfo")) _ e1 (λ t. session_word s h line (codes "modinfo") rest (is_word first (codes "modinfo") line rest are t) refl (modinfo_asks rest)) (λ e2.
    or_else (bytes_eq first (codes "lsmod")) _ e2 (λ t. session_word s h line (codes "lsmod") rest (is_word first (codes "lsmod") line rest are t) refl (lsmod_asks rest)) (λ e3.
    or_else (bytes_eq first (codes "proc")) _ e3 (λ t. session_word s h line (codes "proc") rest (is_word first (codes "proc") line rest are t) refl (proc_asks rest)) (λ e4.
    or_else (bytes_eq first (codes "plan")) _ e4 (λ t. session_word s h line (codes "plan") rest (is_word first (codes "plan") line rest are t) refl (plan_asks rest)) (λ e5.
    or_else (bytes_eq first (codes "holders")) _ e5 (λ t. word_same s h line (codes "holders") rest (is_word first (codes "holders") line rest are t) (with_holders_asks (codes "holders") rest)) (λ e6.
    word_same s h line (codes "held") rest (is_word first (codes "held") line rest are e6) (with_held_asks (codes "held") rest)))))))

words_same : (s : Setup) (h : Held) (line : List ℕ) (ws : List (List ℕ)) → words line ≡ ws → asks_by ws ≡ true → (held_line_outcome s h line).1 ≡ h
words_same s h line [] are e = empty_same s h line are
words_same s h line (first ∷ rest) are e = asked_same s h line first rest are e

-- A line that asks leaves the table and its holders as they are.
pub reads_only : (s : Setup) (h : Held) (line : List ℕ) → is_reading line ≡ true → (held_line_outcome s h line).1 ≡ h
reads_only s h line e = or_else (is_comment line) (asks_by (words line)) e (comment_same s h line) (words_same s h line (words line) refl)

-- The table of a session that is asked so stays as it is.
pub session_reads : (s : Setup) (t : Table) (line : List ℕ) → asked.asked_of line ≡ asked.as_session → is_reading line ≡ true → (line_outcome s t line).1 ≡ t
unfolding held_line_outcome
session_reads s t line is e =
    let h : Held = holding t [] in
    ap (λ (w : Held). w.table) (sym (ap (λ (a : asked.Asked). (asked_outcome s h line a).1) is) ∙ reads_only s h line e)

-- not what changes holders, or is half of a load or removal
abbrev pub AsksAlone : asked.Asked → Type 0
AsksAlone (asked.refer reference holder name) = ⊥
AsksAlone (asked.half which name) = ⊥
AsksAlone (asked.hold again holder names) = ⊥
AsksAlone (asked.release holder names) = ⊥
AsksAlone (asked.release_all holder) = ⊥
AsksAlone _ = ⊤

holders_alone : (a : asked.Asked) → AsksHolders a → AsksAlone a
holders_alone asked.as_session a = tt
holders_alone (asked.malformed first) a = tt
holders_alone (asked.holders name) a = tt
holders_alone (asked.held_by holder) a = tt
holders_alone asked.held a = tt
holders_alone (asked.refer reference holder name) a = a
holders_alone (asked.half which name) a = a
holders_alone (asked.hold again holder names) a = a
holders_alone (asked.release holder names) a = a
holders_alone (asked.release_all holder) a = a

word_alone : (line first : List ℕ) (rest : List (List ℕ)) → words line ≡ first ∷ rest → AsksAlone (asked.by_first first rest) → AsksAlone (asked.asked_of line)
word_alone line first rest are a = at (is_comment line) (words line) are where
  at : (c : Bool) (ws : List (List ℕ)) → ws ≡ first ∷ rest → AsksAlone (cond c asked.as_session (asked.by_words ws))
  at true ws e = tt
  at false ws e = subst (λ found. AsksAlone (asked.by_words found)) (sym e) a

first_alone : (line first : List ℕ) (rest : List (List ℕ)) → words line ≡ first ∷ rest → asks first ≡ true → AsksAlone (asked.asked_of line)
first_alone line first rest are e =
    or_else (bytes_eq first (codes "query")) _ e (λ t. word_alone line (codes "query") rest (is_word first (codes "query") line rest are t) tt) (λ e1.
    or_else (bytes_eq first (codes "modinfo")) _ e1 (λ t. word_alone line (codes "modinfo") rest (is_word first (codes "modinfo") line rest are t) tt) (λ e2.
    or_else (bytes_eq first (codes "lsmod")) _ e2 (λ t. word_alone line (codes "lsmod") rest (is_word first (codes "lsmod") line rest are t) tt) (λ e3.
    or_else (bytes_eq first (codes "proc")) _ e3 (λ t. word_alone line (codes "proc") rest (is_word first (codes "proc") line rest are t) tt) (λ e4.
    or_else (bytes_eq first (codes "plan")) _ e4 (λ t. word_alone line (codes "plan") rest (is_word first (codes "plan") line rest are t) tt) (λ e5.
    or_else (bytes_eq first (codes "holders")) _ e5 (λ t. word_alone line (codes "holders") rest (is_word first (codes "holders") line rest are t)
    (holders_alone (asked.with_holders (codes "holders") rest) (with_holders_asks (codes "holders") rest))) (λ e6.
    word_alone line (codes "held") rest (is_word first (codes "held") line rest are e6)
    (holders_alone (asked.with_held (codes "held") rest) (with_held_asks (codes "held") rest))))))))

words_alone : (line : List ℕ) (ws : List (List ℕ)) → words line ≡ ws → asks_by ws ≡ true → AsksAlone (asked.asked_of line)
words_alone line [] are e = at (is_comment line) (words line) are where
  at : (c : Bool) (found : List (List ℕ)) → found ≡ [] → AsksAlone (cond c asked.as_session (asked.by_words found))
  at true found is = tt
  at false found is = subst (λ ws. AsksAlone (asked.by_words ws)) (sym is) tt
words_alone line (first ∷ rest) are e = first_alone line first rest are e

-- What such a line asks for.
pub reads_alone : (line : List ℕ) (a : asked.Asked) → a ≡ asked.asked_of line → is_reading line ≡ true → AsksAlone a
reads_alone line a is e = subst AsksAlone (sym is) (or_else (is_comment line) (asks_by (words line)) e comment (words_alone line (words line) refl)) where
  comment : is_comment line ≡ true → AsksAlone (asked.asked_of line)
  comment t = subst (λ c. AsksAlone (cond c asked.as_session (asked.by_words (words line)))) (sym t) tt

pub comment_asked : (line : List ℕ) → is_comment line ≡ true → asked.asked_of line ≡ asked.as_session
comment_asked line e = ap (λ c. cond c asked.as_session (asked.by_words (words line))) e

-- A session's line that leaves the table as it is reports no change.
pub session_asks : {E : Type 0} (r : Result HeldReply E) (s : Setup) (t : Table) (line : List ℕ) → asked.asked_of line ≡ asked.as_session
    → IfOk r (λ reply. (line_outcome s t line).1 ≡ t → reply.changed ≡ false) → IfOk r (λ reply. is_reading line ≡ true → reply.changed ≡ false)
session_asks (Ok reply) s t line is idle = λ reads. idle (session_reads s t line is reads)
session_asks (Err error) s t line is idle = tt

-- A line that asks for another thing does not ask.
pub never_asks : {E : Type 0} (r : Result HeldReply E) (line : List ℕ) (a : asked.Asked) → a ≡ asked.asked_of line → (AsksAlone a → ⊥)
    → IfOk r (λ reply. is_reading line ≡ true → reply.changed ≡ false)
never_asks (Ok reply) line a is never = λ reads. absurd (never (reads_alone line a is reads))
never_asks (Err error) line a is never = tt
