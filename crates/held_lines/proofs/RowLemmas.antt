-- What no worker does leaves the rows as they are.
use Rattle.std.proofs.Common.{◌≡◌, ℕ, Bool, true, false, ◌&&◌, ◌||◌, cond, List, [], ◌∷◌, Option, Some, None, Result, Ok, Err, refl, ◌∙◌}
use Rattle.std.specs.Option.{is_some}
use Rattle.std.specs.Prelude.{codes, ⊤}
use Rattle.std.specs.Str.{bytes_eq}
use Rattle.text_parts.specs.Text.{words, is_comment, normal_form}
use Rattle.dep_index.specs.declared.table.calls.Call.{Call}
use Rattle.dep_index.specs.declared.table.calls.Call.TheVariants as call
use Rattle.dep_index.specs.Table.{Module, Table, state_of, is_absent, is_live, is_draining}
use Rattle.dep_index.specs.Catalogue.{description_at, modules_of, slot_named}
use Rattle.dep_index.specs.Calls.{refusal, next, effect, rows_effect}
use Rattle.load_plan.specs.declared.items.Item.{Item}
use Rattle.load_plan.specs.declared.items.PlanError.{PlanError}
use Rattle.load_plan.specs.Parameters.{are_valid}
use Rattle.load_plan.specs.Sources.{is_kept}
use Rattle.modprobe.specs.declared.half.Half.{Half}
use Rattle.modprobe.specs.declared.half.Half.TheVariants as half_is
use Rattle.modprobe.specs.Setup.{Setup, name_at}
use Rattle.modprobe.specs.Refusals.{code_of, unload_code}
use Rattle.modprobe.specs.Changes.{Change, ◌then◌, call_change, end_of_load, one_load, one_removal, half_change}
use Rattle.modprobe.specs.Commands.{Action, insmod, rmmod, drain, query, get, put, Request, act, modinfo, plan, modprobe, modprobe_remove, Command, nothing, malformed, by_name, lsmod, proc}
use Rattle.modprobe.specs.Commands as commands
use Rattle.modprobe.specs.Loads.{item_load, loads, by_plan, load_plan, rest_removal, rest_removals, plan_removal, removals, removal_plans}
use Rattle.modprobe.specs.Session.{action_outcome, named_outcome, request_outcome, command_outcome, half_at, half_outcome, line_outcome}
use Rattle.held_table.specs.Names.{is_holder_name}
use Rattle.held_lines.specs.Lines as asked
use Rattle.held_lines.specs.declared.asked.Reference.{Reference}
use Rattle.held_lines.specs.declared.asked.Reference.TheVariants as reference_is

next_rows : (catalogue : List Module) (t : Table) (c : Call) → rows_effect t.rows c ≡ t.rows → (next catalogue t c).rows ≡ t.rows
next_rows catalogue t c same = at (is_some (refusal catalogue t c)) where
  at : (b : Bool) → (cond b t (effect t c)).rows ≡ t.rows
  at true = refl
  at false = same

then_rows : (c : Change) (f : Table → Change) (rows : List (List ℕ)) → c.1.rows ≡ rows → ((u : Table) → (f u).1.rows ≡ u.rows) → (c then f).1.rows ≡ rows
then_rows (None, t) f rows same next = next t ∙ same
then_rows (Some r, t) f rows same next = same

end_rows : (s : Setup) (slot : ℕ) (valid : Bool) (t : Table) → (end_of_load s slot valid t).1.rows ≡ t.rows
end_rows s slot true t = next_rows (modules_of s.catalogue) t (call.EndLoad slot true) refl
end_rows s slot false t = then_rows (call_change s code_of slot (call.EndLoad slot false) t) _ t.rows (next_rows (modules_of s.catalogue) t (call.EndLoad slot false) refl) (λ u. refl)

load_rows : (s : Setup) (slot : ℕ) (words : List (List ℕ)) (t : Table) → (one_load s slot words t).1.rows ≡ t.rows
load_rows s slot words t =
    then_rows (call_change s code_of slot (call.BeginLoad slot) t) _ t.rows (next_rows (modules_of s.catalogue) t (call.BeginLoad slot) refl)
    (λ u. end_rows s slot (are_valid (description_at s.catalogue slot) words) u)

removal_rows : (s : Setup) (slot : ℕ) (t : Table) → (one_removal s slot t).1.rows ≡ t.rows
removal_rows s slot t = at (is_draining (state_of t.book slot)) where
  at : (b : Bool) → (cond b (call_change s unload_code slot (call.EndRemove slot) t)
      (call_change s unload_code slot (call.BeginRemove slot) t then (λ u. call_change s unload_code slot (call.EndRemove slot) u))).1.rows ≡ t.rows
  at true = next_rows (modules_of s.catalogue) t (call.EndRemove slot) refl
  at false = then_rows (call_change s unload_code slot (call.BeginRemove slot) t) _ t.rows (next_rows (modules_of s.catalogue) t (call.BeginRemove slot) refl)
      (λ u. next_rows (modules_of s.catalogue) u (call.EndRemove slot) refl)

half_change_rows : (s : Setup) (slot : ℕ) (half : Half) (t : Table) → (half_change s slot half t).1.rows ≡ t.rows
half_change_rows s slot half_is.BeginLoad t = next_rows (modules_of s.catalogue) t (call.BeginLoad slot) refl
half_change_rows s slot (half_is.EndLoad true) t = next_rows (modules_of s.catalogue) t (call.EndLoad slot true) refl
half_change_rows s slot (half_is.EndLoad false) t = next_rows (modules_of s.catalogue) t (call.EndLoad slot false) refl
half_change_rows s slot half_is.BeginRemove t = next_rows (modules_of s.catalogue) t (call.BeginRemove slot) refl
half_change_rows s slot half_is.EndRemove t = next_rows (modules_of s.catalogue) t (call.EndRemove slot) refl
half_change_rows s slot half_is.CancelRemove t = next_rows (modules_of s.catalogue) t (call.CancelRemove slot) refl

-- Half of a load or of a removal leaves the rows as they are.
pub half_rows : (s : Setup) (name : List ℕ) (half : Half) (t : Table) → (half_outcome s name half t).1.rows ≡ t.rows
half_rows s name half t = at (slot_named s.catalogue name) where
  at : (o : Option ℕ) → (half_at s name o half t).1.rows ≡ t.rows
  at None = refl
  at (Some slot) = half_change_rows s slot half t

item_rows : (s : Setup) (item : Item) (t : Table) → (item_load s item t).1.rows ≡ t.rows
item_rows s item t = at (is_live (state_of t.book item.slot)) item.soft where
  at : (live soft : Bool) → (cond live (None, t) (cond soft (None, (one_load s item.slot item.options t).1) (one_load s item.slot item.options t))).1.rows ≡ t.rows
  at true soft = refl
  at false true = load_rows s item.slot item.options t
  at false false = load_rows s item.slot item.options t

loads_rows : (s : Setup) (items : List Item) (t : Table) → (loads s items t).1.rows ≡ t.rows
loads_rows s [] t = refl
loads_rows s (item ∷ items) t = then_rows (item_load s item t) (loads s items) t.rows (item_rows s item t) (λ u. loads_rows s items u)

rest_rows : (s : Setup) (slot : ℕ) (t : Table) → (rest_removal s slot t).rows ≡ t.rows
rest_rows s slot t = at (is_kept s.configuration (name_at s slot)) where
  at : (b : Bool) → (cond b t (one_removal s slot t).1).rows ≡ t.rows
  at true = refl
  at false = removal_rows s slot t

rests_rows : (s : Setup) (slots : List ℕ) (t : Table) → (rest_removals s slots t).rows ≡ t.rows
rests_rows s [] t = refl
rests_rows s (slot ∷ slots) t = rests_rows s slots (rest_removal s slot t) ∙ rest_rows s slot t

plan_rows : (s : Setup) (slots : List ℕ) (t : Table) → (plan_removal s slots t).1.rows ≡ t.rows
plan_rows s [] t = refl
plan_rows s (slot ∷ rest) t = at (is_absent (state_of t.book slot)) where
  at : (b : Bool) → (cond b (None, t) (one_removal s slot t then (λ u. (None, rest_removals s rest u)))).1.rows ≡ t.rows
  at true = refl
  at false = then_rows (one_removal s slot t) _ t.rows (removal_rows s slot t) (λ u. rests_rows s rest u)

removals_rows : (s : Setup) (plans : List (List ℕ)) (t : Table) → (removals s plans t).1.rows ≡ t.rows
removals_rows s [] t = refl
removals_rows s (order ∷ plans) t = then_rows (plan_removal s order t) (removals s plans) t.rows (plan_rows s order t) (λ u. removals_rows s plans u)

planned_rows : {A : Type 0} (go : A → Table → Change) → ((a : A) (t : Table) → (go a t).1.rows ≡ t.rows) → (p : Result A PlanError) (t : Table) → (by_plan go p t).1.rows ≡ t.rows
planned_rows go same (Ok a) t = same a t
planned_rows go same (Err e) t = refl

-- a request that names no worker
abbrev pub NoWorker : Request → Type 0
NoWorker (act (get worker)) = ⊥
NoWorker (act (put worker)) = ⊥
NoWorker _ = ⊤

abbrev pub NamesNoWorker : Command → Type 0
NamesNoWorker (by_name name request) = NoWorker request
NamesNoWorker _ = ⊤

action_rows : (s : Setup) (slot : ℕ) (action : Action) (t : Table) → NoWorker (act action) → (action_outcome s slot action t).1.rows ≡ t.rows
action_rows s slot (insmod words) t free = load_rows s slot words t
action_rows s slot rmmod t free = removal_rows s slot t
action_rows s slot drain t free = next_rows (modules_of s.catalogue) t (call.BeginDrain slot) refl
action_rows s slot query t free = refl
action_rows s slot (get worker) t free = absurd free
action_rows s slot (put worker) t free = absurd free

named_rows : (s : Setup) (name : List ℕ) (o : Option ℕ) (action : Action) (t : Table) → NoWorker (act action) → (named_outcome s name o action t).1.rows ≡ t.rows
named_rows s name None action t free = refl
named_rows s name (Some slot) action t free = action_rows s slot action t free

request_rows : (s : Setup) (name : List ℕ) (request : Request) (t : Table) → NoWorker request → (request_outcome s name request t).1.rows ≡ t.rows
request_rows s name (act action) t free = named_rows s name (slot_named s.catalogue name) action t free
request_rows s name modinfo t free = refl
request_rows s name plan t free = refl
request_rows s name (modprobe words) t free = planned_rows (loads s) (loads_rows s) (load_plan s name words t) t
request_rows s name modprobe_remove t free = planned_rows (removals s) (removals_rows s) (removal_plans s name t) t

command_rows : (s : Setup) (command : Command) (t : Table) → NamesNoWorker command → (command_outcome s command t).1.rows ≡ t.rows
command_rows s nothing t free = refl
command_rows s (malformed first) t free = refl
command_rows s (by_name name request) t free = request_rows s name request t free
command_rows s lsmod t free = refl
command_rows s proc t free = refl

-- a listing names no worker
lists_none : (first : List ℕ) → NamesNoWorker (commands.listing_of first)
lists_none first = at (bytes_eq first (codes "lsmod")) (bytes_eq first (codes "proc")) where
  at : (a b : Bool) → NamesNoWorker (cond a lsmod (cond b proc (malformed first)))
  at true b = tt
  at false true = tt
  at false false = tt

-- the request, if there is one, names no worker
abbrev pub NoWorkerIn : Option Request → Type 0
NoWorkerIn None = ⊤
NoWorkerIn (Some request) = NoWorker request

names_none : (first name : List ℕ) (o : Option Request) → NoWorkerIn o → NamesNoWorker (commands.with_name first name o)
names_none first name None free = tt
names_none first name (Some request) free = at (commands.is_option name) where
  at : (b : Bool) → NamesNoWorker (cond b (malformed first) (by_name (normal_form name) request))
  at true = tt
  at false = free

plain_none : (first : List ℕ) → NoWorkerIn (commands.plain_request_of first)
plain_none first = at (bytes_eq first (codes "rmmod")) (bytes_eq first (codes "drain")) (bytes_eq first (codes "query")) (bytes_eq first (codes "modinfo")) (bytes_eq first (codes "plan")) where
  at : (a b c d e : Bool) → NoWorkerIn (cond a (Some (act rmmod)) (cond b (Some (act drain)) (cond c (Some (act query)) (cond d (Some modinfo) (cond e (Some plan) None)))))
  at true b c d e = tt
  at false true c d e = tt
  at false false true d e = tt
  at false false false true e = tt
  at false false false false true = tt
  at false false false false false = tt

no_words_none : (words : List (List ℕ)) (o : Option Request) → NoWorkerIn o → NoWorkerIn (commands.if_no_words words o)
no_words_none [] o free = free
no_words_none (word ∷ words) o free = tt

request_none : (first : List ℕ) (words : List (List ℕ)) → NoWorkerIn (commands.request_of first words)
request_none first words = at (bytes_eq first (codes "insmod")) (bytes_eq first (codes "modprobe")) where
  at : (a b : Bool) → NoWorkerIn (cond a (Some (act (insmod words))) (cond b (Some (modprobe words)) (commands.if_no_words words (commands.plain_request_of first))))
  at true b = tt
  at false true = tt
  at false false = no_words_none words (commands.plain_request_of first) (plain_none first)

removal_none : (first : List ℕ) (rest : List (List ℕ)) → NamesNoWorker (commands.with_removal first rest)
removal_none first [] = tt
removal_none first (name ∷ []) = names_none first name (Some modprobe_remove) tt
removal_none first (name ∷ other ∷ rest) = tt

reference_none : (first : List ℕ) (reference : Reference) (rest : List (List ℕ)) → asked.with_reference first reference rest ≡ asked.as_session → ⊥
reference_none first reference [] e = cc
reference_none first reference (holder ∷ []) e = cc
reference_none first reference (holder ∷ name ∷ []) e = at (is_holder_name holder && asked.may_be_name name) e where
  at : (b : Bool) → cond b (asked.refer reference holder (normal_form name)) (asked.malformed first) ≡ asked.as_session → ⊥
  at true e' = cc
  at false e' = cc
reference_none first reference (holder ∷ name ∷ other ∷ rest) e = cc

session_none : (first second : List ℕ) (rest : List (List ℕ)) → asked.by_first first (second ∷ rest) ≡ asked.as_session → NamesNoWorker (commands.by_second first second rest)
session_none first second rest e = at (bytes_eq first (codes "get")) (bytes_eq first (codes "put")) (commands.is_removal first second) _ _ e where
  at : (g p r : Bool) (later : asked.Asked) (worker : Command)
      → cond g (asked.with_reference first reference_is.Get (second ∷ rest)) (cond p (asked.with_reference first reference_is.Put (second ∷ rest)) later) ≡ asked.as_session
      → NamesNoWorker (cond (g || p) worker (cond r (commands.with_removal first rest) (commands.with_name first second (commands.request_of first rest))))
  at true p r later worker e' = absurd (reference_none first reference_is.Get (second ∷ rest) e')
  at false true r later worker e' = absurd (reference_none first reference_is.Put (second ∷ rest) e')
  at false false true later worker e' = removal_none first rest
  at false false false later worker e' = names_none first second (commands.request_of first rest) (request_none first rest)

command_none : (line : List ℕ) → asked.asked_of line ≡ asked.as_session → NamesNoWorker (commands.command_of line)
command_none line e = at (is_comment line) (words line) e where
  at : (c : Bool) (ws : List (List ℕ)) → cond c asked.as_session (asked.by_words ws) ≡ asked.as_session → NamesNoWorker (cond c nothing (commands.by_words ws))
  at true ws e' = tt
  at false [] e' = tt
  at false (first ∷ []) e' = lists_none first
  at false (first ∷ second ∷ rest) e' = session_none first second rest e'

-- A line that a session answers leaves the rows as they are.
pub line_rows : (s : Setup) (t : Table) (line : List ℕ) → asked.asked_of line ≡ asked.as_session → (line_outcome s t line).1.rows ≡ t.rows
unfolding line_outcome
line_rows s t line e = command_rows s (commands.command_of line) t (command_none line e)
