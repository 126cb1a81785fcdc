-- The words of calls, and the calls of words.
use Rattle.std.specs.Prelude.{ℕ, Bool, true, false, if◌then◌else◌, List, [], ◌∷◌, find, codes, decimal, Option, Some, None}
use Rattle.std.specs.List.{join_with_byte}
use Rattle.std.specs.Option.{option_map}
use Rattle.std.specs.Str.{bytes_eq}
use Rattle.text_parts.specs.Text.{texts_of}
use Rattle.dep_index.specs.declared.table.calls.Call.{Call}
use Rattle.dep_index.specs.declared.table.calls.Call.TheVariants as call
use Rattle.call_words.specs.declared.verb.Verb.{Verb}
use Rattle.call_words.specs.declared.verb.Verb.TheVariants.{Get, Put, Query, BeginLoad, EndLoad, BeginDrain, BeginRemove, EndRemove, CancelRemove}
use Rattle.call_words.specs.declared.verb.Said as said_type

-- a call, but for its module
abbrev pub verb_in : Call → Verb
verb_in (call.Get worker slot) = Get worker
verb_in (call.Put worker slot) = Put worker
verb_in (call.InUse slot) = Query
verb_in (call.BeginLoad slot) = BeginLoad
verb_in (call.EndLoad slot ok) = EndLoad ok
verb_in (call.BeginDrain slot) = BeginDrain
verb_in (call.BeginRemove slot) = BeginRemove
verb_in (call.EndRemove slot) = EndRemove
verb_in (call.CancelRemove slot) = CancelRemove

-- the call on the module of a slot
abbrev pub call_on : Verb → ℕ → Call
call_on (Get worker) slot = call.Get worker slot
call_on (Put worker) slot = call.Put worker slot
call_on Query slot = call.InUse slot
call_on BeginLoad slot = call.BeginLoad slot
call_on (EndLoad ok) slot = call.EndLoad slot ok
call_on BeginDrain slot = call.BeginDrain slot
call_on BeginRemove slot = call.BeginRemove slot
call_on EndRemove slot = call.EndRemove slot
call_on CancelRemove slot = call.CancelRemove slot

-- the first word of a call
abbrev pub word_of : Verb → List ℕ
word_of (Get worker) = codes "get"
word_of (Put worker) = codes "put"
word_of Query = codes "query"
word_of BeginLoad = codes "begin_load"
word_of (EndLoad ok) = codes "end_load"
word_of BeginDrain = codes "begin_drain"
word_of BeginRemove = codes "begin_remove"
word_of EndRemove = codes "end_remove"
word_of CancelRemove = codes "cancel_remove"

-- how a load ended
abbrev pub end_word : Bool → List ℕ
end_word true = codes "ok"
end_word false = codes "fail"

-- what stands after the first word of a call: the name, after the worker of a get or a put, before how a load ended
abbrev pub words_behind : Verb → List ℕ → List (List ℕ) → List (List ℕ)
words_behind (Get worker) name later = decimal worker ∷ name ∷ later
words_behind (Put worker) name later = decimal worker ∷ name ∷ later
words_behind (EndLoad ok) name later = name ∷ end_word ok ∷ later
words_behind _ name later = name ∷ later

-- the words of a call on the module of a name, before later ones
abbrev pub call_words : Verb → List ℕ → List (List ℕ) → List (List ℕ)
call_words verb name later = word_of verb ∷ words_behind verb name later

abbrev pub call_text : Verb → List ℕ → List ℕ
call_text verb name = join_with_byte 32 (call_words verb name [])

-- a call on the module of a name, and the words after it
pub record Said : Type 0 where
  pub verb : Verb
  pub name : List ℕ
  pub later : List (List ℕ)

abbrev pub said_in : said_type.Said → Said
said_in s = record { verb = s.verb; name = s.name.now; later = texts_of s.later.now }

abbrev pub on_name : Option Verb → List ℕ → List (List ℕ) → Option Said
on_name None name later = None
on_name (Some verb) name later = Some (record { verb = verb; name = name; later = later })

-- the verb of a word that a name alone follows
abbrev pub verb_alone : List ℕ → Option Verb
verb_alone word =
    find (λ (verb : Verb). bytes_eq word (word_of verb)) (Query ∷ BeginLoad ∷ BeginDrain ∷ BeginRemove ∷ EndRemove ∷ CancelRemove ∷ [])

abbrev pub load_end : List ℕ → Option Bool
load_end word = if bytes_eq word (codes "ok") then Some true else (if bytes_eq word (codes "fail") then Some false else None)

-- the call that words begin with: `get` and `put` have the word of this worker before the name, `end_load` has how it ended after it
abbrev pub call_of : List (List ℕ) → Option ℕ → Option Said
call_of [] worker = None
call_of (_ ∷ []) worker = None
call_of (word ∷ name ∷ []) worker = on_name (verb_alone word) name []
call_of (word ∷ second ∷ third ∷ later) worker =
    if bytes_eq word (codes "get") then on_name (option_map Get worker) third later
    else (if bytes_eq word (codes "put") then on_name (option_map Put worker) third later
    else (if bytes_eq word (codes "end_load") then on_name (option_map EndLoad (load_end third)) second later
    else on_name (verb_alone word) second (third ∷ later)))
