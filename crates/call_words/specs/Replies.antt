-- The words of replies.
use Rattle.std.specs.Prelude.{ℕ, Bool, true, false, List, [], ◌∷◌, find, codes, Option}
use Rattle.std.specs.Str.{bytes_eq}
use Rattle.dep_index.specs.declared.table.calls.Reply.{Reply}
use Rattle.dep_index.specs.declared.table.calls.Reply.TheVariants as reply
use Rattle.call_words.specs.declared.reply.ReplyWord.{ReplyWord}
use Rattle.call_words.specs.declared.reply.ReplyWord.TheVariants.{Done, Yes, No, NotLive, TooMany, NotHeld, Exists, UnknownSymbol, NeedNotLive}
use Rattle.call_words.specs.declared.reply.ReplyWord.TheVariants.{NotLoading, NoEntry, NeededBy, Permanent, InUse, NotUnloading}

-- a reply, but for the slot of a need that is not Live
abbrev pub reply_in : Reply → ReplyWord
reply_in reply.Done = Done
reply_in reply.Yes = Yes
reply_in reply.No = No
reply_in reply.NotLive = NotLive
reply_in reply.TooMany = TooMany
reply_in reply.NotHeld = NotHeld
reply_in reply.Exists = Exists
reply_in reply.UnknownSymbol = UnknownSymbol
reply_in (reply.NeedNotLive slot) = NeedNotLive
reply_in reply.NotLoading = NotLoading
reply_in reply.NoEntry = NoEntry
reply_in reply.NeededBy = NeededBy
reply_in reply.Permanent = Permanent
reply_in reply.InUse = InUse
reply_in reply.NotUnloading = NotUnloading

-- a reply as a report has it
abbrev pub reply_text : ReplyWord → List ℕ
reply_text Done = codes "ok"
reply_text Yes = codes "yes"
reply_text No = codes "no"
reply_text NotLive = codes "NotLive"
reply_text TooMany = codes "TooMany"
reply_text NotHeld = codes "NotHeld"
reply_text Exists = codes "Exists"
reply_text UnknownSymbol = codes "UnknownSymbol"
reply_text NeedNotLive = codes "NeedNotLive"
reply_text NotLoading = codes "NotLoading"
reply_text NoEntry = codes "NoEntry"
reply_text NeededBy = codes "NeededBy"
reply_text Permanent = codes "Permanent"
reply_text InUse = codes "InUse"
reply_text NotUnloading = codes "NotUnloading"

abbrev pub all_words : List ReplyWord
all_words =
    Done ∷ Yes ∷ No ∷ NotLive ∷ TooMany ∷ NotHeld ∷ Exists ∷ UnknownSymbol ∷ NeedNotLive
    ∷ NotLoading ∷ NoEntry ∷ NeededBy ∷ Permanent ∷ InUse ∷ NotUnloading ∷ []

-- the reply of a word
abbrev pub reply_of : List ℕ → Option ReplyWord
reply_of word = find (λ (reply : ReplyWord). bytes_eq word (reply_text reply)) all_words

-- every reply but these three is a refusal
abbrev pub is_refusal : ReplyWord → Bool
is_refusal Done = false
is_refusal Yes = false
is_refusal No = false
is_refusal _ = true
