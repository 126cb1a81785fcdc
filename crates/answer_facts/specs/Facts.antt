-- What is said by a fact: the words of the text, and the keys of JSON.
use Rattle.std.specs.Prelude.{ℕ, true, List, [], ◌∷◌, ◌++◌, map, codes}
use Rattle.std.specs.List.{flat_map}
use Rattle.answer_facts.specs.declared.name_fact.NameFact.{NameFact}
use Rattle.answer_facts.specs.declared.name_fact.NameFact.TheVariants as of_name_fact
use Rattle.answer_facts.specs.declared.missing_fact.MissingFact.{MissingFact}
use Rattle.answer_facts.specs.declared.missing_fact.MissingFact.TheVariants as of_missing_fact
use Rattle.answer_facts.specs.declared.lead_fact.LeadFact.{LeadFact}
use Rattle.answer_facts.specs.declared.lead_fact.LeadFact.TheVariants as of_lead_fact
use Rattle.answer_facts.specs.declared.idle_fact.IdleFact.{IdleFact}
use Rattle.answer_facts.specs.declared.idle_fact.IdleFact.TheVariants as of_idle_fact
use Rattle.answer_facts.specs.declared.module_fact.ModuleFact.{ModuleFact}
use Rattle.answer_facts.specs.declared.module_fact.ModuleFact.TheVariants as of_module_fact
use Rattle.answer_facts.specs.declared.line_fact.LineFact.{LineFact}
use Rattle.answer_facts.specs.declared.line_fact.LineFact.TheVariants as of_line_fact
use Rattle.answer_facts.specs.declared.state_fact.StateFact.{StateFact}
use Rattle.answer_facts.specs.declared.state_fact.StateFact.TheVariants as of_state_fact
use Rattle.answer_facts.specs.declared.removal_fact.RemovalFact.{RemovalFact}
use Rattle.answer_facts.specs.declared.removal_fact.RemovalFact.TheVariants as of_removal_fact
use Rattle.answer_facts.specs.declared.file_fact.Unread.{Unread}
use Rattle.answer_facts.specs.declared.file_fact.FileFact.{FileFact}
use Rattle.answer_facts.specs.declared.file_fact.FileFact.TheVariants as of_file_fact
use Rattle.answer_facts.specs.declared.change_fact.ChangeFact.{ChangeFact}
use Rattle.answer_facts.specs.declared.change_fact.ChangeFact.TheVariants as of_change_fact
use Rattle.answer_facts.specs.declared.origin.Origin.{Origin}
use Rattle.answer_facts.specs.declared.spot.Spot.{Spot}
use Rattle.answer_facts.specs.declared.spot.Spot.TheVariants as spot_is
use Rattle.answer_facts.specs.declared.fact.Fact.{Fact}
use Rattle.answer_facts.specs.declared.fact.What.{What}
use Rattle.answer_facts.specs.declared.fact.What.TheVariants as of
use Rattle.answer_facts.specs.NoteFacts.{note_fact_pieces}
use Rattle.answer_facts.specs.Pieces.{Piece, field, flag, json_of, names_of, number, sentence, tag, text_of, through, words}
use Rattle.answer_facts.specs.Shown.{shown_line}
use Rattle.answer_facts.specs.Words.{blacklist_outcome, blacklist_passed_over, blacklist_words, command_named, command_word, outcome_word, outcome_words, passed_word, passed_words, setting_unknown, setting_word, shows_word, shows_words, side_word, side_words, unread_why, unread_word}

abbrev pub name_fact_pieces : List ℕ → NameFact → List Piece
name_fact_pieces whom (of_name_fact.Module path) =
    sentence (codes "module") (field (codes "name") whom) (words (codes "module ") ∷ field (codes "path") path.now ∷ [])
name_fact_pieces whom (of_name_fact.Alias of pattern) =
    sentence (codes "alias") (field (codes "name") whom) (words (codes "alias of ") ∷ field (codes "of") of.now ∷ words (codes ", as ") ∷ field (codes "pattern") pattern.now ∷ [])
name_fact_pieces whom (of_name_fact.BuiltInAlias of pattern) =
    sentence (codes "alias") (field (codes "name") whom) (words (codes "alias of the built-in ") ∷ field (codes "of") of.now ∷ words (codes ", as ") ∷ field (codes "pattern") pattern.now ∷ flag (codes "built_in") true ∷ [])
name_fact_pieces whom (of_name_fact.Exported by) =
    sentence (codes "symbol") (field (codes "name") whom) (words (codes "exported by ") ∷ field (codes "by") by.now ∷ [])
name_fact_pieces whom (of_name_fact.Named command) =
    sentence (codes "command_name") (field (codes "name") whom) (words (command_named command) ∷ tag (codes "setting") (command_word command) ∷ [])
name_fact_pieces whom of_name_fact.BuiltIn =
    sentence (codes "built_in") (field (codes "name") whom) (words (codes "built in") ∷ [])
name_fact_pieces whom (of_name_fact.File of) =
    sentence (codes "path") (field (codes "name") whom) (words (codes "the file of ") ∷ field (codes "of") of.now ∷ [])
name_fact_pieces whom (of_name_fact.LeftOut refused) =
    sentence (codes "left_out") (field (codes "name") whom) (words (codes "not asked for, since ") ∷ field (codes "refused") refused.now ∷ words (codes " is not removed") ∷ [])

abbrev pub missing_fact_pieces : List ℕ → MissingFact → List Piece
missing_fact_pieces whom of_missing_fact.NotFound =
    sentence (codes "not_found") (field (codes "name") whom) (words (codes "no module, alias or built-in has this name") ∷ [])
missing_fact_pieces whom of_missing_fact.NoName =
    sentence (codes "no_name") (field (codes "name") whom) (words (codes "no name, since a bracket stands alone") ∷ [])
missing_fact_pieces whom (of_missing_fact.BadPath because) =
    sentence (codes "bad_path") (field (codes "name") whom) (words (codes "a path: ") ∷ field (codes "because") because.now ∷ [])
missing_fact_pieces whom (of_missing_fact.Near near) =
    sentence (codes "near_name") (field (codes "name") whom) (words (codes "there is ") ∷ field (codes "near") near.now ∷ [])

abbrev pub lead_fact_pieces : List ℕ → LeadFact → List Piece
lead_fact_pieces whom (of_lead_fact.Softdep side of) =
    sentence (codes "softdep") (field (codes "name") whom) (words (side_words side) ∷ field (codes "of") of.now ∷ tag (codes "side") (side_word side) ∷ [])
lead_fact_pieces whom (of_lead_fact.Weakdep of) =
    sentence (codes "weakdep") (field (codes "name") whom) (words (codes "weakdep of ") ∷ field (codes "of") of.now ∷ [])
lead_fact_pieces whom (of_lead_fact.Alias of) =
    sentence (codes "alias") (field (codes "name") whom) (words (codes "alias of ") ∷ field (codes "of") of.now ∷ [])
lead_fact_pieces whom (of_lead_fact.Device of) =
    sentence (codes "device") (field (codes "name") whom) (words (codes "alias of ") ∷ field (codes "of") of.now ∷ words (codes " that a device has") ∷ [])

abbrev pub idle_fact_pieces : List ℕ → IdleFact → List Piece
idle_fact_pieces whom (of_idle_fact.Alias of) =
    sentence (codes "no_effect") (field (codes "name") whom) (words (codes "alias of ") ∷ field (codes "of") of.now ∷ words (codes ", but no module has that name") ∷ tag (codes "setting") (codes "alias") ∷ tag (codes "because") (codes "unknown") ∷ [])
idle_fact_pieces whom (of_idle_fact.Unknown setting) =
    sentence (codes "no_effect") (field (codes "name") whom) (words (setting_unknown setting) ∷ tag (codes "setting") (setting_word setting) ∷ tag (codes "because") (codes "unknown") ∷ [])
idle_fact_pieces whom (of_idle_fact.Later setting) =
    sentence (codes "no_effect") (field (codes "name") whom) (words (setting_word setting) ∷ words (codes " line does not count, since another comes first") ∷ tag (codes "setting") (setting_word setting) ∷ tag (codes "because") (codes "later") ∷ [])
idle_fact_pieces whom of_idle_fact.BlacklistedAlias =
    sentence (codes "blacklisted") (field (codes "name") whom) (words (codes "blacklisted, which does not hold for an alias") ∷ tag (codes "passed_over") (codes "alias") ∷ [])

abbrev pub module_fact_pieces : List ℕ → ModuleFact → List Piece
module_fact_pieces whom (of_module_fact.NeededBy by modules) =
    sentence (codes "needed_by") (field (codes "module") whom) (words (codes "needed by ") ∷ field (codes "by") by.now ∷ through (names_of modules.now) ∷ [])
module_fact_pieces whom (of_module_fact.Needs needs modules) =
    sentence (codes "needs") (field (codes "module") whom) (words (codes "needs ") ∷ field (codes "needs") needs.now ∷ through (names_of modules.now) ∷ [])
module_fact_pieces whom (of_module_fact.Blacklisted effect) =
    sentence (codes "blacklisted") (field (codes "module") whom) (words (codes "blacklisted") ∷ words (blacklist_words effect) ∷ tag (codes "passed_over") (blacklist_passed_over effect) ∷ tag (codes "outcome") (blacklist_outcome effect) ∷ [])
module_fact_pieces whom (of_module_fact.Misspelt written) =
    sentence (codes "blacklisted") (field (codes "module") whom) (words (codes "blacklisted as ") ∷ field (codes "as") written.now ∷ words (codes ", which does not hold: only ") ∷ words whom ∷ words (codes " would") ∷ tag (codes "passed_over") (codes "hyphen") ∷ [])
module_fact_pieces whom of_module_fact.KernelRefuses =
    sentence (codes "module_blacklist") (field (codes "module") whom) (words (codes "in module_blacklist=, so the kernel refuses it") ∷ tag (codes "outcome") (codes "refused") ∷ [])
module_fact_pieces whom of_module_fact.NoModule =
    sentence (codes "no_module") (field (codes "module") whom) (words (codes "no module has this name") ∷ [])
module_fact_pieces whom of_module_fact.SwitchedOff =
    sentence (codes "no_module") (field (codes "module") whom) (words (codes "no module has this name, so its alias is switched off") ∷ tag (codes "outcome") (codes "switched_off") ∷ [])

abbrev pub line_fact_pieces : List ℕ → LineFact → List Piece
line_fact_pieces whom (of_line_fact.Options text) =
    sentence (codes "options") (field (codes "module") whom) (words (codes "options ") ∷ field (codes "options") text.now ∷ [])
line_fact_pieces whom (of_line_fact.AliasOptions text alias) =
    sentence (codes "options") (field (codes "module") whom) (words (codes "options ") ∷ field (codes "options") text.now ∷ words (codes ", of the alias ") ∷ field (codes "alias") alias.now ∷ [])
line_fact_pieces whom (of_line_fact.Command command text passed) =
    sentence (codes "command") (field (codes "module") whom) (words (command_word command) ∷ words (codes " ") ∷ field (codes "command") text.now ∷ words (passed_words passed) ∷ tag (codes "setting") (command_word command) ∷ tag (codes "passed_over") (passed_word passed) ∷ [])
line_fact_pieces whom of_line_fact.Softdep =
    sentence (codes "softdep_line") (field (codes "module") whom) (words (codes "softdep, passed over by -i") ∷ tag (codes "passed_over") (codes "option") ∷ [])

abbrev pub state_fact_pieces : List ℕ → StateFact → List Piece
state_fact_pieces whom (of_state_fact.Loaded outcome) =
    sentence (codes "loaded") (field (codes "module") whom) (words (codes "loaded already") ∷ words (outcome_words outcome) ∷ tag (codes "outcome") (outcome_word outcome) ∷ [])
state_fact_pieces whom (of_state_fact.BuiltIn outcome) =
    sentence (codes "built_in") (field (codes "module") whom) (words (codes "built in") ∷ words (outcome_words outcome) ∷ tag (codes "outcome") (outcome_word outcome) ∷ [])
state_fact_pieces whom of_state_fact.NotLoaded =
    sentence (codes "not_loaded") (field (codes "module") whom) (words (codes "not loaded") ∷ [])
state_fact_pieces whom (of_state_fact.Users count) =
    sentence (codes "users") (field (codes "module") whom) (words (codes "its count of users is ") ∷ number (codes "count") count ∷ [])
state_fact_pieces whom of_state_fact.UsersUnknown =
    sentence (codes "users_unknown") (field (codes "module") whom) (words (codes "its count of users is not known") ∷ [])
state_fact_pieces whom (of_state_fact.OtherUsers count) =
    sentence (codes "other_users") (field (codes "module") whom) (words (codes "its count of users that are no modules is ") ∷ number (codes "count") count ∷ [])
state_fact_pieces whom (of_state_fact.HeldBy by) =
    sentence (codes "held_by") (field (codes "module") whom) (words (codes "held by ") ∷ field (codes "by") by.now ∷ [])

abbrev pub removal_fact_pieces : List ℕ → RemovalFact → List Piece
removal_fact_pieces whom of_removal_fact.Unused =
    sentence (codes "unused") (field (codes "module") whom) (words (codes "nothing uses it, so it is removed too") ∷ tag (codes "outcome") (codes "removed") ∷ [])
removal_fact_pieces whom (of_removal_fact.Freed after shown) =
    sentence (codes "unused") (field (codes "module") whom) (words (codes "nothing uses it once ") ∷ field (codes "after") after.now ∷ words (codes " is gone, so it is removed too") ∷ words (shows_words shown) ∷ tag (codes "outcome") (codes "removed") ∷ tag (codes "shown_by") (shows_word shown) ∷ [])
removal_fact_pieces whom of_removal_fact.Free =
    sentence (codes "free") (field (codes "module") whom) (words (codes "nothing uses it by then") ∷ [])
removal_fact_pieces whom of_removal_fact.Gone =
    sentence (codes "gone") (field (codes "module") whom) (words (codes "gone by then") ∷ [])
removal_fact_pieces whom of_removal_fact.Ends =
    sentence (codes "removal_ends") (field (codes "module") whom) (words (codes "not removed, so the removal ends") ∷ [])
removal_fact_pieces whom (of_removal_fact.LeftOut refused) =
    sentence (codes "left_out") (field (codes "module") whom) (words (codes "not asked for, since ") ∷ field (codes "refused") refused.now ∷ words (codes " is not removed") ∷ [])

-- a file is not read, since this one of its name comes first
abbrev pub hidden_pieces : List ℕ → List ℕ → List Piece
hidden_pieces whom by =
    sentence (codes "not_read") (field (codes "file") whom) (words (codes "not read, since a file of its name comes first (") ∷ field (codes "by") by ∷ words (codes ")") ∷ tag (codes "because") (codes "hidden") ∷ [])

-- a file is not read, for another reason
abbrev pub unread_pieces : List ℕ → Unread → List Piece
unread_pieces whom reason =
    sentence (codes "not_read") (field (codes "file") whom) (words (codes "not read, ") ∷ words (unread_why reason) ∷ tag (codes "because") (unread_word reason) ∷ [])

abbrev pub file_fact_pieces : List ℕ → FileFact → List Piece
file_fact_pieces whom (of_file_fact.Hidden by) = hidden_pieces whom by.now
file_fact_pieces whom (of_file_fact.Unread reason) = unread_pieces whom reason
file_fact_pieces whom of_file_fact.CarriageReturn =
    sentence (codes "carriage_return") (words whom) (words (codes "a CR ends its lines, and counts as part of their last words") ∷ [])

-- a line that only one of two machines answers; the machine is told to programs
abbrev pub change_pieces : List ℕ → List ℕ → List ℕ → List ℕ → Origin → List Piece
change_pieces word mark whom line origin =
    sentence word (field (codes "name") whom) (words mark ∷ field (codes "line") line ∷ tag (codes "release") origin.release.now ∷ tag (codes "root") origin.root.now ∷ [])

abbrev pub change_fact_pieces : List ℕ → ChangeFact → List Piece
change_fact_pieces whom (of_change_fact.Taken line origin) = change_pieces (codes "taken") (codes "- ") whom line.now origin
change_fact_pieces whom (of_change_fact.Added line origin) = change_pieces (codes "added") (codes "+ ") whom line.now origin

-- where something stands
abbrev pub spot_pieces : Spot → List Piece
spot_pieces (spot_is.Line file line) =
    words (codes " (") ∷ field (codes "file") file.now ∷ words (codes " line ") ∷ number (codes "line") line ∷ words (codes ")") ∷ []
spot_pieces (spot_is.Entry file entry) =
    words (codes " (") ∷ field (codes "file") file.now ∷ words (codes " entry ") ∷ number (codes "entry") entry ∷ words (codes ")") ∷ []
spot_pieces (spot_is.Whole file) = words (codes " (") ∷ field (codes "file") file.now ∷ words (codes ")") ∷ []
spot_pieces spot_is.Nowhere = []

abbrev pub what_pieces : List ℕ → What → List Piece
what_pieces whom (of.Name fact) = name_fact_pieces whom fact
what_pieces whom (of.Missing fact) = missing_fact_pieces whom fact
what_pieces whom (of.Lead fact) = lead_fact_pieces whom fact
what_pieces whom (of.Idle fact) = idle_fact_pieces whom fact
what_pieces whom (of.Module fact) = module_fact_pieces whom fact
what_pieces whom (of.Line fact) = line_fact_pieces whom fact
what_pieces whom (of.State fact) = state_fact_pieces whom fact
what_pieces whom (of.Removal fact) = removal_fact_pieces whom fact
what_pieces whom (of.File fact) = file_fact_pieces whom fact
what_pieces whom (of.Note fact) = note_fact_pieces whom fact
what_pieces whom (of.Change fact) = change_fact_pieces whom fact

-- a fact as the parts of one line
abbrev pub pieces_of_fact : Fact → List Piece
pieces_of_fact fact = what_pieces fact.whom.now fact.what ++ spot_pieces fact.spot

abbrev pub pieces_of_facts : List Fact → List (List Piece)
pieces_of_facts facts = map pieces_of_fact facts

-- its line for people, and its line of JSON
abbrev pub text_line : Fact → List ℕ
text_line fact = shown_line (text_of (pieces_of_fact fact))

abbrev pub json_line : Fact → List ℕ
json_line fact = shown_line (json_of (pieces_of_fact fact))

-- all facts, each once and in their order
abbrev pub text_lines : List Fact → List ℕ
text_lines facts = flat_map text_line facts

abbrev pub json_lines : List Fact → List ℕ
json_lines facts = flat_map json_line facts
