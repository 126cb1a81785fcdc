-- Words of facts: what people read, and the values of fields.
use Rattle.std.specs.Prelude.{ℕ, List, [], codes}
use Rattle.answer_facts.specs.declared.line_fact.Command.{Command}
use Rattle.answer_facts.specs.declared.line_fact.Command.TheVariants as of_command
use Rattle.answer_facts.specs.declared.line_fact.Passed.{Passed}
use Rattle.answer_facts.specs.declared.line_fact.Passed.TheVariants as of_passed
use Rattle.answer_facts.specs.declared.lead_fact.Side.{Side}
use Rattle.answer_facts.specs.declared.lead_fact.Side.TheVariants as of_side
use Rattle.answer_facts.specs.declared.idle_fact.Setting.{Setting}
use Rattle.answer_facts.specs.declared.idle_fact.Setting.TheVariants as of_setting
use Rattle.answer_facts.specs.declared.blacklist.Blacklist.{Blacklist}
use Rattle.answer_facts.specs.declared.blacklist.Blacklist.TheVariants as of_blacklist
use Rattle.answer_facts.specs.declared.state_fact.Outcome.{Outcome}
use Rattle.answer_facts.specs.declared.state_fact.Outcome.TheVariants as of_outcome
use Rattle.answer_facts.specs.declared.file_fact.Unread.{Unread}
use Rattle.answer_facts.specs.declared.file_fact.Unread.TheVariants as of_unread
use Rattle.answer_facts.specs.declared.removal_fact.Shows.{Shows}
use Rattle.answer_facts.specs.declared.removal_fact.Shows.TheVariants as of_shows

-- the first word of its lines
abbrev pub command_word : Command → List ℕ
command_word of_command.Install = codes "install"
command_word of_command.Remove = codes "remove"

-- what is said of the very name of such a line
abbrev pub command_named : Command → List ℕ
command_named of_command.Install = codes "name of an install line"
command_named of_command.Remove = codes "name of a remove line"

-- what is said after its command
abbrev pub passed_words : Passed → List ℕ
passed_words of_passed.Never = []
passed_words of_passed.ByOption = codes ", passed over by -i"
passed_words of_passed.BySoftItems = codes ", passed over since it has soft dependencies"

-- the value in JSON
abbrev pub passed_word : Passed → List ℕ
passed_word of_passed.Never = []
passed_word of_passed.ByOption = codes "option"
passed_word of_passed.BySoftItems = codes "soft_items"

-- what is said before the module
abbrev pub side_words : Side → List ℕ
side_words of_side.Before = codes "softdep before "
side_words of_side.After = codes "softdep after "

-- the value in JSON
abbrev pub side_word : Side → List ℕ
side_word of_side.Before = codes "before"
side_word of_side.After = codes "after"

-- the first word of its lines
abbrev pub setting_word : Setting → List ℕ
setting_word of_setting.Blacklist = codes "blacklist"
setting_word of_setting.Options = codes "options"
setting_word of_setting.Install = codes "install"
setting_word of_setting.Remove = codes "remove"
setting_word of_setting.Softdep = codes "softdep"

-- what is said if nothing has its name
abbrev pub setting_unknown : Setting → List ℕ
setting_unknown of_setting.Blacklist = codes "blacklisted, but no module has this name"
setting_unknown of_setting.Options = codes "options, but no module or alias has this name"
setting_unknown of_setting.Install = codes "install, but no module has this name"
setting_unknown of_setting.Remove = codes "remove, but no module has this name"
setting_unknown of_setting.Softdep = codes "softdep, but no module has this name"

-- what is said after `blacklisted`
abbrev pub blacklist_words : Blacklist → List ℕ
blacklist_words of_blacklist.Listed = []
blacklist_words of_blacklist.Holds = codes ", so it is not loaded"
blacklist_words of_blacklist.InKernel = codes ", so it has no line, but is in the kernel"
blacklist_words of_blacklist.OwnName = codes ", which does not hold for its own name without -b"
blacklist_words of_blacklist.Needed = codes ", which does not hold for what another module needs"
blacklist_words of_blacklist.SoftDependency = codes ", which does not hold for a soft dependency"
blacklist_words of_blacklist.Resolved = codes ", which does not hold for -R"

-- why it does not hold, in JSON
abbrev pub blacklist_passed_over : Blacklist → List ℕ
blacklist_passed_over of_blacklist.Listed = []
blacklist_passed_over of_blacklist.Holds = []
blacklist_passed_over of_blacklist.InKernel = []
blacklist_passed_over of_blacklist.OwnName = codes "own_name"
blacklist_passed_over of_blacklist.Needed = codes "needed"
blacklist_passed_over of_blacklist.SoftDependency = codes "soft_dependency"
blacklist_passed_over of_blacklist.Resolved = codes "resolve"

-- what follows, in JSON
abbrev pub blacklist_outcome : Blacklist → List ℕ
blacklist_outcome of_blacklist.Listed = []
blacklist_outcome of_blacklist.Holds = codes "not_loaded"
blacklist_outcome of_blacklist.InKernel = codes "in_kernel"
blacklist_outcome of_blacklist.OwnName = []
blacklist_outcome of_blacklist.Needed = []
blacklist_outcome of_blacklist.SoftDependency = []
blacklist_outcome of_blacklist.Resolved = []

-- what is said of it
abbrev pub outcome_words : Outcome → List ℕ
outcome_words of_outcome.Silent = []
outcome_words of_outcome.NothingLoaded = codes ", so nothing is loaded"
outcome_words of_outcome.NotRemoved = codes ", so it is not removed"

-- the value in JSON
abbrev pub outcome_word : Outcome → List ℕ
outcome_word of_outcome.Silent = []
outcome_word of_outcome.NothingLoaded = codes "nothing_loaded"
outcome_word of_outcome.NotRemoved = codes "not_removed"

-- what is said after `not read, `
abbrev pub unread_why : Unread → List ℕ
unread_why of_unread.Dotted = codes "since its name begins with a dot"
unread_why of_unread.OtherEnding = codes "since its name does not end in .conf"
unread_why of_unread.Folder = codes "since it is a folder within a folder"
unread_why of_unread.LeadsNowhere = codes "since it is a link that leads to nothing"
unread_why of_unread.Outside = codes "since it lies in no folder modprobe.d"

-- the value in JSON
abbrev pub unread_word : Unread → List ℕ
unread_word of_unread.Dotted = codes "dotted"
unread_word of_unread.OtherEnding = codes "ending"
unread_word of_unread.Folder = codes "folder"
unread_word of_unread.LeadsNowhere = codes "dangling"
unread_word of_unread.Outside = codes "outside"

-- what is said of it
abbrev pub shows_words : Shows → List ℕ
shows_words of_shows.Each = []
shows_words of_shows.WholeAlone = codes ", which only --whole shows"

-- the value in JSON
abbrev pub shows_word : Shows → List ℕ
shows_word of_shows.Each = []
shows_word of_shows.WholeAlone = codes "whole"
