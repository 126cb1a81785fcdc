-- A name stands for the modules of the list that answers it.
use Rattle.std.proofs.Common.{◌≡◌, ℕ, Bool, true, false, true≢false, ◌||◌, cond, List, [], ◌∷◌, length, map, nat_lt, refl, sym, ◌∙◌, ap}
use Rattle.std.proofs.lemmas.Bool.{lt-ltb}
use Rattle.std.proofs.Math.Nat.{zero-lt-suc}
use Rattle.kmod_query.specs.Early.{is_found_early}
use Rattle.kmod_query.specs.Facts.{Facts}
use Rattle.kmod_query.specs.LookUp.{by_alias, by_one_alias, by_symbol, exporting, found, is_symbol, itself, loadable, or_else}
use Rattle.kmod_query.specs.LookUp as look
use Rattle.kmod_query.specs.Objects.{Object, by_name}
use Rattle.kmod_query.specs.Reasons.{Reason, configured, in_modules_dep, exported, commanded, aliased, built_in, aliased_built_in, nothing}
use Rattle.kmod_query.specs.Reasons.{aliased_reason, built_in_reason, commanded_reason, exported_reason, exporters_of, found_by, module_reason, objects_by, reason_of, said_by, unless_empty}
use Rattle.kmod_query.specs.declared.finding.Finding.{Finding}
use Rattle.kmod_query.specs.declared.finding.Finding.TheVariants as by
use Rattle.kmod_query.specs.declared.world.World.{World}

is_some_first : {X : Type 0} (x : X) (xs : List X) → nat_lt 0 (length (x ∷ xs)) ≡ true
is_some_first x xs = lt-ltb 0 (length (x ∷ xs)) (zero-lt-suc (length xs))

by_list : {X : Type 0} (name : List ℕ) (f : X → Object) (xs : List X) (reason : List X → Reason) (later : Reason) (others : List Object)
    → ((ys : List X) → objects_by name (reason ys) ≡ map f ys) → objects_by name later ≡ others → objects_by name (unless_empty xs reason later) ≡ or_else (map f xs) others
by_list name f [] reason later others own next = next
by_list name f (x ∷ xs) reason later others own next =
    ap (λ b. objects_by name (cond b (reason (x ∷ xs)) later)) (is_some_first x xs)
    ∙ own (x ∷ xs)
    ∙ sym (ap (λ b. cond b (map f (x ∷ xs)) others) (is_some_first (f x) (map f xs)))

by_last : (name : List ℕ) (names : List (List ℕ)) → objects_by name (unless_empty names aliased_built_in nothing) ≡ by_alias name true names
by_last name [] = refl
by_last name (one ∷ names) = ap (λ b. objects_by name (cond b (aliased_built_in (one ∷ names)) nothing)) (is_some_first one names)

by_flag : (name : List ℕ) (known : Bool) (reason later : Reason) (others : List Object)
    → objects_by name reason ≡ by_name name ∷ [] → objects_by name later ≡ others → objects_by name (cond known reason later) ≡ or_else (itself known name) others
by_flag name true reason later others own next = own
by_flag name false reason later others own next = next

exported_by : (facts : Facts) (name : List ℕ) → map (by_one_alias name false) (exporters_of facts name) ≡ by_symbol facts name
exported_by facts name = next (is_symbol name)
  where
    next : (symbol : Bool) → map (by_one_alias name false) (cond symbol (facts.exporters name) []) ≡ cond symbol (by_alias name false (facts.exporters name)) []
    next true = refl
    next false = refl

by_built_in : (facts : Facts) (name : List ℕ) → objects_by name (built_in_reason facts name) ≡ look.built_in facts name
by_built_in facts name =
    by_flag name (facts.is_builtin name) built_in (unless_empty (facts.builtin_aliased name) aliased_built_in nothing) (by_alias name true (facts.builtin_aliased name)) refl (by_last name (facts.builtin_aliased name))

by_aliased : (facts : Facts) (name : List ℕ) → objects_by name (aliased_reason facts name) ≡ look.aliased facts name
by_aliased facts name = by_list name (by_one_alias name false) (facts.aliased name) aliased (built_in_reason facts name) (look.built_in facts name) (λ names. refl) (by_built_in facts name)

by_commanded : (facts : Facts) (name : List ℕ) → objects_by name (commanded_reason facts name) ≡ look.commanded facts name
by_commanded facts name = by_flag name (facts.is_commanded name) commanded (aliased_reason facts name) (look.aliased facts name) refl (by_aliased facts name)

by_exported : (facts : Facts) (name : List ℕ) → objects_by name (exported_reason facts name) ≡ exporting facts name
by_exported facts name =
    by_list name (by_one_alias name false) (exporters_of facts name) exported (commanded_reason facts name) (look.commanded facts name) (λ names. refl) (by_commanded facts name)
    ∙ ap (λ l. or_else l (look.commanded facts name)) (exported_by facts name)

by_module : (facts : Facts) (name : List ℕ) → objects_by name (module_reason facts name) ≡ loadable facts name
by_module facts name = by_flag name (facts.is_loadable name) (in_modules_dep (facts.path name)) (exported_reason facts name) (exporting facts name) refl (by_exported facts name)

pub objects_of-reason : (facts : Facts) (name : List ℕ) → objects_by name (reason_of facts name) ≡ found facts name
objects_of-reason facts name =
    by_list name (λ (pair : List ℕ × List ℕ). by_one_alias pair.0 false pair.1) (facts.configured name) configured (module_reason facts name) (loadable facts name) (λ pairs. refl) (by_module facts name)

pub found_by-reason : (world : World) (name : List ℕ) (finding : Finding) → found_by name finding ≡ objects_by name (said_by world finding)
found_by-reason world name (by.Configured entries) = refl
found_by-reason world name (by.Module line) = refl
found_by-reason world name (by.Exported lines) = refl
found_by-reason world name by.Commanded = refl
found_by-reason world name (by.Aliased lines) = refl
found_by-reason world name by.BuiltIn = refl
found_by-reason world name (by.AliasedBuiltIn lines) = refl
found_by-reason world name by.Nothing = refl

-- what neither of the first two lists has is answered by a later one
pub late-reason : (facts : Facts) (name : List ℕ) → is_found_early facts name ≡ false → reason_of facts name ≡ exported_reason facts name
late-reason facts name h = next (nat_lt 0 (length (facts.configured name))) (facts.is_loadable name) h
  where
    next : (has loads : Bool) → (has || loads) ≡ false
        → cond has (configured (facts.configured name)) (cond loads (in_modules_dep (facts.path name)) (exported_reason facts name)) ≡ exported_reason facts name
    next true loads h = absurd (true≢false h)
    next false true h = absurd (true≢false h)
    next false false h = refl
