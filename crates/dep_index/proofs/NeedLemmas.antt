-- The needs of a slot by the links are those of the definition.
use Rattle.std.proofs.Common.{◌≡◌, ℕ, ◌+◌, ◌<◌, List, [], ◌∷◌, ◌++◌, Bool, true, false, cond, not, ◌||◌, length, take, Option, Some, None, is_some, is_none, nat_lt, Vec, refl, sym, ◌∙◌, ap, arith}
use Rattle.std.specs.declared.alloc.Global.{Global}
use Rattle.std.specs.List.{list_any, position_or_len, slice_get}
use Rattle.std.specs.Prelude.{IfSome}
use Rattle.std.proofs.lemmas.Bool.{ltb-true}
use Rattle.std.proofs.lemmas.List.{take_more, length-map, get_or-map}
use Rattle.std.proofs.lemmas.Option.{get_or_from_slice_get}
use Rattle.dep_index.specs.Table.{Module, no_module}
use Rattle.dep_index.specs.Catalogue.{Description, description_at, described, exporter, exports_symbol, is_exported, needs_from, needs_of, has_unknown_symbol, module_of, modules_of, with_need}
use Rattle.dep_index.specs.declared.catalogue.details.Details.{Details}
use Rattle.dep_index.specs.Catalogue.Descriptions.{description_of, descriptions_in}
use Rattle.dep_index.specs.Catalogue.Exports.{Link, links_of, slot_at, needs_by}
use Rattle.dep_index.proofs.ExportLemmas.{link_exporter, link_exported}
use Rattle.dep_index.proofs.SlotLemmas.{length-modules_of, module_at-modules_of}

abbrev Entry : Type 0
Entry = Vec ℕ Global × Details

needs_same : (ds : List Description) (m : ℕ) (found : List ℕ) (ss : List (List ℕ)) → needs_by (links_of ds) m found ss ≡ needs_from ds m found ss
needs_same ds m found [] = refl
needs_same ds m found (s ∷ ss) =
    ap (λ o. needs_by (links_of ds) m (with_need m found o) ss) (link_exporter ds s)
    ∙ needs_same ds m (with_need m found (exporter ds s)) ss

none_is : (o : Option ℕ) → is_none o ≡ not (is_some o)
none_is None = refl
none_is (Some x) = refl

unknown_same : (ds : List Description) (ss : List (List ℕ)) → list_any (λ s. is_none (slot_at (links_of ds) s)) ss ≡ list_any (λ s. not (is_exported ds s)) ss
unknown_same ds [] = refl
unknown_same ds (s ∷ ss) =
    ap (λ t. t || list_any (λ x. is_none (slot_at (links_of ds) x)) ss) (none_is (slot_at (links_of ds) s) ∙ ap not (link_exported ds s))
    ∙ ap (λ t. not (is_exported ds s) || t) (unknown_same ds ss)

if_below : (k n : ℕ) (b : Bool) → nat_lt k n ≡ b → IfSome (cond b (Some k) None) (λ j. j < n)
if_below k n true e = ltb-true k n e
if_below k n false e = tt

-- the slot of a link is a slot of the catalogue
pub slot_within : (ds : List Description) (n : ℕ) (links : List Link) → links ≡ links_of ds → n ≡ length ds → (s : List ℕ) → IfSome (slot_at links s) (λ k. k < n)
slot_within ds n links is len s =
    let at : slot_at links s ≡ exporter ds s = ap (λ ls. slot_at ls s) is ∙ link_exporter ds s in
    rw (at, len) (if_below (position_or_len (exports_symbol s) ds) (length ds) (nat_lt (position_or_len (exports_symbol s) ds) (length ds)) refl)

-- the module of the next slot comes behind those before it
pub next_slot : (entries : List Entry) (links : List Link) (m : ℕ) (e : Entry) (built : List Module) (symbols : List (List ℕ)) (needs : List ℕ) (unknown : Bool)
    → links ≡ links_of (descriptions_in entries) → slice_get entries m ≡ Some e → m < length entries → symbols ≡ e.1.needed_symbols
    → built ≡ take m (modules_of (descriptions_in entries)) → needs ≡ needs_by links m [] symbols → unknown ≡ list_any (λ s. is_none (slot_at links s)) symbols
    → built ++ record { needs = needs; unknown_symbol = unknown; permanent = e.1.permanent } ∷ [] ≡ take (m + 1) (modules_of (descriptions_in entries))
next_slot entries links m e built symbols needs unknown is here below ss before ns us =
    let ds = descriptions_in entries in
    let inside : m < length ds = omega (arith, below, length-map entries description_of) in
    let at : description_at ds m ≡ description_of e =
    get_or-map description_of entries m e (described []) below ∙ ap description_of (get_or_from_slice_get entries m e e here) in
    let needed : symbols ≡ (description_at ds m).needed_symbols = ss ∙ ap (λ (d : Description). d.needed_symbols) (sym at) in
    let own_needs : needs ≡ needs_of ds m = ns ∙ ap (λ ls. needs_by ls m [] symbols) is ∙ ap (needs_by (links_of ds) m []) needed ∙ needs_same ds m [] (description_at ds m).needed_symbols in
    let own_unknown : unknown ≡ has_unknown_symbol ds m = us ∙ ap (λ ls. list_any (λ s. is_none (slot_at ls s)) symbols) is ∙ unknown_same ds symbols ∙ ap (list_any (λ s. not (is_exported ds s))) needed in
    let own_permanent : e.1.permanent ≡ (description_at ds m).permanent = ap (λ (d : Description). d.permanent) (sym at) in
    let own : (let x : Module = record { needs = needs; unknown_symbol = unknown; permanent = e.1.permanent } in x) ≡ module_of ds m =
    (λ i. record { needs = own_needs i; unknown_symbol = own_unknown i; permanent = own_permanent i }) in
    let within : m < length (modules_of ds) = omega (arith, inside, length-modules_of ds) in
    ap (λ l. l ++ record { needs = needs; unknown_symbol = unknown; permanent = e.1.permanent } ∷ []) before
    ∙ ap (λ (x : Module). take m (modules_of ds) ++ x ∷ []) (own ∙ sym (module_at-modules_of ds m inside))
    ∙ sym (take_more (modules_of ds) m no_module within)
