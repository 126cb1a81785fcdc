-- A name stands among the first parameters, or among the later names.
use Rattle.std.proofs.Common.{◌≡◌, ℕ, ◌<◌, ◌+◌, Bool, true, false, cond, ◌||◌, List, [], ◌∷◌, ◌++◌, map, length, take, drop, nat_le, Vec, refl, sym, ◌∙◌, ap, arith}
use Rattle.std.proofs.lemmas.Bool.{leb-true, leb-false}
use Rattle.std.proofs.lemmas.List.{map-append, take-append-drop, drop-append-le, length-append, drop_all}
use Rattle.std.proofs.lemmas.List.Folds.{list_any-append}
use Rattle.std.specs.declared.alloc.Global.{Global}
use Rattle.std.specs.List.{list_any}
use Rattle.std.specs.Str.{bytes_eq}
use Rattle.indexmap.specs.IndexSet.{insert_key}
use Rattle.dep_index.specs.declared.catalogue.params.Param.{Param}
use Rattle.dep_index.specs.Catalogue.ParamNames.{names_in, later_names}

pub any-names : (name : List ℕ) (keys : List (Vec ℕ Global)) → list_any (λ (k : Vec ℕ Global). bytes_eq name k.items) keys ≡ list_any (bytes_eq name) (names_in keys)
any-names name [] = refl
any-names name (k ∷ keys) = ap (λ b. bytes_eq name k.items || b) (any-names name keys)

any-params : (name : List ℕ) (ps : List Param) → list_any (bytes_eq name) (map (λ (p : Param). p.name) ps) ≡ list_any (λ (p : Param). bytes_eq name p.name) ps
any-params name [] = refl
any-params name (p ∷ ps) = ap (λ b. bytes_eq name p.name || b) (any-params name ps)

-- a name of all parameters is one of the first ones or of the later ones
pub parted : (name : List ℕ) (ps : List Param)
    → (list_any (λ (p : Param). bytes_eq name p.name) (take 16 ps) || list_any (bytes_eq name) (later_names ps)) ≡ list_any (λ (p : Param). bytes_eq name p.name) ps
parted name ps =
    ap (λ b. list_any (λ (p : Param). bytes_eq name p.name) (take 16 ps) || b) (any-params name (drop 16 ps))
    ∙ sym (list_any-append (λ (p : Param). bytes_eq name p.name) (take 16 ps) (drop 16 ps))
    ∙ ap (list_any (λ (p : Param). bytes_eq name p.name)) (take-append-drop 16 ps)

or_later : (a b : Bool) → (a || b) ≡ false → b ≡ false
or_later true b h = absurd (cc)
or_later false b h = h

-- a name that no parameter has is none of the later names
pub none_later : (name : List ℕ) (ps : List Param) → list_any (λ (p : Param). bytes_eq name p.name) ps ≡ false → list_any (bytes_eq name) (later_names ps) ≡ false
none_later name ps none = or_later _ _ (parted name ps ∙ none)

-- a new key goes last
pub names-more : (keys : List (Vec ℕ Global)) (own : Vec ℕ Global) → list_any (bytes_eq own.items) (names_in keys) ≡ false
    → names_in (insert_key (λ (a : Vec ℕ Global) (b : Vec ℕ Global). bytes_eq a.items b.items) keys own) ≡ names_in keys ++ own.items ∷ []
names-more keys own none =
    ap (λ t. names_in (cond t keys (keys ++ own ∷ []))) (any-names own.items keys ∙ none)
    ∙ map-append (λ (k : Vec ℕ Global). k.items) keys (own ∷ [])

-- the later names of one parameter more
pub later-more : (ps : List Param) (param : Param)
    → later_names (ps ++ param ∷ []) ≡ cond (nat_le 16 (length ps)) (later_names ps ++ param.name ∷ []) (later_names ps)
later-more ps param = by (nat_le 16 (length ps)) refl where
  by : (b : Bool) → nat_le 16 (length ps) ≡ b → later_names (ps ++ param ∷ []) ≡ cond b (later_names ps ++ param.name ∷ []) (later_names ps)
  by true many =
      ap (map (λ (p : Param). p.name)) (drop-append-le 16 ps (param ∷ []) (leb-true 16 (length ps) many))
      ∙ map-append (λ (p : Param). p.name) (drop 16 ps) (param ∷ [])
  by false few =
      let short : length ps < 16 = leb-false 16 (length ps) few in
      let one_more : length (ps ++ param ∷ []) ≡ length ps + 1 = length-append ps (param ∷ []) in
      ap (map (λ (p : Param). p.name)) (drop_all 16 (ps ++ param ∷ []) (omega (arith, short, one_more)) ∙ sym (drop_all 16 ps (omega (arith, short))))

-- a name that is none of the first ones is a later one, if a parameter has it
pub behind : (name : List ℕ) (ps : List Param) → list_any (λ (p : Param). bytes_eq name p.name) (take 16 ps) ≡ false
    → list_any (bytes_eq name) (later_names ps) ≡ list_any (λ (p : Param). bytes_eq name p.name) ps
behind name ps none = sym (ap (λ b. b || list_any (bytes_eq name) (later_names ps)) none) ∙ parted name ps
