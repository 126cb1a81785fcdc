-- What rows cut out of the targets of all modules.
use Rattle.std.proofs.Common.{◌≡◌, ℕ, zero, suc, ◌+◌, ◌-◌, ◌<◌, ◌≤◌, Bool, true, false, not, ◌&&◌, List, [], ◌∷◌, ◌++◌, length, take, drop, get_or, set, replicate, length-append, length-set, length-drop, inl, inr, refl, sym, ◌∙◌, ap, subst, arith}
use Rattle.std.specs.List.{list_all, slice_range}
use Rattle.std.proofs.lemmas.Bool.Decides.{eqb_tells}
use Rattle.std.proofs.lemmas.List.{get_or-map, get_or-set_same, get_or-set_other, map-set, length-map, take-append-le, drop-append-le, length-take-le}
use Rattle.std.proofs.lemmas.List.Folds.{list_all-append, drop_split}
use Rattle.std.proofs.Math.Seq.{take-append-add}
use Rattle.load_plan.specs.declared.graph.Target.{Target}
use Rattle.load_plan.specs.declared.graph.Row.{Row}
use Rattle.load_plan.specs.Cuts.{no_row, node_in, nodes_in, Fits, AllFit, Appends}
use Rattle.load_plan.specs.Graph.{Node, node_at, no_node, is_bounded, is_within}
use Rattle.load_plan.specs.SoftModules.{is_missing, names_no_soft_module, HasNoSoftModules}
use Rattle.load_plan.proofs.Bounds.{named_within}

-- a range of a list is the same after an append
range-stays : {A : Type 0} (xs ys : List A) (a b : ℕ) → a ≤ b → b ≤ length xs → slice_range (xs ++ ys) a b ≡ slice_range xs a b
range-stays xs ys a b order within =
    let long : length (drop a xs) ≡ length xs - a = length-drop a xs in
    ap (take (b - a)) (drop-append-le a xs ys (omega (arith, order, within)))
    ∙ take-append-le (b - a) (drop a xs) ys (omega (arith, long, order, within))

-- two ranges one after the other
range-joined : {A : Type 0} (xs : List A) (a b c : ℕ) → a ≤ b → b ≤ c → c ≤ length xs → slice_range xs a c ≡ slice_range xs a b ++ slice_range xs b c
range-joined xs a b c first second within =
    ap (take (c - a)) (drop_split xs a b first)
    ∙ ap (λ k. take k (slice_range xs a b ++ drop b xs)) sum
    ∙ take-append-add (slice_range xs a b) (drop b xs) (c - b)
  where
    long : length (slice_range xs a b) ≡ b - a
    long = length-take-le (b - a) (drop a xs) (omega (arith, length-drop a xs, first, second, within))

    sum : c - a ≡ length (slice_range xs a b) + (c - b)
    sum = omega (arith, long, first, second)

fits_more : {n k : ℕ} {row : Row} → n ≤ k → Fits n row → Fits k row
fits_more {n} {k} {row} more f = record { hard = f.hard; pre = f.pre; post = f.post; within = omega (arith, more, f.within) }

-- a node is the same after an append
node_in-stays : (ts more : List Target) (row : Row) → Fits (length ts) row → node_in (ts ++ more) row ≡ node_in ts row
node_in-stays ts more row f =
    let hard : slice_range (ts ++ more) row.hard_from row.pre_from ≡ slice_range ts row.hard_from row.pre_from = range-stays ts more row.hard_from row.pre_from f.hard (omega (arith, f.pre, f.post, f.within)) in
    let pre : slice_range (ts ++ more) row.pre_from row.post_from ≡ slice_range ts row.pre_from row.post_from = range-stays ts more row.pre_from row.post_from f.pre (omega (arith, f.post, f.within)) in
    let post : slice_range (ts ++ more) row.post_from row.end ≡ slice_range ts row.post_from row.end = range-stays ts more row.post_from row.end f.post f.within in
    rw (hard, pre, post) refl

nodes_in-stays : (ts more : List Target) (rows : List Row) → AllFit (length ts) rows → nodes_in (ts ++ more) rows ≡ nodes_in ts rows
nodes_in-stays ts more [] fit = refl
nodes_in-stays ts more (row ∷ rows) fit =
    ap (λ n. n ∷ nodes_in (ts ++ more) rows) (node_in-stays ts more row (fit 0))
    ∙ ap (λ ns. node_in ts row ∷ ns) (nodes_in-stays ts more rows (λ m. fit (suc m)))

-- the node of a module
node_in-at : (ts : List Target) (rows : List Row) (m : ℕ) (row : Row) → m < length rows → row ≡ get_or rows m row → node_in ts row ≡ node_at (nodes_in ts rows) m
node_in-at ts rows m row within is = ap (node_in ts) is ∙ sym (get_or-map (node_in ts) rows m row _ within)

-- the node of a module in a graph's view
pub row_is : (ts : List Target) (rows : List Row) (w : List Node) (m : ℕ) (row : Row) → nodes_in ts rows ≡ w → m < length w → row ≡ get_or rows m row → node_in ts row ≡ node_at w m
row_is ts rows w m row view within is =
    let long : length rows ≡ length w = sym (length-map rows (node_in ts)) ∙ ap length view in
    node_in-at ts rows m row (omega (arith, within, long)) is ∙ ap (λ ns. node_at ns m) view

-- what a row cuts out are modules of the graph
pub row_within : (ts cut : List Target) (rows : List Row) (w : List Node) (m : ℕ) (row : Row) → nodes_in ts rows ≡ w → is_bounded (nodes_in ts rows) ≡ true → m < length w → row ≡ get_or rows m row → cut ≡ ts
    → (list_all (is_within (length w)) (node_in cut row).hard ≡ true) × (list_all (is_within (length w)) (node_in cut row).pre ≡ true) × (list_all (is_within (length w)) (node_in cut row).post ≡ true)
row_within ts cut rows w m row view bounded within is same =
    let node : node_in cut row ≡ node_at w m = ap (λ l. node_in l row) same ∙ row_is ts rows w m row view within is in
    subst (λ n. (list_all (is_within (length w)) n.hard ≡ true) × (list_all (is_within (length w)) n.pre ≡ true) × (list_all (is_within (length w)) n.post ≡ true)) (sym node) (named_within w m (ap is_bounded (sym view) ∙ bounded))

-- what holds of all that a row cuts out holds of each part
parts_pass : (p : Target → Bool) (ts : List Target) (row : Row) → Fits (length ts) row → list_all p (slice_range ts row.hard_from row.end) ≡ (list_all p (node_in ts row).hard && list_all p (node_in ts row).pre && list_all p (node_in ts row).post)
parts_pass p ts row f =
    ap (list_all p) (range-joined ts row.hard_from row.post_from row.end (omega (arith, f.hard, f.pre)) f.post f.within)
    ∙ list_all-append p (slice_range ts row.hard_from row.post_from) (slice_range ts row.post_from row.end)
    ∙ ap (λ b. b && list_all p (slice_range ts row.post_from row.end))
    (ap (list_all p) (range-joined ts row.hard_from row.pre_from row.post_from f.hard f.pre (omega (arith, f.post, f.within)))
    ∙ list_all-append p (slice_range ts row.hard_from row.pre_from) (slice_range ts row.pre_from row.post_from))

-- whole: what a row cuts out at once, if the node came after the others
pub whole-passes : (p : Target → Bool) {before after : List Target} {row : Row} {node : Node} → Appends before after row node → (list_all p node.hard && list_all p node.pre && list_all p node.post) ≡ true → list_all p (slice_range after row.hard_from row.end) ≡ true
whole-passes p {before} {after} {row} {node} added all =
    parts_pass p after row added.fits ∙ ap (λ (n : Node). list_all p n.hard && list_all p n.pre && list_all p n.post) added.same ∙ all

pub passes-whole : (p : Target → Bool) {before after : List Target} {row : Row} {node : Node} → Appends before after row node → list_all p (slice_range after row.hard_from row.end) ≡ true → (list_all p node.hard && list_all p node.pre && list_all p node.post) ≡ true
passes-whole p {before} {after} {row} {node} added all =
    sym (parts_pass p after row added.fits ∙ ap (λ (n : Node). list_all p n.hard && list_all p n.pre && list_all p n.post) added.same) ∙ all

-- rows that name nothing
pub nodes_in-none : (ts : List Target) (n : ℕ) → nodes_in ts (replicate n no_row) ≡ replicate n (node_in ts no_row)
nodes_in-none ts zero = refl
nodes_in-none ts (suc n) = ap (λ ns. node_in ts no_row ∷ ns) (nodes_in-none ts n)

nothing_fits : (k : ℕ) → Fits k no_row
nothing_fits k = record { hard = omega arith; pre = omega arith; post = omega arith; within = omega arith }

pub none_fit : (k n : ℕ) → AllFit k (replicate n no_row)
none_fit k zero zero = nothing_fits k
none_fit k zero (suc m) = nothing_fits k
none_fit k (suc n) zero = nothing_fits k
none_fit k (suc n) (suc m) = none_fit k n m

-- a module gets its row
pub nodes_in-set : {before after : List Target} {row : Row} {node : Node} (rows : List Row) (m : ℕ) → AllFit (length before) rows → Appends before after row node → nodes_in after (set rows m row) ≡ set (nodes_in before rows) m node
nodes_in-set {before} {after} {row} {node} rows m fit added =
    map-set (node_in after) rows m row
    ∙ ap (λ n. set (nodes_in after rows) m n) added.same
    ∙ ap (λ ts. set (nodes_in ts rows) m node) added.behind
    ∙ ap (λ ns. set ns m node) (nodes_in-stays before added.more rows fit)

pub fit-set : {before after : List Target} {row : Row} {node : Node} (rows : List Row) (m : ℕ) → m < length rows → AllFit (length before) rows → Appends before after row node → AllFit (length after) (set rows m row)
fit-set {before} {after} {row} {node} rows m within fit added k = elim (eqb_tells k m) [
  | inl t ↦ subst (Fits (length after)) (sym (ap (λ j. get_or (set rows m row) j no_row) t.1 ∙ get_or-set_same rows m row no_row within)) added.fits
  | inr t ↦ subst (Fits (length after)) (sym (get_or-set_other rows m k row no_row t.1)) (fits_more longer (fit k))
]
  where
    longer : length before ≤ length after
    longer = omega (arith, ap length added.behind, length-append before added.more)

pub if_not : (b : Bool) → not b ≡ false → b ≡ true
if_not true h = refl
if_not false h = absurd (cc)

-- no module of such rows has a soft item
pub plain-none : (ts : List Target) (n : ℕ) → HasNoSoftModules (nodes_in ts (replicate n no_row))
plain-none ts zero m within = absurd (omega (arith, within))
plain-none ts (suc n) zero within = refl
plain-none ts (suc n) (suc m) within = plain-none ts n m (omega (arith, within))

-- a module whose soft items are no modules gets its row
pub plain-set : {before after : List Target} {row : Row} {node : Node} (rows : List Row) (m : ℕ) → m < length rows → AllFit (length before) rows → Appends before after row node
    → HasNoSoftModules (nodes_in before rows) → list_all is_missing (slice_range after row.pre_from row.end) ≡ true → HasNoSoftModules (nodes_in after (set rows m row))
plain-set {before} {after} {row} {node} rows m inside fit added plain none =
    subst HasNoSoftModules (sym (nodes_in-set rows m fit added)) (λ k within. elim (eqb_tells k m) [
      | inl t ↦ ap names_no_soft_module (ap (λ j. node_at (set (nodes_in before rows) m node) j) t.1 ∙ get_or-set_same (nodes_in before rows) m node no_node (omega (arith, inside, length-map rows (node_in before)))) ∙ own
      | inr t ↦ ap names_no_soft_module (get_or-set_other (nodes_in before rows) m k node no_node t.1) ∙ plain k (omega (arith, within, length-set (nodes_in before rows) m node))
    ])
  where
    own : names_no_soft_module node ≡ true
    own =
        ap (λ (n : Node). list_all is_missing (n.pre ++ n.post)) (sym added.same)
        ∙ ap (list_all is_missing) (sym (range-joined after row.pre_from row.post_from row.end added.fits.pre added.fits.post added.fits.within))
        ∙ none
