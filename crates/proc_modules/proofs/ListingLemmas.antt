-- Listings, step by step.
use Rattle.std.proofs.Common.{◌≡◌, ◌==◌, ◌+◌, ◌-◌, ◌<◌, ◌≤◌, Bool, true, false, cond, List, [], ◌∷◌, ◌++◌, length, get_or, take, reverse, flat_map, filter, refl, sym, ◌∙◌, ap, subst, arith, ℕ, suc, length-take-le, append_assoc}
use Rattle.std.specs.List.{join_with_byte}
use Rattle.std.proofs.lemmas.List.{get_or-reverse, length-reverse, length-map, map-append, take_more}
use Rattle.std.proofs.lemmas.Bool.Decides.{nat_tests}
use Rattle.std.proofs.Common.{All}
use Rattle.std.specs.List.{list_any}
use Rattle.std.proofs.lemmas.List.Elements.{filter_more}
use Rattle.dep_index.specs.Catalogue.{Description, modules_of, needs_of}
use Rattle.dep_index.specs.Table.{Module, needs_slot}
use Rattle.dep_index.proofs.SlotLemmas.{module_at-modules_of}
use Rattle.std.specs.Global.{Vec}
use Rattle.std.proofs.lemmas.List.{reverse-append, append-nil}
use Rattle.std.proofs.lemmas.List.Elements.{filter-append, All-filter}
use Rattle.std.proofs.lemmas.List.Sums.{length-filter, count_by-le-length}
use Rattle.dep_index.specs.Table.{Table}
use Rattle.dep_index.proofs.SlotLemmas.{length-modules_of}
use Rattle.seq_table.specs.Rows.{rows_of}
use Rattle.seq_table.proofs.Kept.{length-rows_of}
use Rattle.proc_modules.specs.declared.line.Line.{Line}
use Rattle.proc_modules.specs.LineText.{line_text, head_text, tail_text, with_comma, is_used}
use Rattle.std.proofs.Common.{not}
use Rattle.std.proofs.lemmas.List.Concat.{flat_map-append}
use Rattle.dep_index.specs.declared.catalogue.params.Param.{Param}
use Rattle.proc_modules.specs.Listings.{newest_first}
use Rattle.proc_modules.specs.Details.{param_line}
use Rattle.proc_modules.specs.UserRows.{WithUser, if_user, HaveUsers, AllListed}
use Rattle.proc_modules.specs.Listings.{name_of, names_of, comma_before}

more_than_none : (n : ℕ) → (suc n == 0) ≡ false
more_than_none n = grind (arith, nat_tests)

join_push : (xs : List (List ℕ)) (x : List ℕ) → join_with_byte 44 (xs ++ x ∷ []) ≡ join_with_byte 44 xs ++ (comma_before (length xs == 0) ++ x)
join_push [] x = refl
join_push (y ∷ []) x = refl
join_push (y ∷ z ∷ zs) x =
    let more : (suc (suc (length zs)) == 0) ≡ false = more_than_none (suc (length zs)) in
    let some : (suc (length zs) == 0) ≡ false = more_than_none (length zs) in
    let later : join_with_byte 44 (z ∷ (zs ++ x ∷ [])) ≡ join_with_byte 44 (z ∷ zs) ++ 44 ∷ x =
    join_push (z ∷ zs) x ∙ ap (λ (b : Bool). join_with_byte 44 (z ∷ zs) ++ (comma_before b ++ x)) some in
    ap (λ (rest : List ℕ). y ++ 44 ∷ rest) later
    ∙ sym (append_assoc y (44 ∷ join_with_byte 44 (z ∷ zs)) (44 ∷ x))
    ∙ ap (λ (b : Bool). (y ++ 44 ∷ join_with_byte 44 (z ∷ zs)) ++ (comma_before b ++ x)) (sym more)

-- one name more was written
pub names_step : (catalogue : List Description) (slots before text text' text'' : List ℕ) (i d : ℕ) → i < length slots
    → text ≡ before ++ join_with_byte 44 (names_of catalogue (take i slots)) → text' ≡ text ++ comma_before (i == 0)
    → text'' ≡ text' ++ name_of catalogue (get_or slots i d)
    → text'' ≡ before ++ join_with_byte 44 (names_of catalogue (take (i + 1) slots))
names_step catalogue slots before text text' text'' i d below so_far comma name =
    let written : List (List ℕ) = names_of catalogue (take i slots) in
    let user : List ℕ = name_of catalogue (get_or slots i d) in
    let len : length written ≡ i = length-map (take i slots) (name_of catalogue) ∙ length-take-le i slots (omega arith) in
    let pushed_name : names_of catalogue (take i slots ++ get_or slots i d ∷ []) ≡ written ++ user ∷ [] = simp map-append in
    let more : names_of catalogue (take (i + 1) slots) ≡ written ++ user ∷ [] =
    ap (names_of catalogue) (take_more slots i d below) ∙ pushed_name in
    let regrouped : ((before ++ join_with_byte 44 written) ++ comma_before (length written == 0)) ++ user
    ≡ before ++ (join_with_byte 44 written ++ (comma_before (length written == 0) ++ user)) = simp append_assoc in
    name
    ∙ ap (λ (t : List ℕ). t ++ user) comma
    ∙ ap (λ (t : List ℕ). (t ++ comma_before (i == 0)) ++ user) so_far
    ∙ ap (λ (n : ℕ). ((before ++ join_with_byte 44 written) ++ comma_before (n == 0)) ++ user) (sym len)
    ∙ regrouped
    ∙ ap (λ (t : List ℕ). before ++ t) (sym (join_push written user))
    ∙ ap (λ (ns : List (List ℕ)). before ++ join_with_byte 44 ns) (sym more)

-- one module more was found
pub newest_step : (order found found' : List ℕ) (age loaded slot : ℕ) → loaded ≡ length order → age < loaded → found ≡ take age (reverse order)
    → slot ≡ get_or order (loaded - 1 - age) 0 → found' ≡ found ++ slot ∷ [] → found' ≡ take (age + 1) (reverse order)
newest_step order found found' age loaded slot len below so_far is pushed =
    let below' : age < length (reverse order) = omega (arith, length-reverse order) in
    let here : get_or (reverse order) age 0 ≡ slot = get_or-reverse order age 0 (omega arith) ∙ ap (λ (n : ℕ). get_or order (n - 1 - age) 0) (sym len) ∙ sym is in
    pushed ∙ ap (λ (xs : List ℕ). xs ++ slot ∷ []) so_far ∙ ap (λ (n : ℕ). take age (reverse order) ++ n ∷ []) (sym here)
    ∙ sym (take_more (reverse order) age 0 below')

user_row : (row : List ℕ) (user : ℕ) (b : Bool) → row ++ if_user b user ≡ row ++ cond b (user ∷ []) []
user_row row user true = refl
user_row row user false = refl

-- one module more was given to the rows of its needs
pub users_step : (catalogue : List Description) (rows rows' : List (List ℕ)) (modules needs : List ℕ) (i d : ℕ) → i < length modules
    → All (λ slot. slot < length catalogue) modules → length rows ≡ length catalogue → needs ≡ needs_of catalogue (get_or modules i d)
    → HaveUsers catalogue (take i modules) rows
    → WithUser rows rows' needs (get_or modules i d)
    → HaveUsers catalogue (take (i + 1) modules) rows'
users_step catalogue rows rows' modules needs i d below slots len is so_far given slot within =
    let user : ℕ = get_or modules i d in
    let inside : user < length catalogue = slots i d below in
    let same : list_any (λ n. n == slot) needs ≡ needs_slot (modules_of catalogue) slot user =
    ap (list_any (λ n. n == slot)) (is ∙ sym (ap (λ (a : Module). a.needs) (module_at-modules_of catalogue user inside))) in
    given slot (omega arith)
    ∙ ap (λ (row : List ℕ). row ++ if_user (list_any (λ n. n == slot) needs) user) (so_far slot within)
    ∙ ap (λ (b : Bool). filter (needs_slot (modules_of catalogue) slot) (take i modules) ++ if_user b user) same
    ∙ user_row (filter (needs_slot (modules_of catalogue) slot) (take i modules)) user (needs_slot (modules_of catalogue) slot user)
    ∙ sym (filter_more (needs_slot (modules_of catalogue) slot) modules i d below)

pub length-rows : (rows : List (Vec ℕ)) → length (rows_of rows) ≡ length rows
length-rows rows = length-rows_of rows

filter-reverse : (p : ℕ → Bool) (xs : List ℕ) → filter p (reverse xs) ≡ reverse (filter p xs)
filter-reverse p [] = refl
filter-reverse p (x ∷ xs) =
    ap (filter p) (reverse-append (x ∷ []) xs)
    ∙ filter-append p (reverse xs) (x ∷ [])
    ∙ ap (λ (ys : List ℕ). ys ++ filter p (x ∷ [])) (filter-reverse p xs)
    ∙ at (p x) refl where
      at : (b : Bool) → p x ≡ b → reverse (filter p xs) ++ filter p (x ∷ []) ≡ reverse (filter p (x ∷ xs))
      at true is = rw is (sym (reverse-append (x ∷ []) (filter p xs)))
      at false is = rw is (append-nil (reverse (filter p xs)))

-- all users are found
pub all_listed : (catalogue : List Description) (table : Table) (modules : List ℕ) (rows : List (List ℕ))
    → modules ≡ newest_first table → All (λ slot. slot < length catalogue) modules → length modules ≤ 65535 → length rows ≡ length catalogue
    → HaveUsers catalogue modules rows
    → AllListed catalogue table modules rows
all_listed catalogue table modules rows newest slots few len users i below =
    let slot : ℕ = get_or modules i 0 in
    let inside : slot < length catalogue = slots i 0 below in
    let row : get_or rows slot [] ≡ filter (needs_slot (modules_of catalogue) slot) modules = users slot inside in
    let p : ℕ → Bool = needs_slot (modules_of catalogue) slot in (
      omega (arith, inside, len),
      record {
        inside = inside;
        known = omega (arith, inside, length-modules_of catalogue);
        newest = row ∙ ap (filter p) newest ∙ filter-reverse p table.book.order;
        slots = subst (λ (us : List ℕ). All (λ u. u < length catalogue) us) (sym row) (All-filter p (λ u. u < length catalogue) modules slots);
        few = omega (arith, ap length row, length-filter p modules, count_by-le-length p modules, few);
      },
    )

-- a line in the parts in which it is written
pub line_text-parts : (l : Line) → line_text l ≡ head_text l.name l.size l.count ++ (flat_map with_comma l.users ++ tail_text (is_used l.users) l.permanent l.state)
line_text-parts l = simp append_assoc

-- each module of the list is a slot of the catalogue
pub slots_known : (catalogue : List Description) (modules : List Module) (found : List ℕ) → modules ≡ modules_of catalogue
    → All (λ slot. slot < length modules) found → All (λ slot. slot < length catalogue) found
slots_known catalogue modules found over slots i d below =
    omega (arith, slots i d below, ap length over, length-modules_of catalogue)

pub filled_is : (catalogue : List Description) (users : List ℕ) (empty : Bool) → empty ≡ (length users == 0) → not empty ≡ is_used (names_of catalogue users)
filled_is catalogue [] empty is = ap not is
filled_is catalogue (u ∷ us) empty is = ap not (is ∙ more_than_none (length us))

-- a line is written whole
pub line_written : (l : Line) (old head used new : List ℕ) (filled : Bool) → head ≡ old ++ head_text l.name l.size l.count
    → used ≡ head ++ flat_map with_comma l.users → filled ≡ is_used l.users → new ≡ used ++ tail_text filled l.permanent l.state
    → new ≡ old ++ line_text l
line_written l old head used new filled begun named fills ended =
    ended
    ∙ ap (λ (b : Bool). used ++ tail_text b l.permanent l.state) fills
    ∙ ap (λ (t : List ℕ). t ++ tail_text (is_used l.users) l.permanent l.state) (named ∙ ap (λ (t : List ℕ). t ++ flat_map with_comma l.users) begun)
    ∙ regroup old (head_text l.name l.size l.count) (flat_map with_comma l.users) (tail_text (is_used l.users) l.permanent l.state)
    ∙ ap (λ (t : List ℕ). old ++ t) (sym (line_text-parts l)) where
      regroup : (a b c d : List ℕ) → ((a ++ b) ++ c) ++ d ≡ a ++ (b ++ (c ++ d))
      regroup a b c d = simp append_assoc

-- a module of the catalogue is one of the table's catalogue
pub known_slot : (catalogue : List Description) (modules : List Module) (slot : ℕ) → modules ≡ modules_of catalogue → slot < length (modules_of catalogue) → slot < length modules
known_slot catalogue modules slot over known = subst (λ (ms : List Module). slot < length ms) (sym over) known

-- the line of one parameter more
pub param_step : (params : List Param) (i : ℕ) (param : Param) (start text next : List ℕ) → i < length params → param ≡ get_or params i param
    → text ≡ start ++ flat_map param_line (take i params) → next ≡ text ++ param_line param
    → next ≡ start ++ flat_map param_line (take (i + 1) params)
param_step params i param start text next below is so_far pushed =
    let more : flat_map param_line (take (i + 1) params) ≡ flat_map param_line (take i params) ++ param_line param =
    ap (flat_map param_line) (take_more params i param below)
    ∙ flat_map-append param_line (take i params) (get_or params i param ∷ [])
    ∙ ap (λ (p : Param). flat_map param_line (take i params) ++ flat_map param_line (p ∷ [])) (sym is)
    ∙ ap (λ (t : List ℕ). flat_map param_line (take i params) ++ t) (append-nil (param_line param)) in
    pushed
    ∙ ap (λ (t : List ℕ). t ++ param_line param) so_far
    ∙ append_assoc start (flat_map param_line (take i params)) (param_line param)
    ∙ ap (λ (t : List ℕ). start ++ t) (sym more)

-- the fields of a module are written in order
pub fields_written : (a b c d t0 t1 t2 t3 t4 : List ℕ) → t0 ≡ [] → t1 ≡ t0 ++ a → t2 ≡ t1 ++ b → t3 ≡ t2 ++ c → t4 ≡ t3 ++ d → t4 ≡ a ++ (b ++ (c ++ d))
fields_written a b c d t0 t1 t2 t3 t4 start first second third fourth =
    fourth
    ∙ ap (λ (t : List ℕ). t ++ d) (third ∙ ap (λ (t : List ℕ). t ++ c) (second ∙ ap (λ (t : List ℕ). t ++ b) (first ∙ ap (λ (t : List ℕ). t ++ a) start)))
    ∙ regroup a b c d where
      regroup : (a b c d : List ℕ) → (((([] ++ a)) ++ b) ++ c) ++ d ≡ a ++ (b ++ (c ++ d))
      regroup a b c d = simp append_assoc
