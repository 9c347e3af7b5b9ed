-- What is found row by row is what the definitions say of all rules.
use Rattle.std.proofs.Common.{◌≡◌, ◌==◌, ◌&&◌, nat_le, ℤ, ℕ, zero, suc, ◌+◌, ◌<◌, ◌≤◌, Bool, false, if◌then◌else◌, List, [], ◌∷◌, ◌++◌, length, map, get_or, Some, slice_get, filter, flat_map, int_lt, refl, sym, ap, ◌∙◌, inl, inr, arith, eqb-true, eq-eqb, All, take, set}
use Rattle.std.specs.Global.{Vec}
use Rattle.std.proofs.lemmas.Bool.{cases_Bool, cond-true, cond-false, false≢true, ne_eqb}
use Rattle.std.proofs.lemmas.Int.{ints}
use Rattle.std.proofs.lemmas.List.{map-append, append-nil, length-map, map-set, length-set, get_or-map, get_or-set_same, get_or-set_other, take_more}
use Rattle.std.proofs.lemmas.List.Elements.{filter-append, All-nil, All-append}
use Rattle.std.proofs.lemmas.Option.{slice_get_within}
use Rattle.std.proofs.lemmas.Grind.{common_steps}
use Rattle.model.specs.lists.Syntax.{Position}
use Rattle.model.specs.sites.Sites.{SetRule}
use Rattle.model.specs.sites.Overlap.{rule_shadows, ShadowReport}
use Rattle.model.specs.sites.SetRules.{overlap_between, overlap_wrongly, is_mask_of, is_subset, wrong_among, shadow_report_of, shadows_among}
use Rattle.model.specs.trees.Best.{total_constraints}
use Rattle.model.specs.claims.Refusals.{refusal_of}
use Rattle.model.proofs.Elements.{some_is}
use Rattle.core_syntax.specs.SyntaxViews.{position}
use Rattle.core_syntax.specs.declared.syntax.Pos.{Pos}
use Rattle.core_overlap.specs.Comparisons.{AreGrouped, list_views, masked_view, masked_views, positions, masked_pair, wrong_behind, masked_behind, wrong_rows, masked_rows, of_mask, shadow_of, shadows_of}

-- 1. wrong overlaps
abbrev Two : Type 0
Two = SetRule × SetRule

abbrev ends : Two → Position × Position
ends e = (e.0.at, e.1.at)

abbrev wrong : Two → Bool
wrong e = overlap_wrongly e.0 e.1

kept_first : {X Y : Type 0} (f : X → Y) (b : Bool) (x : X) (xs : List X) (ys : List Y) → ys ≡ map f xs → (if b then f x ∷ [] else []) ++ ys ≡ map f (if b then x ∷ xs else xs)
kept_first f b x xs ys e = grind (arith, common_steps)

behind_are : (r : SetRule) (rs : List SetRule) → wrong_behind r rs ≡ map ends (filter wrong (map (λ (s : SetRule). (r, s)) rs))
behind_are r [] = refl
behind_are r (s ∷ rs) = kept_first ends (overlap_wrongly r s) (r, s) (filter wrong (map (λ (x : SetRule). (r, x)) rs)) (wrong_behind r rs) (behind_are r rs)

pub wrong_rows_are : (rs : List SetRule) → wrong_rows rs ≡ wrong_among rs
wrong_rows_are [] = refl
wrong_rows_are (r ∷ rs) = grind (arith, common_steps, wrong_rows_are rs, behind_are r rs, map-append ends, filter-append wrong)

-- 2. masks
of_append : (m : ℕ) (as' bs : List (ℕ × Position)) → of_mask m (as' ++ bs) ≡ of_mask m as' ++ of_mask m bs
of_append m as' bs = ap (map (λ e. e.1)) (filter-append (λ e. e.0 == m) as' bs) ∙ map-append (λ e. e.1) (filter (λ e. e.0 == m) as') (filter (λ e. e.0 == m) bs)

one_yes : (i m : ℕ) (p : Position) (b : Bool) → i ≡ m → of_mask m (if b then (i, p) ∷ [] else []) ≡ (if b then p ∷ [] else [])
one_yes i m p b e = grind (arith, common_steps)

one_no : (i m : ℕ) (p : Position) (b : Bool) → (i ≡ m → ⊥) → of_mask m (if b then (i, p) ∷ [] else []) ≡ []
one_no i m p b h = grind (arith, common_steps, ne_eqb i m h)

two_are : (m i j : ℕ) (r s : SetRule) → of_mask m (masked_pair i r j s) ≡ of_mask m (if is_mask_of r s then (i, s.at) ∷ [] else []) ++ of_mask m (if is_mask_of s r then (j, r.at) ∷ [] else [])
two_are m i j r s = of_append m (if is_mask_of r s then (i, s.at) ∷ [] else []) (if is_mask_of s r then (j, r.at) ∷ [] else [])

pair_first : (i j : ℕ) (r s : SetRule) → (j ≡ i → ⊥) → of_mask i (masked_pair i r j s) ≡ (if is_mask_of r s then s.at ∷ [] else [])
pair_first i j r s h =
    two_are i i j r s ∙ (λ k. one_yes i i s.at (is_mask_of r s) refl k ++ one_no j i r.at (is_mask_of s r) h k) ∙ append-nil (if is_mask_of r s then s.at ∷ [] else [])

pair_second : (i j m : ℕ) (r s : SetRule) → (i ≡ m → ⊥) → j ≡ m → of_mask m (masked_pair i r j s) ≡ (if is_mask_of s r then r.at ∷ [] else [])
pair_second i j m r s h e = grind (arith, common_steps, two_are m i j r s, one_no i m s.at (is_mask_of r s) h, one_yes j m r.at (is_mask_of s r) e)

pair_other : (i j m : ℕ) (r s : SetRule) → (i ≡ m → ⊥) → (j ≡ m → ⊥) → of_mask m (masked_pair i r j s) ≡ []
pair_other i j m r s h g = two_are m i j r s ∙ (λ k. one_no i m s.at (is_mask_of r s) h k ++ one_no j m r.at (is_mask_of s r) g k)

behind_own : (i : ℕ) (r : SetRule) (j : ℕ) (rs : List SetRule) → i < j → of_mask i (masked_behind i r j rs) ≡ map (λ s. s.at) (filter (is_mask_of r) rs)
behind_own i r j [] l = refl
behind_own i r j (s ∷ rs) l =
    of_append i (masked_pair i r j s) (masked_behind i r (j + 1) rs)
    ∙ ap (λ x. x ++ of_mask i (masked_behind i r (j + 1) rs)) (pair_first i j r s (λ e. omega (arith, l, e)))
    ∙ kept_first (λ s. s.at) (is_mask_of r s) s (filter (is_mask_of r) rs) (of_mask i (masked_behind i r (j + 1) rs)) (behind_own i r (j + 1) rs (omega (arith, l)))

behind_none : (i m : ℕ) (r : SetRule) (j : ℕ) (rs : List SetRule) → (i ≡ m → ⊥) → m < j → of_mask m (masked_behind i r j rs) ≡ []
behind_none i m r j [] h l = refl
behind_none i m r j (s ∷ rs) h l =
    of_append m (masked_pair i r j s) (masked_behind i r (j + 1) rs)
    ∙ (λ k. pair_other i j m r s h (λ e. omega (arith, l, e)) k ++ behind_none i m r (j + 1) rs h (omega (arith, l)) k)

behind_other : (i : ℕ) (r : SetRule) (j : ℕ) (rs : List SetRule) (n m : ℕ) (q : SetRule) → slice_get rs n ≡ Some q → m ≡ j + n → i < j
    → of_mask m (masked_behind i r j rs) ≡ (if is_mask_of q r then r.at ∷ [] else [])
behind_other i r j [] n m q g e l = absurd cc
behind_other i r j (s ∷ rs) zero m q g e l =
    of_append m (masked_pair i r j s) (masked_behind i r (j + 1) rs)
    ∙ (λ k. pair_second i j m r s (λ d. omega (arith, e, l, d)) (omega (arith, e)) k ++ behind_none i m r (j + 1) rs (λ d. omega (arith, e, l, d)) (omega (arith, e)) k)
    ∙ append-nil (if is_mask_of s r then r.at ∷ [] else [])
    ∙ ap (λ x. if is_mask_of x r then r.at ∷ [] else []) (some_is s q g)
behind_other i r j (s ∷ rs) (suc n) m q g e l =
    of_append m (masked_pair i r j s) (masked_behind i r (j + 1) rs)
    ∙ (λ k. pair_other i j m r s (λ d. omega (arith, e, l, d)) (λ d. omega (arith, e, d)) k ++ behind_other i r (j + 1) rs n m q g (omega (arith, e)) (omega (arith, l)) k)

rows_none : (i m : ℕ) (rs : List SetRule) → m < i → of_mask m (masked_rows i rs) ≡ []
rows_none i m [] l = refl
rows_none i m (r ∷ rs) l =
    of_append m (masked_behind i r (i + 1) rs) (masked_rows (i + 1) rs)
    ∙ (λ k. behind_none i m r (i + 1) rs (λ e. omega (arith, l, e)) (omega (arith, l)) k ++ rows_none (i + 1) m rs (omega (arith, l)) k)

not_below_itself : (z : ℤ) → int_lt z z ≡ false
not_below_itself z = grind (arith, ints)

no_mask_of_itself : (r : SetRule) → is_mask_of r r ≡ false
no_mask_of_itself r = ap (λ b. b && is_subset (overlap_between r r) && nat_le (total_constraints r) (total_constraints r)) (not_below_itself r.prio)

pub rows_are : (i : ℕ) (rs : List SetRule) (n m : ℕ) (q : SetRule) → slice_get rs n ≡ Some q → m ≡ i + n → of_mask m (masked_rows i rs) ≡ map (λ s. s.at) (filter (is_mask_of q) rs)
rows_are i [] n m q g e = absurd cc
rows_are i (r ∷ rs) zero m q g e =
    let same = some_is r q g in
    let here : m ≡ i = omega (arith, e) in
    of_append m (masked_behind i r (i + 1) rs) (masked_rows (i + 1) rs)
    ∙ (λ k. of_mask (here k) (masked_behind i r (i + 1) rs) ++ rows_none (i + 1) m rs (omega (arith, e)) k)
    ∙ append-nil (of_mask i (masked_behind i r (i + 1) rs))
    ∙ behind_own i r (i + 1) rs (omega arith)
    ∙ ap (map (λ s. s.at)) (sym (cond-false (is_mask_of r r) (r ∷ filter (is_mask_of r) rs) (filter (is_mask_of r) rs) (no_mask_of_itself r)))
    ∙ ap (λ x. map (λ s. s.at) (filter (is_mask_of x) (r ∷ rs))) same
rows_are i (r ∷ rs) (suc n) m q g e =
    of_append m (masked_behind i r (i + 1) rs) (masked_rows (i + 1) rs)
    ∙ ap (λ x. x ++ of_mask m (masked_rows (i + 1) rs)) (behind_other i r (i + 1) rs n m q g (omega (arith, e)) (omega arith))
    ∙ kept_first (λ s. s.at) (is_mask_of q r) r (filter (is_mask_of q) rs) (of_mask m (masked_rows (i + 1) rs)) (rows_are (i + 1) rs n m q g (omega (arith, e)))

-- 3. the errors of masks
shadow_is : (r : SetRule) (fs : List SetRule) → shadow_of r (map (λ s. s.at) fs) ≡ map refusal_of (map rule_shadows (shadow_report_of r fs))
shadow_is r fs = grind (arith, common_steps)

pub views_append : (as' bs : List ShadowReport) → map refusal_of (map rule_shadows (as' ++ bs)) ≡ map refusal_of (map rule_shadows as') ++ map refusal_of (map rule_shadows bs)
views_append as' bs = ap (map refusal_of) (map-append rule_shadows as' bs) ∙ map-append refusal_of (map rule_shadows as') (map rule_shadows bs)

pub shadows_are : (all xs : List SetRule) (ls : List (List Position)) → length ls ≡ length xs → ((n : ℕ) (q : SetRule) → slice_get xs n ≡ Some q → get_or ls n [] ≡ map (λ s. s.at) (filter (is_mask_of q) all))
    → shadows_of xs ls ≡ map refusal_of (map rule_shadows (flat_map (λ m. shadow_report_of m (filter (is_mask_of m) all)) xs))
shadows_are all (x ∷ xs) (l ∷ ls) e h =
    let first = ap (shadow_of x) (h 0 x refl) ∙ shadow_is x (filter (is_mask_of x) all) in
    let rest = shadows_are all xs ls (omega (arith, e)) (λ n q g. h (suc n) q g) in
    (λ k. first k ++ rest k) ∙ sym (views_append (shadow_report_of x (filter (is_mask_of x) all)) (flat_map (λ m. shadow_report_of m (filter (is_mask_of m) all)) xs))
shadows_are all xs ls e h = grind arith

-- 4. the numbers of masks are those of rules
abbrev IsBelow : ℕ → ℕ × Position → Type 0
IsBelow n e = e.0 < n

one_below : (n i : ℕ) (p : Position) (b : Bool) → i < n → All (IsBelow n) (if b then (i, p) ∷ [] else [])
one_below n i p b l = grind (arith, common_steps)

behind_below : (n i : ℕ) (r : SetRule) (j : ℕ) (rs : List SetRule) → i < n → j + length rs ≤ n → All (IsBelow n) (masked_behind i r j rs)
behind_below n i r j [] l h = All-nil (IsBelow n)
behind_below n i r j (s ∷ rs) l h =
    All-append (IsBelow n) (masked_pair i r j s) (masked_behind i r (j + 1) rs)
    (All-append (IsBelow n) (if is_mask_of r s then (i, s.at) ∷ [] else []) (if is_mask_of s r then (j, r.at) ∷ [] else []) (one_below n i s.at (is_mask_of r s) l) (one_below n j r.at (is_mask_of s r) (omega (arith, h))))
    (behind_below n i r (j + 1) rs l (omega (arith, h)))

pub rows_below : (n i : ℕ) (rs : List SetRule) → i + length rs ≤ n → All (IsBelow n) (masked_rows i rs)
rows_below n i [] h = All-nil (IsBelow n)
rows_below n i (r ∷ rs) h = grind (arith, common_steps, rows_below n (i + 1) rs, behind_below n i r (i + 1) rs)

-- 5. with lists by number
pub shadows_found : (all : List SetRule) (ls : List (Vec Pos)) (es : List (ℕ × Position)) → length ls ≡ length all → es ≡ masked_rows 0 all → AreGrouped ls es
    → shadows_of all (list_views ls) ≡ map refusal_of (map rule_shadows (shadows_among all))
shadows_found all ls es n e g =
    let many = length-map ls (λ v. positions v.items) in
    shadows_are all all (list_views ls) (many ∙ n)
    (λ m q h. let l = slice_get_within all m q h in g m (omega (arith, l, n)) ∙ ap (of_mask m) e ∙ rows_are 0 all m m q h (omega arith))

one_of : (m : ℕ) (e : ℕ × Position) → of_mask m (e ∷ []) ≡ (if e.0 == m then e.1 ∷ [] else [])
one_of m e = grind (arith, common_steps)

pub grouped_more : (ls : List (Vec Pos)) (es : List (ℕ × Pos)) (k : ℕ) (d : ℕ × Pos) (old new : Vec Pos) → k < length es → (get_or es k d).0 < length ls → old ≡ get_or ls (get_or es k d).0 old → new.items ≡ old.items ++ (get_or es k d).1 ∷ []
    → AreGrouped ls (masked_views (take k es)) → AreGrouped (set ls (get_or es k d).0 new) (masked_views (take (k + 1) es))
grouped_more ls es k d old new lt in' here pushed g m l =
    let e = get_or es k d in
    let view : Vec Pos → List Position = λ v. positions v.items in
    let places = map-set view ls e.0 new in
    let upto = ap masked_views (take_more es k d lt) ∙ map-append masked_view (take k es) (e ∷ []) in
    let all = ap (of_mask m) upto ∙ of_append m (masked_views (take k es)) (masked_view e ∷ []) ∙ ap (λ x. of_mask m (masked_views (take k es)) ++ x) (one_of m (masked_view e)) in
    let many = length-map ls view in
    let before = g m (omega (arith, l, length-set ls e.0 new)) in
    ap (λ x. get_or x m []) places
    ∙ elim (cases_Bool (e.0 == m)) [
      | inl t ↦
          let same = eqb-true e.0 m t in
          let at : get_or (list_views ls) m [] ≡ positions old.items = ap (λ i. get_or (list_views ls) i []) (sym same) ∙ get_or-map view ls e.0 old [] in' ∙ ap view (sym here) in
          ap (λ i. get_or (set (list_views ls) e.0 (view new)) i []) (sym same)
          ∙ get_or-set_same (list_views ls) e.0 (view new) [] (omega (arith, in', many))
          ∙ ap positions pushed ∙ map-append position old.items (e.1 ∷ [])
          ∙ (λ i. (sym at ∙ before) i ++ sym (cond-true (e.0 == m) (position e.1 ∷ []) [] t) i)
          ∙ sym all
      | inr f ↦
          get_or-set_other (list_views ls) e.0 m (view new) [] (λ q. false≢true (sym f ∙ eq-eqb e.0 m (sym q)))
          ∙ before ∙ sym (append-nil (of_mask m (masked_views (take k es))))
          ∙ (λ i. of_mask m (masked_views (take k es)) ++ sym (cond-false (e.0 == m) (position e.1 ∷ []) [] f) i)
          ∙ sym all
    ]

pub masked_below : (n : ℕ) (es : List (ℕ × Pos)) (vs : List (ℕ × Position)) → masked_views es ≡ vs → All (IsBelow n) vs → All (λ e. e.0 < n) es
masked_below n es vs e h k d l = grind (arith, common_steps, length-map es masked_view, get_or-map masked_view es k d (masked_view d) l)
