-- Each wrong overlap stands in exactly one report, and reports list nothing else.
use Rattle.std.proofs.Common.{◌≡◌, ◌⊎◌, ◌==◌, ℕ, zero, suc, ◌<◌, ◌≤◌, Bool, true, false, not, List, [], ◌∷◌, map, length, Some, slice_get, Contains, filter, flat_map, refl, sym, ap, ◌∙◌, subst, inl, inr, arith, eq-eqb}
use Rattle.std.proofs.lemmas.Bool.{cases_Bool, and_parts, and_from, false≢true, not-true}
use Rattle.std.proofs.lemmas.Grind.{common_steps}
use Rattle.model.specs.lists.Syntax.{Position}
use Rattle.model.specs.rules.Program.{Program}
use Rattle.model.specs.sites.Overlap.{OverlapsWrongly, wrong_overlaps, position_eq, has_end, other_end, foremost, with_position, ascending_positions, OverlapReport, overlap_report, overlap_reports_in, overlap_reports}
use Rattle.laws_sites.specs.ReportLaws.{RulesHaveTerms, ListsBoth, IsListedOnce, OverlapAt}
use Rattle.model.proofs.Elements.{In, in_from_contains, contains_from_in, some_is, or_split, or_left, or_right, in_slice, in_filter, filter_from, passed_filter, in_map, map_in, from_flat_map}
use Rattle.laws_sites.proofs.overlaps.ReportedOverlaps.{wrong_means, wrong_there}

pub position_means : (a b : Position) → position_eq a b ≡ true → a ≡ b
position_means a b h = grind (arith, common_steps, and_parts)

pub position_same : (a b : Position) → a ≡ b → position_eq a b ≡ true
position_same a b e = subst (λ c. position_eq a c ≡ true) e (and_from (a.file == a.file) (a.offset == a.offset) (eq-eqb a.file a.file refl) (eq-eqb a.offset a.offset refl))

-- ascending positions are the same positions
in_with : (a : Position) (bs : List Position) (x : Position) → (a ≡ x) ⊎ In bs x → In (with_position a bs) x
in_with a [] x h = h
in_with a (b ∷ bs) x h = grind (arith, common_steps, in_with a bs x, position_means)

pub with_in : (a : Position) (bs : List Position) (x : Position) → In (with_position a bs) x → (a ≡ x) ⊎ In bs x
with_in a [] x i = i
with_in a (b ∷ bs) x i = grind (arith, common_steps, with_in a bs x)

pub in_ascending : (xs : List Position) (x : Position) → In xs x → In (ascending_positions xs) x
in_ascending [] x i = absurd i
in_ascending (y ∷ ys) x (inl e) = in_with y (ascending_positions ys) x (inl e)
in_ascending (y ∷ ys) x (inr i) = in_with y (ascending_positions ys) x (inr (in_ascending ys x i))

pub ascending_in : (xs : List Position) (x : Position) → In (ascending_positions xs) x → In xs x
ascending_in [] x i = absurd i
ascending_in (y ∷ ys) x i = elim (with_in y (ascending_positions ys) x i) [ inl e ↦ inl e | inr j ↦ inr (ascending_in ys x j) ]

-- two rules, in either order
abbrev AreEnds : Position × Position → Position → Position → Type 0
AreEnds e a b = ((e.0 ≡ a) × (e.1 ≡ b)) ⊎ ((e.0 ≡ b) × (e.1 ≡ a))

-- an overlap that has a rule is of that rule and the other one
ends_of : (at : Position) (e : Position × Position) → has_end at e ≡ true → AreEnds e at (other_end at e)
ends_of at e h = grind (arith, common_steps, position_means, or_split)

pub first_end : (at : Position) (e : Position × Position) → e.0 ≡ at → has_end at e ≡ true
first_end at e h = or_left (position_eq e.0 at) (position_eq e.1 at) (position_same e.0 at h)

pub second_end : (at : Position) (e : Position × Position) → e.1 ≡ at → has_end at e ≡ true
second_end at e h = or_right (position_eq e.0 at) (position_eq e.1 at) (position_same e.1 at h)

-- the report of a rule lists each overlap that has it, and no other
lists_each : (pairs : List (Position × Position)) (at : Position) (e : Position × Position) → In pairs e → has_end at e ≡ true → ListsBoth (overlap_report pairs at) e.0 e.1
lists_each pairs at e i h =
    let there = in_ascending (map (other_end at) (filter (has_end at) pairs)) (other_end at e) (map_in (other_end at) (filter (has_end at) pairs) e (filter_from (has_end at) pairs e i h)) in
    let listed = contains_from_in (overlap_report pairs at).others (other_end at e) there in
    elim (ends_of at e h) [
      | inl q ↦ inl (sym q.0, subst (Contains (overlap_report pairs at).others) (sym q.1) listed)
      | inr q ↦ inr (sym q.1, subst (Contains (overlap_report pairs at).others) (sym q.0) listed)
    ]

each_listed : (pairs : List (Position × Position)) (at b : Position) → In (overlap_report pairs at).others b → (e : Position × Position) × In pairs e × AreEnds e at b
each_listed pairs at b i = grind (arith, common_steps, in_map, ascending_in, in_filter, ends_of, passed_filter)

-- the overlaps that are left once a rule is reported
abbrev pub left_over : Position → List (Position × Position) → List (Position × Position)
left_over at pairs = filter (λ x. not (has_end at x)) pairs

-- the rule that is reported first
abbrev rule_first : Position × Position → List (Position × Position) → Position
rule_first e es = foremost (e ∷ es) e.0 (flat_map (λ x. x.0 ∷ (x.1 ∷ [])) (e ∷ es))

-- what reports list are overlaps
reports_mean : (n : ℕ) (pairs : List (Position × Position)) (r : OverlapReport) (b : Position) → In (overlap_reports_in n pairs) r → In r.others b
    → (e : Position × Position) × In pairs e × AreEnds e r.first b
reports_mean n [] r b i j = absurd i
reports_mean zero (e ∷ es) r b i j = absurd i
reports_mean (suc n) (e ∷ es) r b (inl same) j = grind (arith, each_listed (e ∷ es) (rule_first e es) b (subst (λ (q : OverlapReport). In q.others b) (sym same) j))
reports_mean (suc n) (e ∷ es) r b (inr i) j = grind (arith, common_steps, reports_mean n (left_over (rule_first e es) (e ∷ es)) r b i j, in_filter)

-- a rule that is foremost is one of them
foremost_in : (pairs : List (Position × Position)) (a : Position) (bs : List Position) → In (a ∷ bs) (foremost pairs a bs)
foremost_in pairs a [] = inl refl
foremost_in pairs a (b ∷ bs) = grind (arith, common_steps, foremost_in pairs b bs, foremost_in pairs a bs)

-- so some overlap has it
first_has : (e : Position × Position) (es : List (Position × Position)) → (x : Position × Position) × In (e ∷ es) x × (has_end (rule_first e es) x ≡ true)
first_has e es =
    elim (foremost_in (e ∷ es) e.0 (flat_map (λ x. x.0 ∷ (x.1 ∷ [])) (e ∷ es))) [
      | inl same ↦ (e, inl refl, first_end (rule_first e es) e same)
      | inr i ↦
          let x = from_flat_map (λ (y : Position × Position). y.0 ∷ (y.1 ∷ [])) (e ∷ es) (rule_first e es) i in
          elim x.2 [
            | inl a ↦ (x.0, x.1, first_end (rule_first e es) x.0 a)
            | inr j ↦ elim j [ inl b ↦ (x.0, x.1, second_end (rule_first e es) x.0 b) | inr n ↦ absurd n ]
          ]
    ]

-- each report lists a rule besides its first
pub reports_list : (n : ℕ) (pairs : List (Position × Position)) (r : OverlapReport) → In (overlap_reports_in n pairs) r → (b : Position) × In r.others b
reports_list n [] r i = absurd i
reports_list zero (e ∷ es) r i = absurd i
reports_list (suc n) (e ∷ es) r (inl same) =
    let at = rule_first e es in
    let x = first_has e es in (
      other_end at x.0,
      subst (λ (q : OverlapReport). In q.others (other_end at x.0)) same
          (in_ascending (map (other_end at) (filter (has_end at) (e ∷ es))) (other_end at x.0)
          (map_in (other_end at) (filter (has_end at) (e ∷ es)) x.0 (filter_from (has_end at) (e ∷ es) x.0 x.1 x.2))),
    )
reports_list (suc n) (e ∷ es) r (inr i) = reports_list n (left_over (rule_first e es) (e ∷ es)) r i

pub no_longer : {X : Type 0} (f : X → Bool) (xs : List X) → length (filter f xs) ≤ length xs
no_longer f [] = omega arith
no_longer f (x ∷ xs) = grind (arith, common_steps, no_longer f xs)

shorter : {X : Type 0} (f : X → Bool) (xs : List X) (x : X) → In xs x → f x ≡ false → length (filter f xs) < length xs
shorter f [] x i h = absurd i
shorter f (y ∷ ys) x (inl e) h = grind (arith, common_steps, no_longer)
shorter f (y ∷ ys) x (inr i) h = grind (arith, common_steps, shorter f ys x i h)

-- a report that lists two rules is of an overlap of them
lists_overlap : (n : ℕ) (pairs : List (Position × Position)) (r : OverlapReport) (a b : Position) → In (overlap_reports_in n pairs) r → ListsBoth r a b
    → (e : Position × Position) × In pairs e × AreEnds e a b
lists_overlap n pairs r a b i (inl q) = grind (arith, common_steps, reports_mean n pairs r b i (in_from_contains r.others b q.1), in_from_contains r.others b q.1)
lists_overlap n pairs r a b i (inr q) = grind (arith, common_steps, reports_mean n pairs r a i (in_from_contains r.others a q.1), in_from_contains r.others a q.1)

-- overlaps of the same two rules have the same ends
same_end : (at : Position) (e x : Position × Position) → AreEnds x e.0 e.1 → has_end at e ≡ true → has_end at x ≡ true
same_end at e x k h = grind (arith, common_steps, or_split, first_end, position_means, second_end)

-- a report that lists two rules has one of them first
first_of_both : (r : OverlapReport) (e : Position × Position) → ListsBoth r e.0 e.1 → has_end r.first e ≡ true
first_of_both r e h = grind (arith, common_steps, first_end)

once : (n : ℕ) (pairs : List (Position × Position)) → length pairs ≤ n → (e : Position × Position) → In pairs e → IsListedOnce (overlap_reports_in n pairs) e.0 e.1
once n [] le e i = absurd i
once zero (x ∷ xs) le e i = absurd (omega (arith, le))
once (suc n) (x ∷ xs) le e i = elim (cases_Bool (has_end (rule_first x xs) e)) [ inl t ↦ now t | inr f ↦ later f (once n (left_over (rule_first x xs) (x ∷ xs)) fewer e (filter_from (λ z. not (has_end (rule_first x xs) z)) (x ∷ xs) e i (ap not f))) ]
  where
    fewer : length (left_over (rule_first x xs) (x ∷ xs)) ≤ n
    fewer = grind (arith, common_steps, first_has x xs, shorter (λ y. not (has_end (rule_first x xs) y)) (x ∷ xs))

    now : has_end (rule_first x xs) e ≡ true → IsListedOnce (overlap_reports_in (suc n) (x ∷ xs)) e.0 e.1
    now t = record {
      place = 0;
      report = overlap_report (x ∷ xs) (rule_first x xs);
      here = refl;
      lists = lists_each (x ∷ xs) (rule_first x xs) e i t;
      only = only;
    }
      where
        only : (k : ℕ) (r : OverlapReport) → slice_get (overlap_reports_in (suc n) (x ∷ xs)) k ≡ Some r → ListsBoth r e.0 e.1 → k ≡ 0
        only zero r h l = refl
        only (suc k) r h l =
            let y = lists_overlap n (left_over (rule_first x xs) (x ∷ xs)) r e.0 e.1 (in_slice (overlap_reports_in n (left_over (rule_first x xs) (x ∷ xs))) k r h) l in
            let out = not-true (has_end (rule_first x xs) y.0) (passed_filter (λ z. not (has_end (rule_first x xs) z)) (x ∷ xs) y.0 y.1) in
            absurd (false≢true (sym out ∙ same_end (rule_first x xs) e y.0 y.2 t))

    later : has_end (rule_first x xs) e ≡ false → IsListedOnce (overlap_reports_in n (left_over (rule_first x xs) (x ∷ xs))) e.0 e.1 → IsListedOnce (overlap_reports_in (suc n) (x ∷ xs)) e.0 e.1
    later f w = record { place = suc w.place; report = w.report; here = w.here; lists = w.lists; only = only }
      where
        only : (k : ℕ) (r : OverlapReport) → slice_get (overlap_reports_in (suc n) (x ∷ xs)) k ≡ Some r → ListsBoth r e.0 e.1 → k ≡ suc w.place
        only zero r h l = grind (arith, some_is, first_of_both)
        only (suc k) r h l = ap suc (w.only k r h l)

pub overlaps_are_listed_once_lem : (p : Program) → RulesHaveTerms p → (t i j : ℕ) (o : OverlapsWrongly p t i j) → IsListedOnce (overlap_reports (wrong_overlaps p)) o.first.rule.at o.second.rule.at
overlaps_are_listed_once_lem p terms t i j o = grind (arith, common_steps, once (length (wrong_overlaps p)) (wrong_overlaps p), wrong_there p terms t i j o)

pub listed_rules_overlap_lem : (p : Program) (r : OverlapReport) (at : Position) → Contains (overlap_reports (wrong_overlaps p)) r → Contains r.others at → OverlapAt p r.first at
listed_rules_overlap_lem p r at i j =
    let x = reports_mean (length (wrong_overlaps p)) (wrong_overlaps p) r at (in_from_contains (overlap_reports (wrong_overlaps p)) r i) (in_from_contains r.others at j) in
    let w = wrong_means p x.0 x.1 in
    record { term = w.term; earlier = w.earlier; later = w.later; overlap = w.overlap; ends = subst (λ e. AreEnds e r.first at) (sym w.ends) x.2 }
