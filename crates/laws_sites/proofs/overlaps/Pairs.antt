-- Wrong overlaps stand in exactly one report of checking.
use Rattle.std.proofs.Common.{◌≡◌, ◌⊎◌, ℕ, zero, suc, ◌+◌, Bool, true, false, ◌&&◌, List, [], ◌∷◌, ◌++◌, map, Some, slice_get, Contains, refl, sym, ap, ◌∙◌, inl, inr, arith}
use Rattle.std.proofs.lemmas.Bool.{cases_Bool, and_parts, and_from, false≢true}
use Rattle.std.proofs.lemmas.Option.{none-some, same_Some}
use Rattle.std.proofs.Math.Nat.{zero-add}
use Rattle.std.proofs.lemmas.Grind.{common_steps}
use Rattle.model.specs.lists.Syntax.{Position}
use Rattle.model.specs.rules.Program.{Program}
use Rattle.model.specs.sites.Overlap.{OverlapReport, RuleReport, rules_overlap, rule_shadows, position_eq, with_report, by_position, overlap_reports, wrong_overlaps, shadow_reports, build_reports, overlap_and_shadow_reports, check_reports}
use Rattle.model.specs.claims.Layers.{is_left_out}
use Rattle.model.proofs.Elements.{In, in_from_contains, contains_from_in, in_slice, in_either, in_map, or_split, or_left, or_right}
use Rattle.laws_sites.specs.ReportLaws.{ListsBoth}
use Rattle.laws_sites.specs.PairLaws.{has_place, both_in, lists_both, one_if, times, WrongPairsStandOnce, OnlyWrongPairsStand}
use Rattle.laws_sites.proofs.overlaps.LeftOut.{build_reports_are_left_out}
use Rattle.laws_sites.proofs.overlaps.ListedOverlaps.{position_means, position_same, overlaps_are_listed_once_lem, listed_rules_overlap_lem}

-- 1. counting
zero_suc : (k : ℕ) → 0 ≡ suc k → ⊥
zero_suc k e = omega (arith, e)

module _ {X : Type 0} (t : X → Bool) where
  pub none_pass : (xs : List X) → ((n : ℕ) (y : X) → slice_get xs n ≡ Some y → t y ≡ true → ⊥) → times t xs ≡ 0
  none_pass [] f = refl
  none_pass (x ∷ xs) f = grind (arith, none_pass xs (λ n y e k. f (suc n) y e k), zero-add (times t xs), t x, f 0 x refl)

  pub one_passes : (xs : List X) (k : ℕ) (x : X) → slice_get xs k ≡ Some x → t x ≡ true → ((n : ℕ) (y : X) → slice_get xs n ≡ Some y → t y ≡ true → n ≡ k) → times t xs ≡ 1
  one_passes [] k x e h only = absurd (none-some x e)
  one_passes (y ∷ ys) zero x e h only = grind (arith, common_steps, same_Some y x e, none_pass ys (λ n z f g. zero_suc n (sym (only (suc n) z f g))), zero_suc)
  one_passes (y ∷ ys) (suc k) x e h only = elim (cases_Bool (t y)) [
    | inl g ↦ absurd (zero_suc k (only 0 y refl g))
    | inr g ↦ ap (λ b. one_if b + times t ys) g ∙ zero-add (times t ys) ∙ one_passes ys k x e h (λ n z f c. (omega (arith, (only (suc n) z f c))))
  ]

  pub times_append : (xs ys : List X) → times t (xs ++ ys) ≡ times t xs + times t ys
  times_append [] ys = sym (zero-add (times t ys))
  times_append (x ∷ xs) ys = ap (λ k. one_if (t x) + k) (times_append xs ys) ∙ (omega arith)

pub times_map : {X Y : Type 0} (t : Y → Bool) (f : X → Y) (xs : List X) → times t (map f xs) ≡ times (λ x. t (f x)) xs
times_map t f [] = refl
times_map t f (x ∷ xs) = ap (λ k. one_if (t (f x)) + k) (times_map t f xs)

pub never : {X : Type 0} (xs : List X) → times (λ x. false) xs ≡ 0
never [] = refl
never (x ∷ xs) = zero-add (times (λ y. false) xs) ∙ never xs

-- 2. reports by position are the same reports
module _ (t : RuleReport → Bool) where
  times_with : (a : RuleReport) (bs : List RuleReport) → times t (with_report a bs) ≡ one_if (t a) + times t bs
  times_with a [] = refl
  times_with a (b ∷ bs) = grind (arith, common_steps, times_with a bs)

  pub times_sorted : (rs : List RuleReport) → times t (by_position rs) ≡ times t rs
  times_sorted [] = refl
  times_sorted (r ∷ rs) = times_with r (by_position rs) ∙ ap (λ k. one_if (t r) + k) (times_sorted rs)

with_report_in : (a : RuleReport) (bs : List RuleReport) (x : RuleReport) → In (with_report a bs) x → (a ≡ x) ⊎ In bs x
with_report_in a [] x i = i
with_report_in a (b ∷ bs) x i = grind (arith, common_steps, with_report_in a bs x)

pub sorted_in : (rs : List RuleReport) (x : RuleReport) → In (by_position rs) x → In rs x
sorted_in [] x i = i
sorted_in (r ∷ rs) x i = elim (with_report_in r (by_position rs) x i) [ inl e ↦ inl e | inr j ↦ inr (sorted_in rs x j) ]

in_with_report : (a : RuleReport) (bs : List RuleReport) (x : RuleReport) → (a ≡ x) ⊎ In bs x → In (with_report a bs) x
in_with_report a [] x i = i
in_with_report a (b ∷ bs) x i = grind (arith, common_steps, in_with_report a bs x)

pub in_sorted : (rs : List RuleReport) (x : RuleReport) → In rs x → In (by_position rs) x
in_sorted [] x i = i
in_sorted (r ∷ rs) x (inl e) = in_with_report r (by_position rs) x (inl e)
in_sorted (r ∷ rs) x (inr i) = in_with_report r (by_position rs) x (inr (in_sorted rs x i))

-- 3. what a report lists
has_in : (b : Position) (xs : List Position) → has_place b xs ≡ true → In xs b
has_in b [] h = absurd (false≢true h)
has_in b (x ∷ xs) h = elim (or_split (position_eq x b) (has_place b xs) h) [ inl e ↦ inl (position_means x b e) | inr k ↦ inr (has_in b xs k) ]

in_has : (b : Position) (xs : List Position) → In xs b → has_place b xs ≡ true
in_has b [] i = absurd i
in_has b (x ∷ xs) (inl e) = or_left (position_eq x b) (has_place b xs) (position_same x b e)
in_has b (x ∷ xs) (inr i) = or_right (position_eq x b) (has_place b xs) (in_has b xs i)

back_way : (a b : Position) (r : OverlapReport) → (r.first ≡ a) × Contains r.others b → (position_eq r.first a && has_place b r.others) ≡ true
back_way a b r h = and_from (position_eq r.first a) (has_place b r.others) (position_same r.first a h.0) (in_has b r.others (in_from_contains r.others b h.1))

both_means : (a b : Position) (r : OverlapReport) → both_in a b r ≡ true → ListsBoth r a b
both_means a b r h = grind (arith, common_steps, or_split, and_parts, position_means, contains_from_in, has_in)

-- 4. the reports of building list no overlap
abbrev is_overlap : RuleReport → Bool
is_overlap (rules_overlap r) = true
is_overlap _ = false

abbrev overlap_in : OverlapReport → RuleReport → OverlapReport
overlap_in other (rules_overlap r) = r
overlap_in other _ = other

no_pair_left_out : (a b : Position) (x : RuleReport) → is_left_out x ≡ true → lists_both a b x ≡ true → ⊥
no_pair_left_out a b x h e = grind (arith, common_steps)

-- 5. the two laws
pub wrong_pairs_stand_once_lem : WrongPairsStandOnce
wrong_pairs_stand_once_lem p terms t i j o =
    let a = o.first.rule.at in
    let b = o.second.rule.at in
    let overlaps = overlap_reports (wrong_overlaps p) in
    let shadows = shadow_reports p in
    let once = overlaps_are_listed_once_lem p terms t i j o in
    times_append (lists_both a b) (build_reports p) (overlap_and_shadow_reports p)
    ∙ ap (λ k. k + times (lists_both a b) (overlap_and_shadow_reports p)) (none_pass (lists_both a b) (build_reports p) (λ n y e. no_pair_left_out a b y (build_reports_are_left_out p y (in_slice (build_reports p) n y e))))
    ∙ zero-add (times (lists_both a b) (overlap_and_shadow_reports p))
    ∙ times_sorted (lists_both a b) (map rules_overlap overlaps ++ map rule_shadows shadows)
    ∙ times_append (lists_both a b) (map rules_overlap overlaps) (map rule_shadows shadows)
    ∙ ap (λ k. k + times (lists_both a b) (map rule_shadows shadows))
    (times_map (lists_both a b) rules_overlap overlaps
    ∙ one_passes (both_in a b) overlaps once.place once.report once.here (grind (arith, common_steps, or_left, back_way)) (λ n y e h. once.only n y e (both_means a b y h)))
    ∙ ap (λ k. 1 + k) (times_map (lists_both a b) rule_shadows shadows ∙ never shadows)

-- an overlap report of checking is one of the wrong overlaps
pub overlap_reported : (p : Program) (r : OverlapReport) → In (check_reports p) (rules_overlap r) → In (overlap_reports (wrong_overlaps p)) r
overlap_reported p r c =
    let overlaps = overlap_reports (wrong_overlaps p) in
    let shadows = shadow_reports p in
    elim (in_either (build_reports p) (overlap_and_shadow_reports p) (rules_overlap r) c) [
      | inl i ↦ absurd (false≢true (build_reports_are_left_out p (rules_overlap r) i))
      | inr i ↦ elim (in_either (map rules_overlap overlaps) (map rule_shadows shadows) (rules_overlap r) (sorted_in (map rules_overlap overlaps ++ map rule_shadows shadows) (rules_overlap r) i)) [
        | inl j ↦ grind (arith, common_steps, in_map rules_overlap overlaps (rules_overlap r) j)
        | inr j ↦ grind (arith, common_steps, in_map rule_shadows shadows (rules_overlap r) j)
      ]
    ]

pub only_wrong_pairs_stand_lem : OnlyWrongPairsStand
only_wrong_pairs_stand_lem p r at c d =
    listed_rules_overlap_lem p r at (contains_from_in (overlap_reports (wrong_overlaps p)) r (overlap_reported p r (in_from_contains (check_reports p) (rules_overlap r) c))) d
