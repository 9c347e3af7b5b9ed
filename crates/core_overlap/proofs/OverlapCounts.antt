-- Counts of unreported overlaps by rule, and the reports that are made by them.
use Rattle.std.proofs.Common.{◌≡◌, ◌⊎◌, ◌==◌, ◌&&◌, ◌||◌, ℕ, suc, ◌-◌, ◌<◌, Bool, true, false, not, nat_lt, if◌then◌else◌, List, [], ◌∷◌, ◌++◌, length, map, filter, refl, sym, ap, ◌∙◌, inl, inr, arith, append_assoc}
use Rattle.std.specs.BTreeMap.{BTreeMap}
use Rattle.std.specs.Global.{Vec}
use Rattle.std.proofs.lemmas.Bool.Decides.{nat_tests}
use Rattle.std.proofs.lemmas.List.{length-map, map-append, append-nil}
use Rattle.std.proofs.lemmas.List.Elements.{filter_agree}
use Rattle.std.proofs.lemmas.Grind.{common_steps}
use Rattle.model.specs.lists.Syntax.{Position}
use Rattle.model.specs.sites.Overlap.{position_eq, position_lt, has_end, other_end, degree, is_reported_before, overlap_reports, overlap_reports_in, rules_overlap, ascending_positions}
use Rattle.model.specs.claims.Refusals.{overlapping, refusal_of}
use Rattle.laws_sites.proofs.overlaps.ListedOverlaps.{position_means, left_over}
use Rattle.core_syntax.specs.SyntaxViews.{position}
use Rattle.core_syntax.specs.declared.syntax.Error.{Error}
use Rattle.core_syntax.specs.declared.syntax.Pos.{Pos}
use Rattle.core_overlap.specs.Comparisons.{positions}
use Rattle.core_syntax.specs.ErrorViews.{error_views}
use Rattle.core_overlap.specs.Graphs.{neighbours, unreported_at, neighbours_at, same_pos, position_count, counts_before, unreported, count_left}
use Rattle.core_overlap.proofs.Reporting.{kept_pairs, stands, filtered_map, kept_from, left_of, left_kept, degree_left, no_reports, none_first, one_report, none_left_over, no_more_than}

-- 1. how many overlaps a rule has
pub degree_is : (pairs : List (Position × Position)) (ns : List Pos) (a : Position) → positions ns ≡ neighbours pairs a → length ns ≡ degree pairs a
degree_is pairs ns a e = sym (length-map ns position) ∙ ap length e ∙ length-map (filter (has_end a) pairs) (other_end a)

-- 2. the rules that two overlaps of one rule add
pub both_listed : (old mid new : List Pos) (first second q : Pos) → (same_pos first second ≡ true → ⊥) → mid ≡ old ++ (if same_pos first q then second ∷ [] else []) → new ≡ mid ++ (if same_pos second q then first ∷ [] else [])
    → positions new ≡ positions old ++ (if has_end (position q) (position first, position second) then other_end (position q) (position first, position second) ∷ [] else [])
both_listed old mid new first second q apart e f =
    ap positions (f ∙ ap (λ l. l ++ (if same_pos second q then first ∷ [] else [])) e)
    ∙ of (same_pos first q) (same_pos second q) (λ t u. apart (both t u))
  where
    both : same_pos first q ≡ true → same_pos second q ≡ true → same_pos first second ≡ true
    both t u = grind (arith, common_steps, position_means (position first) (position q) t, position_means (position second) (position q) u)

    of : (a b : Bool) → (a ≡ true → b ≡ true → ⊥) → positions ((old ++ (if a then second ∷ [] else [])) ++ (if b then first ∷ [] else []))
        ≡ positions old ++ (if (a || b) then (if a then position second else position first) ∷ [] else [])
    of true true h = absurd (h refl refl)
    of true false h = ap positions (append-nil (old ++ second ∷ [])) ∙ map-append position old (second ∷ [])
    of false true h = ap positions (ap (λ l. l ++ first ∷ []) (append-nil old)) ∙ map-append position old (first ∷ [])
    of false false h = ap positions (append-nil (old ++ []) ∙ append-nil old) ∙ sym (append-nil (positions old))

-- 3. reports so far
pub record IsSoFar (pairs : List (Position × Position)) (counts : BTreeMap Pos ℕ) (errors : List Error) (n : ℕ) : Type 0 where
  pub kept : Position → Bool
  pub counted : (q : Pos) → unreported_at counts q ≡ degree (kept_pairs kept pairs) (position q)
  pub reported : error_views errors ++ map refusal_of (map rules_overlap (overlap_reports_in n (kept_pairs kept pairs))) ≡ map refusal_of (map rules_overlap (overlap_reports pairs))

all_kept : (ps : List (Position × Position)) → kept_pairs (λ p. true) ps ≡ ps
all_kept [] = refl
all_kept (e ∷ ps) = ap (λ l. e ∷ l) (all_kept ps)

pub so_far_none : (pairs : List (Position × Position)) (counts : BTreeMap Pos ℕ) (errors : List Error) (n : ℕ) → errors ≡ [] → n ≡ length pairs → ((q : Pos) → unreported_at counts q ≡ degree pairs (position q)) → IsSoFar pairs counts errors n
so_far_none pairs counts errors n e l c = record {
  kept = λ p. true;
  counted = λ q. c q ∙ ap (λ ps. degree ps (position q)) (sym (all_kept pairs));
  reported = grind (arith, common_steps, kept_pairs (λ p. true) pairs, all_kept pairs);
}

zero_or_more : (n : ℕ) → (n ≡ 0) ⊎ (0 < n)
zero_or_more n = grind (arith, common_steps)

module _ (pairs : List (Position × Position)) (counts : BTreeMap Pos ℕ) (errors : List Error) (n : ℕ) (at : Pos)
    (first : (q : Pos) → 0 < unreported_at counts q → counts_before counts q at ≡ false) (s : IsSoFar pairs counts errors n) where
  abbrev place : Position → Pos
  place y = record { file = y.file; offset = y.offset }

  same_before : (p q : Pos) → counts_before counts p q ≡ is_reported_before (kept_pairs s.kept pairs) (position p) (position q)
  same_before p q = (λ k. nat_lt (s.counted q k) (s.counted p k) || ((s.counted p k == s.counted q k) && position_lt (position q) (position p)))

  -- no rule that has overlaps left is reported before the first one
  not_before : (y : Position) → 0 < degree (kept_pairs s.kept pairs) y → is_reported_before (kept_pairs s.kept pairs) y (position at) ≡ false
  not_before y h = sym (same_before (place y) at) ∙ first (place y) (let c = s.counted (place y) in omega (arith, c, h))

  -- where the first rule has no overlap left, none has
  pub so_far_all : unreported_at counts at ≡ 0 → error_views errors ≡ map refusal_of (map rules_overlap (overlap_reports pairs))
  so_far_all z =
      let none = none_left_over (kept_pairs s.kept pairs) (λ y. elim (zero_or_more (degree (kept_pairs s.kept pairs) y)) [
        | inl e ↦ e
        | inr h ↦
            let most = no_more_than (degree (kept_pairs s.kept pairs) y) (degree (kept_pairs s.kept pairs) (position at)) (position_lt (position at) y) (not_before y h) in
            let c = s.counted at in
            omega (arith, most, c, z)
      ]) in
      sym (append-nil (error_views errors))
      ∙ (λ k. error_views errors ++ map refusal_of (map rules_overlap (sym (ap (overlap_reports_in n) none ∙ no_reports n) k)))
      ∙ s.reported

  -- one more report
  pub so_far_more : (others : BTreeMap Pos (Vec Pos)) (after : BTreeMap Pos ℕ) (more : List Error) (m : ℕ) → n ≡ suc m → (unreported_at counts at ≡ 0 → ⊥)
      → ((q : Pos) → positions (neighbours_at others q) ≡ neighbours pairs (position q))
      → ((q : Pos) → unreported_at after q ≡ count_left counts at (unreported others counts at) q)
      → error_views more ≡ error_views errors ++ overlapping (position at ∷ ascending_positions (positions (unreported others counts at))) ∷ []
      → IsSoFar pairs after more m
  so_far_more others after more m is some listed counted added = record {
    kept = λ p. s.kept p && not (position_eq p (position at));
    counted = λ q. counted q ∙ left_counts q ∙ sym (degree_left (position at) (position q) (kept_pairs s.kept pairs)) ∙ ap (λ ps. degree ps (position q)) (left_kept (position at) s.kept pairs);
    reported =
        (λ k. added k ++ map refusal_of (map rules_overlap (overlap_reports_in m (sym (left_kept (position at) s.kept pairs) k))))
        ∙ append_assoc (error_views errors) (overlapping (position at ∷ ascending_positions (positions (unreported others counts at))) ∷ []) (map refusal_of (map rules_overlap (overlap_reports_in m (left_over (position at) (kept_pairs s.kept pairs)))))
        ∙ (λ k. error_views errors ++ (overlapping (position at ∷ ascending_positions (found k)) ∷ map refusal_of (map rules_overlap (overlap_reports_in m (left_over (position at) (kept_pairs s.kept pairs))))))
        ∙ (λ k. error_views errors ++ map refusal_of (map rules_overlap (sym (ap (λ x. overlap_reports_in x (kept_pairs s.kept pairs)) is ∙ one_report m (kept_pairs s.kept pairs) (position at) positive none_before) k)))
        ∙ s.reported;
  }
    where
      positive : 0 < degree (kept_pairs s.kept pairs) (position at)
      positive = grind (arith, common_steps, nat_tests)

      none_before : (y : Position) → is_reported_before (kept_pairs s.kept pairs) y (position at) ≡ false
      none_before y =
          elim (zero_or_more (degree (kept_pairs s.kept pairs) y)) [
            | inl e ↦ none_first (degree (kept_pairs s.kept pairs) y) (degree (kept_pairs s.kept pairs) (position at)) (position_lt (position at) y) e positive
            | inr h ↦ not_before y h
          ]

      ka : s.kept (position at) ≡ true
      ka = kept_from s.kept pairs (position at) positive

      found : positions (unreported others counts at) ≡ neighbours (kept_pairs s.kept pairs) (position at)
      found =
          ap positions (filter_agree (λ o. nat_lt 0 (unreported_at counts o)) (λ o. nat_lt 0 (degree (kept_pairs s.kept pairs) (position o))) (λ o. ap (nat_lt 0) (s.counted o)) (neighbours_at others at))
          ∙ filtered_map position (λ o. nat_lt 0 (degree (kept_pairs s.kept pairs) o)) (neighbours_at others at)
          ∙ ap (filter (λ o. nat_lt 0 (degree (kept_pairs s.kept pairs) o))) (listed at)
          ∙ left_of s.kept pairs (position at) ka

      times_is : (q : Pos) → position_count q (unreported others counts at) ≡ stands (position q) (neighbours (kept_pairs s.kept pairs) (position at))
      times_is q =
          sym (length-map (filter (λ p. same_pos p q) (unreported others counts at)) position)
          ∙ ap length (filtered_map position (λ p. position_eq p (position q)) (unreported others counts at))
          ∙ ap (stands (position q)) found

      left_counts : (q : Pos) → count_left counts at (unreported others counts at) q ≡ (if position_eq (position at) (position q) then 0 else degree (kept_pairs s.kept pairs) (position q) - stands (position q) (neighbours (kept_pairs s.kept pairs) (position at)))
      left_counts q = (λ k. if position_eq (position at) (position q) then 0 else s.counted q k - times_is q k)

no_fuel : (ps : List (Position × Position)) → overlap_reports_in 0 ps ≡ []
no_fuel ps = grind (arith, common_steps)

pub so_far_end : (pairs : List (Position × Position)) (counts : BTreeMap Pos ℕ) (errors : List Error) (n : ℕ) → n ≡ 0 → IsSoFar pairs counts errors n → error_views errors ≡ map refusal_of (map rules_overlap (overlap_reports pairs))
so_far_end pairs counts errors n e s = grind (arith, common_steps, append-nil (error_views errors), kept_pairs s.kept pairs, no_fuel (kept_pairs s.kept pairs))
