-- Each mask is named by one error, which lists what it shadows.
use Rattle.std.proofs.Common.{◌≡◌, ℕ, ◌+◌, Bool, true, false, List, [], ◌++◌, map, filter, Contains, refl, sym, ap, ◌∙◌, subst, inl, inr, arith}
use Rattle.std.proofs.Math.Nat.{zero-add}
use Rattle.std.proofs.lemmas.Bool.{false≢true}
use Rattle.std.proofs.lemmas.Grind.{common_steps}
use Rattle.model.specs.lists.Syntax.{Position}
use Rattle.model.specs.rules.Program.{Program}
use Rattle.model.specs.sites.Overlap.{BuiltRule, built_rules, shadows, ShadowReport, RuleReport, rules_overlap, rule_shadows, position_eq, overlap_reports, wrong_overlaps, shadow_reports, build_reports, overlap_and_shadow_reports, check_reports}
use Rattle.model.specs.claims.Refusals.{Refusal, shadowing, refusal_of}
use Rattle.model.specs.claims.Layers.{is_left_out}
use Rattle.model.proofs.Elements.{In, in_from_contains, contains_from_in, in_right, in_either, in_slice, in_filter, filter_from, passed_filter, in_map, map_in}
use Rattle.laws_sites.specs.ShadowLaws.{names_mask, shadowed_by, ListsItsShadowed, MasksAreNamedOnce, OnlyMasksAreNamed, CheckErrorsAreAnswered}
use Rattle.laws_sites.specs.PairLaws.{times}
use Rattle.laws_sites.proofs.overlaps.ShadowTest.{shadows_decides}
use Rattle.laws_sites.proofs.overlaps.LeftOut.{build_reports_are_left_out}
use Rattle.laws_sites.proofs.overlaps.ListedOverlaps.{position_means, position_same}
use Rattle.laws_sites.proofs.overlaps.Masks.{masks_are_reported_once_lem}
use Rattle.laws_sites.proofs.overlaps.Pairs.{none_pass, one_passes, times_append, times_map, never, times_sorted, sorted_in, in_sorted}
use Rattle.laws_sites.proofs.overlaps.ReportedOverlaps.{masked_means, masked_there}

-- an error that names a mask is a shadow report's
abbrev listed_in : Refusal → List Position
listed_in (shadowing shadowed mask) = shadowed
listed_in _ = []

abbrev mask_in : Position → Refusal → Position
mask_in other (shadowing shadowed mask) = mask
mask_in other _ = other

abbrev is_shadowing : Refusal → Bool
is_shadowing (shadowing shadowed mask) = true
is_shadowing _ = false

no_mask_left_out : (at : Position) (x : RuleReport) → is_left_out x ≡ true → names_mask at (refusal_of x) ≡ true → ⊥
no_mask_left_out at x h e = grind (arith, common_steps)

-- the list of a report of a mask
module _ (p : Program) (t : ℕ) (m : BuiltRule) where
  lists_shadowed : (listed : List Position) → listed ≡ shadowed_by p t m → ListsItsShadowed p t m listed
  lists_shadowed listed e = record {
    in_order = e;
    each_rule = λ r c h.
        subst (λ l. Contains l r.rule.at) (sym e)
        (contains_from_in (shadowed_by p t m) r.rule.at
        (map_in (λ s. s.rule.at) (filter (shadows m) (built_rules p t)) r
        (filter_from (shadows m) (built_rules p t) r (in_from_contains (built_rules p t) r c) ((shadows_decides m r).1 h))));
    no_other = λ at c.
        (let w = in_map (λ s. s.rule.at) (filter (shadows m) (built_rules p t)) at (in_from_contains (shadowed_by p t m) at (subst (λ l. Contains l at) e c)) in (
          w.0,
          contains_from_in (built_rules p t) w.0 (in_filter (shadows m) (built_rules p t) w.0 w.1),
          (shadows_decides m w.0).0 (passed_filter (shadows m) (built_rules p t) w.0 w.1),
          w.2,
        ));
  }

pub masks_are_named_once_lem : MasksAreNamedOnce
masks_are_named_once_lem p terms t m mask =
    let at = m.rule.at in
    let overlaps = overlap_reports (wrong_overlaps p) in
    let shades = shadow_reports p in
    let later = map rules_overlap overlaps ++ map rule_shadows shades in
    let named : RuleReport → Bool = λ x. names_mask at (refusal_of x) in
    let report : ShadowReport = record { mask = at; shadowed = shadowed_by p t m } in
    let listed : In shades report =
    masked_there p terms t m mask.shadowed mask.one_result (in_from_contains (built_rules p t) m mask.built) (in_from_contains (built_rules p t) mask.shadowed mask.other) mask.hides in
    let there : In (check_reports p) (rule_shadows report) =
    in_right (build_reports p) (overlap_and_shadow_reports p) (rule_shadows report)
    (in_sorted later (rule_shadows report)
    (in_right (map rules_overlap overlaps) (map rule_shadows shades) (rule_shadows report)
    (map_in rule_shadows shades report listed))) in
    record {
      listed = shadowed_by p t m;
      answered = contains_from_in (map refusal_of (check_reports p)) (shadowing (shadowed_by p t m) at) (map_in refusal_of (check_reports p) (rule_shadows report) there);
      lists = lists_shadowed p t m (shadowed_by p t m) refl;
      once = λ distinct.
          (let once = masks_are_reported_once_lem p terms distinct t m mask.shadowed mask.one_result mask.built mask.other mask.hides in
          times_map (names_mask at) refusal_of (check_reports p)
          ∙ times_append named (build_reports p) (overlap_and_shadow_reports p)
          ∙ ap (λ k. k + times named (overlap_and_shadow_reports p))
          (none_pass named (build_reports p) (λ n y e. no_mask_left_out at y (build_reports_are_left_out p y (in_slice (build_reports p) n y e))))
          ∙ zero-add (times named (overlap_and_shadow_reports p))
          ∙ times_sorted named later
          ∙ times_append named (map rules_overlap overlaps) (map rule_shadows shades)
          ∙ ap (λ k. k + times named (map rule_shadows shades)) (times_map named rules_overlap overlaps ∙ never overlaps)
          ∙ zero-add (times named (map rule_shadows shades))
          ∙ times_map named rule_shadows shades
          ∙ one_passes (λ s. position_eq s.mask at) shades once.place report once.here (position_same at at refl)
          (λ n y e h. once.only n y e (position_means y.mask at h)));
    }

pub only_masks_are_named_lem : OnlyMasksAreNamed
only_masks_are_named_lem p listed at c =
    let overlaps = overlap_reports (wrong_overlaps p) in
    let shades = shadow_reports p in
    let x = in_map refusal_of (check_reports p) (shadowing listed at) (in_from_contains (map refusal_of (check_reports p)) (shadowing listed at) c) in
    let s : (s : ShadowReport) × In shades s × (shadowing s.shadowed s.mask ≡ shadowing listed at) =
    elim (in_either (build_reports p) (overlap_and_shadow_reports p) x.0 x.1) [
      | inl i ↦ absurd (no_mask_left_out at x.0 (build_reports_are_left_out p x.0 i) (ap (names_mask at) x.2 ∙ position_same at at refl))
      | inr i ↦ elim (in_either (map rules_overlap overlaps) (map rule_shadows shades) x.0 (sorted_in (map rules_overlap overlaps ++ map rule_shadows shades) x.0 i)) [
        | inl j ↦
            let w = in_map rules_overlap overlaps x.0 j in
            absurd (false≢true (ap (λ r. is_shadowing (refusal_of r)) w.2 ∙ ap is_shadowing x.2))
        | inr j ↦
            let w = in_map rule_shadows shades x.0 j in
            (w.0, w.1, ap refusal_of w.2 ∙ x.2)
      ]
    ] in
    let w = masked_means p s.0 s.1 in
    let here : w.mask.rule.at ≡ at = ap (λ q. q.mask) (sym w.report) ∙ ap (mask_in at) s.2 in
    let same : listed ≡ shadowed_by p w.term w.mask = sym (ap listed_in s.2) ∙ ap (λ q. q.shadowed) w.report in
    let lists = lists_shadowed p w.term w.mask listed same in
    record {
      term = w.term;
      mask = w.mask;
      is_mask = grind (arith, common_steps, contains_from_in (built_rules p w.term) w.mask w.masking, contains_from_in (built_rules p w.term) w.shadowed w.other);
      here = here;
      lists = lists;
      some_rule = grind (arith, common_steps, in_from_contains, contains_from_in (built_rules p w.term) w.shadowed w.other);
    }

pub check_errors_are_answered_lem : CheckErrorsAreAnswered
check_errors_are_answered_lem p reports c distinct = ap (map refusal_of) (c.all ∙ ap (λ l. build_reports p ++ l) (c.fixed distinct))
