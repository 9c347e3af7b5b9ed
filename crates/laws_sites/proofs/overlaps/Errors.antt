-- What the errors that checking answers name.
use Rattle.std.proofs.Common.{◌≡◌, ◌+◌, ◌≤◌, Bool, true, false, List, [], ◌∷◌, length, map, Contains, refl, sym, ap, ◌∙◌, subst, inl, inr, arith}
use Rattle.std.proofs.lemmas.Bool.{false≢true}
use Rattle.std.proofs.lemmas.List.Elements.{All-contains}
use Rattle.std.proofs.lemmas.Grind.{common_steps}
use Rattle.model.specs.lists.Syntax.{Position}
use Rattle.model.specs.rules.Program.{Program}
use Rattle.model.specs.sites.Overlap.{wrong_overlaps, OverlapReport, RuleReport, rules_overlap, report_position, build_reports, check_reports}
use Rattle.model.specs.claims.Refusals.{Refusal, overlapping, refusal_of}
use Rattle.model.specs.claims.Layers.{is_left_out, CheckReports}
use Rattle.model.proofs.Elements.{In, in_from_contains, contains_from_in, in_left, in_either, in_map, map_in}
use Rattle.laws_sites.specs.ErrorLaws.{SaysLeftOut, NamesLeftOut, names_both, NamesPairs, NamesMasks, CheckErrorsNameLeftOut, CheckErrorsNamePairs, CheckErrorsNameMasks}
use Rattle.laws_sites.specs.PairLaws.{lists_both, one_if, times}
use Rattle.laws_sites.specs.ReportLaws.{RulesHaveTerms, OverlapAt}
use Rattle.laws_sites.specs.ShadowLaws.{check_errors}
use Rattle.laws_sites.proofs.overlaps.LeftOutErrors.{said_once}
use Rattle.laws_sites.proofs.overlaps.JudgedLists.{well_typed_rules_have_terms_lem}
use Rattle.laws_sites.proofs.overlaps.LeftOut.{build_reports_are_left_out, left_out_rules_are_reported_lem}
use Rattle.laws_sites.proofs.overlaps.ListedOverlaps.{reports_list}
use Rattle.laws_sites.proofs.overlaps.Pairs.{times_map, overlap_reported, wrong_pairs_stand_once_lem, only_wrong_pairs_stand_lem}
use Rattle.laws_sites.proofs.overlaps.MaskErrors.{masks_are_named_once_lem, only_masks_are_named_lem}

-- 1. rules that are left out
said : (x : RuleReport) → is_left_out x ≡ true → SaysLeftOut (report_position x) (refusal_of x)
said x e = grind arith

says : (at : Position) (x : RuleReport) → SaysLeftOut at (refusal_of x) → (is_left_out x ≡ true) × (report_position x ≡ at)
says at x e = grind arith

module _ (p : Program) (reports : List RuleReport) (c : CheckReports p reports) where
  pub names_left_out : NamesLeftOut p (map refusal_of reports)
  names_left_out = record {
    each_rule = λ i r out.
        (let law = (left_out_rules_are_reported_lem p).each_rule i r out in
        let there = in_from_contains (build_reports p) law.report law.there in
        let among : In reports law.report = subst (λ l. In l law.report) (sym c.all) (in_left (build_reports p) c.later law.report there) in
        record {
          error = refusal_of law.report;
          answered = contains_from_in (map refusal_of reports) (refusal_of law.report) (map_in refusal_of reports law.report among);
          says = subst (λ at. SaysLeftOut at (refusal_of law.report)) law.at (said law.report (build_reports_are_left_out p law.report there));
        });
    each_error = λ at x i s.
        (let y = in_map refusal_of reports x (in_from_contains (map refusal_of reports) x i) in
        let q = says at y.0 (subst (SaysLeftOut at) (sym y.2) s) in
        elim (in_either (build_reports p) c.later y.0 (subst (λ l. In l y.0) c.all y.1)) [
          | inl j ↦
              let law = (left_out_rules_are_reported_lem p).each_report y.0 (contains_from_in (build_reports p) y.0 j) in
              record { place = law.place; rule = law.rule; out = law.out; here = sym law.at ∙ q.1 }
          | inr j ↦ absurd (false≢true (sym (All-contains (λ r. is_left_out r ≡ false) c.later y.0 c.others (contains_from_in c.later y.0 j)) ∙ q.0))
        ]);
    once = λ distinct. said_once p reports c distinct;
  }

-- 2. wrong overlaps
lists_same : (a b : Position) (x : RuleReport) → names_both a b (refusal_of x) ≡ lists_both a b x
lists_same a b x = grind arith

times_same : {X : Type 0} (f g : X → Bool) → ((x : X) → f x ≡ g x) → (xs : List X) → times f xs ≡ times g xs
times_same f g h [] = refl
times_same f g h (x ∷ xs) = ap (λ b. one_if b + times f xs) (h x) ∙ ap (λ k. one_if (g x) + k) (times_same f g h xs)

abbrev is_overlapping : Refusal → Bool
is_overlapping (overlapping rules) = true
is_overlapping _ = false

abbrev first_in : Position → Refusal → Position
first_in other (overlapping (x ∷ xs)) = x
first_in other _ = other

abbrev others_named : Refusal → List Position
others_named (overlapping (x ∷ xs)) = xs
others_named _ = []

-- the report that an overlap error is of
pub record IsOfOverlap (x : RuleReport) (first : Position) (others : List Position) : Type 0 where
  pub report : OverlapReport
  pub is : x ≡ rules_overlap report
  pub begins : report.first ≡ first
  pub lists : report.others ≡ others

of_overlap : (x : RuleReport) (first : Position) (others : List Position) → refusal_of x ≡ overlapping (first ∷ others) → IsOfOverlap x first others
of_overlap x first others e = grind arith

-- an overlap error is of some report
pub record IsOfSomeOverlap (x : RuleReport) (rules : List Position) : Type 0 where
  pub report : OverlapReport
  pub is : x ≡ rules_overlap report
  pub lists : rules ≡ report.first ∷ report.others

abbrev rules_in : Refusal → List Position
rules_in (overlapping rules) = rules
rules_in _ = []

of_some_overlap : (x : RuleReport) (rules : List Position) → refusal_of x ≡ overlapping rules → IsOfSomeOverlap x rules
of_some_overlap x rules e = grind arith

some_listed : (xs : List Position) (b : Position) → In xs b → 1 ≤ length xs
some_listed [] b i = absurd i
some_listed (x ∷ xs) b i = omega arith

module _ (p : Program) (terms : RulesHaveTerms p) where
  pub names_pairs : NamesPairs p (check_errors p)
  names_pairs = record {
    once = λ t i j o.
        (grind (arith, common_steps, times_map, times_same, lists_same, wrong_pairs_stand_once_lem p terms t i j o));
    only = λ first others at i j.
        (let x = in_map refusal_of (check_reports p) (overlapping (first ∷ others)) (in_from_contains (check_errors p) (overlapping (first ∷ others)) i) in
        let w = of_overlap x.0 first others x.2 in
        let there : In (check_reports p) (rules_overlap w.report) = subst (In (check_reports p)) w.is x.1 in
        subst (λ q. OverlapAt p q at) w.begins
        (only_wrong_pairs_stand_lem p w.report at (contains_from_in (check_reports p) (rules_overlap w.report) there) (subst (λ l. Contains l at) (sym w.lists) j)));
    two = λ rules i.
        (let x = in_map refusal_of (check_reports p) (overlapping rules) (in_from_contains (check_errors p) (overlapping rules) i) in
        let w = of_some_overlap x.0 rules x.2 in
        let listed = reports_list (length (wrong_overlaps p)) (wrong_overlaps p) w.report (overlap_reported p w.report (subst (In (check_reports p)) w.is x.1)) in
        let some = some_listed w.report.others listed.0 listed.1 in
        subst (λ (l : List Position). 2 ≤ length l) (sym w.lists) (omega (arith, some)));
  }

  -- 3. masks
  pub names_masks : NamesMasks p (check_errors p)
  names_masks = record {
    each_mask = λ t m is.
        (grind (arith, common_steps, masks_are_named_once_lem p terms t m is));
    only = λ listed at i. only_masks_are_named_lem p listed at i;
  }

pub check_errors_name_left_out_lem : CheckErrorsNameLeftOut
check_errors_name_left_out_lem p reports is c = names_left_out p reports c

pub check_errors_name_pairs_lem : CheckErrorsNamePairs
check_errors_name_pairs_lem p is = names_pairs p (well_typed_rules_have_terms_lem p is)

pub check_errors_name_masks_lem : CheckErrorsNameMasks
check_errors_name_masks_lem p is = names_masks p (well_typed_rules_have_terms_lem p is)
