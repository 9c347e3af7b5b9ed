-- The positions that the errors of a check name: those of rules, which are those of rule definitions.
use Rattle.std.proofs.Common.{◌≡◌, ◌==◌, ℕ, zero, suc, Bool, true, false, not, if◌then◌else◌, List, [], ◌∷◌, ◌++◌, map, filter, flat_map, Option, Some, None, option_map, All, Contains, refl, sym, ap, ◌∙◌, subst, inl, inr}
use Rattle.std.proofs.lemmas.List.Elements.{All-contains, Contains-append_cases}
use Rattle.std.proofs.lemmas.Option.{none-some, same_Some}
use Rattle.model.specs.lists.Syntax.{Position, RuleTree, Definition, type_definition, declaration, extractor_definition, converter_definition, rule_definition, extern_definition, other_definition}
use Rattle.model.specs.lists.Setting.{Setting, Scope}
use Rattle.model.specs.lists.TermTable.{rule_of, rule_trees, term_names_met}
use Rattle.model.specs.lists.TypeTable.{type_table}
use Rattle.model.specs.lists.Elaborated.{TypedRules, named_rule, typed_rules, named}
use Rattle.model.specs.lists.Elaborates.{ElaboratesRule, a_rule, ElaboratesRules, no_rule, one_rule}
use Rattle.model.specs.rules.Typed.{TypedRule}
use Rattle.model.specs.rules.Program.{Program, rules_of}
use Rattle.model.specs.sites.Sites.{SiteTerm}
use Rattle.model.specs.visits.Demands.{demands_of}
use Rattle.model.specs.sites.Closure.{reported}
use Rattle.model.specs.sites.Limits.{RuleLimit, first_limit, sites_wanted, sites_after_rules}
use Rattle.model.specs.sites.Overlap.{BuiltRule, built_rules, shadows, wrong_overlaps, position_eq, has_end, other_end, is_reported_before, foremost, OverlapReport, ShadowReport, overlap_report, overlap_reports_in, overlap_reports, shadow_reports, RuleReport, limit_passed, not_reached, rules_overlap, rule_shadows, build_reports_of, build_reports_after, build_reports, overlap_and_shadow_reports, check_reports}
use Rattle.model.specs.claims.Environments.{TypesRead, setting_of, IsElaborated, program_of}
use Rattle.model.specs.claims.Refusals.{refusal_of}
use Rattle.model.proofs.Elements.{In, in_from_contains, contains_from_in, in_either, in_slice, in_filter, in_map, map_in, in_flat_map, from_flat_map}
use Rattle.model.proofs.Members.{all_members}
use Rattle.laws_typing.proofs.TypedRules.{lists_agree}
use Rattle.laws_sites.proofs.overlaps.ListedOverlaps.{ascending_in}
use Rattle.laws_sites.proofs.overlaps.Pairs.{sorted_in}
use Rattle.laws_sites.proofs.overlaps.ReportedOverlaps.{built_of, wrong_means, report_of, masked_means}
use Rattle.core_syntax.specs.declared.syntax.Error.{Error}
use Rattle.core_syntax.specs.ErrorViews.{error_view, error_views}
use Rattle.core_syntax.specs.Positions.{HasSingleSpans, ErrorStandsAt, OccurAmong, definition_positions, positions_of, positions_named}
use Rattle.core_syntax.proofs.Positioned.{stand_among}
use Rattle.core_types.specs.TypePositions.{types_positions}
use Rattle.core_types.proofs.TablePositions.{table_among}
use Rattle.cranelift_isle.specs.Checks.{rule_places, NamesRules}

module _ (p : Program) where
  abbrev IsOfRule : Position → Type 0
  IsOfRule at = In (rule_places p) at

  abbrev OfRules : RuleReport → Type 0
  OfRules x = (at : Position) → In (positions_named (refusal_of x)) at → IsOfRule at

  -- 1. reports of building
  alone : (at : Position) → IsOfRule at → (b : Position) → In (at ∷ []) b → IsOfRule b
  alone at h b (inl e) = subst IsOfRule e h
  alone at h b (inr n) = absurd n

  one_reported : (before : List SiteTerm) (r : TypedRule) → IsOfRule r.at → (o : Option RuleLimit) (x : RuleReport)
      → In (elim o as (λ _. List RuleReport) [ Some l ↦ limit_passed l r.at ∷ [] | None ↦ map (λ why. not_reached why r.at) (reported (sites_wanted p before r) (demands_of p r)) ]) x → OfRules x
  one_reported before r h (Some l) x (inl e) = subst OfRules e (alone r.at h)
  one_reported before r h (Some l) x (inr n) = absurd n
  one_reported before r h None x i =
      let w = in_map (λ why. not_reached why r.at) (reported (sites_wanted p before r) (demands_of p r)) x i in
      subst OfRules w.2 (alone r.at h)

  all_reported : (done rs : List TypedRule) → ((r : TypedRule) → In rs r → IsOfRule r.at) → (x : RuleReport) → In (build_reports_after p done rs) x → OfRules x
  all_reported done [] h x i = absurd i
  all_reported done (r ∷ rs) h x i =
      let before = sites_after_rules p [] (filter (λ q. q.root_term == r.root_term) done) in
      elim (in_either (build_reports_of p before r) (build_reports_after p (done ++ r ∷ []) rs) x i) [
        | inl a ↦ one_reported before r (h r (inl refl)) (first_limit p before r) x a
        | inr b ↦ all_reported (done ++ r ∷ []) rs (λ q j. h q (inr j)) x b
      ]

  -- 2. reports of overlaps
  built_stands : (t : ℕ) (b : BuiltRule) → In (built_rules p t) b → IsOfRule b.rule.at
  built_stands t b i = map_in (λ r. r.at) p.rules b.rule (in_filter (λ q. q.root_term == t) p.rules b.rule (built_of p [] (rules_of p t) b i))

  abbrev EndsAreOfRules : List (Position × Position) → Type 0
  EndsAreOfRules pairs = (e : Position × Position) → In pairs e → IsOfRule e.0 × IsOfRule e.1

  wrong_ends : EndsAreOfRules (wrong_overlaps p)
  wrong_ends e i =
      let w = wrong_means p e i in
      subst (λ (q : Position × Position). IsOfRule q.0 × IsOfRule q.1) w.ends (
        built_stands w.term w.overlap.first (in_slice (built_rules p w.term) w.earlier w.overlap.first w.overlap.here),
        built_stands w.term w.overlap.second (in_slice (built_rules p w.term) w.later w.overlap.second w.overlap.there),
      )

  either_one : (t : Bool) (a b : Position) → IsOfRule a → IsOfRule b → IsOfRule (if t then a else b)
  either_one true a b h k = h
  either_one false a b h k = k

  foremost_stands : (pairs : List (Position × Position)) (a : Position) (bs : List Position) → IsOfRule a → ((b : Position) → In bs b → IsOfRule b) → IsOfRule (foremost pairs a bs)
  foremost_stands pairs a [] h k = h
  foremost_stands pairs a (b ∷ bs) h k =
      foremost_stands pairs (if is_reported_before pairs b a then b else a) bs (either_one (is_reported_before pairs b a) b a (k b (inl refl)) h) (λ c i. k c (inr i))

  ends_stand : (pairs : List (Position × Position)) → EndsAreOfRules pairs → (b : Position) → In (flat_map (λ x. x.0 ∷ (x.1 ∷ [])) pairs) b → IsOfRule b
  ends_stand pairs h b i =
      let e = from_flat_map (λ (x : Position × Position). x.0 ∷ (x.1 ∷ [])) pairs b i in
      elim e.2 [
        | inl q ↦ subst IsOfRule q (h e.0 e.1).0
        | inr k ↦ alone e.0.1 (h e.0 e.1).1 b k
      ]

  overlap_stands : (pairs : List (Position × Position)) → EndsAreOfRules pairs → (at : Position) → IsOfRule at → OfRules (rules_overlap (overlap_report pairs at))
  overlap_stands pairs h at s b (inl e) = subst IsOfRule e s
  overlap_stands pairs h at s b (inr i) =
      let e = in_map (other_end at) (filter (has_end at) pairs) b (ascending_in (map (other_end at) (filter (has_end at) pairs)) b i) in
      let both = h e.0 (in_filter (has_end at) pairs e.0 e.1) in
      subst IsOfRule e.2 (either_one (position_eq e.0.0 at) e.0.1 e.0.0 both.1 both.0)

  overlaps_stand : (n : ℕ) (pairs : List (Position × Position)) → EndsAreOfRules pairs → (r : OverlapReport) → In (overlap_reports_in n pairs) r → OfRules (rules_overlap r)
  overlaps_stand n [] h r i = absurd i
  overlaps_stand zero (e ∷ es) h r i = absurd i
  overlaps_stand (suc n) (e ∷ es) h r (inl same) =
      let first = foremost_stands (e ∷ es) e.0 (flat_map (λ x. x.0 ∷ (x.1 ∷ [])) (e ∷ es)) (h e (inl refl)).0 (ends_stand (e ∷ es) h) in
      subst (λ (q : OverlapReport). OfRules (rules_overlap q)) same (overlap_stands (e ∷ es) h (foremost (e ∷ es) e.0 (flat_map (λ x. x.0 ∷ (x.1 ∷ [])) (e ∷ es))) first)
  overlaps_stand (suc n) (e ∷ es) h r (inr i) =
      let at = foremost (e ∷ es) e.0 (flat_map (λ x. x.0 ∷ (x.1 ∷ [])) (e ∷ es)) in
      overlaps_stand n (filter (λ x. not (has_end at x)) (e ∷ es)) (λ q j. h q (in_filter (λ x. not (has_end at x)) (e ∷ es) q j)) r i

  -- 3. reports of shadows
  mask_stands : (t : ℕ) (m : BuiltRule) → In (built_rules p t) m → OfRules (rule_shadows (report_of m (filter (shadows m) (built_rules p t))))
  mask_stands t m i b (inl e) = subst IsOfRule e (built_stands t m i)
  mask_stands t m i b (inr j) =
      let r = in_map (λ (s : BuiltRule). s.rule.at) (filter (shadows m) (built_rules p t)) b j in
      subst IsOfRule r.2 (built_stands t r.0 (in_filter (shadows m) (built_rules p t) r.0 r.1))

  masks_stand : (s : ShadowReport) → In (shadow_reports p) s → OfRules (rule_shadows s)
  masks_stand s i =
      let m = masked_means p s i in
      subst (λ (q : ShadowReport). OfRules (rule_shadows q)) (sym m.report) (mask_stands m.term m.mask m.masking)

  -- 4. all of them
  later_stands : (x : RuleReport) → In (overlap_and_shadow_reports p) x → OfRules x
  later_stands x i =
      let overlaps = overlap_reports (wrong_overlaps p) in
      elim (in_either (map rules_overlap overlaps) (map rule_shadows (shadow_reports p)) x (sorted_in (map rules_overlap overlaps ++ map rule_shadows (shadow_reports p)) x i)) [
        | inl a ↦ let r = in_map rules_overlap overlaps x a in subst OfRules r.2 (overlaps_stand _ (wrong_overlaps p) wrong_ends r.0 r.1)
        | inr b ↦ let s = in_map rule_shadows (shadow_reports p) x b in subst OfRules s.2 (masks_stand s.0 s.1)
      ]

  reports_stand : (x : RuleReport) → In (check_reports p) x → OfRules x
  reports_stand x i =
      elim (in_either (build_reports p) (overlap_and_shadow_reports p) x i) [
        | inl a ↦ all_reported [] p.rules (map_in (λ r. r.at) p.rules) x a
        | inr b ↦ later_stands x b
      ]

  pub reports_name_rules : NamesRules p (map refusal_of (check_reports p))
  reports_name_rules =
      all_members (λ y. All (Contains (rule_places p)) (positions_named y)) (map refusal_of (check_reports p))
      (λ y c.
      let x = in_map refusal_of (check_reports p) y (in_from_contains (map refusal_of (check_reports p)) y c) in
      all_members (Contains (rule_places p)) (positions_named y)
      (λ at d. contains_from_in (rule_places p) at (reports_stand x.0 x.1 at (subst (λ z. In (positions_named z) at) (sym x.2) (in_from_contains (positions_named y) at d)))))

-- 5. typed rules stand where their trees do
rule_at : {e : Setting} {d id n : ℕ} {r : RuleTree} {names : List (List ℕ)} {q : TypedRule} {t : Scope} → ElaboratesRule e d id r names q t n → q.at ≡ r.at
rule_at (a_rule i j k l f g x) = refl

rules_at_trees : {e : Setting} {id : ℕ} {rs : List RuleTree} {names after : List (List ℕ)} {qs : List TypedRule} → ElaboratesRules e id rs names qs after → (q : TypedRule) → In qs q → In (map (λ r. r.at) rs) q.at
rules_at_trees no_rule q i = absurd i
rules_at_trees (one_rule {r = r} {q = u} g l rest) q (inl same) = inl (sym (rule_at g) ∙ ap (λ (x : TypedRule). x.at) same)
rules_at_trees (one_rule g l rest) q (inr i) = inr (rules_at_trees rest q i)

all_at_trees : (e : Setting) (trees : List RuleTree) (names : List (List ℕ)) (o : Option TypedRules) (l : TypedRules) → typed_rules e 0 trees names ≡ o → option_map (named e) o ≡ Some l
    → (q : TypedRule) → In l.rules q → In (map (λ r. r.at) trees) q.at
all_at_trees e trees names None l g h q i = absurd (none-some l h)
all_at_trees e trees names (Some k) l g h q i =
    let same : named e k ≡ l = same_Some (named e k) l h in
    let m = in_map (named_rule e.terms k.rules) k.rules q (subst (λ (x : TypedRules). In x.rules q) (sym same) i) in
    subst (In (map (λ r. r.at) trees)) (ap (λ (x : TypedRule). x.at) m.2) (rules_at_trees ((lists_agree e 0 trees names k.rules k.names).1 g) m.0 m.1)

in_definition : (d : Definition) (r : RuleTree) → In (rule_of d) r → In (definition_positions d) r.at
in_definition (type_definition d) r i = absurd i
in_definition (declaration d) r i = absurd i
in_definition (extractor_definition d) r i = absurd i
in_definition (converter_definition d) r i = absurd i
in_definition (rule_definition d) r (inl e) = inl (ap (λ (x : RuleTree). x.at) e)
in_definition (rule_definition d) r (inr n) = absurd n
in_definition (extern_definition d) r i = absurd i
in_definition other_definition r i = absurd i

tree_among : (defs : List Definition) (r : RuleTree) → In (rule_trees defs) r → In (positions_of defs) r.at
tree_among defs r i = let d = from_flat_map rule_of defs r i in in_flat_map definition_positions defs d.0 r.at d.1 (in_definition d.0 r d.2)

pub rules_among : (e : TypesRead) (defs : List Definition) (expand : Bool) (rules : TypedRules) → IsElaborated e defs expand rules → OccurAmong (rule_places (program_of e defs rules.rules)) (positions_of defs)
rules_among e defs expand rules h at c =
    let s = setting_of e defs expand in
    let q = in_map (λ (r : TypedRule). r.at) rules.rules at (in_from_contains (rule_places (program_of e defs rules.rules)) at c) in
    let r = in_map (λ (t : RuleTree). t.at) (rule_trees defs) q.0.at
    (all_at_trees s (rule_trees defs) (term_names_met e.known defs) (typed_rules s 0 (rule_trees defs) (term_names_met e.known defs)) rules refl h.elaborate.typed q.0 q.1) in
    contains_from_in (positions_of defs) at (subst (In (positions_of defs)) (r.2 ∙ q.2) (tree_among defs r.0 r.1))

-- 6. errors stand there
pub errors_stand : (ps : List Position) (es : List Error) → All HasSingleSpans es → All (λ x. All (Contains ps) (positions_named x)) (error_views es) → All (ErrorStandsAt ps) es
errors_stand ps es single names =
    all_members (ErrorStandsAt ps) es
    (λ e c. record {
      named = All-contains (λ x. All (Contains ps) (positions_named x)) (error_views es) (error_view e) names (contains_from_in (error_views es) (error_view e) (map_in error_view es e (in_from_contains es e c)));
      single = All-contains HasSingleSpans es e single c;
    })

all_among : (ps qs : List Position) (es : List Error) → OccurAmong ps qs → All (ErrorStandsAt ps) es → All (ErrorStandsAt qs) es
all_among ps qs es a h = all_members (ErrorStandsAt qs) es (λ e c. stand_among ps qs e a (All-contains (ErrorStandsAt ps) es e h c))

-- types of definitions stand in these, so the positions of both are those of the definitions
pub with_types_among : (defs : List Definition) (es : List Error) → All (ErrorStandsAt (positions_of defs ++ types_positions (type_table defs))) es → All (ErrorStandsAt (positions_of defs)) es
with_types_among defs es =
    all_among (positions_of defs ++ types_positions (type_table defs)) (positions_of defs) es
    (λ at c. elim (Contains-append_cases (positions_of defs) (types_positions (type_table defs)) at c) [ inl a ↦ a | inr b ↦ table_among defs at b ])

pub rules_stand : (e : TypesRead) (defs : List Definition) (expand : Bool) (rules : TypedRules) → IsElaborated e defs expand rules → (es : List Error) → All HasSingleSpans es → NamesRules (program_of e defs rules.rules) (error_views es)
    → All (ErrorStandsAt (positions_of defs)) es
rules_stand e defs expand rules h es single names =
    let places = rule_places (program_of e defs rules.rules) in all_among places (positions_of defs) es (rules_among e defs expand rules h) (errors_stand places es single names)
