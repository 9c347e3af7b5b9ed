-- A rule of a built set has as many constraints and equated sites as its closed demands: neither lists a site twice.
use Rattle.std.proofs.Common.{◌≡◌, ◌+◌, ℕ, ◌<◌, Bool, true, false, not, if◌then◌else◌, List, [], ◌∷◌, ◌++◌, length, map, filter, flat_map, sym, ◌∙◌, subst, inl, inr, arith}
use Rattle.std.proofs.lemmas.Bool.{cases_Bool, cond-true, cond-false, and_parts, and_from, false≢true}
use Rattle.std.proofs.lemmas.List.{length-map}
use Rattle.std.proofs.lemmas.List.Concat.{length-flat_map}
use Rattle.std.proofs.lemmas.Grind.{common_steps}
use Rattle.model.specs.lists.Names.{IsDistinct}
use Rattle.model.specs.rules.Program.{Program, rules_of}
use Rattle.model.specs.rules.Typed.{TypedRule}
use Rattle.model.specs.sites.Sites.{Constraint, SetRule, SiteSet, SiteTerm, unfold_site}
use Rattle.model.specs.visits.Demands.{Demands, has_site, demands_of}
use Rattle.model.specs.sites.Closure.{Closed, class_at, without_class_of, merged_classes, merged_all, ascending, closing, before_closing, most_closing_steps, begins_with, closed}
use Rattle.model.specs.sites.Limits.{sites_after_rule}
use Rattle.model.specs.sites.Overlap.{BuiltRule, is_built, built_rule, built_from}
use Rattle.model.specs.sites.RuleSets.{IsRuleOf}
use Rattle.model.proofs.DistinctCounts.{no_more_distinct}
use Rattle.model.proofs.DistinctJoined.{distinct_cons, distinct_tail, not_in_tail, distinct_append, distinct_filter, distinct_map}
use Rattle.model.proofs.Elements.{In, in_from_contains, contains_from_in, in_either, in_filter, passed_filter, in_map, map_in, in_flat_map, from_flat_map, any_in, in_any}
use Rattle.model.proofs.Positions.{distinct_nil, distinct_one}
use Rattle.model.proofs.SameSites.{term_means}
use Rattle.model.proofs.SitesMade.{in_has, has_in}
use Rattle.laws_sites.specs.SetOverlapLaws.{SetRulesConstrainAsTheirDemands}
use Rattle.laws_sites.proofs.Closing.{closing_keeps}
use Rattle.laws_sites.proofs.FollowingDemands.{IsApart, class_cases, class_found, class_shares, joint_apart}
use Rattle.laws_sites.proofs.built.BuiltGates.{stands_for}
use Rattle.laws_sites.proofs.built.BuiltSets.{BuiltSet, RuleOfSet}
use Rattle.laws_sites.proofs.ConstrainedOnce.{StandOnce, closed_once}
use Rattle.laws_sites.proofs.built.DistinctSites.{once_closed, once_after_rule, one_number}

-- 1. classes in which no site stands twice
-- no site of a class stands in others
abbrev StandsApart : List SiteTerm → List (List SiteTerm) → Type 0
StandsApart k ks = (s : SiteTerm) (l : List SiteTerm) → In k s → In ks l → In l s → ⊥

abbrev ClassesOnce : List (List SiteTerm) → Type 0
ClassesOnce [] = Unit {0}
ClassesOnce (k ∷ ks) = IsDistinct k × StandsApart k ks × ClassesOnce ks

once_apart : (ks : List (List SiteTerm)) → ClassesOnce ks → IsApart ks
once_apart [] h l m s i j x y = absurd i
once_apart (k ∷ ks) h l m s (inl e) (inl f) x y = sym e ∙ f
once_apart (k ∷ ks) h l m s (inl e) (inr j) x y = absurd (h.1 s m (subst (λ q. In q s) (sym e) x) j y)
once_apart (k ∷ ks) h l m s (inr i) (inl f) x y = absurd (h.1 s l (subst (λ q. In q s) (sym f) y) i x)
once_apart (k ∷ ks) h l m s (inr i) (inr j) x y = once_apart ks h.2 l m s i j x y

each_distinct : (ks : List (List SiteTerm)) → ClassesOnce ks → (l : List SiteTerm) → In ks l → IsDistinct l
each_distinct [] h l i = absurd i
each_distinct (k ∷ ks) h l (inl e) = subst IsDistinct e h.0
each_distinct (k ∷ ks) h l (inr i) = each_distinct ks h.2 l i

once_filter : (p : List SiteTerm → Bool) (ks : List (List SiteTerm)) → ClassesOnce ks → ClassesOnce (filter p ks)
once_filter p [] h = tt
once_filter p (k ∷ ks) h = grind (arith, common_steps, once_filter p ks h.2, in_filter)

once_append : (ks ls : List (List SiteTerm)) → ClassesOnce ks → ClassesOnce ls → ((k : List SiteTerm) → In ks k → StandsApart k ls) → ClassesOnce (ks ++ ls)
once_append [] ls h g apart = g
once_append (k ∷ ks) ls h g apart = grind (arith, common_steps, once_append ks ls h.2 g (λ m i. apart m (inr i)), in_either)

pub flat_distinct : (ks : List (List SiteTerm)) → ClassesOnce ks → IsDistinct (flat_map (λ k. k) ks)
flat_distinct [] h = distinct_nil
flat_distinct (k ∷ ks) h =
    distinct_append k (flat_map (λ l. l) ks) h.0 (flat_distinct ks h.2)
    (λ s a b.
    let m = from_flat_map (λ l. l) ks s (in_from_contains (flat_map (λ l. l) ks) s b) in
    h.1 s m.0 (in_from_contains k s a) m.1 m.2)

-- 2. merging
class_distinct : (ks : List (List SiteTerm)) → ClassesOnce ks → (s : SiteTerm) → IsDistinct (class_at ks s)
class_distinct ks h s = grind (arith, common_steps, class_cases, each_distinct, distinct_one)

-- the classes of two sites, of which the first lacks the second, have no common site
two_apart : (ks : List (List SiteTerm)) → ClassesOnce ks → (a b x : SiteTerm) → has_site (class_at ks a) b ≡ false → In (class_at ks a) x → In (class_at ks b) x → ⊥
two_apart ks h a b x f i j =
    elim (class_cases ks a) [
      | inl c ↦ grind (arith, common_steps, in_has, class_shares ks (once_apart ks h) b (class_at ks a) x c i j)
      | inr e ↦
          elim (class_cases ks b) [
            | inl d ↦
                let c = class_found ks (class_at ks b) a d (subst (In (class_at ks b)) (sym (alone a (class_at ks a) e x i)) j) in
                grind (arith, common_steps, in_has, class_shares ks (once_apart ks h) b (class_at ks a) x c i j)
            | inr d ↦ grind (arith, in_has)
          ]
    ]
  where
    alone : (s : SiteTerm) (l : List SiteTerm) → l ≡ s ∷ [] → (y : SiteTerm) → In l y → s ≡ y
    alone s l e y m = elim (subst (λ q. In q y) e m) [ inl p ↦ p | inr n ↦ absurd n ]

once_merged : (ks : List (List SiteTerm)) → ClassesOnce ks → (e : SiteTerm × SiteTerm) → ClassesOnce (merged_classes ks e)
once_merged ks h e =
    elim (cases_Bool (has_site (class_at ks e.0) e.1)) [
      | inl t ↦ subst ClassesOnce (sym (cond-true (has_site (class_at ks e.0) e.1) ks ((class_at ks e.0 ++ class_at ks e.1) ∷ without_class_of (without_class_of ks e.0) e.1) t)) h
      | inr f ↦
          subst ClassesOnce (sym (cond-false (has_site (class_at ks e.0) e.1) ks ((class_at ks e.0 ++ class_at ks e.1) ∷ without_class_of (without_class_of ks e.0) e.1) f)) (
            distinct_append (class_at ks e.0) (class_at ks e.1) (class_distinct ks h e.0) (class_distinct ks h e.1)
                (λ x a b. two_apart ks h e.0 e.1 x f (in_from_contains (class_at ks e.0) x a) (in_from_contains (class_at ks e.1) x b)),
            λ s l i j m. joint_apart ks (once_apart ks h) e l s j m i,
            once_filter (λ k. not (has_site k e.1)) (without_class_of ks e.0) (once_filter (λ k. not (has_site k e.0)) ks h),
          )
    ]

each_class_once : (es : List (SiteTerm × SiteTerm)) (ks : List (List SiteTerm)) → ClassesOnce ks → ClassesOnce (merged_all ks es)
each_class_once [] ks h = h
each_class_once (e ∷ es) ks h = each_class_once es (merged_classes ks e) (once_merged ks h e)

classes_closed_once : (n : ℕ) (k : Closed) → ClassesOnce k.classes → ClassesOnce (closing n k).classes
classes_closed_once = grind (arith, common_steps, closing_keeps (λ k. ClassesOnce k.classes), each_class_once, once_filter)

-- 3. in order
ascending_once : (made : List SiteTerm) → IsDistinct made → (ks : List (List SiteTerm)) → ClassesOnce ks → ClassesOnce (map (ascending made) ks)
ascending_once made d [] h = tt
ascending_once made d (k ∷ ks) h = (
  distinct_filter (has_site k) made d,
  λ s l i j m.
      let w = in_map (ascending made) ks l j in
      h.1 s w.0 (has_in k s (passed_filter (has_site k) made s i)) w.1 (has_in w.0 s (passed_filter (has_site w.0) made s (subst (λ q. In q s) (sym w.2) m))),
  ascending_once made d ks h.2,
)

one_beginning : (s t : SiteTerm) (l : List SiteTerm) → begins_with s l ≡ true → begins_with t l ≡ true → s ≡ t
one_beginning s t [] a b = absurd (false≢true a)
one_beginning s t (x ∷ l) a b = sym (term_means x s a) ∙ term_means x t b

beginning_once : (ms : List (List SiteTerm)) → ClassesOnce ms → (ss : List SiteTerm) → IsDistinct ss → ClassesOnce (flat_map (λ s. filter (begins_with s) ms) ss)
beginning_once ms h [] d = tt
beginning_once ms h (s ∷ ss) d =
    once_append (filter (begins_with s) ms) (flat_map (λ t. filter (begins_with t) ms) ss) (once_filter (begins_with s) ms h) (beginning_once ms h ss (distinct_tail s ss d))
    (λ k i x l j m n. grind (arith, common_steps, from_flat_map, once_apart, in_filter, one_beginning, passed_filter, not_in_tail, contains_from_in))

closed_classes_once : (before : List SiteTerm) (d : Demands) → IsDistinct before → ClassesOnce (closed before d).classes
closed_classes_once before d h =
    beginning_once (map (ascending (closed before d).made) (closing most_closing_steps (before_closing before d)).classes)
    (ascending_once (closed before d).made (once_closed before d h) (closing most_closing_steps (before_closing before d)).classes
    (classes_closed_once most_closing_steps (before_closing before d) (each_class_once d.equalities [] tt)))
    (closed before d).made (once_closed before d h)

-- 4. built rules
-- the closed demands of a built rule list no site twice
record ListsOnce (k : Closed) : Type 0 where
  constraints : StandOnce k.constraints
  classes : ClassesOnce k.classes

built_once : (p : Program) (before : List SiteTerm) (rs : List TypedRule) → IsDistinct before → (b : BuiltRule) → In (built_from p before rs) b → ListsOnce b.demands
built_once p before [] d b i = absurd i
built_once p before (r ∷ rs) d b i =
    elim (in_either (if is_built p before r then built_rule p before r ∷ [] else []) (built_from p (sites_after_rule p before r) rs) b i) [
      | inl j ↦ here (is_built p before r) j
      | inr j ↦ built_once p (sites_after_rule p before r) rs (once_after_rule p before r d) b j
    ]
  where
    here : (q : Bool) → In (if q then built_rule p before r ∷ [] else []) b → ListsOnce b.demands
    here true j = grind (arith, common_steps, closed_once before (demands_of p r), closed_classes_once before (demands_of p r) d)
    here false j = absurd j

keys_distinct : (cs : List (SiteTerm × Constraint)) → StandOnce cs → IsDistinct (map (λ (c : SiteTerm × Constraint). c.0) cs)
keys_distinct [] h = distinct_nil
keys_distinct (x ∷ cs) h =
    distinct_cons x.0 (map (λ (c : SiteTerm × Constraint). c.0) cs)
    (λ c.
    let m = in_map (λ (d : SiteTerm × Constraint). d.0) cs x.0 (in_from_contains (map (λ (d : SiteTerm × Constraint). d.0) cs) x.0 c) in
    h.0 m.0.1 (subst (λ s. In cs (s, m.0.1)) m.2 m.1))
    (keys_distinct cs h.1)

-- 5. a rule of a built set
module _ (of : BuiltSet) (x : RuleOfSet of) where
  abbrev set : SiteSet
  set = of.set

  abbrev b : BuiltRule
  b = x.typed

  abbrev r : SetRule
  r = x.rule

  abbrev q : IsRuleOf of.program set.sites b r
  q = x.is

  once : ListsOnce b.demands
  once = built_once of.program [] (rules_of of.program of.term) distinct_nil b x.listed

  -- different numbers of a list stand for as many sites as another list has, where each is one of these, and these all
  as_many : (ns : List ℕ) (us : List SiteTerm) → IsDistinct ns → IsDistinct us → ((n : ℕ) → In ns n → (n < length set.sites) × In us (unfold_site set.sites n))
      → ((u : SiteTerm) → In us u → (n : ℕ) × In ns n × (unfold_site set.sites n ≡ u)) → length ns ≡ length us
  as_many ns us d e f g =
      let same = length-map ns (unfold_site set.sites) in
      let few = no_more_distinct (map (unfold_site set.sites) ns) us
      (distinct_map (unfold_site set.sites) ns d (λ x y i j k. one_number of.program of.term set of.built x y (f x (in_from_contains ns x i)).0 (f y (in_from_contains ns y j)).0 k))
      (λ u i. let m = in_map (unfold_site set.sites) ns u i in subst (In us) m.2 (f m.0 m.1).1) in
      let many = no_more_distinct us (map (unfold_site set.sites) ns) e
      (λ u i. let m = g u i in subst (In (map (unfold_site set.sites) ns)) m.2 (map_in (unfold_site set.sites) ns m.0 m.1)) in
      omega (arith, same, few, many)

  constraints_count : length r.constraints ≡ length b.demands.constraints
  constraints_count =
      sym (length-map r.constraints (λ (d : ℕ × Constraint). d.0))
      ∙ as_many (map (λ (d : ℕ × Constraint). d.0) r.constraints) (map (λ (d : SiteTerm × Constraint). d.0) b.demands.constraints) q.constraints.once
      (keys_distinct b.demands.constraints once.constraints)
      (λ n i.
      let m = in_map (λ (d : ℕ × Constraint). d.0) r.constraints n i in
      let k = q.constraints.asked m.0.0 m.0.1 (contains_from_in r.constraints m.0 m.1) in
      subst (λ s. (s < length set.sites) × In (map (λ (d : SiteTerm × Constraint). d.0) b.demands.constraints) (unfold_site set.sites s)) m.2
      (k.0, map_in (λ (d : SiteTerm × Constraint). d.0) b.demands.constraints (unfold_site set.sites m.0.0, m.0.1) (in_from_contains b.demands.constraints (unfold_site set.sites m.0.0, m.0.1) k.1)))
      (λ u i.
      let m = in_map (λ (d : SiteTerm × Constraint). d.0) b.demands.constraints u i in
      let k = q.constraints.all_asked m.0.0 m.0.1 (contains_from_in b.demands.constraints m.0 m.1) in
      (k.0, map_in (λ (d : ℕ × Constraint). d.0) r.constraints (k.0, m.0.1) (in_from_contains r.constraints (k.0, m.0.1) k.1), k.2 ∙ m.2))
      ∙ length-map b.demands.constraints (λ (d : SiteTerm × Constraint). d.0)

  members_count : length (flat_map (λ (c : List ℕ). c) r.classes) ≡ length (flat_map (λ (c : List SiteTerm). c) b.demands.classes)
  members_count =
      as_many (flat_map (λ (c : List ℕ). c) r.classes) (flat_map (λ (c : List SiteTerm). c) b.demands.classes) q.classes.once (flat_distinct b.demands.classes once.classes)
      (λ n i.
      let k = q.classes.joined n n (grind (arith, from_flat_map, any_in, and_from)) in
      (k.0, in_flat_map (λ (c : List SiteTerm). c) b.demands.classes k.2 (unfold_site set.sites n) (in_from_contains b.demands.classes k.2 k.3) (in_from_contains k.2 (unfold_site set.sites n) k.4)))
      (λ u i.
      let m = from_flat_map (λ (c : List SiteTerm). c) b.demands.classes u i in
      let c = contains_from_in m.0 u m.2 in
      let k = q.classes.all_joined m.0 u u (contains_from_in b.demands.classes m.0 m.1) c c in
      (k.0, (grind (arith, common_steps, in_any, and_parts, in_flat_map)), k.3))

pub set_rules_constrain_as_their_demands_lem : SetRulesConstrainAsTheirDemands
set_rules_constrain_as_their_demands_lem p t set h b r one =
    let of : BuiltSet = record { program = p; term = t; set = set; built = h } in
    let x = stands_for of b r one in
    let y = sym (length-flat_map (λ (c : List ℕ). c) r.classes) ∙ members_count of x ∙ length-flat_map (λ (c : List SiteTerm). c) b.demands.classes in
    let z = constraints_count of x in
    (λ k. z k + y k)
