-- Wrong overlaps and shadows are those that are reported.
use Rattle.std.proofs.Common.{◌≡◌, ◌==◌, ◌+◌, ℕ, zero, suc, ◌<◌, false, List, [], ◌∷◌, map, length, Some, slice_get, filter, refl, sym, ap, ◌∙◌, subst, inl, inr, arith, eqb-true}
use Rattle.std.proofs.lemmas.Bool.{cond-false}
use Rattle.std.specs.List.{list_any}
use Rattle.std.proofs.lemmas.Grind.{common_steps}
use Rattle.model.specs.lists.Syntax.{Position}
use Rattle.model.specs.rules.Typed.{TypedRule}
use Rattle.model.specs.rules.Program.{Program, is_multi, rules_of, numbers_from, terms_with_rules}
use Rattle.model.specs.sites.Sites.{SiteTerm}
use Rattle.model.specs.sites.Limits.{sites_after_rule}
use Rattle.model.specs.sites.Overlap.{BuiltRule, built_from, built_rules, clash, OverlapsWrongly, Shadows, shadows, each_two, compared, wrong_in, wrong_overlaps, ShadowReport, shadow_report, shadow_reports_in, shadow_reports}
use Rattle.laws_sites.specs.ReportLaws.{RulesHaveTerms}
use Rattle.model.proofs.Elements.{In, contains_from_in, some_is, none_some, in_left, in_right, in_either, in_slice, slice_in, any_in, in_filter, filter_from, passed_filter, in_map, map_in, in_flat_map, from_flat_map}
use Rattle.laws_sites.proofs.overlaps.Overlaps.{clash_decides}
use Rattle.laws_sites.proofs.overlaps.ShadowTest.{shadows_decides}

-- each two elements, by their places
pub two_places : {X : Type 0} (xs : List X) (e : X × X) → In (each_two xs) e → (i j : ℕ) × (i < j) × (slice_get xs i ≡ Some e.0) × (slice_get xs j ≡ Some e.1)
two_places [] e i = absurd i
two_places {X = X} (x ∷ xs) e i =
    elim (in_either (map (λ (y : X). (x, y)) xs) (each_two xs) e i) [
      | inl a ↦
          let y = in_map (λ (y : X). (x, y)) xs e a in
          let k = slice_in xs y.0 y.1 in
          (0, suc k.0, omega arith, ap (λ q. Some q.0) y.2, k.1 ∙ ap (λ q. Some q.1) y.2)
      | inr b ↦ let r = two_places xs e b in (suc r.0, suc r.1, let lt : r.0 < r.1 = r.2 in omega arith, r.3, r.4)
    ]

pub two_in : {X : Type 0} (xs : List X) (i j : ℕ) (a b : X) → i < j → slice_get xs i ≡ Some a → slice_get xs j ≡ Some b → In (each_two xs) (a, b)
two_in [] i j a b lt e f = absurd (none_some a e)
two_in (x ∷ xs) i zero a b lt e f = absurd (omega (arith, lt))
two_in {X = X} (x ∷ xs) zero (suc j) a b lt e f =
    in_left (map (λ (y : X). (x, y)) xs) (each_two xs) (a, b)
    (subst (λ u. In {X = X × X} (map (λ (y : X). (x, y)) xs) (u, b)) (some_is x a e) (map_in (λ (y : X). (x, y)) xs b (in_slice xs j b f)))
two_in {X = X} (x ∷ xs) (suc i) (suc j) a b lt e f = in_right (map (λ (y : X). (x, y)) xs) (each_two xs) (a, b) (two_in xs i j a b (omega (arith, lt)) e f)

pub compared_means : (p : Program) (t : ℕ) (b : BuiltRule) → In (compared p t) b → (is_multi p t ≡ false) × (compared p t ≡ built_rules p t)
compared_means p t b i = grind (arith, common_steps)

-- a built rule is one of the term's
pub built_of : (p : Program) (before : List SiteTerm) (rs : List TypedRule) (b : BuiltRule) → In (built_from p before rs) b → In rs b.rule
built_of p before [] b i = absurd i
built_of p before (r ∷ rs) b i = grind (arith, common_steps, built_of p (sites_after_rule p before r) rs b, in_either)

numbers_there : {X : Type 0} (n k : ℕ) (xs : List X) → k < length xs → In (numbers_from n xs) (n + k)
numbers_there n k [] lt = absurd (omega (arith, lt))
numbers_there n zero (x ∷ xs) lt = inl (omega arith)
numbers_there n (suc k) (x ∷ xs) lt = inr (subst (In (numbers_from (suc n) xs)) (omega arith) (numbers_there (suc n) k xs (omega (arith, lt))))

-- a term of a built rule is among those with rules
pub term_there : (p : Program) → RulesHaveTerms p → (t : ℕ) (b : BuiltRule) → In (built_rules p t) b → In (terms_with_rules p) t
term_there p terms t b i =
    let r = built_of p [] (rules_of p t) b i in
    let of_term = passed_filter (λ q. q.root_term == t) p.rules b.rule r in
    let there = in_filter (λ q. q.root_term == t) p.rules b.rule r in
    let lt = subst (λ u. u < length p.terms) (eqb-true b.rule.root_term t of_term) (terms b.rule (contains_from_in p.rules b.rule there)) in
    filter_from (λ u. list_any (λ q. q.root_term == u) p.rules) (numbers_from 0 p.terms) t (subst (In (numbers_from 0 p.terms)) (omega arith) (numbers_there 0 t p.terms lt))
    (any_in (λ q. q.root_term == t) p.rules b.rule there of_term)

-- what a wrong overlap is of
pub record Found (p : Program) (e : Position × Position) : Type 0 where
  pub term : ℕ
  pub earlier : ℕ
  pub later : ℕ
  pub overlap : OverlapsWrongly p term earlier later
  pub ends : (overlap.first.rule.at, overlap.second.rule.at) ≡ e

pub wrong_means : (p : Program) (e : Position × Position) → In (wrong_overlaps p) e → Found p e
wrong_means p e i =
    let t = from_flat_map (λ u. wrong_in (compared p u)) (terms_with_rules p) e i in
    let x = in_map (λ (q : BuiltRule × BuiltRule). (q.0.rule.at, q.1.rule.at)) (filter (λ (q : BuiltRule × BuiltRule). clash q.0 q.1) (each_two (compared p t.0))) e t.2 in
    let two = two_places (compared p t.0) x.0 (in_filter (λ (q : BuiltRule × BuiltRule). clash q.0 q.1) (each_two (compared p t.0)) x.0 x.1) in
    let c = (clash_decides x.0.0 x.0.1).0 (passed_filter (λ (q : BuiltRule × BuiltRule). clash q.0 q.1) (each_two (compared p t.0)) x.0 x.1) in
    let m = compared_means p t.0 x.0.0 (in_slice (compared p t.0) two.0 x.0.0 two.3) in
    record {
      term = t.0;
      earlier = two.0;
      later = two.1;
      overlap = record {
        first = x.0.0;
        second = x.0.1;
        one_result = m.0;
        here = subst (λ l. slice_get l two.0 ≡ Some x.0.0) m.1 two.3;
        there = subst (λ l. slice_get l two.1 ≡ Some x.0.1) m.1 two.4;
        before = two.2;
        one_priority = c.0;
        overlap = c.1;
      };
      ends = x.2;
    }

pub wrong_there : (p : Program) → RulesHaveTerms p → (t i j : ℕ) (o : OverlapsWrongly p t i j) → In (wrong_overlaps p) (o.first.rule.at, o.second.rule.at)
wrong_there p terms t i j o =
    in_flat_map (λ u. wrong_in (compared p u)) (terms_with_rules p) t (o.first.rule.at, o.second.rule.at)
    (term_there p terms t o.first (in_slice (built_rules p t) i o.first o.here))
    (subst (λ l. In (wrong_in l) (o.first.rule.at, o.second.rule.at)) (sym (cond-false (is_multi p t) [] (built_rules p t) o.one_result))
    (map_in (λ (q : BuiltRule × BuiltRule). (q.0.rule.at, q.1.rule.at)) (filter (λ (q : BuiltRule × BuiltRule). clash q.0 q.1) (each_two (built_rules p t))) (o.first, o.second)
    (grind (arith, common_steps, filter_from, two_in, clash_decides))))

-- the report of a rule that shadows some
abbrev pub report_of : BuiltRule → List BuiltRule → ShadowReport
report_of m l = record { mask = m.rule.at; shadowed = map (λ s. s.rule.at) l }

shadowed_some : (m : BuiltRule) (l : List BuiltRule) (s : ShadowReport) → In (shadow_report m l) s → ((r : BuiltRule) × In l r) × (s ≡ report_of m l)
shadowed_some m [] s i = absurd i
shadowed_some m (r ∷ rs) s (inl e) = ((r, inl refl), sym e)
shadowed_some m (r ∷ rs) s (inr n) = absurd n

-- what a shadow report is of
pub record Masked (p : Program) (s : ShadowReport) : Type 0 where
  pub term : ℕ
  pub mask : BuiltRule
  pub shadowed : BuiltRule
  pub one_result : is_multi p term ≡ false
  pub masking : In (built_rules p term) mask
  pub other : In (built_rules p term) shadowed
  pub hides : Shadows mask shadowed
  pub report : s ≡ report_of mask (filter (shadows mask) (built_rules p term))

pub masked_means : (p : Program) (s : ShadowReport) → In (shadow_reports p) s → Masked p s
masked_means p s i = grind (arith, common_steps, from_flat_map, compared_means, shadowed_some, in_filter, shadows_decides, passed_filter)

pub masked_there : (p : Program) → RulesHaveTerms p → (t : ℕ) (m r : BuiltRule) → is_multi p t ≡ false → In (built_rules p t) m → In (built_rules p t) r → Shadows m r
    → In (shadow_reports p) (report_of m (filter (shadows m) (built_rules p t)))
masked_there p terms t m r one i j h =
    in_flat_map (λ u. shadow_reports_in (compared p u)) (terms_with_rules p) t (report_of m (filter (shadows m) (built_rules p t)))
    (term_there p terms t m i)
    (subst (λ l. In (shadow_reports_in l) (report_of m (filter (shadows m) (built_rules p t)))) (sym (cond-false (is_multi p t) [] (built_rules p t) one))
    (in_flat_map (λ q. shadow_report q (filter (shadows q) (built_rules p t))) (built_rules p t) m (report_of m (filter (shadows m) (built_rules p t))) i
    (grind (arith, common_steps, filter_from (shadows m) (built_rules p t) r j ((shadows_decides m r).1 h)))))
