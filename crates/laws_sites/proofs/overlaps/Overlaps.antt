-- The tests of overlap are exact, and overlap is symmetric.
use Rattle.std.proofs.Common.{◌≡◌, ◌≢◌, Bool, true, false, not, ◌&&◌, ◌||◌, List, [], ◌∷◌, refl, sym, ap, ◌∙◌, subst, inl, inr, arith}
use Rattle.std.proofs.lemmas.Bool.{cases_Bool, and_parts, and_from, false≢true, not-true}
use Rattle.std.proofs.lemmas.Bool.Decides.{Decides-int_eq}
use Rattle.std.specs.Bool.{Decides}
use Rattle.std.specs.List.{list_any}
use Rattle.std.specs.Ordering.{int_eq}
use Rattle.std.proofs.lemmas.Grind.{common_steps}
use Rattle.model.specs.sites.Sites.{Constraint, SiteTerm}
use Rattle.model.specs.visits.Demands.{site_term_eq, constraint_eq, differs_from, differ}
use Rattle.model.specs.sites.Closure.{Closed}
use Rattle.model.specs.sites.Overlap.{Overlaps, overlaps, AreAmong, same_demand, are_among, IsSubsetPair, has_no_class, is_subset_pair, BuiltRule, clash}
use Rattle.laws_sites.specs.ClosureLaws.{OverlapTestsAreExact}
use Rattle.model.proofs.Elements.{In, in_from_contains, contains_from_in, any_in, in_any, all_in, all_from, or_split, or_left, or_right}
use Rattle.model.proofs.SameSites.{term_means, term_same, constraint_means, same_constraint, constraint_cases}

pub bool_same : (x y : Bool) → (x ≡ true → y ≡ true) → (y ≡ true → x ≡ true) → x ≡ y
bool_same x y f g = grind (arith, common_steps)

-- two constraints of one site that differ
pub record Differing (as' bs : List (SiteTerm × Constraint)) : Type 0 where
  pub site : SiteTerm
  pub first : Constraint
  pub second : Constraint
  pub in_first : In as' (site, first)
  pub in_second : In bs (site, second)
  pub two : first ≢ second

pub differ_means : (as' bs : List (SiteTerm × Constraint)) → differ as' bs ≡ true → Differing as' bs
differ_means as' bs h =
    let a = in_any (λ x. list_any (differs_from x) bs) as' h in
    let b = in_any (differs_from a.0) bs a.2 in
    let p = and_parts (site_term_eq a.0.0 b.0.0) (not (constraint_eq a.0.1 b.0.1)) b.2 in
    record {
      site = a.0.0;
      first = a.0.1;
      second = b.0.1;
      in_first = a.1;
      in_second = subst (λ s. In bs (s, b.0.1)) (sym (term_means a.0.0 b.0.0 p.0)) b.1;
      two = λ e. false≢true (sym (not-true (constraint_eq a.0.1 b.0.1) p.1) ∙ same_constraint a.0.1 b.0.1 e);
    }

pub differ_from : (as' bs : List (SiteTerm × Constraint)) → Differing as' bs → differ as' bs ≡ true
differ_from as' bs d = grind (arith, common_steps, any_in, and_from, term_same)

pub differ_symmetric : (as' bs : List (SiteTerm × Constraint)) → differ as' bs ≡ differ bs as'
differ_symmetric as' bs = grind (arith, common_steps, bool_same, differ_from, differ_means)

pub overlaps_symmetric_lem : (a b : Closed) → overlaps a b ≡ overlaps b a
overlaps_symmetric_lem a b = ap not (differ_symmetric a.constraints b.constraints)

pub overlaps_decides : (a b : Closed) → Decides (overlaps a b) (Overlaps a b)
overlaps_decides a b = (
  λ h s c d i j. elim (constraint_cases c d) [
    | inl e ↦ e
    | inr n ↦
        absurd (false≢true (sym (not-true (differ a.constraints b.constraints) h)
        ∙ differ_from a.constraints b.constraints (record {
          site = s;
          first = c;
          second = d;
          in_first = in_from_contains a.constraints (s, c) i;
          in_second = in_from_contains b.constraints (s, d) j;
          two = n;
        })))
  ],
  λ o. elim (cases_Bool (differ a.constraints b.constraints)) [
    | inl t ↦
        let x = differ_means a.constraints b.constraints t in
        absurd (x.two (o x.site x.first x.second (contains_from_in a.constraints (x.site, x.first) x.in_first) (contains_from_in b.constraints (x.site, x.second) x.in_second)))
    | inr f ↦ ap not f
  ],
)

among_means : (as' bs : List (SiteTerm × Constraint)) → are_among as' bs ≡ true → AreAmong as' bs
among_means as' bs h s c i =
    let b = in_any (same_demand (s, c)) bs (all_in (λ a. list_any (same_demand a) bs) as' (s, c) h (in_from_contains as' (s, c) i)) in
    let p = and_parts (site_term_eq s b.0.0) (constraint_eq c b.0.1) b.2 in
    let e = term_means s b.0.0 p.0 in
    let f = constraint_means c b.0.1 p.1 in
    contains_from_in bs (s, c) (subst (In bs) (λ k. (sym e k, sym f k)) b.1)

among_from : (as' bs : List (SiteTerm × Constraint)) → AreAmong as' bs → are_among as' bs ≡ true
among_from as' bs h =
    all_from (λ a. list_any (same_demand a) bs) as'
    (λ a i.
    any_in (same_demand a) bs a (in_from_contains bs a (h a.0 a.1 (contains_from_in as' a i)))
    (and_from (site_term_eq a.0 a.0) (constraint_eq a.1 a.1) (term_same a.0) (same_constraint a.1 a.1 refl)))

-- whether a list is empty
pub none_listed : {X : Type 0} (xs : List X) → Decides (elim xs [ [] ↦ true | x ∷ ys ↦ false ]) (xs ≡ [])
none_listed xs = grind (arith, common_steps)

pub subset_pair_decides : (a b : Closed) → Decides (is_subset_pair a b) (IsSubsetPair a b)
subset_pair_decides a b = (
  λ h.
      let p = and_parts (overlaps a b && has_no_class a && has_no_class b) (are_among a.constraints b.constraints || are_among b.constraints a.constraints) h in
      let q = and_parts (overlaps a b && has_no_class a) (has_no_class b) p.0 in
      let r = and_parts (overlaps a b) (has_no_class a) q.0 in
      record {
        overlap = (overlaps_decides a b).0 r.0;
        first_has_none = (none_listed a.classes).0 r.1;
        second_has_none = (none_listed b.classes).0 q.1;
        among = elim (or_split (are_among a.constraints b.constraints) (are_among b.constraints a.constraints) p.1) [
          | inl t ↦ inl (among_means a.constraints b.constraints t)
          | inr t ↦ inr (among_means b.constraints a.constraints t)
        ];
      },
  λ s.
      and_from (overlaps a b && has_no_class a && has_no_class b) (are_among a.constraints b.constraints || are_among b.constraints a.constraints)
      (grind (arith, common_steps, and_from, overlaps_decides, none_listed))
      (grind (arith, common_steps, or_left, among_from, or_right)),
)

pub clash_decides : (a b : BuiltRule) → Decides (clash a b) ((a.rule.prio ≡ b.rule.prio) × Overlaps a.demands b.demands)
clash_decides a b = (
  λ h.
      let p = and_parts (int_eq a.rule.prio b.rule.prio) (overlaps a.demands b.demands) h in
      ((Decides-int_eq a.rule.prio b.rule.prio).0 p.0, (overlaps_decides a.demands b.demands).0 p.1),
  λ s. and_from (int_eq a.rule.prio b.rule.prio) (overlaps a.demands b.demands) ((Decides-int_eq a.rule.prio b.rule.prio).1 s.0) ((overlaps_decides a.demands b.demands).1 s.1),
)

pub overlap_is_exact_lem : (a b : Closed) → OverlapTestsAreExact a b
overlap_is_exact_lem a b = record { overlap = overlaps_decides a b; subset = subset_pair_decides a b }
