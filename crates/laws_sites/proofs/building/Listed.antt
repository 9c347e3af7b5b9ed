-- Constraints and classes over numbers, listed at the end of a closing, are what a rule's closed demands ask.
use Rattle.std.proofs.Common.{◌≡◌, ◌&&◌, ℕ, ◌<◌, Bool, true, List, [], ◌∷◌, length, Some, Contains, sym, ap, ◌∙◌, subst, inl, inr, arith}
use Rattle.std.proofs.lemmas.Bool.{cases_Bool, cond-false, and_from, and_parts}
use Rattle.std.proofs.lemmas.List.Elements.{All-contains}
use Rattle.std.proofs.lemmas.Option.{same_Some, slice_get_within}
use Rattle.std.proofs.lemmas.Grind.{common_steps}
use Rattle.model.specs.sites.Sites.{Constraint, Site, SiteTerm, unfold_site}
use Rattle.model.specs.visits.Demands.{has_site, site_term_eq}
use Rattle.model.specs.sites.Closure.{Closed, before_closing, closing, constraint_of, most_closing_steps}
use Rattle.model.specs.sites.RuleSets.{AsksFor, Equates, StandFor}
use Rattle.model.proofs.Elements.{In, in_from_contains, contains_from_in, in_any, any_in, slice_in}
use Rattle.model.proofs.Members.{constraint_in}
use Rattle.model.proofs.SameSites.{same_term, term_means}
use Rattle.model.proofs.SitesMade.{in_has, has_in}
use Rattle.laws_sites.specs.RuleByRule.{AreListedAs, ListedDemandsStand}
use Rattle.laws_sites.proofs.building.Ordered.{order_asks_the_same_lem}
use Rattle.laws_sites.proofs.Closing.{found_constraint}
use Rattle.laws_sites.proofs.ConstrainedOnce.{StandOnce, closed_once}
use Rattle.laws_sites.proofs.built.WellBuiltSets.{first_constraint}

-- where no site is constrained twice, its constraint is the first one
the_constraint : (cs : List (SiteTerm × Constraint)) (s : SiteTerm) (c : Constraint) → StandOnce cs → In cs (s, c) → constraint_of cs s ≡ Some c
the_constraint [] s c h i = absurd i
the_constraint (x ∷ xs) s c h (inl e) = grind (arith, common_steps, same_term)
the_constraint (x ∷ xs) s c h (inr i) =
    elim (cases_Bool (site_term_eq x.0 s)) [
      | inl t ↦ absurd (h.0 c (subst (λ u. In xs (u, c)) (sym (term_means x.0 s t)) i))
      | inr f ↦ cond-false (site_term_eq x.0 s) (Some x.1) (constraint_of xs s) f ∙ the_constraint xs s c h.1 i
    ]

-- the number of a site that is made
number_of : (sites : List Site) (terms : List SiteTerm) → StandFor sites terms → (u : SiteTerm) → Contains terms u → (s : ℕ) × (s < length sites) × (unfold_site sites s ≡ u)
number_of sites terms h u i = grind (arith, slice_in terms u (in_from_contains terms u i), in_from_contains terms u i, slice_get_within terms, same_Some)

-- constraints and classes over the numbers of sites that are listed as those of demands that are being closed
record Listing (sites : List Site) (k : Closed) : Type 0 where
  constraints : List (ℕ × Constraint)
  classes : List (List ℕ)
  listed : AreListedAs sites k constraints classes

module _ (sites : List Site) (k : Closed) (of : Listing sites k) where
  abbrev constraints : List (ℕ × Constraint)
  constraints = of.constraints

  abbrev classes : List (List ℕ)
  classes = of.classes

  abbrev h : AreListedAs sites k constraints classes
  h = of.listed

  asks : StandOnce k.constraints → AsksFor sites k constraints
  asks once = record {
    asked = λ s c i.
        let l = All-contains (λ (x : ℕ × Constraint). x.0 < length sites) constraints (s, c) h.asked_within i in
        (l, contains_from_in k.constraints (unfold_site sites s, c) (found_constraint k.constraints (unfold_site sites s) c (sym (h.asked s l) ∙ first_constraint constraints h.asked_once s c (in_from_contains constraints (s, c) i))));
    all_asked = λ u c i.
        let n = number_of sites k.made h.stand u (h.asked_made u c i) in
        (n.0, constraint_in constraints n.0 c (h.asked n.0 n.1 ∙ ap (constraint_of k.constraints) n.2 ∙ the_constraint k.constraints u c once (in_from_contains k.constraints (u, c) i)), n.2);
    once = h.asked_once;
  }

  abbrev has_both : ℕ → ℕ → List SiteTerm → Bool
  has_both a b class = has_site class (unfold_site sites a) && has_site class (unfold_site sites b)

  has_at : (class : List SiteTerm) (s : ℕ) (u : SiteTerm) → unfold_site sites s ≡ u → Contains class u → has_site class (unfold_site sites s) ≡ true
  has_at class s u e i = ap (has_site class) e ∙ in_has class u (in_from_contains class u i)

  equates : Equates sites k classes
  equates = record {
    joined = grind (arith, in_any, and_parts, contains_from_in, has_in);
    all_joined = λ class u v i j m.
        let a = number_of sites k.made h.stand u (h.joined_made class u i j) in
        let b = number_of sites k.made h.stand v (h.joined_made class v i m) in (
          a.0,
          b.0,
          h.joined a.0 b.0 a.1 b.1
              ∙ any_in (has_both a.0 b.0) k.classes class (in_from_contains k.classes class i)
              (and_from (has_site class (unfold_site sites a.0)) (has_site class (unfold_site sites b.0)) (has_at class a.0 u a.2 j) (has_at class b.0 v b.2 m)),
          a.2,
          b.2,
        );
    once = h.joined_once;
    many = h.many;
  }

pub listed_demands_stand_lem : ListedDemandsStand
listed_demands_stand_lem sites before d constraints classes h =
    let k = closing most_closing_steps (before_closing before d) in
    let of : Listing sites k = record { constraints = constraints; classes = classes; listed = h } in
    let a = asks sites k of (closed_once before d) in (
      record { asked = a.asked; all_asked = a.all_asked; once = a.once },
      order_asks_the_same_lem sites k classes h.joined_made (equates sites k of),
    )
