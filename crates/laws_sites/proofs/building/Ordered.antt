-- Classes that are put in the order of the made sites hold what they held.
use Rattle.std.proofs.Common.{◌≡◌, true, List, [], ◌∷◌, Contains, map, filter, refl, sym, subst, inl}
use Rattle.model.specs.sites.Sites.{SiteTerm, unfold_site}
use Rattle.model.specs.visits.Demands.{has_site}
use Rattle.model.specs.sites.Closure.{Closed, ascending, begins_with, in_order}
use Rattle.model.proofs.Elements.{In, in_from_contains, contains_from_in, in_filter, filter_from, passed_filter, in_map, map_in, in_flat_map, from_flat_map}
use Rattle.model.proofs.SameSites.{same_term}
use Rattle.model.proofs.SitesMade.{in_has, has_in}
use Rattle.laws_sites.specs.RuleByRule.{MembersAreMade, OrderAsksTheSame}

module _ (k : Closed) (made : MembersAreMade k) where
  abbrev in_place : List SiteTerm → List SiteTerm
  in_place class = ascending k.made class

  abbrev all_in_place : List (List SiteTerm)
  all_in_place = map in_place k.classes

  -- a member stays one
  member_in_place : (class : List SiteTerm) (u : SiteTerm) → Contains k.classes class → Contains class u → In (in_place class) u
  member_in_place class u i j =
      filter_from (has_site class) k.made u (in_from_contains k.made u (made class u i j)) (in_has class u (in_from_contains class u j))

  -- a class that has a member is listed
  listed : (class : List SiteTerm) → Contains k.classes class → (u : SiteTerm) → In (in_place class) u → Contains (in_order k).classes (in_place class)
  listed class i u j = contains_from_in (in_order k).classes (in_place class) (by (in_place class) refl j)
    where
      by : (l : List SiteTerm) → in_place class ≡ l → In l u → In (in_order k).classes (in_place class)
      by [] e n = absurd n
      by (s ∷ rest) e n =
          in_flat_map (λ t. filter (begins_with t) all_in_place) k.made s (in_place class)
          (in_filter (has_site class) k.made s (subst (λ l. In l s) (sym e) (inl refl)))
          (filter_from (begins_with s) all_in_place (in_place class) (map_in in_place k.classes class (in_from_contains k.classes class i)) (subst (λ l. begins_with s l ≡ true) (sym e) (same_term s s refl)))

  -- and each listed one is such
  pub from_listed : (class : List SiteTerm) → Contains (in_order k).classes class → (whole : List SiteTerm) × Contains k.classes whole × (in_place whole ≡ class)
  from_listed class i =
      let f = from_flat_map (λ t. filter (begins_with t) all_in_place) k.made class (in_from_contains (in_order k).classes class i) in
      let m = in_map in_place k.classes class (in_filter (begins_with f.0) all_in_place class f.2) in
      (m.0, contains_from_in k.classes m.0 m.1, m.2)

  from_member : (whole class : List SiteTerm) (u : SiteTerm) → in_place whole ≡ class → Contains class u → Contains whole u
  from_member whole class u e j =
      contains_from_in whole u (has_in whole u (passed_filter (has_site whole) k.made u (subst (λ l. In l u) (sym e) (in_from_contains class u j))))

pub order_asks_the_same_lem : OrderAsksTheSame
order_asks_the_same_lem sites k classes made h = record {
  joined = λ a b t.
      let j = h.joined a b t in
      let x = member_in_place k made j.2 (unfold_site sites a) j.3 j.4 in
      let y = member_in_place k made j.2 (unfold_site sites b) j.3 j.5 in
      (j.0, j.1, in_place k made j.2, listed k made j.2 j.3 (unfold_site sites a) x, contains_from_in (in_place k made j.2) (unfold_site sites a) x, contains_from_in (in_place k made j.2) (unfold_site sites b) y);
  all_joined = λ class u v i x y.
      let w = from_listed k made class i in
      h.all_joined w.0 u v w.1 (from_member k made w.0 class u w.2 x) (from_member k made w.0 class v w.2 y);
  once = h.once;
  many = h.many;
}
