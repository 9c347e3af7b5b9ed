-- What is reported of a rule's demands, over the numbers of its term's sites and by names.
use Rattle.std.proofs.Common.{◌≡◌, ◌↔◌, ℕ, Bool, true, false, if◌then◌else◌, List, [], ◌∷◌, Contains, refl, sym, ap, ◌∙◌, subst, inl, eqb-true}
use Rattle.model.specs.trees.Places.{constraint_at}
use Rattle.model.specs.sites.Sites.{Site, Constraint, SiteTerm, unfold_site}
use Rattle.model.specs.visits.Demands.{Demands, with_sites}
use Rattle.model.specs.sites.Closure.{Unreachability, cycle, class_name, class_names, first_conflict, first_filled, has_cycle, in_site_order, reported, spoken_of, with_constrained}
use Rattle.model.proofs.Elements.{contains_from_in}
use Rattle.laws_sites.proofs.Names.{name_same}
use Rattle.laws_sites.proofs.Classes.{HasNoConflict, asked_spoken}
use Rattle.core_rule_sets.specs.SiteDemands.{constraint_held}
use Rattle.core_rule_sets.specs.Endings.{ClassEnds, GoOnForEver}
use Rattle.core_rule_sets.specs.FieldParts.{AreClosed, ArePartsOf, IsPartOfAny}
use Rattle.core_rule_sets.specs.Listings.{ascends, sites_of}
use Rattle.core_rule_sets.specs.Verdicts.{AreClassesOf, AreVisited, class_head, conflict_in}
use Rattle.core_rule_sets.specs.declared.closure_classes.Part.{Part}
use Rattle.core_rule_sets.specs.declared.demanded.Demanded.{Demanded}
use Rattle.core_rule_sets.proofs.ClosureConflicts.{conflict_is}
use Rattle.core_rule_sets.proofs.ClosureCycles.{cycle_found, no_cycle_found}
use Rattle.core_rule_sets.proofs.EqualFields.{are_classes}
use Rattle.core_rule_sets.proofs.FirstConflicts.{agree_where, none_differs}
use Rattle.core_rule_sets.proofs.ListedParts.{are_parts, listed_number}
use Rattle.laws_sites.proofs.built.Unfolding.{SourcesFirst}

abbrev where_cyclic : Bool → List Unreachability
where_cyclic cyclic = if cyclic then cycle ∷ [] else []

module _ (sites : List Site) (first : SourcesFirst sites) (before : List SiteTerm) (d : Demands) (h : Demanded) (v : AreVisited sites before d h)
    (cs : List (ℕ × Constraint)) (ascend : ascends (sites_of cs) ≡ true) (asked : (s : ℕ) → constraint_at cs s ≡ constraint_held h s)
    (parts : List Part) (listed : (p : Part) → Contains parts p ↔ IsPartOfAny sites cs p) (ks : List (List ℕ)) (closed : AreClosed parts h.equals ks) where
  abbrev term : ℕ → SiteTerm
  term s = unfold_site sites s

  abbrev of_closure : List Unreachability
  of_closure = first_conflict (class_names d) (in_site_order (with_constrained (with_sites before d.made) d) d.constraints) (in_site_order (with_constrained (with_sites before d.made) d) d.constraints)

  abbrev last : List Unreachability
  last = where_cyclic (has_cycle (class_names d) d.constraints)

  all : ArePartsOf sites d parts
  all = are_parts sites first before d h v cs ascend asked parts listed

  classes : AreClassesOf sites ks d
  classes = are_classes sites before d h v parts all closed.partition ks closed.kept closed.congruent closed.least

  -- without a conflict over numbers there is none by names
  agreed : conflict_in (class_head ks) cs cs ≡ [] → HasNoConflict (class_names d) d
  agreed e a b i j same =
      let n = listed_number sites first before d h v cs ascend asked parts listed a.0 a.1 i in
      let m = listed_number sites first before d h v cs ascend asked parts listed b.0 b.1 j in
      let known_n = subst (λ u. Contains (spoken_of d) u) (sym n.2) (contains_from_in (spoken_of d) a.0 (asked_spoken d a i)) in
      let known_m = subst (λ u. Contains (spoken_of d) u) (sym m.2) (contains_from_in (spoken_of d) b.0 (asked_spoken d b j)) in
      let named : class_name (class_names d) (term m.0) ≡ class_name (class_names d) (term n.0) = ap (class_name (class_names d)) m.2 ∙ sym same ∙ sym (ap (class_name (class_names d)) n.2) in
      let together = classes m.0 n.0 m.1 n.1 (inl known_m) (inl known_n) ∙ name_same (class_names d) (term m.0) (term n.0) named in
      agree_where (class_head ks) (n.0, a.1) cs (none_differs (class_head ks) cs cs e (n.0, a.1) n.3) (m.0, b.1) m.3 (eqb-true (class_head ks m.0) (class_head ks n.0) together)

  pub verdict_is : (us : List Unreachability) (cyclic : Bool) → us ≡ conflict_in (class_head ks) cs cs
      → (cyclic ≡ true → (left : List Part) × GoOnForEver ks parts left) → (cyclic ≡ false → (class : ℕ) → ClassEnds ks parts class)
      → first_filled us (where_cyclic cyclic) ≡ reported (with_sites before d.made) d
  verdict_is us cyclic is found none =
      same_last us is
      ∙ ap (λ l. first_filled l last) (is ∙ conflict_is sites before d h v cs ascend asked ks classes)
      ∙ sym (ap (λ l. first_filled l (first_filled of_closure last)) v.agreed)
    where
      same_cycle : HasNoConflict (class_names d) d → (b : Bool) → cyclic ≡ b → b ≡ has_cycle (class_names d) d.constraints
      same_cycle n true e = let l = found e in sym (cycle_found sites before d h v parts all closed.partition ks closed.kept closed.congruent closed.least n l.0 l.1)
      same_cycle n false e = sym (no_cycle_found sites before d h v parts all closed.partition ks closed.kept closed.congruent closed.least n (none e))

      same_last : (ws : List Unreachability) → ws ≡ conflict_in (class_head ks) cs cs → first_filled ws (where_cyclic cyclic) ≡ first_filled ws last
      same_last [] e = ap where_cyclic (same_cycle (agreed (sym e)) cyclic refl)
      same_last (w ∷ ws) e = refl
