-- A class of a closure is a part of itself, over numbers and by names.
use Rattle.std.proofs.Common.{◌≡◌, ◌⊎◌, ℕ, zero, suc, true, false, List, map, length, Contains, refl, sym, ap, ◌∙◌, subst, inl, inr}
use Rattle.std.specs.Prelude.{nat_eq}
use Rattle.std.proofs.lemmas.Bool.{cases_Bool}
use Rattle.core_containers.specs.Partition.{IsPartition}
use Rattle.laws_sites.specs.FieldLaws.{GivesField}
use Rattle.model.specs.sites.Sites.{Site, Constraint, SiteTerm, unfold_site, field_terms}
use Rattle.model.specs.visits.Demands.{Demands}
use Rattle.model.specs.sites.Closure.{Joined, itself, IsPartOf, IsProperPart, directly, deeper, IsUnreachable, two_at_a_site, two_in_a_class, part_of_itself, class_name, class_names, fields_of_first, parts_of, goes_deeper, has_cycle}
use Rattle.model.proofs.Elements.{In, contains_from_in, in_from_contains, in_slice, slice_in, map_in, any_in}
use Rattle.laws_sites.proofs.Classes.{HasNoConflict, classes_bound, moved, fields_at, asked_spoken, constrained_means, constrained_there, one_constraint}
use Rattle.laws_sites.proofs.Settled.{names_settled}
use Rattle.laws_sites.proofs.Verdict.{cycle_is}
use Rattle.core_rule_sets.specs.Verdicts.{AreVisited, class_head}
use Rattle.core_rule_sets.specs.FieldParts.{HaveOneName, AreCongruent, field_term, ArePartsOf}
use Rattle.core_rule_sets.specs.Endings.{ClassEnds, class_ends, GoOnForEver}
use Rattle.core_rule_sets.specs.declared.demanded.Demanded.{Demanded}
use Rattle.core_rule_sets.specs.declared.closure_classes.Part.{Part}
use Rattle.core_rule_sets.proofs.EqualFields.{moved_field, named_as_classes, class_of_term, known_class, given_spoken, class_fields, class_respects}

-- 1. classes below classes
module _ (ks : List (List ℕ)) (parts : List Part) where
  pub record IsBelow (a b : ℕ) : Type 0 where
    pub part : Part
    pub there : Contains parts part
    pub whole : class_head ks part.source ≡ b
    pub is : class_head ks part.field ≡ a

  pub data AtDepth : ℕ → ℕ → Type 0 where
    below : {a b : ℕ} → IsBelow a b → AtDepth a b
    further : {a b c : ℕ} → IsBelow a b → AtDepth b c → AtDepth a c

  -- the last step down to a class
  abbrev LastStep : ℕ → ℕ → Type 0
  LastStep a c = (p : Part) × Contains parts p × (class_head ks p.source ≡ c) × ((a ≡ class_head ks p.field) ⊎ AtDepth a (class_head ks p.field))

  last_step : {a c : ℕ} → AtDepth a c → LastStep a c
  last_step (below s) = (s.part, s.there, s.whole, inl (sym s.is))
  last_step (further {b = b} s d) =
      let r = last_step d in (
        r.0,
        r.1,
        r.2,
        inr (elim r.3 [
          | inl e ↦ below (record { part = s.part; there = s.there; whole = s.whole ∙ e; is = s.is })
          | inr t ↦ further s t
        ]),
      )

  -- a class that ends isn't below itself
  pub not_below : {c : ℕ} → ClassEnds ks parts c → AtDepth c c → ⊥
  not_below {c} (class_ends f) d =
      let r = last_step d in
      let x = class_head ks r.0.field in
      let step : IsBelow x c = record { part = r.0; there = r.1; whole = r.2; is = refl } in
      not_below (f r.0 r.1 r.2)
      (elim r.3 [
        | inl e ↦ below (record { part = r.0; there = r.1; whole = r.2 ∙ e; is = refl })
        | inr t ↦ further step t
      ])

-- 2. of a closure
module _ (sites : List Site) (before : List SiteTerm) (d : Demands) (h : Demanded) (v : AreVisited sites before d h) (parts : List Part) (all : ArePartsOf sites d parts)
    (whole : IsPartition nat_eq h.equals) (ks : List (List ℕ)) (kept : HaveOneName h.equals (class_head ks)) (congruent : AreCongruent parts (class_head ks))
    (least : (name : ℕ → SiteTerm) → AreCongruent parts name → HaveOneName h.equals name → HaveOneName ks name) (agreed : HasNoConflict (class_names d) d) where
  abbrev rs : List (SiteTerm × SiteTerm)
  rs = class_names d

  abbrev term : ℕ → SiteTerm
  term s = unfold_site sites s

  abbrev name : ℕ → SiteTerm
  name s = class_name (class_names d) (term s)

  abbrev rep : SiteTerm → ℕ
  rep u = class_of_term sites before d h v parts all whole ks kept congruent least u

  -- the class of a part is among the parts of its whole's
  among_parts : (p : Part) → Contains parts p → In (parts_of rs d.constraints (name p.source)) (name p.field)
  among_parts p i =
      let a = all.each p i in
      let c = a.given.0 in
      let asked = in_from_contains d.constraints (term p.source, c) a.given.1 in
      let first = constrained_there rs d.constraints (name p.source) (term p.source, c) asked refl in
      let b = first.0 in
      let means = constrained_means rs d.constraints (name p.source) b first.1 in
      let same = agreed b (term p.source, c) means.0 asked means.1 in
      let there : In (field_terms c (term p.source)) (field_term p.variant (term p.source) p.place) = subst (In (field_terms c (term p.source))) a.is (in_from_contains (field_terms c (term p.source)) (term p.field) a.given.2) in
      let m = moved_field c (term p.source) b.0 p.variant p.place there in
      let one = names_settled d b.0 (term p.source, c) m.0 (field_term p.variant b.0 p.place) (field_term p.variant (term p.source) p.place) (asked_spoken d b means.0) asked means.1 m.1 m.2 in
      let here : In (field_terms b.1 b.0) (field_term p.variant b.0 p.place) = subst (λ k. In (field_terms k b.0) (field_term p.variant b.0 p.place)) (sym same) (in_slice (field_terms c b.0) m.0 (field_term p.variant b.0 p.place) m.1) in
      subst (λ o. In (fields_of_first rs o) (name p.field)) (sym first.1)
      (subst (In (map (class_name rs) (field_terms b.1 b.0))) (one ∙ sym (ap (class_name rs) a.is)) (map_in (class_name rs) (field_terms b.1 b.0) (field_term p.variant b.0 p.place) here))

  -- parts that go on for ever are a cycle
  pub cycle_found : (left : List Part) → GoOnForEver ks parts left → has_cycle rs d.constraints ≡ true
  cycle_found left g =
      let a = all.each g.one (g.within g.one g.there) in
      any_in (λ (c : SiteTerm × Constraint). goes_deeper (suc (length d.constraints)) rs d.constraints (class_name rs c.0)) d.constraints (term g.one.source, a.given.0)
      (in_from_contains d.constraints (term g.one.source, a.given.0) a.given.1) (deep (suc (length d.constraints)) g.one g.there)
    where
      deep : (n : ℕ) (p : Part) → Contains left p → goes_deeper n rs d.constraints (name p.source) ≡ true
      deep zero p i = refl
      deep (suc n) p i =
          let r = g.next p i in
          let q = r.0 in
          let same : name q.source ≡ name p.field = named_as_classes sites before d h v parts all whole ks kept congruent least q.source p.field r.2 in
          any_in (goes_deeper n rs d.constraints) (parts_of rs d.constraints (name p.source)) (name p.field) (among_parts p (g.within p i))
          (ap (goes_deeper n rs d.constraints) (sym same) ∙ deep n q r.1)

  joined_class : (a b : SiteTerm) → Joined d a b → rep a ≡ rep b
  joined_class a b j =
      classes_bound d (class_of_term sites before d h v parts all whole ks kept congruent least) (class_respects sites before d h v parts all whole ks kept congruent least) a b j

  -- a part is below its whole
  part_below : (s t : SiteTerm) → IsPartOf d s t → IsBelow ks parts (rep s) (rep t)
  part_below s t o =
      let u = o.constrained.source in
      let c = o.constraint in
      let at_place = slice_in (field_terms c o.whole) o.field (in_from_contains (field_terms c o.whole) o.field o.there) in
      let f = moved u o.field in
      let e = fields_at c o.whole u at_place.0 o.field at_place.1 in
      let given : GivesField d u f = (c, o.constrained.asked, contains_from_in (field_terms c u) f (in_slice (field_terms c u) at_place.0 f e)) in
      let r = all.all u f given in
      let p = r.0 in
      let each = all.each p r.1 in
      let of_source = known_class sites before d h v parts all whole ks kept congruent least u p.source each.source r.2 (inl (given_spoken sites before d h v parts all whole ks kept congruent least u f given)) in
      let of_field = known_class sites before d h v parts all whole ks kept congruent least f p.field each.field r.3 (inr (u, given)) in
      let over = joined_class u o.whole o.constrained.joined in
      record {
        part = p;
        there = r.1;
        whole = sym of_source ∙ over ∙ joined_class o.whole t o.of_class;
        is = sym of_field ∙ class_fields sites before d h v parts all whole ks kept congruent least c u o.whole f o.field at_place.0 over e at_place.1 ∙ joined_class o.field s o.in_class;
      }

  proper_below : (s t : SiteTerm) → IsProperPart d s t → AtDepth ks parts (rep s) (rep t)
  proper_below s t (directly o) = below (part_below s t o)
  proper_below s u (deeper {t = t} o q) = further (part_below s t o) (proper_below t u q)

  -- where all classes end there is no cycle
  pub no_cycle_found : ((class : ℕ) → ClassEnds ks parts class) → has_cycle rs d.constraints ≡ false
  no_cycle_found all_end =
      elim (cases_Bool (has_cycle rs d.constraints)) [
        | inr f ↦ f
        | inl t ↦ absurd (none (cycle_is d t))
      ]
    where
      none : IsUnreachable d → ⊥
      none (two_at_a_site s a b i j n) =
          n (one_constraint d (names_settled d) agreed s a b (record { source = s; joined = itself; asked = i }) (record { source = s; joined = itself; asked = j }))
      none (two_in_a_class s a b i j n) = n (one_constraint d (names_settled d) agreed s a b i j)
      none (part_of_itself s p) = not_below ks parts (all_end (rep s)) (proper_below s s p)
