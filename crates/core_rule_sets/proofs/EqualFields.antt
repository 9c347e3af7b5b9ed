-- The classes of a rule's closure over numbers are those by names: the least in which fields of one place of equal sites
-- are equal.
use Rattle.std.proofs.Common.{◌≡◌, ℕ, zero, suc, ◌<◌, Bool, true, false, ◌&&◌, ◌||◌, if◌then◌else◌, List, [], ◌∷◌, length, Option, Some, None, slice_get, Contains, refl, sym, ap, ◌∙◌, subst, inl, inr, eqb-true, eq-eqb, arith}
use Rattle.std.specs.Prelude.{nat_eq}
use Rattle.std.proofs.lemmas.Bool.{cases_Bool, cond-true, cond-false, and_parts, and_from, false≢true, both_ways}
use Rattle.std.proofs.lemmas.Grind.{common_steps}
use Rattle.core_containers.specs.Partition.{IsPartition}
use Rattle.laws_sites.specs.FieldLaws.{GivesField}
use Rattle.model.specs.sites.Sites.{Site, Constraint, is_variant, is_struct, is_bool, is_int, is_prim, is_present, SiteTerm, bool_term, int_term, prim_term, argument, extractor_call, constructor_call, pick_of, variant_made, variant_field, struct_made, struct_field, some_made, some_part, tuple_part, no_site, unfold_site, fields_from, field_terms}
use Rattle.model.specs.visits.Demands.{Demands, site_term_eq}
use Rattle.model.specs.sites.Closure.{class_name, same_class, class_names, spoken_of, before_closing, merged_all}
use Rattle.model.proofs.Elements.{In, contains_from_in, in_from_contains, some_is, none_some, or_split, or_left, or_right}
use Rattle.model.proofs.SameSites.{term_means, same_term}
use Rattle.laws_sites.specs.ClosureLaws.{RespectsDemands}
use Rattle.laws_sites.proofs.Names.{same_name, name_same, given_joined, named_alike}
use Rattle.laws_sites.proofs.Classes.{classes_bound, asked_spoken, equal_spoken}
use Rattle.laws_sites.proofs.Settled.{names_settled}
use Rattle.laws_sites.proofs.overlaps.Overlaps.{bool_same}
use Rattle.core_types.specs.declared.ids.VariantId.{VariantId}
use Rattle.core_rule_sets.specs.Closings.{are_in_one_class}
use Rattle.core_rule_sets.specs.SiteDemands.{are_equated}
use Rattle.core_rule_sets.specs.Verdicts.{AreClassesOf, AreVisited, IsMentioned, class_head}
use Rattle.core_rule_sets.specs.FieldParts.{field_binding, part_of_head, HaveOneName, AreCongruent, field_term, ArePartsOf}
use Rattle.core_rule_sets.specs.contracts.trie_again.BindingPartialEq.TheImpl.{ghosts}
use Rattle.core_rule_sets.specs.declared.trie_again.Binding.{Binding}
use Rattle.core_rule_sets.specs.declared.trie_again.Binding.TheVariants as B
use Rattle.core_rule_sets.specs.declared.demanded.Demanded.{Demanded}
use Rattle.core_rule_sets.specs.declared.closure_classes.Part.{Part}
use Rattle.core_rule_sets.proofs.ClassHeads.{one_head, same_head}
use Rattle.core_rule_sets.proofs.ClassTests.{in_one, is_or_joins, joined_too, joined_each, each_merged}
use Rattle.core_rule_sets.proofs.FieldJoins.{same_parts}
use Rattle.core_rule_sets.proofs.ListedParts.{made_number, one_number}
use Rattle.core_rule_sets.proofs.SameBindings.{one_binding}

-- 1. fields of two sites, place by place
abbrev OnePlace : (ℕ → SiteTerm) → (ℕ → SiteTerm) → List SiteTerm → List SiteTerm → SiteTerm → Type 0
OnePlace f g xs ys x = (i : ℕ) × (m : ℕ) × (x ≡ f m) × (slice_get xs i ≡ Some (f m)) × (slice_get ys i ≡ Some (g m))

in_fields : (f g : ℕ → SiteTerm) (j n : ℕ) (x : SiteTerm) → In (fields_from f j n) x → OnePlace f g (fields_from f j n) (fields_from g j n) x
in_fields f g j zero x i = absurd i
in_fields f g j (suc n) x (inl e) = (0, j, sym e, refl, refl)
in_fields f g j (suc n) x (inr i) = let r = in_fields f g (suc j) n x i in (suc r.0, r.1, r.2, r.3, r.4)

at_fields : (f g : ℕ → SiteTerm) (j n i : ℕ) (x y : SiteTerm) → slice_get (fields_from f j n) i ≡ Some x → slice_get (fields_from g j n) i ≡ Some y → (m : ℕ) × (x ≡ f m) × (y ≡ g m)
at_fields f g j (suc n) (suc i) x y e k = at_fields f g (suc j) n i x y e k
at_fields f g j n i x y e k = grind (arith, none_some, some_is)

-- the same field of another site stands at its place
pub moved_field : (c : Constraint) (u w : SiteTerm) (v : Option VariantId) (place : ℕ) → In (field_terms c u) (field_term v u place)
    → (i : ℕ) × (slice_get (field_terms c w) i ≡ Some (field_term v w place)) × (slice_get (field_terms c u) i ≡ Some (field_term v u place))
moved_field (is_variant ty k n) u w (Some v) place h =
    let r = in_fields (variant_field u k) (variant_field w k) 0 n (variant_field u v.0 place) h in
    let a : k ≡ v.0 = let e = r.2 in cc in
    let b : r.1 ≡ place = let e = r.2 in cc in
    (r.0, r.4 ∙ (λ i. Some (variant_field w (a i) (b i))), r.3 ∙ (λ i. Some (variant_field u (a i) (b i))))
moved_field (is_variant ty k n) u w None place h =
    let r = in_fields (variant_field u k) (variant_field w k) 0 n (struct_field u place) h in let e = r.2 in absurd (cc)
moved_field (is_struct ty n) u w None place h =
    let r = in_fields (struct_field u) (struct_field w) 0 n (struct_field u place) h in
    let b : r.1 ≡ place = let e = r.2 in cc in
    (r.0, r.4 ∙ (λ i. Some (struct_field w (b i))), r.3 ∙ (λ i. Some (struct_field u (b i))))
moved_field (is_struct ty n) u w (Some v) place h =
    let r = in_fields (struct_field u) (struct_field w) 0 n (variant_field u v.0 place) h in let e = r.2 in absurd (cc)
moved_field _ u w v place h = absurd h

-- a field is of the site that has it
field_owner : (c : Constraint) (s w : SiteTerm) (k i : ℕ) → In (field_terms c s) (variant_field w k i) → s ≡ w
field_owner c s w k i h = grind (arith, in_fields)

struct_owner : (c : Constraint) (s w : SiteTerm) (i : ℕ) → In (field_terms c s) (struct_field w i) → s ≡ w
struct_owner c s w i h = grind (arith, in_fields)

-- 2. classes of equalities
abbrev beside : (SiteTerm → SiteTerm → Bool) → SiteTerm → SiteTerm → SiteTerm → Bool
beside test x y z = is_or_joins test x z || is_or_joins test y z

abbrev both_beside : (SiteTerm → SiteTerm → Bool) → SiteTerm → SiteTerm → SiteTerm → SiteTerm → Bool
both_beside test x y a b = beside test x y a && beside test x y b

module _ {X : Type 0} (name : SiteTerm → X) where
  abbrev Named : (SiteTerm → SiteTerm → Bool) → Type 0
  Named test = (a b : SiteTerm) → test a b ≡ true → name a ≡ name b

  named_or : (test : SiteTerm → SiteTerm → Bool) → Named test → (x a : SiteTerm) → is_or_joins test x a ≡ true → name x ≡ name a
  named_or test n x a h = elim (or_split (site_term_eq x a) (test x a) h) [ inl t ↦ ap name (term_means x a t) | inr t ↦ n x a t ]

  named_beside : (test : SiteTerm → SiteTerm → Bool) → Named test → (x y : SiteTerm) → name x ≡ name y → (z : SiteTerm) → beside test x y z ≡ true → name x ≡ name z
  named_beside test n x y e z t =
      elim (or_split (is_or_joins test x z) (is_or_joins test y z) t) [
        | inl i ↦ named_or test n x z i
        | inr i ↦ e ∙ named_or test n y z i
      ]

  named_too : (test : SiteTerm → SiteTerm → Bool) → Named test → (x y : SiteTerm) → name x ≡ name y → Named (joined_too test x y)
  named_too test n x y e a b h =
      elim (cases_Bool (site_term_eq x y)) [
        | inl t ↦ n a b (sym (cond-true (site_term_eq x y) (test a b) (both_beside test x y a b || test a b) t) ∙ h)
        | inr f ↦
            elim (or_split (both_beside test x y a b) (test a b) (sym (cond-false (site_term_eq x y) (test a b) (both_beside test x y a b || test a b) f) ∙ h)) [
              | inl t ↦ let p = and_parts (beside test x y a) (beside test x y b) t in sym (named_beside test n x y e a p.0) ∙ named_beside test n x y e b p.1
              | inr t ↦ n a b t
            ]
      ]

  named_each : (es : List (SiteTerm × SiteTerm)) (test : SiteTerm → SiteTerm → Bool) → Named test → ((e : SiteTerm × SiteTerm) → In es e → name e.0 ≡ name e.1) → Named (joined_each test es)
  named_each [] test n h a b t = n a b t
  named_each (e ∷ es) test n h a b t = named_each es (joined_too test e.0 e.1) (named_too test n e.0 e.1 (h e (inl refl))) (λ x i. h x (inr i)) a b t

-- what is joined stays so, and each equality of different sites joins them
more_joined : (test : SiteTerm → SiteTerm → Bool) (x y a b : SiteTerm) → test a b ≡ true → joined_too test x y a b ≡ true
more_joined test x y a b t = grind (arith, common_steps, or_right (both_beside test x y a b) (test a b) t)

now_joined : (test : SiteTerm → SiteTerm → Bool) (x y : SiteTerm) → site_term_eq x y ≡ false → joined_too test x y x y ≡ true
now_joined test x y f =
    cond-false (site_term_eq x y) (test x y) (both_beside test x y x y || test x y) f
    ∙ or_left (both_beside test x y x y) (test x y)
    (and_from (beside test x y x) (beside test x y y)
    (or_left (is_or_joins test x x) (is_or_joins test y x) (or_left (site_term_eq x x) (test x x) (same_term x x refl)))
    (or_right (is_or_joins test x y) (is_or_joins test y y) (or_left (site_term_eq y y) (test y y) (same_term y y refl))))

stay_joined : (es : List (SiteTerm × SiteTerm)) (test : SiteTerm → SiteTerm → Bool) (a b : SiteTerm) → test a b ≡ true → joined_each test es a b ≡ true
stay_joined [] test a b t = t
stay_joined (e ∷ es) test a b t = stay_joined es (joined_too test e.0 e.1) a b (more_joined test e.0 e.1 a b t)

each_joined : (es : List (SiteTerm × SiteTerm)) (test : SiteTerm → SiteTerm → Bool) (e : SiteTerm × SiteTerm) → In es e → site_term_eq e.0 e.1 ≡ false → joined_each test es e.0 e.1 ≡ true
each_joined [] test e i f = absurd i
each_joined (x ∷ es) test e (inl p) f =
    subst (λ (z : SiteTerm × SiteTerm). joined_each (joined_too test x.0 x.1) es z.0 z.1 ≡ true) p
    (stay_joined es (joined_too test x.0 x.1) x.0 x.1 (now_joined test x.0 x.1 (ap (λ (z : SiteTerm × SiteTerm). site_term_eq z.0 z.1) p ∙ f)))
each_joined (x ∷ es) test e (inr i) f = each_joined es (joined_too test x.0 x.1) e i f

-- numbers of two sites that must be equal
pub record AreEqualNumbers (sites : List Site) (h : Demanded) (a b : SiteTerm) : Type 0 where
  pub first : ℕ
  pub second : ℕ
  pub first_within : first < length sites
  pub second_within : second < length sites
  pub first_is : unfold_site sites first ≡ a
  pub second_is : unfold_site sites second ≡ b
  pub equal : are_equated h first second ≡ true

pub equality_numbers : (sites : List Site) (before : List SiteTerm) (d : Demands) (h : Demanded) → AreVisited sites before d h
    → (a b : SiteTerm) → In d.equalities (a, b) → site_term_eq a b ≡ false → AreEqualNumbers sites h a b
equality_numbers sites before d h v a b i f =
    let ks = merged_all [] d.equalities in
    let together : are_in_one_class ks a b ≡ true = each_merged d.equalities [] (λ l m s i j x y. absurd i) a b ∙ each_joined d.equalities (are_in_one_class []) (a, b) i f in
    let o = in_one ks a b together in
    let class = contains_from_in ks o.class o.there in
    let made = (before_closing before d).made in
    let m = made_number sites before d h v a (in_from_contains made a (v.held.equated_made o.class a class (contains_from_in o.class a o.first))) in
    let n = made_number sites before d h v b (in_from_contains made b (v.held.equated_made o.class b class (contains_from_in o.class b o.second))) in
    record {
      first = m.0;
      second = n.0;
      first_within = m.1;
      second_within = n.1;
      first_is = m.2;
      second_is = n.2;
      equal = v.held.equated m.0 n.0 m.1 n.1 ∙ ap (λ x. are_in_one_class ks x (unfold_site sites n.0)) m.2 ∙ ap (are_in_one_class ks a) n.2 ∙ together;
    }

-- 3. the classes of a closure
module _ (sites : List Site) (before : List SiteTerm) (d : Demands) (h : Demanded) (v : AreVisited sites before d h) (parts : List Part) (all : ArePartsOf sites d parts)
    (whole : IsPartition nat_eq h.equals) (ks : List (List ℕ)) (kept : HaveOneName h.equals (class_head ks)) (congruent : AreCongruent parts (class_head ks))
    (least : (name : ℕ → SiteTerm) → AreCongruent parts name → HaveOneName h.equals name → HaveOneName ks name) where
  abbrev term : ℕ → SiteTerm
  term s = unfold_site sites s

  abbrev name : ℕ → SiteTerm
  name s = class_name (class_names d) (term s)

  abbrev equal_in : SiteTerm → SiteTerm → Bool
  equal_in a b = are_in_one_class (merged_all [] d.equalities) a b

  equal_each : (a b : SiteTerm) → equal_in a b ≡ joined_each (are_in_one_class []) d.equalities a b
  equal_each a b = each_merged d.equalities [] (λ l m s i j x y. absurd i) a b

  -- 3a. equal numbers have one name
  name_equal : HaveOneName h.equals name
  name_equal a b e =
      elim (same_head h.equals whole a b e) [
        | inl p ↦ ap name p
        | inr t ↦
            let w = v.held.equated_within a b t in
            named_each (class_name (class_names d)) d.equalities (are_in_one_class []) (λ x y n. absurd (false≢true n)) (λ x i. given_joined d x.0 x.1 i) (term a) (term b)
            (sym (equal_each (term a) (term b)) ∙ sym (v.held.equated a b w.0 w.1) ∙ t)
      ]

  name_congruent : AreCongruent parts name
  name_congruent p q i j form place same =
      let a = all.each p i in
      let b = all.each q j in
      let c = a.given.0 in
      let asked = in_from_contains d.constraints (term p.source, c) a.given.1 in
      let spoken = asked_spoken d (term q.source, b.given.0) (in_from_contains d.constraints (term q.source, b.given.0) b.given.1) in
      let there : In (field_terms c (term p.source)) (field_term p.variant (term p.source) p.place) = subst (In (field_terms c (term p.source))) a.is (in_from_contains (field_terms c (term p.source)) (term p.field) a.given.2) in
      let m = moved_field c (term p.source) (term q.source) p.variant p.place there in
      let settled = names_settled d (term q.source) (term p.source, c) m.0 (field_term p.variant (term q.source) p.place) (field_term p.variant (term p.source) p.place) spoken asked (sym same) m.1 m.2 in
      ap (class_name (class_names d)) a.is ∙ sym settled
      ∙ ap (class_name (class_names d)) ((λ k. field_term (form k) (term q.source) (place k)) ∙ sym b.is)

  pub named_as_classes : (a b : ℕ) → class_head ks a ≡ class_head ks b → name a ≡ name b
  named_as_classes = least name name_congruent name_equal

  -- 3b. the class of a tree: of a field by the class of its site
  number_below : ℕ → SiteTerm → Option ℕ
  number_below zero u = None
  number_below (suc n) u = if site_term_eq (term n) u then Some n else number_below n u

  head_or : Option ℕ → ℕ
  head_or None = length sites
  head_or (Some n) = class_head ks n

  first_part : List Part → Binding → ℕ
  first_part [] q = length sites
  first_part (p ∷ ps) q = if ghosts.eq (part_of_head ks p) q then class_head ks p.field else first_part ps q

  pub class_of_term : SiteTerm → ℕ
  class_of_term (variant_field s k i) = first_part parts (B.MatchVariant (class_of_term s) (record { 0 = k }) i)
  class_of_term (struct_field s i) = first_part parts (B.ExtractStruct (class_of_term s) i)
  class_of_term u = head_or (number_below (length sites) u)

  number_found : (n : ℕ) (u : SiteTerm) (a : ℕ) → a < n → term a ≡ u → (b : ℕ) × (number_below n u ≡ Some b) × (b < n) × (term b ≡ u)
  unfolding number_below
  number_found zero u a l e = absurd (omega arith)
  number_found (suc n) u a l e =
      elim (cases_Bool (site_term_eq (term n) u)) [
        | inl t ↦ (n, cond-true (site_term_eq (term n) u) (Some n) (number_below n u) t, omega arith, term_means (term n) u t)
        | inr f ↦
            let other : a ≡ n → ⊥ = λ (p : a ≡ n). both_ways (site_term_eq (term n) u) f (same_term (term n) u (ap term (sym p) ∙ e)) in
            let r = number_found n u a (omega (arith, other, l)) e in
            (r.0, cond-false (site_term_eq (term n) u) (Some n) (number_below n u) f ∙ r.1, let m = r.2 in omega (arith, m), r.3)
      ]

  part_found : (ps : List Part) → ((p : Part) → In ps p → In parts p) → (p : Part) → In ps p → In parts p → first_part ps (part_of_head ks p) ≡ class_head ks p.field
  unfolding first_part
  part_found [] sub p i j = absurd i
  part_found (x ∷ ps) sub p i j =
      elim (cases_Bool (ghosts.eq (part_of_head ks x) (part_of_head ks p))) [
        | inl t ↦
            let s = same_parts x.variant p.variant (class_head ks x.source) (class_head ks p.source) x.place p.place t in
            cond-true (ghosts.eq (part_of_head ks x) (part_of_head ks p)) (class_head ks x.field) (first_part ps (part_of_head ks p)) t
            ∙ congruent x p (contains_from_in parts x (sub x (inl refl))) (contains_from_in parts p j) s.0 s.2 s.1
        | inr f ↦
            cond-false (ghosts.eq (part_of_head ks x) (part_of_head ks p)) (class_head ks x.field) (first_part ps (part_of_head ks p)) f
            ∙ part_found ps (λ y k. sub y (inr k)) p (rest f i) j
      ]
    where
      rest : ghosts.eq (part_of_head ks x) (part_of_head ks p) ≡ false → In (x ∷ ps) p → In ps p
      rest f (inl e) = absurd (both_ways (ghosts.eq (part_of_head ks x) (part_of_head ks p)) f (subst (λ y. ghosts.eq (part_of_head ks x) (part_of_head ks y) ≡ true) e (one_binding (part_of_head ks x) (part_of_head ks x) refl)))
      rest f (inr k) = k

  base_known : (u : SiteTerm) (a : ℕ) → a < length sites → term a ≡ u → head_or (number_below (length sites) u) ≡ class_head ks a
  unfolding head_or
  base_known u a l e =
      let r = number_found (length sites) u a l e in
      ap head_or r.1 ∙ ap (class_head ks) (one_number sites before d h v r.0 a r.2 l (r.3 ∙ sym e))

  -- a field is of a site that the demands speak of
  pub given_spoken : (w x : SiteTerm) → GivesField d w x → Contains (spoken_of d) w
  given_spoken w x g = contains_from_in (spoken_of d) w (asked_spoken d (w, g.0) (in_from_contains d.constraints (w, g.0) g.1))

  variant_given : (w : SiteTerm) (k i : ℕ) → IsMentioned d (variant_field w k i) → GivesField d w (variant_field w k i)
  variant_given w k i (inl s) = v.given (variant_field w k i) s
  variant_given w k i (inr (s, (c, asked, there))) =
      subst (λ u. GivesField d u (variant_field w k i)) (field_owner c s w k i (in_from_contains (field_terms c s) (variant_field w k i) there)) (c, asked, there)

  struct_given : (w : SiteTerm) (i : ℕ) → IsMentioned d (struct_field w i) → GivesField d w (struct_field w i)
  struct_given w i (inl s) = v.given (struct_field w i) s
  struct_given w i (inr (s, (c, asked, there))) =
      subst (λ u. GivesField d u (struct_field w i)) (struct_owner c s w i (in_from_contains (field_terms c s) (struct_field w i) there)) (c, asked, there)

  variant_is : (o : Option VariantId) (u w : SiteTerm) (k i place n : ℕ) → variant_field w k i ≡ field_term o u place → B.MatchVariant n (record { 0 = k }) i ≡ field_binding o n place
  variant_is o u w k i place n e = grind (arith, common_steps)

  struct_is : (o : Option VariantId) (u w : SiteTerm) (i place n : ℕ) → struct_field w i ≡ field_term o u place → B.ExtractStruct n i ≡ field_binding o n place
  struct_is o u w i place n e = grind (arith, common_steps)

  part_of_term : (u w : SiteTerm) (a : ℕ) (q : ℕ → Binding) → a < length sites → term a ≡ u → (g : GivesField d w u)
      → ((b : ℕ) → b < length sites → term b ≡ w → class_of_term w ≡ class_head ks b)
      → ((p : Part) (n : ℕ) → term p.source ≡ w → u ≡ field_term p.variant (term p.source) p.place → q n ≡ field_binding p.variant n p.place)
      → first_part parts (q (class_of_term w)) ≡ class_head ks a
  part_of_term u w a q l e g owner is =
      let r = all.all w u g in
      let p = r.0 in
      let each = all.each p r.1 in
      let i = in_from_contains parts p r.1 in
      ap (first_part parts) (ap q (owner p.source each.source r.2) ∙ is p (class_head ks p.source) r.2 (sym r.3 ∙ each.is))
      ∙ part_found parts (λ x k. k) p i i ∙ ap (class_head ks) (one_number sites before d h v p.field a each.field l (r.3 ∙ sym e))

  pub known_class : (u : SiteTerm) (a : ℕ) → a < length sites → term a ≡ u → IsMentioned d u → class_of_term u ≡ class_head ks a
  unfolding class_of_term
  known_class (variant_field w k i) a l e known =
      let g = variant_given w k i known in
      part_of_term (variant_field w k i) w a (λ n. B.MatchVariant n (record { 0 = k }) i) l e g
      (λ b m f. known_class w b m f (inl (given_spoken w (variant_field w k i) g)))
      (λ p n s f. variant_is p.variant (term p.source) w k i p.place n f)
  known_class (struct_field w i) a l e known =
      let g = struct_given w i known in
      part_of_term (struct_field w i) w a (λ n. B.ExtractStruct n i) l e g
      (λ b m f. known_class w b m f (inl (given_spoken w (struct_field w i) g)))
      (λ p n s f. struct_is p.variant (term p.source) w i p.place n f)
  known_class (bool_term b ty) a l e known = base_known (bool_term b ty) a l e
  known_class (int_term z ty) a l e known = base_known (int_term z ty) a l e
  known_class (prim_term n) a l e known = base_known (prim_term n) a l e
  known_class (argument i) a l e known = base_known (argument i) a l e
  known_class (extractor_call t s) a l e known = base_known (extractor_call t s) a l e
  known_class (constructor_call t xs i) a l e known = base_known (constructor_call t xs i) a l e
  known_class (pick_of s) a l e known = base_known (pick_of s) a l e
  known_class (variant_made s i xs) a l e known = base_known (variant_made s i xs) a l e
  known_class (struct_made s xs) a l e known = base_known (struct_made s xs) a l e
  known_class (some_made s) a l e known = base_known (some_made s) a l e
  known_class (some_part s) a l e known = base_known (some_part s) a l e
  known_class (tuple_part s i) a l e known = base_known (tuple_part s i) a l e
  known_class no_site a l e known = base_known no_site a l e

  -- such classes respect the demands
  class_given : (a b : SiteTerm) → Contains d.equalities (a, b) → class_of_term a ≡ class_of_term b
  class_given a b i =
      elim (cases_Bool (site_term_eq a b)) [
        | inl t ↦ ap class_of_term (term_means a b t)
        | inr f ↦
            let j = in_from_contains d.equalities (a, b) i in
            let n = equality_numbers sites before d h v a b j f in
            let s = equal_spoken d (a, b) j in
            known_class a n.first n.first_within n.first_is (inl (contains_from_in (spoken_of d) a s.0))
            ∙ kept n.first n.second (one_head h.equals whole n.first n.second n.equal)
            ∙ sym (known_class b n.second n.second_within n.second_is (inl (contains_from_in (spoken_of d) b s.1)))
      ]

  pub class_fields : (k : Constraint) (a b x y : SiteTerm) (i : ℕ) → class_of_term a ≡ class_of_term b → slice_get (field_terms k a) i ≡ Some x → slice_get (field_terms k b) i ≡ Some y
      → class_of_term x ≡ class_of_term y
  unfolding class_of_term
  class_fields (is_variant ty k n) a b x y i e f g =
      let r = at_fields (variant_field a k) (variant_field b k) 0 n i x y f g in
      ap class_of_term r.1 ∙ ap (λ m. first_part parts (B.MatchVariant m (record { 0 = k }) r.0)) e ∙ sym (ap class_of_term r.2)
  class_fields (is_struct ty n) a b x y i e f g =
      let r = at_fields (struct_field a) (struct_field b) 0 n i x y f g in
      ap class_of_term r.1 ∙ ap (λ m. first_part parts (B.ExtractStruct m r.0)) e ∙ sym (ap class_of_term r.2)
  class_fields (is_bool z ty) a b x y i e f g = absurd (none_some x f)
  class_fields (is_int z ty) a b x y i e f g = absurd (none_some x f)
  class_fields (is_prim n) a b x y i e f g = absurd (none_some x f)
  class_fields is_present a b x y i e f g = absurd (none_some x f)

  pub class_respects : RespectsDemands d class_of_term
  class_respects = record { given = class_given; fields = λ a b t x y k i e f c g l. class_fields k a b x y i e g l }

  -- the classes are those of the closure
  pub are_classes : AreClassesOf sites ks d
  are_classes a b l m known other =
      bool_same (nat_eq (class_head ks a) (class_head ks b)) (same_class (class_names d) (term a) (term b))
      (λ t. name_same (class_names d) (term a) (term b) (named_as_classes a b (eqb-true (class_head ks a) (class_head ks b) t)))
      (λ t.
      let joined = named_alike d (term a) (term b) (same_name (class_names d) (term a) (term b) t) in
      eq-eqb (class_head ks a) (class_head ks b)
      (sym (known_class (term a) a l refl known) ∙ classes_bound d class_of_term class_respects (term a) (term b) joined ∙ known_class (term b) b m refl other))
