-- The closed demands of a rule hold exactly where its demands do.
use Rattle.std.proofs.Common.{◌≡◌, ◌⊎◌, ℕ, zero, suc, ◌+◌, ◌<◌, true, List, [], ◌∷◌, map, length, Option, Some, is_some, slice_get, Contains, filter, refl, sym, ap, ap₂, subst, ◌∙◌, inl, inr, arith}
use Rattle.std.proofs.lemmas.Bool.{and_parts, false≢true}
use Rattle.std.proofs.lemmas.Grind.{common_steps}
use Rattle.model.specs.rules.Values.{Value, truth, atom, of_variant, of_struct, Values, no_value, value_and, listed, variant_types, struct_types, well_typed, all_well_typed}
use Rattle.model.specs.rules.Meaning.{one, Meaning}
use Rattle.model.specs.rules.Outcome.{then_option}
use Rattle.model.specs.rules.Program.{Program}
use Rattle.model.specs.rules.Picks.{field_of_struct}
use Rattle.model.specs.trees.Run.{as_value, from_value, content_fields}
use Rattle.model.specs.sites.Sites.{Constraint, is_variant, is_struct, SiteTerm, variant_field, struct_field, fields_from, field_terms}
use Rattle.model.specs.visits.Demands.{Demands, has_site}
use Rattle.model.specs.sites.Closure.{Joined, given, itself, at_field, HasConstraint, Closed, ClosedIsWhole, class_at, without_class_of, begins_with, ascending, field_equalities, taken, closing, before_closing, in_order, most_closing_steps, closed, ClosedDemandsHold}
use Rattle.model.proofs.Elements.{In, in_from_contains, contains_from_in, in_map, in_filter, passed_filter, from_flat_map, some_is}
use Rattle.model.proofs.SameSites.{term_cases}
use Rattle.model.proofs.SitesMade.{has_in}
use Rattle.laws_sites.proofs.Closing.{FollowsSoFar, constraint_carried, in_class_joined, next_asked, taken_follows, before_closing_follows, in_order_follows, closing_keeps}
use Rattle.laws_sites.proofs.FollowingDemands.{AllIn, each_all_in, without_in, equality_members}
use Rattle.laws_trees.proofs.Contents.{Given, content_of}
use Rattle.laws_trees.proofs.Demanded.{one_not_just, AreMet, AskEnough, one_is, same_content}
use Rattle.laws_trees.proofs.FormedDemands.{IsFormed, AreFormed}
use Rattle.laws_trees.proofs.Shapes.{HasForm, has_form}

-- 1. what holds of equated sites, and of fields of constrained ones, holds of the members of closed classes
module _ (d : Demands) (P : SiteTerm → Type 0) (equal : (e : SiteTerm × SiteTerm) → In d.equalities e → P e.0 × P e.1)
    (field : (s : SiteTerm) (c : Constraint) (x : SiteTerm) → HasConstraint d s c → In (field_terms c s) x → P x) where
  record HasMembers (k : Closed) : Type 0 where
    follows : FollowsSoFar d k
    members : AllIn P k.classes

  taken_members : (k : Closed) → HasMembers k → (c : SiteTerm × Constraint) → In k.constraints c → HasMembers (taken k c (ascending k.made (class_at k.classes c.0)))
  taken_members k f c i = record {
    follows = taken_follows d k f.follows c i;
    members = each_all_in P (field_equalities c.1 (ascending k.made (class_at k.classes c.0))) (without_class_of k.classes c.0)
        (λ l s j n. f.members l s (without_in k.classes c.0 l j).0 n)
        (λ e j.
        let a = equality_members c.1 (ascending k.made (class_at k.classes c.0)) e j in
        (field a.0 c.1 e.0 (member_has a.0 a.2) a.4, field a.1 c.1 e.1 (member_has a.1 a.3) a.5));
  }
    where
      member_has : (s : SiteTerm) → In (ascending k.made (class_at k.classes c.0)) s → HasConstraint d s c.1
      member_has s j =
          constraint_carried d c.0 s c.1
          (in_class_joined d k.classes f.follows.classes c.0 s (has_in (class_at k.classes c.0) s (passed_filter (has_site (class_at k.classes c.0)) k.made s j))) (f.follows.constraints c i)

  closing_members : (n : ℕ) (k : Closed) → HasMembers k → HasMembers (closing n k)
  closing_members = closing_keeps HasMembers (λ k f c e. taken_members k f c (next_asked d k.classes k.constraints k.made c e))

  before_members : (before : List SiteTerm) → HasMembers (before_closing before d)
  before_members before = record { follows = before_closing_follows d before; members = each_all_in P d.equalities [] (λ l s i n. absurd i) equal }

  in_order_members : (k : Closed) → HasMembers k → HasMembers (in_order k)
  in_order_members k f = record {
    follows = in_order_follows d k f.follows;
    members = λ l a i m.
        let s = from_flat_map (λ u. filter (begins_with u) (map (ascending k.made) k.classes)) k.made l i in
        let w = in_map (ascending k.made) k.classes l (in_filter (begins_with s.0) (map (ascending k.made) k.classes) l s.2) in
        f.members w.0 a w.1 (has_in w.0 a (passed_filter (has_site w.0) k.made a (subst (λ q. In q a) (sym w.2) m)));
  }

  pub closed_members : (before : List SiteTerm) → AllIn P (closed before d).classes
  closed_members before = (in_order_members (closing most_closing_steps (before_closing before d)) (closing_members most_closing_steps (before_closing before d) (before_members before))).members

-- 2. from demands to closed demands
-- a site has a value
abbrev pub IsOne : Given → SiteTerm → Type 0
IsOne g s = (v : Value) × (content_of g s ≡ Some (one v))

pub closed_hold : (g : Given) (before : List SiteTerm) (d : Demands) → AreMet g d → ((s : SiteTerm) (c : Constraint) (x : SiteTerm) → HasConstraint d s c → In (field_terms c s) x → IsOne g x)
    → ((a b : SiteTerm) → Joined d a b → content_of g a ≡ content_of g b) → FollowsSoFar d (closed before d) → ClosedDemandsHold g.meaning g.args g.pick (closed before d)
closed_hold g before d m fields same follows = record {
  constraints = λ s c i.
      (let h = follows.constraints (s, c) (in_from_contains (closed before d).constraints (s, c) i) in
      let a = (m.asked (h.source, c) (in_from_contains d.constraints (h.source, c) h.asked)).0 in
      record { content = a.content; held = sym (same h.source s h.joined) ∙ a.held; meets = a.meets });
  classes = λ l a b i j k.
      (let n = in_from_contains (closed before d).classes l i in
      let v = closed_members d (IsOne g) (λ e u. (let q = m.equal e u in ((q.value, q.first), (q.value, q.second)))) fields before l a n (in_from_contains l a j) in
      record { value = v.0; first = v.1; second = sym (same a b (follows.classes l a b n (in_from_contains l a j) (in_from_contains l b k))) ∙ v.1 });
}

-- 3. from closed demands to demands
pub field_at : (f : ℕ → SiteTerm) (j n i : ℕ) → i < n → slice_get (fields_from f j n) i ≡ Some (f (j + i))
field_at f j zero i l = absurd (omega (arith, l))
field_at f j (suc n) zero l = let same : j ≡ j + 0 = omega arith in ap (λ q. Some (f q)) same
field_at f j (suc n) (suc i) l = field_at f (suc j) n i (omega (arith, l)) ∙ (let same : suc j + i ≡ j + suc i = omega arith in ap (λ q. Some (f q)) same)

asked_or_not : (cs : List (SiteTerm × Constraint)) (s : SiteTerm) → ((c : Constraint) × In cs (s, c)) ⊎ ((c : Constraint) → In cs (s, c) → ⊥)
asked_or_not [] s = inr (λ c i. i)
asked_or_not (x ∷ cs) s =
    elim (term_cases x.0 s) [
      | inl e ↦ inl (x.1, inl (λ k. (e k, x.1)))
      | inr n ↦
          elim (asked_or_not cs s) [
            | inl a ↦ inl (a.0, inr a.1)
            | inr o ↦ inr (λ c i. elim i [ inl q ↦ n (ap (λ (y : SiteTerm × Constraint). y.0) q) | inr j ↦ o c j ])
          ]
    ]

-- two values that meet one constraint: they are one, or both are variants or structs
record BothVariants (c : Constraint) (v w : Value) : Type 0 where
  ty : ℕ
  variant : ℕ
  count : ℕ
  first_fields : Values
  second_fields : Values
  constraint : c ≡ is_variant ty variant count
  first : v ≡ of_variant ty variant first_fields
  second : w ≡ of_variant ty variant second_fields

record BothStructs (c : Constraint) (v w : Value) : Type 0 where
  ty : ℕ
  count : ℕ
  first_fields : Values
  second_fields : Values
  constraint : c ≡ is_struct ty count
  first : v ≡ of_struct ty first_fields
  second : w ≡ of_struct ty second_fields

data Compared (c : Constraint) (v w : Value) : Type 0 where
  one_value : v ≡ w → Compared c v w
  two_variants : BothVariants c v w → Compared c v w
  two_structs : BothStructs c v w → Compared c v w

same_constant : (o : Option Value) (v w : Value) → ((x : Value) × (one v ≡ one x) × (o ≡ Some x)) → ((x : Value) × (one w ≡ one x) × (o ≡ Some x)) → v ≡ w
same_constant o v w a b = one_is v a.0 a.1 ∙ some_is a.0 b.0 (sym a.2 ∙ b.2) ∙ sym (one_is w b.0 b.1)

by_form : (m : Meaning) (c : Constraint) (v w : Value) → HasForm m (one v) c → HasForm m (one w) c → Compared c v w
by_form m c v w a b = grind (arith, common_steps, one_is, same_constant, one_not_just)

variant_parts : (s n : ℕ) (fs : Values) (t l : ℕ) (hs : Values) → of_variant s n fs ≡ of_variant t l hs → fs ≡ hs
variant_parts s n fs t l hs e = cc

struct_parts : (s : ℕ) (fs : Values) (t : ℕ) (hs : Values) → of_struct s fs ≡ of_struct t hs → fs ≡ hs
struct_parts s fs t hs e = cc

not_struct : (s n : ℕ) (fs : Values) (t : ℕ) (hs : Values) → of_variant s n fs ≡ of_struct t hs → ⊥
not_struct s n fs t hs e = cc

-- closed demands that hold, and are all that follows from well-formed ones
pub record AreHeld (g : Given) (d : Demands) : Type 0 where
  pub closing : Closed
  pub whole : ClosedIsWhole d closing
  pub formed : AreFormed g.program d
  pub hold : ClosedDemandsHold g.meaning g.args g.pick closing

module _ (g : Given) (d : Demands) (held : AreHeld g d) where
  abbrev k : Closed
  k = held.closing

  abbrev whole : ClosedIsWhole d k
  whole = held.whole

  abbrev formed : AreFormed g.program d
  formed = held.formed

  abbrev hold : ClosedDemandsHold g.meaning g.args g.pick k
  hold = held.hold

  abbrev p : Program
  p = g.program

  abbrev IsTypedValue : Value → Type 0
  IsTypedValue v = (ty : ℕ) × (well_typed p.types ty v ≡ true)

  -- what two sites that must be equal are, by their values
  record AreCompared (a b : SiteTerm) (v w : Value) : Type 0 where
    constraint : Constraint
    there : HasConstraint d a constraint
    compared : Compared constraint v w

  met_form : (s : SiteTerm) (c : Constraint) (v : Value) → HasConstraint d s c → content_of g s ≡ Some (one v) → HasForm g.meaning (one v) c
  met_form s c v h e =
      let a = hold.constraints s c ((whole.constraints s c).1 h) in
      let same : a.content ≡ one v = same_content g s a.content (one v) a.held e in
      has_form g.meaning c (one v) (subst (λ x. is_some (content_fields g.meaning c x) ≡ true) same a.meets)

  compare : (a b : SiteTerm) (v w : Value) → Joined d a b → content_of g a ≡ Some (one v) → content_of g b ≡ Some (one w) → (v ≡ w) ⊎ AreCompared a b v w
  compare a b v w j e f =
      elim (term_cases a b) [
        | inl q ↦ inl (one_is v w (same_content g b (one v) (one w) (subst (λ s. content_of g s ≡ Some (one v)) q e) f))
        | inr n ↦
            elim (asked_or_not k.constraints a) [
              | inl c ↦
                  let h = (whole.constraints a c.0).0 (contains_from_in k.constraints (a, c.0) c.1) in
                  let i = constraint_carried d a b c.0 j h in
                  inr (record { constraint = c.0; there = h; compared = by_form g.meaning c.0 v w (met_form a c.0 v h e) (met_form b c.0 w i f) })
              | inr o ↦
                  let l = (whole.equalities a b).1 (record { different = n; joined = j; free = λ c h. o c (in_from_contains k.constraints (a, c) ((whole.constraints a c).1 h)) }) in
                  let q = hold.classes l.1.0 a b l.1.1 l.1.2 l.1.3 in
                  inl (one_is v q.value (same_content g a (one v) (one q.value) e q.first) ∙ sym (one_is w q.value (same_content g b (one w) (one q.value) f q.second)))
            ]
      ]

  -- fields of two sites, from a place on
  record FieldsAlike (vs ws : Values) (tys : List ℕ) (f h : ℕ → SiteTerm) (i : ℕ) : Type 0 where
    first_typed : all_well_typed p.types (Some tys) vs ≡ true
    second_typed : all_well_typed p.types (Some tys) ws ≡ true
    first : (j : ℕ) (x : Value) → slice_get (listed vs) j ≡ Some x → content_of g (f (i + j)) ≡ Some (one x)
    second : (j : ℕ) (x : Value) → slice_get (listed ws) j ≡ Some x → content_of g (h (i + j)) ≡ Some (one x)
    joined : (j : ℕ) → j < length tys → Joined d (f (i + j)) (h (i + j))

  variant_typed : (ty i : ℕ) (fs : Values) (tys : List ℕ) → variant_types (slice_get p.types ty) i ≡ Some tys → IsTypedValue (of_variant ty i fs) → all_well_typed p.types (Some tys) fs ≡ true
  variant_typed ty i fs tys e t = grind (arith, common_steps, and_parts)

  struct_typed : (ty : ℕ) (fs : Values) (tys : List ℕ) → struct_types (slice_get p.types ty) ≡ Some tys → IsTypedValue (of_struct ty fs) → all_well_typed p.types (Some tys) fs ≡ true
  struct_typed ty fs tys e t = grind (arith, common_steps, and_parts)

  variant_value : (s : SiteTerm) (ty i : ℕ) (fs : Values) (j : ℕ) (x : Value) → content_of g s ≡ Some (one (of_variant ty i fs)) → slice_get (listed fs) j ≡ Some x → content_of g (variant_field s i j) ≡ Some (one x)
  variant_value s ty i fs j x e q = grind (arith, common_steps)

  struct_value : (s : SiteTerm) (ty : ℕ) (fs : Values) (j : ℕ) (x : Value) → content_of g s ≡ Some (one (of_struct ty fs)) → slice_get (listed fs) j ≡ Some x → content_of g (struct_field s j) ≡ Some (one x)
  struct_value s ty fs j x e q = ap (λ o. then_option (then_option o as_value) (field_of_struct j)) e ∙ ap from_value q

  at_start : (f : ℕ → SiteTerm) (i : ℕ) (v : Value) → content_of g (f i) ≡ Some (one v) → content_of g (f (0 + i)) ≡ Some (one v)
  at_start f i v e = (let same : i ≡ 0 + i = omega arith in subst (λ n. content_of g (f n) ≡ Some (one v)) same e)

  abbrev AreAlone : Values → Type 0
  AreAlone vs = (ws : Values) (tys : List ℕ) (f h : ℕ → SiteTerm) (i : ℕ) → FieldsAlike vs ws tys f h i → vs ≡ ws

  variant_alone : (s n : ℕ) (fs : Values) (w : Value) (a b : SiteTerm) → Joined d a b → content_of g a ≡ Some (one (of_variant s n fs)) → content_of g b ≡ Some (one w) → IsTypedValue (of_variant s n fs) → IsTypedValue w
      → AreAlone fs → of_variant s n fs ≡ w
  variant_alone s n fs w a b j e f t u alone =
      elim (compare a b (of_variant s n fs) w j e f) [
        | inl q ↦ q
        | inr c ↦ by c.constraint c.there c.compared
      ]
    where
      both : (c : Constraint) → HasConstraint d a c → BothVariants c (of_variant s n fs) w → of_variant s n fs ≡ w
      both c h x =
          let q = formed (h.source, c) (in_from_contains d.constraints (h.source, c) h.asked) in
          let r : IsFormed p (is_variant x.ty x.variant x.count) = subst (IsFormed p) x.constraint q in
          let fields : fs ≡ x.first_fields = variant_parts s n fs x.ty x.variant x.first_fields x.first in
          let y : content_of g a ≡ Some (one (of_variant x.ty x.variant fs)) = e ∙ ap (λ v. Some (one v)) x.first ∙ ap (λ l. Some (one (of_variant x.ty x.variant l))) (sym fields) in
          let z : content_of g b ≡ Some (one (of_variant x.ty x.variant x.second_fields)) = f ∙ ap (λ v. Some (one v)) x.second in
          let same = alone x.second_fields r.0 (variant_field a x.variant) (variant_field b x.variant) 0
          (record {
            first_typed = variant_typed x.ty x.variant fs r.0 r.1 (t.0, subst (λ v. well_typed p.types t.0 v ≡ true) (x.first ∙ ap (of_variant x.ty x.variant) (sym fields)) t.1);
            second_typed = variant_typed x.ty x.variant x.second_fields r.0 r.1 (u.0, subst (λ v. well_typed p.types u.0 v ≡ true) x.second u.1);
            first = λ i v q. at_start (variant_field a x.variant) i v (variant_value a x.ty x.variant fs i v y q);
            second = λ i v q. at_start (variant_field b x.variant) i v (variant_value b x.ty x.variant x.second_fields i v z q);
            joined = λ i l.
                at_field i j h.joined (subst (λ (o : Constraint). Contains d.constraints (h.source, o)) x.constraint h.asked)
                (field_at (variant_field a x.variant) 0 x.count i (let k : length r.0 ≡ x.count = r.2 in omega arith))
                (field_at (variant_field b x.variant) 0 x.count i (let k : length r.0 ≡ x.count = r.2 in omega arith));
          }) in
          x.first ∙ ap (of_variant x.ty x.variant) (sym fields ∙ same) ∙ sym x.second

      by : (c : Constraint) → HasConstraint d a c → Compared c (of_variant s n fs) w → of_variant s n fs ≡ w
      by c h (one_value q) = q
      by c h (two_variants x) = both c h x
      by c h (two_structs x) = absurd (not_struct s n fs x.ty x.first_fields x.first)

  struct_alone : (s : ℕ) (fs : Values) (w : Value) (a b : SiteTerm) → Joined d a b → content_of g a ≡ Some (one (of_struct s fs)) → content_of g b ≡ Some (one w) → IsTypedValue (of_struct s fs) → IsTypedValue w
      → AreAlone fs → of_struct s fs ≡ w
  struct_alone s fs w a b j e f t u alone =
      elim (compare a b (of_struct s fs) w j e f) [
        | inl q ↦ q
        | inr c ↦ by c.constraint c.there c.compared
      ]
    where
      both : (c : Constraint) → HasConstraint d a c → BothStructs c (of_struct s fs) w → of_struct s fs ≡ w
      both c h x =
          let q = formed (h.source, c) (in_from_contains d.constraints (h.source, c) h.asked) in
          let r : IsFormed p (is_struct x.ty x.count) = subst (IsFormed p) x.constraint q in
          let fields : fs ≡ x.first_fields = struct_parts s fs x.ty x.first_fields x.first in
          let y : content_of g a ≡ Some (one (of_struct x.ty fs)) = e ∙ ap (λ v. Some (one v)) x.first ∙ ap (λ l. Some (one (of_struct x.ty l))) (sym fields) in
          let z : content_of g b ≡ Some (one (of_struct x.ty x.second_fields)) = f ∙ ap (λ v. Some (one v)) x.second in
          let same = alone x.second_fields r.0 (struct_field a) (struct_field b) 0
          (record {
            first_typed = struct_typed x.ty fs r.0 r.1 (t.0, subst (λ v. well_typed p.types t.0 v ≡ true) (x.first ∙ ap (of_struct x.ty) (sym fields)) t.1);
            second_typed = struct_typed x.ty x.second_fields r.0 r.1 (u.0, subst (λ v. well_typed p.types u.0 v ≡ true) x.second u.1);
            first = λ i v q. at_start (struct_field a) i v (struct_value a x.ty fs i v y q);
            second = λ i v q. at_start (struct_field b) i v (struct_value b x.ty x.second_fields i v z q);
            joined = λ i l.
                at_field i j h.joined (subst (λ (o : Constraint). Contains d.constraints (h.source, o)) x.constraint h.asked)
                (field_at (struct_field a) 0 x.count i (let k : length r.0 ≡ x.count = r.2 in omega arith))
                (field_at (struct_field b) 0 x.count i (let k : length r.0 ≡ x.count = r.2 in omega arith));
          }) in
          x.first ∙ ap (of_struct x.ty) (sym fields ∙ same) ∙ sym x.second

      by : (c : Constraint) → HasConstraint d a c → Compared c (of_struct s fs) w → of_struct s fs ≡ w
      by c h (one_value q) = q
      by c h (two_variants x) = absurd (not_struct x.ty x.variant x.first_fields s fs (sym x.first))
      by c h (two_structs x) = both c h x

  -- a value without fields
  abbrev HasNoFields : Value → Type 0
  HasNoFields v = ((ty i : ℕ) (fs : Values) → v ≡ of_variant ty i fs → ⊥) × ((ty : ℕ) (fs : Values) → v ≡ of_struct ty fs → ⊥)

  plain_alone : (v w : Value) (a b : SiteTerm) → HasNoFields v → Joined d a b → content_of g a ≡ Some (one v) → content_of g b ≡ Some (one w) → v ≡ w
  plain_alone v w a b n j e f =
      elim (compare a b v w j e f) [
        | inl q ↦ q
        | inr c ↦ by c.constraint c.compared
      ]
    where
      by : (c : Constraint) → Compared c v w → v ≡ w
      by c (one_value q) = q
      by c (two_variants x) = absurd (n.0 x.ty x.variant x.first_fields x.first)
      by c (two_structs x) = absurd (n.1 x.ty x.first_fields x.first)

  -- fields after the first
  next_fields : (v w : Value) (vs ws : Values) (ty : ℕ) (tys : List ℕ) (f h : ℕ → SiteTerm) (i : ℕ) → FieldsAlike (value_and v vs) (value_and w ws) (ty ∷ tys) f h i → FieldsAlike vs ws tys f h (suc i)
  next_fields v w vs ws ty tys f h i x = record {
    first_typed = (and_parts (well_typed p.types ty v) (all_well_typed p.types (Some tys) vs) x.first_typed).1;
    second_typed = (and_parts (well_typed p.types ty w) (all_well_typed p.types (Some tys) ws) x.second_typed).1;
    first = λ j y q. (let n : i + suc j ≡ suc i + j = omega arith in subst (λ l. content_of g (f l) ≡ Some (one y)) n (x.first (suc j) y q));
    second = λ j y q. (let n : i + suc j ≡ suc i + j = omega arith in subst (λ l. content_of g (h l) ≡ Some (one y)) n (x.second (suc j) y q));
    joined = λ j l. (let n : i + suc j ≡ suc i + j = omega arith in subst (λ o. Joined d (f o) (h o)) n (x.joined (suc j) (omega (arith, l))));
  }

  mutual
    value_same : (v w : Value) (a b : SiteTerm) → Joined d a b → content_of g a ≡ Some (one v) → content_of g b ≡ Some (one w) → IsTypedValue v → IsTypedValue w → v ≡ w
    value_same (truth c) w a b j e f t u = plain_alone (truth c) w a b (λ ty i fs q. cc, λ ty fs q. cc) j e f
    value_same (atom ty n) w a b j e f t u = plain_alone (atom ty n) w a b (λ ty i fs q. cc, λ ty fs q. cc) j e f
    value_same (of_variant s i fs) w a b j e f t u = variant_alone s i fs w a b j e f t u (values_same fs)
    value_same (of_struct s fs) w a b j e f t u = struct_alone s fs w a b j e f t u (values_same fs)

    values_same : (vs : Values) → AreAlone vs
    values_same no_value no_value tys f h i x = refl
    values_same no_value (value_and w ws) [] f h i x = absurd (false≢true x.second_typed)
    values_same no_value (value_and w ws) (ty ∷ tys) f h i x = absurd (false≢true x.first_typed)
    values_same (value_and v vs) no_value [] f h i x = absurd (false≢true x.first_typed)
    values_same (value_and v vs) no_value (ty ∷ tys) f h i x = absurd (false≢true x.second_typed)
    values_same (value_and v vs) (value_and w ws) [] f h i x = absurd (false≢true x.first_typed)
    values_same (value_and v vs) (value_and w ws) (ty ∷ tys) f h i x =
        ap₂ value_and
        (value_same v w (f (i + 0)) (h (i + 0)) (x.joined 0 (omega arith)) (x.first 0 v refl) (x.second 0 w refl)
        (ty, (and_parts (well_typed p.types ty v) (all_well_typed p.types (Some tys) vs) x.first_typed).0)
        (ty, (and_parts (well_typed p.types ty w) (all_well_typed p.types (Some tys) ws) x.second_typed).0))
        (values_same vs ws tys f h (suc i) (next_fields v w vs ws ty tys f h i x))

  -- so they ask enough
  pub ask_enough : AskEnough g d
  ask_enough = record {
    asked = λ x i. hold.constraints x.0 x.1 ((whole.constraints x.0 x.1).1 (record { source = x.0; joined = itself; asked = contains_from_in d.constraints x i }));
    equal = λ x i ty v w a b. value_same v w x.0 x.1 (given (contains_from_in d.equalities x i)) a.content b.content (ty, a.typed) (ty, b.typed);
  }
