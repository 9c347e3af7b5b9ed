-- Where a rule matches, its demands can be met: an unreachable rule never matches.
use Rattle.std.proofs.Common.{◌≡◌, ◌==◌, ℕ, zero, suc, ◌+◌, ◌<◌, ◌≤◌, ℤ, Bool, true, false, not, ◌||◌, List, length, Option, Some, None, slice_get, Contains, flat_map, refl, sym, ap, subst, ◌∙◌, inl, inr, arith, eq-eqb, eqb-true}
use Rattle.std.proofs.lemmas.Bool.{cases_Bool, and_parts, cond-true, or_left, or_right}
use Rattle.std.proofs.lemmas.Grind.{common_steps}
use Rattle.model.specs.rules.Values.{Value, truth, atom, of_variant, of_struct, Values, no_value, value_and, listed, variant_types, struct_types, well_typed, all_well_typed}
use Rattle.model.specs.rules.Meaning.{Content, one, just, Meaning, bool_literal, int_literal, literal_value, constant_value}
use Rattle.model.specs.rules.Outcome.{then_option}
use Rattle.model.specs.rules.Program.{Program}
use Rattle.model.specs.rules.Typed.{TypedRule}
use Rattle.model.specs.rules.Picks.{field_of_variant, field_of_struct}
use Rattle.model.specs.trees.Run.{as_value, from_value}
use Rattle.model.specs.sites.Sites.{Constraint, is_variant, is_struct, is_bool, is_int, is_prim, is_present, SiteTerm, bool_term, int_term, prim_term, variant_field, struct_field, fields_from, field_terms}
use Rattle.model.specs.visits.Demands.{Demands, demands_of}
use Rattle.model.specs.sites.Closure.{Joined, given, itself, turned, chained, at_field, HasConstraint, IsPartOf, IsProperPart, directly, deeper, IsUnreachable, two_at_a_site, two_in_a_class, part_of_itself}
use Rattle.model.specs.sites.Serves.{asked_by, asked, constant_site, constant_type, typed_as, written_type, written_value, is_type_with_parts, tested_constants, is_own_type, is_open_constant, Serves, TellsConstantsApart}
use Rattle.model.proofs.Elements.{In, in_from_contains, contains_from_in, in_right, in_flat_map, slice_in, some_is, none_some}
use Rattle.model.proofs.Members.{get_within}
use Rattle.laws_typing.specs.WellTypedPrograms.{HasTypes}
use Rattle.laws_trees.proofs.Contents.{Given, content_of}
use Rattle.laws_trees.proofs.Demanded.{one_not_just, Equal, AreMet, one_is}
use Rattle.laws_trees.proofs.FormedDemands.{AreFormed}
use Rattle.laws_trees.proofs.Shapes.{one_type, no_variant, no_struct, literal_without_parts, as_many_values, has_form, holds_there}

-- 1. fields
pub field_is : (f : ℕ → SiteTerm) (j n i : ℕ) (x : SiteTerm) → slice_get (fields_from f j n) i ≡ Some x → (f (j + i) ≡ x) × (i < n)
field_is f j zero i x e = absurd (none_some x e)
field_is f j (suc n) zero x e = (let same : j + 0 ≡ j = omega arith in ap f same ∙ some_is (f j) x e, omega arith)
field_is f j (suc n) (suc i) x e = grind (arith, common_steps, field_is f (suc j) n i x e)

-- fields of sites with one content have one content
pub field_content : (g : Given) (c : Constraint) (a b : SiteTerm) (i : ℕ) (x y : SiteTerm) → content_of g a ≡ content_of g b → slice_get (field_terms c a) i ≡ Some x → slice_get (field_terms c b) i ≡ Some y
    → content_of g x ≡ content_of g y
field_content g c a b i x y e p q = grind (arith, common_steps, field_is, content_of, none_some)

-- sites that must be equal have one content where equated sites have
pub joined_content : (g : Given) (d : Demands) → ((x : SiteTerm × SiteTerm) → In d.equalities x → Equal g x.0 x.1) → (a b : SiteTerm) → Joined d a b → content_of g a ≡ content_of g b
joined_content g d h a b (given i) = let e = h (a, b) (in_from_contains d.equalities (a, b) i) in e.first ∙ sym e.second
joined_content g d h a _ itself = refl
joined_content g d h a b (turned j) = sym (joined_content g d h b a j)
joined_content g d h a c (chained {b = b} j k) = joined_content g d h a b j ∙ joined_content g d h b c k
joined_content g d h x y (at_field {a = a} {b = b} {k = k} i j l n p q) = field_content g k a b i x y (joined_content g d h a b j) p q

-- 2. sizes
mutual
  size : Value → ℕ
  size (truth b) = 1
  size (atom ty n) = 1
  size (of_variant ty i fs) = suc (sizes fs)
  size (of_struct ty fs) = suc (sizes fs)

  sizes : Values → ℕ
  sizes no_value = 0
  sizes (value_and v vs) = size v + sizes vs

field_size : (vs : Values) (j : ℕ) (v : Value) → slice_get (listed vs) j ≡ Some v → size v ≤ sizes vs
unfolding size
field_size no_value j v e = absurd (none_some v e)
field_size (value_and w vs) zero v e = let same : size w ≡ size v = ap size (some_is w v e) in omega arith
field_size (value_and w vs) (suc j) v e = let l : size v ≤ sizes vs = field_size vs j v e in omega arith

variant_size : (ty i : ℕ) (fs : Values) (j : ℕ) (v : Value) → slice_get (listed fs) j ≡ Some v → size v < size (of_variant ty i fs)
unfolding size
variant_size ty i fs j v e = let l : size v ≤ sizes fs = field_size fs j v e in omega arith

struct_size : (ty : ℕ) (fs : Values) (j : ℕ) (v : Value) → slice_get (listed fs) j ≡ Some v → size v < size (of_struct ty fs)
unfolding size
struct_size ty fs j v e = let l : size v ≤ sizes fs = field_size fs j v e in omega arith

-- a content that is a variant or a struct with all its fields
abbrev pub HasParts : Option Content → Constraint → Type 0
HasParts o (is_variant ty i n) = (fs : Values) × (o ≡ Some (one (of_variant ty i fs))) × (length (listed fs) ≡ n)
HasParts o (is_struct ty n) = (fs : Values) × (o ≡ Some (one (of_struct ty fs))) × (length (listed fs) ≡ n)
HasParts o _ = Unit {0}

-- 3. one content meets one constraint
module _ (g : Given) (rs : List TypedRule) (types : HasTypes g.program.types) (apart : TellsConstantsApart g.program g.meaning rs) where
  abbrev q : Program
  q = g.program

  -- a literal of a built-in type has the value that it writes
  abbrev pub MustBe : SiteTerm → Value → Type 0
  MustBe (bool_term b ty) w = w ≡ truth b
  MustBe (int_term z ty) w = is_own_type (slice_get q.types ty) ≡ true → w ≡ atom ty z
  MustBe _ w = Unit {0}

  -- a constant of a pattern, and its value
  pub record IsConstant (o : Option Content) (u : SiteTerm) : Type 0 where
    pub value : Value
    pub there : o ≡ Some (one value)
    pub ty : ℕ
    pub written : written_type q u ≡ Some ty
    pub worth : written_value g.meaning u ≡ Some value
    pub typed : well_typed q.types ty value ≡ true
    pub atomic : is_type_with_parts (slice_get q.types ty) ≡ false
    pub tested : Contains (tested_constants q rs) u
    pub exact : MustBe u value

  abbrev pub Shape : Option Content → Constraint → Type 0
  Shape o (is_variant ty i n) = HasParts o (is_variant ty i n)
  Shape o (is_struct ty n) = HasParts o (is_struct ty n)
  Shape o (is_bool b ty) = IsConstant o (bool_term b ty)
  Shape o (is_int z ty) = IsConstant o (int_term z ty)
  Shape o (is_prim name) = IsConstant o (prim_term name)
  Shape o is_present = (c : Content) × (o ≡ Some (just c))

  -- two constants with one value, and one type, are one
  same_value : (o : Option Content) (a b : SiteTerm) (x : IsConstant o a) (y : IsConstant o b) → x.value ≡ y.value
  same_value o a b x y = one_is x.value y.value (some_is (one x.value) (one y.value) (sym x.there ∙ y.there))

  same_type : (o : Option Content) (a b : SiteTerm) (x : IsConstant o a) (y : IsConstant o b) → y.ty ≡ x.ty
  same_type o a b x y = one_type q.types types y.value y.ty x.ty y.typed (subst (λ v. well_typed q.types x.ty v ≡ true) (same_value o a b x y) x.typed)

  open_same : (o : Option Content) (a b : SiteTerm) → IsConstant o a → IsConstant o b → (is_open_constant q a || is_open_constant q b) ≡ true → a ≡ b
  open_same o a b x y h = grind (arith, common_steps, same_type o a b x y, same_value o a b x y)

  same_written : (o : Option Content) (a b : SiteTerm) → IsConstant o a → IsConstant o b → written_type q a ≡ written_type q b
  same_written o a b x y = x.written ∙ ap Some (sym (same_type o a b x y)) ∙ sym y.written

  bools_same : (o : Option Content) (b c : Bool) (s t : ℕ) → IsConstant o (bool_term b s) → IsConstant o (bool_term c t) → bool_term b s ≡ bool_term c t
  bools_same o b c s t x y = grind (arith, common_steps, same_value o (bool_term b s) (bool_term c t) x y, same_written o (bool_term b s) (bool_term c t) x y)

  atom_not_truth : (b : Bool) (t : ℕ) (z : ℤ) → truth b ≡ atom t z → ⊥
  atom_not_truth b t z e = cc

  bool_int_same : (o : Option Content) (b : Bool) (s t : ℕ) (z : ℤ) → IsConstant o (bool_term b s) → IsConstant o (int_term z t) → bool_term b s ≡ int_term z t
  bool_int_same o b s t z x y = grind (arith, common_steps, atom_not_truth, same_value, open_same)

  ints_same : (o : Option Content) (z w : ℤ) (s t : ℕ) → IsConstant o (int_term z s) → IsConstant o (int_term w t) → int_term z s ≡ int_term w t
  ints_same o z w s t x y =
      let f : Some s ≡ Some t = same_written o (int_term z s) (int_term w t) x y in
      let h : s ≡ t = some_is s t f in
      elim (cases_Bool (is_own_type (slice_get q.types s))) [
        | inl own ↦
            let e : atom s z ≡ atom t w = sym (x.exact own) ∙ same_value o (int_term z s) (int_term w t) x y ∙ y.exact (subst (λ n. is_own_type (slice_get q.types n) ≡ true) h own) in
            let g : z ≡ w = cc in
            λ k. int_term (g k) (h k)
        | inr other ↦ open_same o (int_term z s) (int_term w t) x y (or_left (not (is_own_type (slice_get q.types s))) (not (is_own_type (slice_get q.types t))) (ap not other))
      ]

  constant_variant : (o : Option Content) (u : SiteTerm) (ty i : ℕ) (fs : Values) → IsConstant o u → o ≡ Some (one (of_variant ty i fs)) → ⊥
  constant_variant o u ty i fs x e = grind (arith, common_steps, one_is, some_is, no_variant, and_parts)

  constant_struct : (o : Option Content) (u : SiteTerm) (ty : ℕ) (fs : Values) → IsConstant o u → o ≡ Some (one (of_struct ty fs)) → ⊥
  constant_struct o u ty fs x e = grind (arith, common_steps, one_is, some_is, no_struct, and_parts)

  not_just : (o : Option Content) (v : Value) (c : Content) → o ≡ Some (one v) → o ≡ Some (just c) → ⊥
  not_just o v c e f = one_not_just v c (some_is (one v) (just c) (sym e ∙ f))

  variant_struct : (o : Option Content) (s i t : ℕ) (fs hs : Values) → o ≡ Some (one (of_variant s i fs)) → o ≡ Some (one (of_struct t hs)) → ⊥
  variant_struct o s i t fs hs e f = grind (arith, common_steps)

  -- the constraint that a constant's site is of
  back : SiteTerm → Constraint
  back (bool_term b ty) = is_bool b ty
  back (int_term z ty) = is_int z ty
  back (prim_term name) = is_prim name
  back _ = is_present

  pub same_shape : (o : Option Content) (a b : Constraint) → Shape o a → Shape o b → a ≡ b
  unfolding back
  same_shape o (is_variant s i n) (is_variant t j k) x y =
      let e : Some (one (of_variant s i x.0)) ≡ Some (one (of_variant t j y.0)) = sym x.1 ∙ y.1 in
      let a : s ≡ t = cc in
      let b : i ≡ j = cc in
      let c : x.0 ≡ y.0 = cc in
      let l : n ≡ k = sym x.2 ∙ ap (λ fs. length (listed fs)) c ∙ y.2 in
      λ q. is_variant (a q) (b q) (l q)
  same_shape o (is_struct s n) (is_struct t k) x y =
      let e : Some (one (of_struct s x.0)) ≡ Some (one (of_struct t y.0)) = sym x.1 ∙ y.1 in
      let a : s ≡ t = cc in
      let c : x.0 ≡ y.0 = cc in
      let l : n ≡ k = sym x.2 ∙ ap (λ fs. length (listed fs)) c ∙ y.2 in
      λ q. is_struct (a q) (l q)
  same_shape o (is_variant s i n) (is_struct t k) x y = absurd (variant_struct o s i t x.0 y.0 x.1 y.1)
  same_shape o (is_struct t k) (is_variant s i n) x y = absurd (variant_struct o s i t y.0 x.0 y.1 x.1)
  same_shape o (is_variant s i n) (is_bool b ty) x y = absurd (constant_variant o (bool_term b ty) s i x.0 y x.1)
  same_shape o (is_variant s i n) (is_int z ty) x y = absurd (constant_variant o (int_term z ty) s i x.0 y x.1)
  same_shape o (is_variant s i n) (is_prim name) x y = absurd (constant_variant o (prim_term name) s i x.0 y x.1)
  same_shape o (is_bool b ty) (is_variant s i n) x y = absurd (constant_variant o (bool_term b ty) s i y.0 x y.1)
  same_shape o (is_int z ty) (is_variant s i n) x y = absurd (constant_variant o (int_term z ty) s i y.0 x y.1)
  same_shape o (is_prim name) (is_variant s i n) x y = absurd (constant_variant o (prim_term name) s i y.0 x y.1)
  same_shape o (is_struct s n) (is_bool b ty) x y = absurd (constant_struct o (bool_term b ty) s x.0 y x.1)
  same_shape o (is_struct s n) (is_int z ty) x y = absurd (constant_struct o (int_term z ty) s x.0 y x.1)
  same_shape o (is_struct s n) (is_prim name) x y = absurd (constant_struct o (prim_term name) s x.0 y x.1)
  same_shape o (is_bool b ty) (is_struct s n) x y = absurd (constant_struct o (bool_term b ty) s y.0 x y.1)
  same_shape o (is_int z ty) (is_struct s n) x y = absurd (constant_struct o (int_term z ty) s y.0 x y.1)
  same_shape o (is_prim name) (is_struct s n) x y = absurd (constant_struct o (prim_term name) s y.0 x y.1)
  same_shape o (is_bool b ty) (is_bool c u) x y = ap back (bools_same o b c ty u x y)
  same_shape o (is_bool b ty) (is_int z u) x y = ap back (bool_int_same o b ty u z x y)
  same_shape o (is_bool b ty) (is_prim n) x y = ap back (open_same o (bool_term b ty) (prim_term n) x y refl)
  same_shape o (is_int z ty) (is_bool c u) x y = ap back (sym (bool_int_same o c u ty z y x))
  same_shape o (is_int z ty) (is_int w u) x y = ap back (ints_same o z w ty u x y)
  same_shape o (is_int z ty) (is_prim n) x y = ap back (open_same o (int_term z ty) (prim_term n) x y (or_right (not (is_own_type (slice_get q.types ty))) true refl))
  same_shape o (is_prim n) (is_bool c u) x y = ap back (open_same o (prim_term n) (bool_term c u) x y refl)
  same_shape o (is_prim n) (is_int w u) x y = ap back (open_same o (prim_term n) (int_term w u) x y refl)
  same_shape o (is_prim n) (is_prim k) x y = ap back (open_same o (prim_term n) (prim_term k) x y refl)
  same_shape o is_present is_present x y = refl
  same_shape o is_present (is_variant s i n) x y = absurd (not_just o (of_variant s i y.0) x.0 y.1 x.1)
  same_shape o is_present (is_struct s n) x y = absurd (not_just o (of_struct s y.0) x.0 y.1 x.1)
  same_shape o is_present (is_bool b ty) x y = absurd (not_just o y.value x.0 y.there x.1)
  same_shape o is_present (is_int z ty) x y = absurd (not_just o y.value x.0 y.there x.1)
  same_shape o is_present (is_prim name) x y = absurd (not_just o y.value x.0 y.there x.1)
  same_shape o (is_variant s i n) is_present x y = absurd (not_just o (of_variant s i x.0) y.0 x.1 y.1)
  same_shape o (is_struct s n) is_present x y = absurd (not_just o (of_struct s x.0) y.0 x.1 y.1)
  same_shape o (is_bool b ty) is_present x y = absurd (not_just o x.value y.0 x.there y.1)
  same_shape o (is_int z ty) is_present x y = absurd (not_just o x.value y.0 x.there y.1)
  same_shape o (is_prim name) is_present x y = absurd (not_just o x.value y.0 x.there y.1)

-- 4. what is met
-- one of the rules that a meaning serves, whose demands are well formed and met
pub record IsMetRule (g : Given) (rs : List TypedRule) (r : TypedRule) : Type 0 where
  pub here : Contains rs r
  pub served : Serves g.program g.meaning g.args rs
  pub types : HasTypes g.program.types
  pub formed : AreFormed g.program (demands_of g.program r)
  pub met : AreMet g (demands_of g.program r)

module _ (g : Given) (rs : List TypedRule) (r : TypedRule) (of : IsMetRule g rs r) where
  abbrev here : Contains rs r
  here = of.here

  abbrev served : Serves g.program g.meaning g.args rs
  served = of.served

  abbrev types : HasTypes g.program.types
  types = of.types

  abbrev formed : AreFormed g.program (demands_of g.program r)
  formed = of.formed

  abbrev met : AreMet g (demands_of g.program r)
  met = of.met

  abbrev p : Program
  p = g.program

  abbrev m : Meaning
  m = g.meaning

  abbrev d : Demands
  d = demands_of g.program r

  asked_parts : (s : SiteTerm) (c : Constraint) → In d.constraints (s, c) → HasParts (content_of g s) c
  asked_parts s (is_variant ty i n) k =
      let a = met.asked (s, is_variant ty i n) k in
      let f = has_form m (is_variant ty i n) a.0.content a.0.meets in
      let there : content_of g s ≡ Some (one (of_variant ty i f.0)) = a.0.held ∙ ap Some f.1 in
      let t = a.1 (of_variant ty i f.0) there in
      let w = and_parts (ty == t.0) (all_well_typed p.types (variant_types (slice_get p.types t.0) i) f.0) t.1 in
      let q = formed (s, is_variant ty i n) k in
      let z : ty ≡ t.0 = eqb-true ty t.0 w.0 in
      (f.0, there, as_many_values p.types q.0 f.0 (subst (λ o. all_well_typed p.types o f.0 ≡ true) (ap (λ u. variant_types (slice_get p.types u) i) (sym z) ∙ q.1) w.1) ∙ q.2)
  asked_parts s (is_struct ty n) k =
      let a = met.asked (s, is_struct ty n) k in
      let f = has_form m (is_struct ty n) a.0.content a.0.meets in
      let there : content_of g s ≡ Some (one (of_struct ty f.0)) = a.0.held ∙ ap Some f.1 in
      let t = a.1 (of_struct ty f.0) there in
      let w = and_parts (ty == t.0) (all_well_typed p.types (struct_types (slice_get p.types t.0)) f.0) t.1 in
      let q = formed (s, is_struct ty n) k in
      let z : ty ≡ t.0 = eqb-true ty t.0 w.0 in
      (f.0, there, as_many_values p.types q.0 f.0 (subst (λ o. all_well_typed p.types o f.0 ≡ true) (ap (λ u. struct_types (slice_get p.types u)) (sym z) ∙ q.1) w.1) ∙ q.2)
  asked_parts s (is_bool b ty) k = tt
  asked_parts s (is_int z ty) k = tt
  asked_parts s (is_prim name) k = tt
  asked_parts s is_present k = tt

  same_contents : (a b : SiteTerm) → Joined d a b → content_of g a ≡ content_of g b
  same_contents = joined_content g d met.equal

  -- a field that must be there is, and is smaller
  record IsSmallerField (o : Option Content) (x : SiteTerm) : Type 0 where
    whole : Value
    there : o ≡ Some (one whole)
    part : Value
    field : content_of g x ≡ Some (one part)
    less : size part < size whole

  field_there : (c : Constraint) (s x : SiteTerm) → HasParts (content_of g s) c → In (field_terms c s) x → IsSmallerField (content_of g s) x
  field_there (is_variant ty n fields) s x h i =
      let k = slice_in (field_terms (is_variant ty n fields) s) x i in
      let f = field_is (variant_field s n) 0 fields k.0 x k.1 in
      let e = get_within (listed h.0) (0 + k.0) (let l : k.0 < fields = f.1 in let c : length (listed h.0) ≡ fields = h.2 in omega arith) in
      record {
        whole = of_variant ty n h.0;
        there = h.1;
        part = e.0;
        field = ap (content_of g) (sym f.0)
            ∙ ap (λ o. then_option (then_option o as_value) (field_of_variant n (0 + k.0))) h.1
            ∙ cond-true (n == n) (from_value (slice_get (listed h.0) (0 + k.0))) None (eq-eqb n n refl)
            ∙ ap from_value e.1;
        less = variant_size ty n h.0 (0 + k.0) e.0 e.1;
      }
  field_there (is_struct ty fields) s x h i =
      let k = slice_in (field_terms (is_struct ty fields) s) x i in
      let f = field_is (struct_field s) 0 fields k.0 x k.1 in
      let e = get_within (listed h.0) (0 + k.0) (let l : k.0 < fields = f.1 in let c : length (listed h.0) ≡ fields = h.2 in omega arith) in
      record {
        whole = of_struct ty h.0;
        there = h.1;
        part = e.0;
        field = ap (content_of g) (sym f.0) ∙ ap (λ o. then_option (then_option o as_value) (field_of_struct (0 + k.0))) h.1 ∙ ap from_value e.1;
        less = struct_size ty h.0 (0 + k.0) e.0 e.1;
      }
  field_there (is_bool b ty) s x h i = absurd i
  field_there (is_int z ty) s x h i = absurd i
  field_there (is_prim name) s x h i = absurd i
  field_there is_present s x h i = absurd i

  pub has_parts_there : (s : SiteTerm) (c : Constraint) → HasConstraint d s c → HasParts (content_of g s) c
  has_parts_there s c h = subst (λ o. HasParts o c) (same_contents h.source s h.joined) (asked_parts h.source c (in_from_contains d.constraints (h.source, c) h.asked))

  -- so the field of a constrained site has a value
  pub constrained_field : (s : SiteTerm) (c : Constraint) (x : SiteTerm) → HasConstraint d s c → In (field_terms c s) x → (v : Value) × (content_of g x ≡ Some (one v))
  constrained_field s c x h i = let f = field_there c s x (has_parts_there s c h) i in (f.part, f.field)

  -- a part's value is smaller than the whole's
  record IsSmaller (s t : SiteTerm) : Type 0 where
    part : Value
    first : content_of g s ≡ Some (one part)
    whole : Value
    second : content_of g t ≡ Some (one whole)
    less : size part < size whole

  part_smaller : (s t : SiteTerm) → IsPartOf d s t → IsSmaller s t
  part_smaller s t h =
      let f = field_there h.constraint h.whole h.field (has_parts_there h.whole h.constraint h.constrained) (in_from_contains (field_terms h.constraint h.whole) h.field h.there) in
      record {
        part = f.part;
        first = sym (same_contents h.field s h.in_class) ∙ f.field;
        whole = f.whole;
        second = sym (same_contents h.whole t h.of_class) ∙ f.there;
        less = f.less;
      }

  proper_smaller : (s t : SiteTerm) → IsProperPart d s t → IsSmaller s t
  proper_smaller s t (directly h) = part_smaller s t h
  proper_smaller s u (deeper {t = t} h k) = grind (arith, common_steps, proper_smaller t u k, part_smaller s t h, one_is, some_is, size)

  pub no_cycle : (s : SiteTerm) → IsProperPart d s s → ⊥
  no_cycle s h = grind (arith, common_steps, proper_smaller s s h, one_is, some_is, size)

  module _ (apart : TellsConstantsApart g.program g.meaning rs) where
    abbrev IsOfShape : Option Content → Constraint → Type 0
    IsOfShape = Shape g rs types apart

    is_tested : (s : SiteTerm) (c : Constraint) (u : SiteTerm) → In d.constraints (s, c) → In (constant_site c) u → Contains (tested_constants p rs) u
    is_tested s c u i j =
        contains_from_in (tested_constants p rs) u
        (in_flat_map (λ (q : TypedRule). flat_map (λ (x : SiteTerm × Constraint). constant_site x.1) (demands_of p q).constraints) rs r u (in_from_contains rs r here)
        (in_flat_map (λ (x : SiteTerm × Constraint). constant_site x.1) d.constraints (s, c) u i j))

    is_asked : (s : SiteTerm) (c : Constraint) (u : SiteTerm) → In d.constraints (s, c) → In (constant_site c) u → Contains (asked p rs) u
    is_asked s c u i j =
        contains_from_in (asked p rs) u
        (in_flat_map (λ (q : TypedRule). asked_by (demands_of p q)) rs r u (in_from_contains rs r here)
        (in_right d.made (flat_map (λ (x : SiteTerm × Constraint). constant_site x.1) d.constraints) u
        (in_flat_map (λ (x : SiteTerm × Constraint). constant_site x.1) d.constraints (s, c) u i j)))

    -- the content of a site that is asked to be a constant
    constant_at : (s : SiteTerm) (c : Constraint) (u : SiteTerm) (k : In d.constraints (s, c)) → In (constant_site c) u → (ty : ℕ) (v : Value) → (met.asked (s, c) k).0.content ≡ one v
        → written_value m u ≡ Some v → written_type p u ≡ Some ty → well_typed p.types ty v ≡ true → is_type_with_parts (slice_get p.types ty) ≡ false → MustBe g rs types apart u v → IsConstant g rs types apart (content_of g s) u
    constant_at s c u k i ty v same worth written typed atomic exact = grind (arith, common_steps, is_tested)

    asked_shape : (s : SiteTerm) (c : Constraint) → In d.constraints (s, c) → IsOfShape (content_of g s) c
    asked_shape s (is_variant ty i n) k = asked_parts s (is_variant ty i n) k
    asked_shape s (is_struct ty n) k = asked_parts s (is_struct ty n) k
    asked_shape s (is_bool b ty) k =
        let a = (met.asked (s, is_bool b ty) k).0 in
        let f = has_form m (is_bool b ty) a.content a.meets in
        constant_at s (is_bool b ty) (bool_term b ty) k (inl refl) ty f.0 f.1 f.2 refl
        (holds_there (literal_value m (bool_literal b ty)) (well_typed p.types ty) f.0 f.2 (served.bools b ty (is_asked s (is_bool b ty) (bool_term b ty) k (inl refl))))
        (ap (λ n. is_type_with_parts (slice_get p.types n)) (formed (s, is_bool b ty) k) ∙ ap is_type_with_parts types.first)
        (some_is f.0 (truth b) (sym f.2 ∙ served.written_bools b ty (is_asked s (is_bool b ty) (bool_term b ty) k (inl refl))))
    asked_shape s (is_int z ty) k =
        let a = (met.asked (s, is_int z ty) k).0 in
        let f = has_form m (is_int z ty) a.content a.meets in
        constant_at s (is_int z ty) (int_term z ty) k (inl refl) ty f.0 f.1 f.2 refl
        (holds_there (literal_value m (int_literal z ty)) (well_typed p.types ty) f.0 f.2 (served.ints z ty (is_asked s (is_int z ty) (int_term z ty) k (inl refl))))
        (literal_without_parts (slice_get p.types ty) z (formed (s, is_int z ty) k))
        (λ own. some_is f.0 (atom ty z) (sym f.2 ∙ served.written_ints z ty (is_asked s (is_int z ty) (int_term z ty) k (inl refl)) own))
    asked_shape s (is_prim name) k =
        let a = (met.asked (s, is_prim name) k).0 in
        let f = has_form m (is_prim name) a.content a.meets in
        let t = formed (s, is_prim name) k in
        constant_at s (is_prim name) (prim_term name) k (inl refl) t.0 f.0 f.1 f.2 t.1
        (subst (λ o. typed_as p o f.0 ≡ true) t.1
        (holds_there (constant_value m name) (typed_as p (constant_type p name)) f.0 f.2 (served.prims name (is_asked s (is_prim name) (prim_term name) k (inl refl)))))
        (apart.without_parts r s name t.0 here (contains_from_in d.constraints (s, is_prim name) k) t.1)
        tt
    asked_shape s is_present k = grind (arith, common_steps, has_form)

    pub shape_there : (s : SiteTerm) (c : Constraint) → HasConstraint d s c → IsOfShape (content_of g s) c
    shape_there s c h = subst (λ o. IsOfShape o c) (same_contents h.source s h.joined) (asked_shape h.source c (in_from_contains d.constraints (h.source, c) h.asked))

    pub can_be_met : IsUnreachable d → ⊥
    can_be_met (two_at_a_site s a b i j n) =
        n (same_shape g rs types apart (content_of g s) a b (asked_shape s a (in_from_contains d.constraints (s, a) i)) (asked_shape s b (in_from_contains d.constraints (s, b) j)))
    can_be_met (two_in_a_class s a b i j n) = n (same_shape g rs types apart (content_of g s) a b (shape_there s a i) (shape_there s b j))
    can_be_met (part_of_itself s h) = no_cycle s h
