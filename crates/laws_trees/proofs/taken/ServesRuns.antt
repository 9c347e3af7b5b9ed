-- A meaning that serves the rules of a term has what the runs of trees of the built set rest on.
use Rattle.std.proofs.Common.{◌≡◌, ℕ, zero, suc, ◌<◌, ◌==◌, Bool, true, false, ◌&&◌, List, [], ◌∷◌, length, Option, Some, None, is_some, slice_get, IsSomeAnd, Contains, All, IsTrue, flat_map, refl, sym, ap, subst, ◌∙◌, inl, arith, eq-eqb}
use Rattle.std.proofs.lemmas.Bool.{and_parts, and_from, cond-true, false≢true}
use Rattle.std.proofs.lemmas.List.Elements.{All-contains}
use Rattle.std.proofs.lemmas.Grind.{common_steps}
use Rattle.model.specs.lists.Tables.{TypeEntry}
use Rattle.model.specs.rules.Values.{Value, truth, atom, of_variant, of_struct, Values, listed, of_list, well_typed, all_well_typed, variant_types, struct_types}
use Rattle.model.specs.rules.Meaning.{Content, one, Meaning, constant_value}
use Rattle.model.specs.rules.Program.{Program, rules_of, arg_types}
use Rattle.model.specs.rules.Picks.{Pick}
use Rattle.model.specs.rules.Typed.{TypedRule}
use Rattle.model.specs.sites.Sites.{Site, Constraint, is_variant, is_struct, is_bool, is_int, is_prim, is_present, SetRule, SiteSet, SiteTerm, bool_term, int_term, prim_term, sources_at, unfold_site}
use Rattle.model.specs.visits.Demands.{demands_of}
use Rattle.model.specs.sites.Closure.{HasConstraint, closed}
use Rattle.model.specs.sites.Overlap.{BuiltRule}
use Rattle.model.specs.sites.Serves.{asked_by, asked, constant_site, typed_as, written_type, written_value, is_type_with_parts, tested_constants, Serves, TellsConstantsApart}
use Rattle.model.specs.trees.Places.{joins_in, below, all_below, waits, each_field, fields_of}
use Rattle.model.specs.trees.Run.{World, all_one, where_constant, content_fields, world_of}
use Rattle.model.specs.trees.Collects.{content_at, meets, IsPureAt}
use Rattle.model.proofs.Elements.{In, in_from_contains, contains_from_in, in_right, in_flat_map, none_some, some_is}
use Rattle.model.proofs.Members.{in_head}
use Rattle.model.proofs.Members as members
use Rattle.laws_typing.specs.WellTypedPrograms.{IsWellTypedProgram}
use Rattle.laws_trees.proofs.runs.Below.{IsPureBelow}
use Rattle.laws_trees.specs.ServeLaws.{ServedSetsServeTests}
use Rattle.laws_sites.proofs.Closing.{closing_is_sound_lem}
use Rattle.laws_sites.proofs.built.BuiltGates.{set_rule}
use Rattle.laws_sites.proofs.built.BuiltSets.{BuiltSet, RuleOfSet, ServingMeaning, typed_rule}
use Rattle.laws_sites.proofs.built.WellBuiltSets.{gates_of, IsTested, constrained_tested, joined_tested, tested_good}
use Rattle.laws_trees.proofs.FormedDemands.{IsFormed, rule_formed}
use Rattle.laws_trees.proofs.Shapes.{has_form, literal_without_parts, holds_there}
use Rattle.laws_trees.proofs.Unreachable.{IsConstant, MustBe, Shape, same_shape}
use Rattle.laws_trees.proofs.Visits.{given}
use Rattle.laws_trees.proofs.taken.BuiltSites.{rules_known, sites_stand}
use Rattle.laws_trees.proofs.taken.Fits.{IsWhole, AsManyFields, typed_whole, FitsForm, the_value, IsServed, ServedWorld, fits, found}
use Rattle.laws_trees.proofs.taken.Forms.{Form, a_value}
use Rattle.laws_trees.proofs.taken.SitesKnown.{Stands, made_stands, closed_known, before_stands}
use Rattle.laws_trees.proofs.runs.RuleDemands.{joined_itself}

-- 1. arguments
arg_there : (types : List TypeEntry) (tys : List ℕ) (args : List Value) → all_well_typed types (Some tys) (of_list args) ≡ true → (i : ℕ) → i < length tys → (v : Value) × (slice_get args i ≡ Some v) × IsWhole types v
arg_there types [] args h i l = absurd (omega (arith, l))
arg_there types (ty ∷ tys) [] h i l = absurd (false≢true h)
arg_there types (ty ∷ tys) (v ∷ args) h zero l = (v, refl, typed_whole types ty v (and_parts (well_typed types ty v) (all_well_typed types (Some tys) (of_list args)) h).0)
arg_there types (ty ∷ tys) (v ∷ args) h (suc i) l = arg_there types tys args (and_parts (well_typed types ty v) (all_well_typed types (Some tys) (of_list args)) h).1 i (omega (arith, l))

-- 2. the fields that a constraint brings
one_each : (vs : List Value) → length (all_one vs) ≡ length vs
one_each [] = refl
one_each (v ∷ vs) = ap suc (one_each vs)

each_counted : (f : ℕ → Site → Bool) (sites : List Site) (i n : ℕ) → length (each_field f sites i n) ≡ n
each_counted f sites i zero = refl
each_counted f sites i (suc n) = ap suc (each_counted f sites (suc i) n)

value_whole : (types : List TypeEntry) (q : Form) (v : Value) → FitsForm types q (one v) → IsWhole types v
value_whole types q v h = grind (arith, common_steps)

-- a content that meets it
meets_some : (m : Meaning) (c : Constraint) (o : Option Content) → IsTrue (meets m c o) → (x : Content) × (o ≡ Some x) × (is_some (content_fields m c x) ≡ true)
meets_some m c o h = grind (arith, common_steps)

-- a constant has no fields
pub constant_count : (o : Option Value) (v : Value) (cs : List Content) → where_constant o v ≡ Some cs → length cs ≡ 0
constant_count o v cs e = grind (arith, common_steps, none_some, some_is)

module _ (b : BuiltSet) (h : IsWellTypedProgram b.program) (serving : ServingMeaning b.program b.term) (k : Pick) where
  abbrev p : Program
  p = b.program

  abbrev set : SiteSet
  set = b.set

  abbrev m : Meaning
  m = serving.meaning

  abbrev args : List Value
  args = serving.args

  abbrev n : ℕ
  n = length (arg_types p b.term)

  abbrev rs : List TypedRule
  rs = rules_of p b.term

  abbrev w : World
  w = world_of p b.term set.sites m args

  abbrev served : Serves p m args rs
  served = serving.serves

  abbrev apart : TellsConstantsApart p m rs
  apart = serving.apart

  stands : (s : ℕ) → s < length set.sites → Stands p n rs (unfold_site set.sites s)
  stands = sites_stand b h

  pub is_served : IsServed p n rs w
  is_served = record {
    before = b.built.sources;
    forms = λ s l. (stands s l).form;
    asks = λ s l. (stands s l).asks;
    serves = served;
    args = arg_there p.types (arg_types p b.term) args serving.typed;
  }

  abbrev stage : ServedWorld
  stage = record { program = p; arity = n; rules = rs; world = w; served = is_served }

  -- 3. rules of the set
  abbrev at : (r : SetRule) → Contains set.rules r → RuleOfSet b
  at r c = set_rule b r (in_from_contains set.rules r c)

  pure_tested : (x : RuleOfSet b) (s : ℕ) → IsTested b x (gates_of b h x) s → IsPureBelow set.sites s
  pure_tested x s z u i = (let g = tested_good b x (gates_of b h x) s u z (in_from_contains (below (suc s) set.sites s) u i) in (g.site, g.there, g.pure_site))

  -- a constrained site holds what fits, and its constraint is one of a rule's, of a site that must be equal
  pub record IsAsked (s : ℕ) (c : Constraint) : Type 0 where
    known_site : s < length set.sites
    pure : IsPureBelow set.sites s
    rule : TypedRule
    listed : In rs rule
    constrained : HasConstraint (demands_of p rule) (unfold_site set.sites s) c

  pub is_asked : (r : SetRule) → Contains set.rules r → (s : ℕ) (c : Constraint) → Contains r.constraints (s, c) → IsAsked s c
  is_asked r i s c j =
      let o = at r i in
      let a = o.is.constraints.asked s c j in
      let f = before_stands p n rs [] (λ u y. absurd y) rs (λ q y. (y, rules_known b h q y)) o.typed o.listed in
      record {
        known_site = a.0;
        pure = pure_tested o s (constrained_tested b o (gates_of b h o) s c (in_from_contains r.constraints (s, c) j));
        rule = f.1;
        listed = f.3;
        constrained = (closing_is_sound_lem f.0 (demands_of p f.1)).constraints (unfold_site set.sites s) c
            (subst (λ (y : BuiltRule). Contains y.demands.constraints (unfold_site set.sites s, c)) (sym f.5) a.1);
      }

  asked_formed : (s : ℕ) (c : Constraint) → IsAsked s c → IsFormed p c
  asked_formed s c a =
      rule_formed p h.parts a.rule (typed_rule p b.term a.rule h (contains_from_in rs a.rule a.listed)).formed (a.constrained.source, c) (in_from_contains (demands_of p a.rule).constraints (a.constrained.source, c) a.constrained.asked)

  whole_here : (s : ℕ) (c : Constraint) → IsAsked s c → (v : Value) → content_at w k s ≡ Some (one v) → IsWhole p.types v
  whole_here s c a v x = (let f = is_served.forms s a.known_site in value_whole p.types f.0 v (fits stage k s a.pure f.0 f.1 (one v) x))

  -- as many values as the constraint has fields
  same_count : (o : Option (List ℕ)) (vs : Values) (c : ℕ) → AsManyFields o vs → (tys : List ℕ) × (o ≡ Some tys) × (length tys ≡ c) → length (listed vs) ≡ c
  same_count o vs c f g = f.2 ∙ ap length (some_is f.0 g.0 (sym f.1 ∙ g.1)) ∙ g.2

  pub fields_counted : (s : ℕ) (d : Constraint) → IsAsked s d → (c : Content) (cs : List Content) → content_at w k s ≡ Some c → content_fields m d c ≡ Some cs → length cs ≡ length (fields_of set.sites s d)
  fields_counted s (is_variant ty i f) a c cs x y =
      let g = has_form m (is_variant ty i f) c (ap is_some y) in
      let z = whole_here s (is_variant ty i f) a (of_variant ty i g.0) (x ∙ ap Some g.1) in
      variant_count ty i f g.0 c cs g.1 y ∙ same_count (variant_types (slice_get p.types ty) i) g.0 f z.0 (asked_formed s (is_variant ty i f) a) ∙ sym (each_counted _ set.sites 0 f)
    where
      variant_count : (ty i f : ℕ) (vs : Values) (c : Content) (cs : List Content) → c ≡ one (of_variant ty i vs) → content_fields m (is_variant ty i f) c ≡ Some cs → length cs ≡ length (listed vs)
      variant_count ty i f vs c cs e q =
          let here : content_fields m (is_variant ty i f) (one (of_variant ty i vs)) ≡ Some (all_one (listed vs)) =
          cond-true ((ty == ty) && (i == i)) (Some (all_one (listed vs))) None (and_from (ty == ty) (i == i) (eq-eqb ty ty refl) (eq-eqb i i refl)) in
          ap length (some_is cs (all_one (listed vs)) (sym q ∙ ap (content_fields m (is_variant ty i f)) e ∙ here)) ∙ one_each (listed vs)
  fields_counted s (is_struct ty f) a c cs x y =
      let g = has_form m (is_struct ty f) c (ap is_some y) in
      let z = whole_here s (is_struct ty f) a (of_struct ty g.0) (x ∙ ap Some g.1) in
      struct_count ty f g.0 c cs g.1 y ∙ same_count (struct_types (slice_get p.types ty)) g.0 f z.0 (asked_formed s (is_struct ty f) a) ∙ sym (each_counted _ set.sites 0 f)
    where
      struct_count : (ty f : ℕ) (vs : Values) (c : Content) (cs : List Content) → c ≡ one (of_struct ty vs) → content_fields m (is_struct ty f) c ≡ Some cs → length cs ≡ length (listed vs)
      struct_count ty f vs c cs e q =
          let here : content_fields m (is_struct ty f) (one (of_struct ty vs)) ≡ Some (all_one (listed vs)) = cond-true (ty == ty) (Some (all_one (listed vs))) None (eq-eqb ty ty refl) in
          ap length (some_is cs (all_one (listed vs)) (sym q ∙ ap (content_fields m (is_struct ty f)) e ∙ here)) ∙ one_each (listed vs)
  fields_counted s (is_bool v ty) a c cs x y = grind (arith, common_steps, has_form, constant_count)
  fields_counted s (is_int z ty) a c cs x y = grind (arith, common_steps, has_form, constant_count)
  fields_counted s (is_prim name) a c cs x y = grind (arith, common_steps, has_form, constant_count)
  fields_counted s is_present a c cs x y = grind (arith, common_steps, has_form, some_is)

  -- 4. what a constraint's content is
  constant_asked : (s : ℕ) (c : Constraint) (a : IsAsked s c) (u : SiteTerm) → In (constant_site c) u → Contains (asked p rs) u
  constant_asked s c a u i =
      contains_from_in (asked p rs) u
      (in_flat_map (λ (q : TypedRule). asked_by (demands_of p q)) rs a.rule u a.listed
      (in_right (demands_of p a.rule).made (flat_map (λ (x : SiteTerm × Constraint). constant_site x.1) (demands_of p a.rule).constraints) u
      (in_flat_map (λ (x : SiteTerm × Constraint). constant_site x.1) (demands_of p a.rule).constraints (a.constrained.source, c) u (in_from_contains (demands_of p a.rule).constraints (a.constrained.source, c) a.constrained.asked) i)))

  constant_tested : (s : ℕ) (c : Constraint) (a : IsAsked s c) (u : SiteTerm) → In (constant_site c) u → Contains (tested_constants p rs) u
  constant_tested s c a u i =
      contains_from_in (tested_constants p rs) u
      (in_flat_map (λ (q : TypedRule). flat_map (λ (x : SiteTerm × Constraint). constant_site x.1) (demands_of p q).constraints) rs a.rule u a.listed
      (in_flat_map (λ (x : SiteTerm × Constraint). constant_site x.1) (demands_of p a.rule).constraints (a.constrained.source, c) u (in_from_contains (demands_of p a.rule).constraints (a.constrained.source, c) a.constrained.asked) i))

  abbrev ShapeAt : ℕ → Constraint → Type 0
  ShapeAt s d = Shape (given p m args k) rs h.types apart (content_at w k s) d

  -- the content that meets a constant's constraint is its value, of its type, which has no parts
  constant_shape : (s ty : ℕ) (d : Constraint) (a : IsAsked s d) (u : SiteTerm) → In (constant_site d) u → (c : Content) → content_at w k s ≡ Some c
      → (v : Value) × (c ≡ one v) × (written_value m u ≡ Some v) → written_type p u ≡ Some ty
      → (Contains (asked p rs) u → IsSomeAnd (written_value m u) (λ v. IsTrue (well_typed p.types ty v))) → is_type_with_parts (slice_get p.types ty) ≡ false
      → ((v : Value) → written_value m u ≡ Some v → MustBe (given p m args k) rs h.types apart u v)
      → IsConstant (given p m args k) rs h.types apart (content_at w k s) u
  constant_shape s ty d a u i c x g written has atomic exact = record {
    value = g.0;
    there = x ∙ ap Some g.1;
    ty = ty;
    written = written;
    worth = g.2;
    typed = holds_there (written_value m u) (well_typed p.types ty) g.0 g.2 (has (constant_asked s d a u i));
    atomic = atomic;
    tested = constant_tested s d a u i;
    exact = exact g.0 g.2;
  }

  shape_at : (s : ℕ) (d : Constraint) → IsAsked s d → (c : Content) → content_at w k s ≡ Some c → is_some (content_fields m d c) ≡ true → ShapeAt s d
  shape_at s (is_variant ty i f) a c x y =
      let g = has_form m (is_variant ty i f) c y in
      let z = whole_here s (is_variant ty i f) a (of_variant ty i g.0) (x ∙ ap Some g.1) in
      (g.0, x ∙ ap Some g.1, same_count (variant_types (slice_get p.types ty) i) g.0 f z.0 (asked_formed s (is_variant ty i f) a))
  shape_at s (is_struct ty f) a c x y =
      let g = has_form m (is_struct ty f) c y in
      let z = whole_here s (is_struct ty f) a (of_struct ty g.0) (x ∙ ap Some g.1) in
      (g.0, x ∙ ap Some g.1, same_count (struct_types (slice_get p.types ty)) g.0 f z.0 (asked_formed s (is_struct ty f) a))
  shape_at s (is_bool v ty) a c x y =
      constant_shape s ty (is_bool v ty) a (bool_term v ty) (inl refl) c x (has_form m (is_bool v ty) c y) refl (served.bools v ty)
      (ap (λ i. is_type_with_parts (slice_get p.types i)) (asked_formed s (is_bool v ty) a) ∙ ap is_type_with_parts h.types.first)
      (λ w f. some_is w (truth v) (sym f ∙ served.written_bools v ty (constant_asked s (is_bool v ty) a (bool_term v ty) (inl refl))))
  shape_at s (is_int z ty) a c x y =
      constant_shape s ty (is_int z ty) a (int_term z ty) (inl refl) c x (has_form m (is_int z ty) c y) refl (served.ints z ty)
      (literal_without_parts (slice_get p.types ty) z (asked_formed s (is_int z ty) a))
      (λ w f own. some_is w (atom ty z) (sym f ∙ served.written_ints z ty (constant_asked s (is_int z ty) a (int_term z ty) (inl refl)) own))
  shape_at s (is_prim name) a c x y =
      let f = asked_formed s (is_prim name) a in
      constant_shape s f.0 (is_prim name) a (prim_term name) (inl refl) c x (has_form m (is_prim name) c y) f.1
      (λ i. subst (λ o. IsSomeAnd (constant_value m name) (λ v. IsTrue (typed_as p o v))) f.1 (served.prims name i))
      (apart.without_parts a.rule a.constrained.source name f.0 (contains_from_in rs a.rule a.listed) a.constrained.asked f.1)
      (λ w h. tt)
  shape_at s is_present a c x y = (let g = has_form m is_present c y in (g.0, x ∙ ap Some g.1))

  pub one_constraint : (s : ℕ) (d f : Constraint) → IsAsked s d → IsAsked s f → IsTrue (meets m d (content_at w k s)) → IsTrue (meets m f (content_at w k s)) → d ≡ f
  one_constraint s d f a c x y =
      let u = meets_some m d (content_at w k s) x in
      let v = meets_some m f (content_at w k s) y in
      same_shape (given p m args k) rs h.types apart (content_at w k s) d f (shape_at s d a u.0 u.1 u.2) (shape_at s f c v.0 v.1 v.2)

  -- 5. equal sites

  pub equal_value : (r : SetRule) → Contains set.rules r → (a c : ℕ) → IsTrue (joins_in r.classes a c) → (x : Content) → content_at w k a ≡ Some x → (v : Value) × (x ≡ one v)
  equal_value r i a c j x z =
      let o = at r i in
      let q = o.is.classes.joined a c j in
      let f = before_stands p n rs [] (λ u y. absurd y) rs (λ s y. (y, rules_known b h s y)) o.typed o.listed in
      let l = closed_known p n rs f.0 f.2 (demands_of p f.1) (made_stands p n rs f.1 f.3 f.4) f.4 in
      let v = l.members q.2 (unfold_site set.sites a) (in_from_contains (closed f.0 (demands_of p f.1)).classes q.2 (subst (λ (y : BuiltRule). Contains y.demands.classes q.2) (sym f.5) q.3)) (in_from_contains q.2 (unfold_site set.sites a) q.4) in
      let g = the_value p.types x (fits stage k a (pure_tested o a (joined_tested b o (gates_of b h o) a (joined_itself r.classes a c j))) a_value v x z) in
      (g.0, g.1)

  -- 6. sites that wait for nothing
  pub found_there : (s : ℕ) → All (IsPureAt set.sites) (all_below set.sites (s ∷ [])) → waits (slice_get set.sites s) ≡ false
      → All (λ a. IsTrue (is_some (content_at w k a))) (sources_at set.sites s) → IsTrue (is_some (content_at w k s))
  found_there s pure wait f =
      found stage k s
      (λ u i. All-contains (IsPureAt set.sites) (all_below set.sites (s ∷ [])) u pure (members.in_flat_map (λ x. below (suc x) set.sites x) (s ∷ []) s u (in_head s []) i)) wait
      (λ a c. All-contains (λ x. IsTrue (is_some (content_at w k x))) (sources_at set.sites s) a f c)

pub served_sets_serve_tests_lem : ServedSetsServeTests
served_sets_serve_tests_lem p t set h built m args typed served apart = record {
  sites = refl;
  found = found_there b h serving [];
  values = λ r a c x i j z. equal_value b h serving [] r i a c j x z;
  fields = λ r s d c cs i j x y. fields_counted b h serving [] s d (is_asked b h serving [] r i s d j) c cs x y;
  apart = λ r q s d f i j x y u v. one_constraint b h serving [] s d f (is_asked b h serving [] r i s d x) (is_asked b h serving [] q j s f y) u v;
}
  where
    b : BuiltSet
    b = record { program = p; term = t; set = set; built = built }

    serving : ServingMeaning p t
    serving = record { meaning = m; args = args; typed = typed; serves = served; apart = apart }
