-- What the sites of a run stand for: values, fields, answers and results, by their parts.
use Rattle.std.proofs.Common.{Bool, false, ◌≡◌, ℕ, ℤ, suc, ◌&&◌, true, List, ◌∷◌, Option, Some, slice_get, refl, sym, ap, subst, ◌∙◌, arith}
use Rattle.std.proofs.lemmas.Grind.{common_steps}
use Rattle.std.proofs.lemmas.Bool.{and_parts, and_from, eqb-true}
use Rattle.model.specs.lists.Tables.{TypeEntry}
use Rattle.model.specs.rules.Values.{Value, truth, atom, of_variant, of_struct, Values, no_value, value_and, listed, of_list, well_typed, all_well_typed, is_truth_type, has_atoms, variant_types, struct_types}
use Rattle.model.specs.rules.Meaning.{Content, one, parts, just, Meaning, constant_value, extractor_answer}
use Rattle.model.specs.rules.Outcome.{Call, then_option}
use Rattle.model.specs.rules.Program.{Program}
use Rattle.model.specs.rules.Picks.{Pick, part_of_some, field_of_variant, field_of_struct, call_answer, site_content, site_values}
use Rattle.model.specs.sites.Sites.{SiteTerm, bool_term, int_term, prim_term, argument, extractor_call, constructor_call, pick_of, variant_made, variant_field, struct_made, struct_field, some_made, some_part, tuple_part, no_site, SiteTerms, no_site_term, site_term_and}
use Rattle.model.specs.trees.Run.{as_value, from_value, part_at}
use Rattle.model.proofs.Elements.{or_left, or_right, some_is, none_some}
use Rattle.model.proofs.Options.{then_some}
use Rattle.laws_trees.proofs.picks.HeldContents.{is_just}
use Rattle.laws_specs.specs.Words.{Denoted, DenotedList, denoted_list, is_formed, are_formed}
use Rattle.laws_specs.specs.Specs.{Specs, sort_of}
use Rattle.laws_specs.specs.Conditions.{ToldContent, told, is_told_formed, as_denoted, denoted_at_each, IsPartHeld, IsHeldAs, is_atom_as, is_of_type, are_of_types, is_without_atoms}
use Rattle.laws_specs.specs.Meets.{Atoms, stands_for, stand_for, content_as, IsDenotation, MeetsSpecs}

-- 1. optional contents
pub is_value : (o : Option Content) (v : Value) → then_option o as_value ≡ Some v → o ≡ Some (one v)
is_value o v e = grind (arith, common_steps, none_some, some_is)

abbrev pub told_of : Atoms → Option Content → Option ToldContent
told_of d o = then_option o (λ c. Some (content_as d c))

abbrev pub denoted_of : Atoms → Option Value → Option Denoted
denoted_of d o = then_option o (λ v. Some (stands_for d v))

abbrev pub all_denoted_of : Atoms → Option Values → Option DenotedList
all_denoted_of d o = then_option o (λ vs. Some (stand_for d vs))

value_told : (d : Atoms) (o : Option Content) → then_option (told_of d o) as_denoted ≡ denoted_of d (then_option o as_value)
value_told d o = grind (arith, common_steps)

pub told_same : (x y : Denoted) → told x ≡ told y → x ≡ y
told_same x y e = cc

-- what a site that stands for something holds
pub told_there : (d : Atoms) (o : Option Content) (h : ToldContent) → told_of d o ≡ Some h → (c : Content) × (o ≡ Some c) × (content_as d c ≡ h)
told_there d o h e = let a = then_some o (λ c. Some (content_as d c)) h e in (a.0, a.1, some_is (content_as d a.0) h a.2)

pub values_there : (d : Atoms) (o : Option Values) (xs : DenotedList) → all_denoted_of d o ≡ Some xs → (vs : Values) × (o ≡ Some vs) × (stand_for d vs ≡ xs)
values_there d o xs e = let a = then_some o (λ vs. Some (stand_for d vs)) xs e in (a.0, a.1, some_is (stand_for d a.0) xs a.2)

one_told : (d : Atoms) (c : Content) (x : Denoted) → content_as d c ≡ told x → (v : Value) × (c ≡ one v) × (stands_for d v ≡ x)
one_told d (one v) x e = grind (arith, common_steps)
one_told d c x e = grind (arith, common_steps)

pub value_there : (d : Atoms) (o : Option Content) (x : Denoted) → told_of d o ≡ Some (told x) → (v : Value) × (o ≡ Some (one v)) × (stands_for d v ≡ x)
value_there d o x e = grind (arith, common_steps, told_there d o (told x) e, one_told d, told_there, one_told)

pub value_held : (d : Atoms) (o : Option Value) (c : Content) → from_value o ≡ Some c → (v : Value) × (o ≡ Some v) × (content_as d c ≡ told (stands_for d v))
value_held d o c e = grind (arith, common_steps, none_some, some_is)

-- a field of values
pub field_there : (d : Atoms) (vs : Values) (i : ℕ) (v : Value) → slice_get (listed vs) i ≡ Some v → slice_get (denoted_list (stand_for d vs)) i ≡ Some (stands_for d v)
field_there d (value_and w vs) (suc i) v e = field_there d vs i v e
field_there d vs i v e = grind (arith, common_steps, none_some, some_is)

pub argument_there : (d : Atoms) (args : List Value) (i : ℕ) (v : Value) → slice_get args i ≡ Some v → slice_get (denoted_list (stand_for d (of_list args))) i ≡ Some (stands_for d v)
argument_there d (w ∷ args) (suc i) v e = argument_there d args i v e
argument_there d h i v e = grind (arith, common_steps, none_some, some_is)

part_held : (d : Atoms) (vs : Values) (i : ℕ) (c : Content) → from_value (slice_get (listed vs) i) ≡ Some c → IsPartHeld (stand_for d vs) i (content_as d c)
part_held d vs i c e = grind (arith, common_steps, value_held d (slice_get (listed vs) i) c e, field_there d vs i, value_held, field_there)

-- and back
pub field_back : (d : Atoms) (vs : Values) (i : ℕ) (x : Denoted) → slice_get (denoted_list (stand_for d vs)) i ≡ Some x → (v : Value) × (slice_get (listed vs) i ≡ Some v) × (stands_for d v ≡ x)
field_back d (value_and w vs) (suc i) x e = field_back d vs i x e
field_back d vs i x e = grind (arith, common_steps, none_some, some_is)

pub argument_back : (d : Atoms) (args : List Value) (i : ℕ) (x : Denoted) → slice_get (denoted_list (stand_for d (of_list args))) i ≡ Some x → (v : Value) × (slice_get args i ≡ Some v) × (stands_for d v ≡ x)
argument_back d (w ∷ args) (suc i) x e = argument_back d args i x e
argument_back d h i x e = grind (arith, common_steps, none_some, some_is)

pub part_back : (d : Atoms) (vs : Values) (i : ℕ) (h : ToldContent) → IsPartHeld (stand_for d vs) i h → (v : Value) × (from_value (slice_get (listed vs) i) ≡ Some (one v)) × (told (stands_for d v) ≡ h)
part_back d vs i h a = let b = field_back d vs i a.part a.there in (b.0, ap from_value b.1, ap told b.2 ∙ sym a.held)

-- 2. fields, parts and picks
variant_there : (variant i : ℕ) (v : Value) (c : Content) → field_of_variant variant i v ≡ Some c
    → (ty : ℕ) × (vs : Values) × (v ≡ of_variant ty variant vs) × (from_value (slice_get (listed vs) i) ≡ Some c)
variant_there variant i v c e = grind (arith, common_steps, eqb-true, none_some)

struct_there : (i : ℕ) (v : Value) (c : Content) → field_of_struct i v ≡ Some c → (ty : ℕ) × (vs : Values) × (v ≡ of_struct ty vs) × (from_value (slice_get (listed vs) i) ≡ Some c)
struct_there i v c e = grind (arith, common_steps, none_some)

parts_there : (i : ℕ) (a c : Content) → part_at a i ≡ Some c → (vs : Values) × (a ≡ parts vs) × (from_value (slice_get (listed vs) i) ≡ Some c)
parts_there i a c e = grind (arith, common_steps, none_some)

-- 3. the sites of a run, under a pick
pub record Called : Type 0 where
  pub program : Program
  pub specs : Specs
  pub atoms : Atoms
  pub meaning : Meaning
  pub args : List Value
  pub pick : Pick
  pub calls : List Call
  pub denotes : IsDenotation program specs atoms
  pub meets : MeetsSpecs specs atoms meaning calls

module _ (k : Called) where
  abbrev d : Atoms
  d = k.atoms

  abbrev m : Meaning
  m = k.meaning

  abbrev pub content : SiteTerm → Option Content
  content s = site_content k.meaning k.args k.pick s

  abbrev pub values : SiteTerms → Option Values
  values ss = site_values k.meaning k.args k.pick ss

  abbrev pub sites_as : SiteTerm → Option ToldContent
  sites_as s = told_of k.atoms (content s)

  abbrev pub args_as : DenotedList
  args_as = stand_for k.atoms (of_list k.args)

  pub each_told : (ss : SiteTerms) → denoted_at_each sites_as ss ≡ all_denoted_of d (values ss)
  each_told (site_term_and s ss) = grind (arith, common_steps, each_told ss, value_told)
  each_told no_site_term = refl

  pub told_values : (ss : SiteTerms) (vs : Values) → values ss ≡ Some vs → denoted_at_each sites_as ss ≡ Some (stand_for d vs)
  told_values ss vs e = each_told ss ∙ ap (all_denoted_of d) e

  pub told_site : (s : SiteTerm) (c : Content) → content s ≡ Some c → sites_as s ≡ Some (content_as d c)
  told_site s c e = ap (told_of d) e

  content_held : (s : SiteTerm) (c : Content) → content s ≡ Some c → IsHeldAs k.specs args_as sites_as s (content_as d c)
  content_held (bool_term b ty) c e = grind (arith, common_steps, value_held)
  content_held (int_term z ty) c e = grind (arith, common_steps, value_held)
  content_held (prim_term name) c e = λ x l. let a = value_held d (constant_value m name) c e in a.2 ∙ ap told (k.meets.constants name a.0 x a.1 l)
  content_held (argument i) c e = grind (arith, common_steps, value_held, argument_there)
  content_held (extractor_call t s) c e =
      let a = then_some (then_option (content s) as_value) (extractor_answer m t) c e in (stands_for d a.0, told_site s (one a.0) (is_value (content s) a.0 a.1))
  content_held (constructor_call t ss n) c e = let a = then_some (values ss) (call_answer m t n) c e in (stand_for d a.0, told_values ss a.0 a.1)
  content_held (pick_of s) c e = grind (arith, then_some, told_site, none_some)
  content_held (variant_made ty variant ss) c e =
      let a = then_some (values ss) (λ vs. Some (one (of_variant ty variant vs))) c e in
      (stand_for d a.0, told_values ss a.0 a.1, ap (content_as d) (sym (some_is (one (of_variant ty variant a.0)) c a.2)))
  content_held (variant_field s variant i) c e =
      let a = then_some (then_option (content s) as_value) (field_of_variant variant i) c e in
      let b = variant_there variant i a.0 c a.2 in
      (b.0, stand_for d b.1, told_site s (one a.0) (is_value (content s) a.0 a.1) ∙ ap (λ v. Some (told (stands_for d v))) b.2, part_held d b.1 i c b.3)
  content_held (struct_made ty ss) c e =
      let a = then_some (values ss) (λ vs. Some (one (of_struct ty vs))) c e in
      (stand_for d a.0, told_values ss a.0 a.1, ap (content_as d) (sym (some_is (one (of_struct ty a.0)) c a.2)))
  content_held (struct_field s i) c e =
      let a = then_some (then_option (content s) as_value) (field_of_struct i) c e in
      let b = struct_there i a.0 c a.2 in
      (b.0, stand_for d b.1, told_site s (one a.0) (is_value (content s) a.0 a.1) ∙ ap (λ v. Some (told (stands_for d v))) b.2, part_held d b.1 i c b.3)
  content_held (some_made s) c e =
      let a = then_some (content s) (λ x. Some (just x)) c e in (content_as d a.0, told_site s a.0 a.1, ap (content_as d) (sym (some_is (just a.0) c a.2)))
  content_held (some_part s) c e = let a = then_some (content s) part_of_some c e in told_site s a.0 a.1 ∙ ap (λ x. Some (content_as d x)) (is_just a.0 c a.2)
  content_held (tuple_part s i) c e =
      let a = then_some (content s) (λ x. part_at x i) c e in
      let b = parts_there i a.0 c a.2 in
      (stand_for d b.0, told_site s a.0 a.1 ∙ ap (λ x. Some (content_as d x)) b.1, part_held d b.0 i c b.2)
  content_held no_site c e = none_some c e

  pub site_held : (s : SiteTerm) (h : ToldContent) → sites_as s ≡ Some h → IsHeldAs k.specs args_as sites_as s h
  site_held s h e = let a = told_there d (content s) h e in subst (IsHeldAs k.specs args_as sites_as s) a.2 (content_held s a.0 a.1)

  -- 4. words lie below 2 to their width
  mutual
    value_formed : (v : Value) → is_formed (stands_for d v) ≡ true
    value_formed (of_variant ty variant vs) = values_formed vs
    value_formed (of_struct ty vs) = values_formed vs
    value_formed v = grind (arith, common_steps)

    pub values_formed : (vs : Values) → are_formed (stand_for d vs) ≡ true
    values_formed no_value = refl
    values_formed (value_and v vs) = ap (λ b. b && are_formed (stand_for d vs)) (value_formed v) ∙ values_formed vs

  content_formed : (c : Content) → is_told_formed (content_as d c) ≡ true
  content_formed (just c) = content_formed c
  content_formed c = grind (arith, common_steps, value_formed, values_formed)

  pub site_formed : (s : SiteTerm) (h : ToldContent) → sites_as s ≡ Some h → is_told_formed h ≡ true
  site_formed s h e = let a = told_there d (content s) h e in subst (λ x. is_told_formed x ≡ true) a.2 (content_formed a.0)

  -- 5. values of a type stand for what its values may stand for
  abbrev types : List TypeEntry
  types = k.program.types

  atom_as : (ty : ℕ) (z : ℤ) → has_atoms (slice_get types ty) ≡ true → is_without_atoms types k.specs ty ≡ false → is_atom_as (slice_get types ty) (sort_of k.specs ty) (d ty z) ≡ true
  atom_as ty z h e = grind (arith, common_steps, and_from, or_right, or_left)

  -- an atom of a type that has none stands for one of its variants
  atom_typed : (ty : ℕ) (z : ℤ) → has_atoms (slice_get types ty) ≡ true → is_of_type types k.specs ty (d ty z) ≡ true
  atom_typed ty z h = by (is_without_atoms types k.specs ty) refl
    where
      of_atoms : (x : Denoted) → is_atom_as (slice_get types ty) (sort_of k.specs ty) x ≡ true → is_of_type types k.specs ty x ≡ true
      of_atoms x a = grind (arith, common_steps, or_left, or_right, and_from)

      by : (b : Bool) → is_without_atoms types k.specs ty ≡ b → is_of_type types k.specs ty (d ty z) ≡ true
      by true e = k.denotes.made ty z e
      by false e = of_atoms (d ty z) (atom_as ty z h e)

  mutual
    pub value_typed : (ty : ℕ) (v : Value) → well_typed types ty v ≡ true → is_of_type types k.specs ty (stands_for d v) ≡ true
    value_typed ty (truth b) h = or_left (is_truth_type (slice_get types ty) && true) _ (and_from (is_truth_type (slice_get types ty)) true h refl)
    value_typed ty (atom s z) h = grind (arith, common_steps, and_parts, eqb-true, atom_typed)
    value_typed ty (of_variant s i vs) h = grind (arith, common_steps, values_typed (variant_types (slice_get types ty) i) vs, and_parts, or_right, and_from)
    value_typed ty (of_struct s vs) h = grind (arith, common_steps, values_typed (struct_types (slice_get types ty)) vs, and_parts, or_right, and_from)

    pub values_typed : (tys : Option (List ℕ)) (vs : Values) → all_well_typed types tys vs ≡ true → are_of_types types k.specs tys (stand_for d vs) ≡ true
    values_typed (Some (ty ∷ tys)) (value_and v vs) h = grind (arith, common_steps, value_typed ty v, values_typed (Some tys) vs, and_parts, and_from)
    values_typed tys vs h = grind (arith, common_steps)
