-- What a meaning must have for the rules of a term, and that it tells constants apart.
use Rattle.std.specs.Prelude.{◌≡◌, ℕ, ℤ, suc, Bool, true, false, not, ◌||◌, List, [], ◌∷◌, ◌++◌, Option, Some, None, slice_get, is_some, take, All, Contains, IsTrue, IsSomeAnd}
use Rattle.std.specs.Bool.{◌==◌}
use Rattle.std.specs.List.{flat_map, list_all}
use Rattle.model.specs.lists.Tables.{TypeEntry, builtin_type, enum_type, struct_type, TermEntry}
use Rattle.model.specs.rules.Values.{Value, truth, atom, Values, no_value, value_and, of_variant, of_struct, well_typed, all_well_typed, listed}
use Rattle.model.specs.rules.Meaning.{Content, one, parts, nothing, just, many, contents, Meaning, look, bool_literal, int_literal, literal_value, constant_value, extractor_answer, pure_answer, impure_answer}
use Rattle.model.specs.rules.Matching.{matches}
use Rattle.model.specs.rules.Picks.{Pick, site_content, site_values, HasContent}
use Rattle.model.specs.rules.Program.{Program, Kind, a_call, kind}
use Rattle.model.specs.sites.Sites.{Constraint, is_bool, is_int, is_prim, SiteTerm, bool_term, int_term, prim_term, argument, extractor_call, constructor_call, pick_of, variant_made, variant_field, struct_made, struct_field, some_made, some_part, tuple_part, SiteTerms, no_site_term, site_term_and}
use Rattle.model.specs.visits.Demands.{Demands, demands_of}
use Rattle.model.specs.rules.Typed.{TypedRule}

-- what a site can hold on these arguments: one content, but for picks, which hold each answer of their call
mutual
  pub data Holds (m : Meaning) (args : List Value) : SiteTerm → Content → Type 0 where
    holds_bool : {b : Bool} {ty : ℕ} {v : Value} → literal_value m (bool_literal b ty) ≡ Some v → Holds m args (bool_term b ty) (one v)
    holds_int : {z : ℤ} {ty : ℕ} {v : Value} → literal_value m (int_literal z ty) ≡ Some v → Holds m args (int_term z ty) (one v)
    holds_prim : {name : ℕ} {v : Value} → constant_value m name ≡ Some v → Holds m args (prim_term name) (one v)
    holds_argument : {i : ℕ} {v : Value} → slice_get args i ≡ Some v → Holds m args (argument i) (one v)
    holds_extractor : {t : ℕ} {s : SiteTerm} {v : Value} {c : Content} → Holds m args s (one v) → extractor_answer m t v ≡ Some c → Holds m args (extractor_call t s) c
    holds_pure : {t : ℕ} {ss : SiteTerms} {vs : Values} {c : Content} → HoldsAll m args ss vs → pure_answer m t vs ≡ Some c → Holds m args (constructor_call t ss 0) c
    holds_impure : {t before : ℕ} {ss : SiteTerms} {vs : Values} {c : Content} → HoldsAll m args ss vs → impure_answer m t before ≡ Some c → Holds m args (constructor_call t ss (suc before)) c
    holds_pick : {s : SiteTerm} {cs : _} {c : Content} → Holds m args s (many cs) → Contains (contents cs) c → Holds m args (pick_of s) c
    holds_variant : {ty variant : ℕ} {ss : SiteTerms} {vs : Values} → HoldsAll m args ss vs → Holds m args (variant_made ty variant ss) (one (of_variant ty variant vs))
    holds_variant_field : {s : SiteTerm} {ty variant i : ℕ} {vs : Values} {v : Value} → Holds m args s (one (of_variant ty variant vs)) → slice_get (listed vs) i ≡ Some v → Holds m args (variant_field s variant i) (one v)
    holds_struct : {ty : ℕ} {ss : SiteTerms} {vs : Values} → HoldsAll m args ss vs → Holds m args (struct_made ty ss) (one (of_struct ty vs))
    holds_struct_field : {s : SiteTerm} {ty i : ℕ} {vs : Values} {v : Value} → Holds m args s (one (of_struct ty vs)) → slice_get (listed vs) i ≡ Some v → Holds m args (struct_field s i) (one v)
    holds_some : {s : SiteTerm} {c : Content} → Holds m args s c → Holds m args (some_made s) (just c)
    holds_part : {s : SiteTerm} {c : Content} → Holds m args s (just c) → Holds m args (some_part s) c
    holds_tuple_part : {s : SiteTerm} {i : ℕ} {vs : Values} {v : Value} → Holds m args s (parts vs) → slice_get (listed vs) i ≡ Some v → Holds m args (tuple_part s i) (one v)

  pub data HoldsAll (m : Meaning) (args : List Value) : SiteTerms → Values → Type 0 where
    holds_none : HoldsAll m args no_site_term no_value
    holds_and : {s : SiteTerm} {ss : SiteTerms} {v : Value} {vs : Values} → Holds m args s (one v) → HoldsAll m args ss vs → HoldsAll m args (site_term_and s ss) (value_and v vs)

-- the constant that a constraint names, as a site
abbrev pub constant_site : Constraint → List SiteTerm
constant_site (is_bool b ty) = bool_term b ty ∷ []
constant_site (is_int z ty) = int_term z ty ∷ []
constant_site (is_prim name) = prim_term name ∷ []
constant_site _ = []

-- the sites that a rule makes, and the constants that its patterns name
abbrev pub asked_by : Demands → List SiteTerm
asked_by d = d.made ++ flat_map (λ c. constant_site c.1) d.constraints

abbrev pub asked : Program → List TypedRule → List SiteTerm
asked p rs = flat_map (λ r. asked_by (demands_of p r)) rs

-- an answer of the right form and types: `optional` where the call may answer nothing
abbrev pub fits_one : Program → List ℕ → Content → Bool
fits_one p (ty ∷ []) (one v) = well_typed p.types ty v
fits_one p (ty ∷ []) _ = false
fits_one p tys (parts vs) = all_well_typed p.types (Some tys) vs
fits_one p tys _ = false

abbrev pub fits_answer : Program → Bool → Bool → List ℕ → Content → Bool
fits_answer p true optional tys (many cs) = list_all (fits_one p tys) (contents cs)
fits_answer p true optional tys _ = false
fits_answer p false true tys nothing = true
fits_answer p false true tys (just c) = fits_one p tys c
fits_answer p false true tys _ = false
fits_answer p false false tys c = fits_one p tys c

abbrev pub term_args : Option TermEntry → List ℕ
term_args None = []
term_args (Some e) = e.arg_tys

abbrev pub term_results : Option TermEntry → List ℕ
term_results None = []
term_results (Some e) = e.ret_ty ∷ []

-- an extractor answers its term's arguments, a constructor its term's result
abbrev pub fits_extractor : Program → ℕ → Kind → Content → Bool
fits_extractor p t (a_call flags true) c = fits_answer p flags.multi false (term_args (slice_get p.terms t)) c
fits_extractor p t (a_call flags false) c = fits_answer p flags.multi true (term_args (slice_get p.terms t)) c
fits_extractor p t _ c = false

abbrev pub fits_constructor : Program → ℕ → Kind → Content → Bool
fits_constructor p t (a_call flags infallible) c = fits_answer p flags.multi flags.partial (term_results (slice_get p.terms t)) c
fits_constructor p t _ c = false

abbrev pub constant_type : Program → ℕ → Option ℕ
constant_type p name = look (λ k. k == name) p.constants

abbrev pub typed_as : Program → Option ℕ → Value → Bool
typed_as p None v = false
typed_as p (Some ty) v = well_typed p.types ty v

-- a built-in type
abbrev pub is_own_type : Option TypeEntry → Bool
is_own_type (Some (builtin_type place)) = true
is_own_type _ = false

-- the meaning has a well-typed entry for each literal and constant of the rules, for each call that a site of
-- them asks on these arguments under some pick, and for each impure call that a matching rule reaches, by the number of
-- impure calls made before it: those before it in its rule gave values, and its own arguments have values. A rule is said to
-- match here by `matches`, which takes no pick, so that of the impure calls of a rule with a multi extractor nothing is asked
pub record Serves (p : Program) (m : Meaning) (args : List Value) (rs : List TypedRule) : Type 0 where
  pub bools : (b : Bool) (ty : ℕ) → Contains (asked p rs) (bool_term b ty) → IsSomeAnd (literal_value m (bool_literal b ty)) (λ v. IsTrue (well_typed p.types ty v))
  pub ints : (z : ℤ) (ty : ℕ) → Contains (asked p rs) (int_term z ty) → IsSomeAnd (literal_value m (int_literal z ty)) (λ v. IsTrue (well_typed p.types ty v))
  pub written_bools : (b : Bool) (ty : ℕ) → Contains (asked p rs) (bool_term b ty) → literal_value m (bool_literal b ty) ≡ Some (truth b)
  pub written_ints : (z : ℤ) (ty : ℕ) → Contains (asked p rs) (int_term z ty) → is_own_type (slice_get p.types ty) ≡ true → literal_value m (int_literal z ty) ≡ Some (atom ty z)
  pub prims : (name : ℕ) → Contains (asked p rs) (prim_term name) → IsSomeAnd (constant_value m name) (λ v. IsTrue (typed_as p (constant_type p name) v))
  pub extractors : (k : Pick) (t : ℕ) (s : SiteTerm) (v : Value) → Contains (asked p rs) (extractor_call t s) → site_content m args k s ≡ Some (one v)
      → IsSomeAnd (extractor_answer m t v) (λ c. IsTrue (fits_extractor p t (kind p t) c))
  pub pures : (k : Pick) (t : ℕ) (ss : SiteTerms) (vs : Values) → Contains (asked p rs) (constructor_call t ss 0) → site_values m args k ss ≡ Some vs
      → IsSomeAnd (pure_answer m t vs) (λ c. IsTrue (fits_constructor p t (kind p t) c))
  pub impures : (k : Pick) (r : TypedRule) (t before : ℕ) (ss : SiteTerms) (vs : Values) → Contains rs r → IsTrue (is_some (matches p m r args))
      → Contains (demands_of p r).made (constructor_call t ss (suc before)) → All (HasContent m args k) (take before (demands_of p r).impure) → site_values m args k ss ≡ Some vs
      → IsSomeAnd (impure_answer m t before) (λ c. IsTrue (fits_constructor p t (kind p t) c))

-- a constant as it is written: its type and its value
abbrev pub written_type : Program → SiteTerm → Option ℕ
written_type p (bool_term b ty) = Some ty
written_type p (int_term z ty) = Some ty
written_type p (prim_term name) = constant_type p name
written_type p _ = None

abbrev pub written_value : Meaning → SiteTerm → Option Value
written_value m (bool_term b ty) = literal_value m (bool_literal b ty)
written_value m (int_term z ty) = literal_value m (int_literal z ty)
written_value m (prim_term name) = constant_value m name
written_value m _ = None

-- a type of which variant's or struct's patterns are: an enum with variants, or a struct
abbrev pub is_type_with_parts : Option TypeEntry → Bool
is_type_with_parts (Some (enum_type name id is_extern is_nodebug [] at)) = false
is_type_with_parts (Some (enum_type name id is_extern is_nodebug (v ∷ rest) at)) = true
is_type_with_parts (Some (struct_type name id is_extern is_nodebug fields at)) = true
is_type_with_parts _ = false

-- the constants that the patterns of rules name
abbrev pub tested_constants : Program → List TypedRule → List SiteTerm
tested_constants p rs = flat_map (λ r. flat_map (λ c. constant_site c.1) (demands_of p r).constraints) rs

-- whether a constant's value isn't the one that is written: a literal of a primitive type, or a named constant
abbrev pub is_open_constant : Program → SiteTerm → Bool
is_open_constant p (int_term z ty) = not (is_own_type (slice_get p.types ty))
is_open_constant p (prim_term name) = true
is_open_constant p _ = false

-- different constants that patterns name at one type, unless both are literals of a built-in type, have different
-- values, and no pattern names a constant whose value a variant's or a struct's pattern could match too
pub record TellsConstantsApart (p : Program) (m : Meaning) (rs : List TypedRule) : Type 0 where
  pub different : (a b : SiteTerm) (ty : ℕ) (v : Value) → Contains (tested_constants p rs) a → Contains (tested_constants p rs) b
      → (is_open_constant p a || is_open_constant p b) ≡ true → written_type p a ≡ Some ty → written_type p b ≡ Some ty → written_value m a ≡ Some v → written_value m b ≡ Some v → a ≡ b
  pub without_parts : (r : TypedRule) (s : SiteTerm) (name ty : ℕ) → Contains rs r → Contains (demands_of p r).constraints (s, is_prim name)
      → constant_type p name ≡ Some ty → is_type_with_parts (slice_get p.types ty) ≡ false
