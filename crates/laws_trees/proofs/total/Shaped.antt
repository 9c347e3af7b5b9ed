-- The shapes of sites: how many values of which types a site holds, whatever the meaning is. What a site of a shape holds under a
-- well-typed total meaning fits it.
use Rattle.std.proofs.Common.{int_eq, length, ◌≡◌, ◌==◌, ℕ, ℤ, zero, suc, Bool, true, false, not, List, [], ◌∷◌, ◌++◌, Some, slice_get, Contains, refl, ap, ◌∙◌, subst, arith}
use Rattle.std.proofs.lemmas.Bool.{and_parts, and_from}
use Rattle.std.proofs.lemmas.Grind.{common_steps}
use Rattle.model.specs.lists.Tables.{Flags, TermEntry}
use Rattle.model.specs.lists.Ranges.{is_literal_of, reduced}
use Rattle.model.specs.rules.Values.{Value, of_variant, of_struct, Values, no_value, value_and, listed, of_list, is_truth_type, is_atom_type, variant_types, struct_types, well_typed, all_well_typed}
use Rattle.model.specs.rules.Meaning.{Content, one, parts, just, many, contents, Meaning, bool_literal, int_literal, TotalMeaning, total}
use Rattle.model.specs.rules.Program.{Program, a_call, kind, flags_of}
use Rattle.model.specs.sites.Sites.{SiteTerm, bool_term, int_term, prim_term, argument, extractor_call, constructor_call, pick_of, variant_made, variant_field, struct_made, struct_field, some_made, some_part, tuple_part, no_site, SiteTerms, no_site_term, site_term_and}
use Rattle.model.specs.sites.Serves.{Holds, holds_bool, holds_int, holds_prim, holds_argument, holds_extractor, holds_pure, holds_impure, holds_pick, holds_variant, holds_variant_field, holds_struct, holds_struct_field, holds_some, holds_part, holds_tuple_part, HoldsAll, holds_none, holds_and, fits_one, fits_answer, fits_extractor, fits_constructor, constant_type}
use Rattle.model.proofs.Elements.{in_from_contains, all_in, some_is, none_some}
use Rattle.laws_sites.specs.RuleUses.{Use, a_term, a_constant}
use Rattle.laws_trees.specs.TotalLaws.{IsWellTyped, can_be_matched, can_be_called}

-- a literal of a type of numbers is an atom
atom_literal : (p : Program) (ty : ℕ) (z : ℤ) → is_literal_of (slice_get p.types ty) z ≡ true → is_atom_type (slice_get p.types ty) ≡ true
atom_literal p ty z h = (and_parts (is_atom_type (slice_get p.types ty)) (int_eq (reduced (slice_get p.types ty) z) z) h).0

-- what a rule may use: arguments of these types, and calls of these terms, and these constants, in patterns and in expressions
pub record Uses : Type 0 where
  pub args : List ℕ
  pub matched : List Use
  pub called : List Use

-- a site holds what fits: a list of such where it is a multi call, perhaps nothing where it is a call that may answer
-- nothing, and else one value of a type, or several values of types
mutual
  pub data Shaped (p : Program) (uses : Uses) : SiteTerm → Bool → Bool → List ℕ → Type 0 where
    shaped_bool : {b : Bool} {ty : ℕ} → is_truth_type (slice_get p.types ty) ≡ true → Shaped p uses (bool_term b ty) false false (ty ∷ [])
    shaped_int : {z : ℤ} {ty : ℕ} → is_literal_of (slice_get p.types ty) z ≡ true → Shaped p uses (int_term z ty) false false (ty ∷ [])
    shaped_prim : {name ty : ℕ} → Contains (uses.matched ++ uses.called) (a_constant name) → constant_type p name ≡ Some ty → Shaped p uses (prim_term name) false false (ty ∷ [])
    shaped_argument : {i ty : ℕ} → slice_get uses.args i ≡ Some ty → Shaped p uses (argument i) false false (ty ∷ [])
    shaped_extractor : {t : ℕ} {s : SiteTerm} (e : TermEntry) (flags : Flags) (infallible : Bool) → Contains uses.matched (a_term t) → slice_get p.terms t ≡ Some e → can_be_matched e.kind ≡ true → kind p t ≡ a_call flags infallible
        → Shaped p uses s false false (e.ret_ty ∷ []) → Shaped p uses (extractor_call t s) flags.multi (not infallible) e.arg_tys
    shaped_pure : {t : ℕ} {ss : SiteTerms} (e : TermEntry) (flags : Flags) (infallible : Bool) → Contains uses.called (a_term t) → slice_get p.terms t ≡ Some e → can_be_called e.kind ≡ true → kind p t ≡ a_call flags infallible → flags.pure ≡ true
        → ShapedAll p uses ss e.arg_tys → Shaped p uses (constructor_call t ss 0) flags.multi flags.partial (e.ret_ty ∷ [])
    shaped_impure : {t before : ℕ} {ss : SiteTerms} (e : TermEntry) (flags : Flags) (infallible : Bool) → Contains uses.called (a_term t) → slice_get p.terms t ≡ Some e → can_be_called e.kind ≡ true → kind p t ≡ a_call flags infallible → flags.pure ≡ false
        → ShapedAll p uses ss e.arg_tys → Shaped p uses (constructor_call t ss (suc before)) flags.multi flags.partial (e.ret_ty ∷ [])
    shaped_pick : {s : SiteTerm} {optional : Bool} {tys : List ℕ} → Shaped p uses s true optional tys → Shaped p uses (pick_of s) false false tys
    shaped_variant : {ty variant : ℕ} {ss : SiteTerms} {tys : List ℕ} → variant_types (slice_get p.types ty) variant ≡ Some tys → ShapedAll p uses ss tys → Shaped p uses (variant_made ty variant ss) false false (ty ∷ [])
    shaped_variant_field : {s : SiteTerm} {ty variant i u : ℕ} {tys : List ℕ} → Shaped p uses s false false (ty ∷ []) → variant_types (slice_get p.types ty) variant ≡ Some tys → slice_get tys i ≡ Some u
        → Shaped p uses (variant_field s variant i) false false (u ∷ [])
    shaped_struct : {ty : ℕ} {ss : SiteTerms} {tys : List ℕ} → struct_types (slice_get p.types ty) ≡ Some tys → ShapedAll p uses ss tys → Shaped p uses (struct_made ty ss) false false (ty ∷ [])
    shaped_struct_field : {s : SiteTerm} {ty i u : ℕ} {tys : List ℕ} → Shaped p uses s false false (ty ∷ []) → struct_types (slice_get p.types ty) ≡ Some tys → slice_get tys i ≡ Some u
        → Shaped p uses (struct_field s i) false false (u ∷ [])
    shaped_some : {s : SiteTerm} {tys : List ℕ} → Shaped p uses s false false tys → Shaped p uses (some_made s) false true tys
    shaped_part : {s : SiteTerm} {tys : List ℕ} → Shaped p uses s false true tys → Shaped p uses (some_part s) false false tys
    -- a part of two or more
    shaped_tuple : {s : SiteTerm} {i u : ℕ} {tys : List ℕ} (k : ℕ) → length tys ≡ suc (suc k) → Shaped p uses s false false tys → slice_get tys i ≡ Some u → Shaped p uses (tuple_part s i) false false (u ∷ [])

  pub data ShapedAll (p : Program) (uses : Uses) : SiteTerms → List ℕ → Type 0 where
    shaped_none : ShapedAll p uses no_site_term []
    shaped_and : {s : SiteTerm} {ss : SiteTerms} {ty : ℕ} {tys : List ℕ} → Shaped p uses s false false (ty ∷ []) → ShapedAll p uses ss tys → ShapedAll p uses (site_term_and s ss) (ty ∷ tys)

-- some shape
pub record HasShape (p : Program) (uses : Uses) (s : SiteTerm) : Type 0 where
  pub multi : Bool
  pub optional : Bool
  pub tys : List ℕ
  pub shaped : Shaped p uses s multi optional tys

-- 1. values of types, place by place
module _ (p : Program) where
  pub part_typed : (tys : List ℕ) (vs : Values) (i ty : ℕ) (v : Value) → all_well_typed p.types (Some tys) vs ≡ true → slice_get tys i ≡ Some ty → slice_get (listed vs) i ≡ Some v → well_typed p.types ty v ≡ true
  part_typed [] vs i ty v h a b = absurd (none_some ty a)
  part_typed (u ∷ tys) no_value i ty v h a b = absurd (none_some v b)
  part_typed (u ∷ tys) (value_and w vs) zero ty v h a b = grind (arith, common_steps, and_parts, some_is)
  part_typed (u ∷ tys) (value_and w vs) (suc i) ty v h a b = part_typed tys vs i ty v (and_parts (well_typed p.types u w) (all_well_typed p.types (Some tys) vs) h).1 a b

  listed_back : (vs : List Value) → listed (of_list vs) ≡ vs
  listed_back [] = refl
  listed_back (v ∷ vs) = ap (λ ws. v ∷ ws) (listed_back vs)

  arg_typed : (tys : List ℕ) (args : List Value) (i ty : ℕ) (v : Value) → all_well_typed p.types (Some tys) (of_list args) ≡ true → slice_get tys i ≡ Some ty → slice_get args i ≡ Some v → well_typed p.types ty v ≡ true
  arg_typed tys args i ty v h a b = part_typed tys (of_list args) i ty v h a (ap (λ l. slice_get l i) (listed_back args) ∙ b)

  parts_typed : (tys : List ℕ) (vs : Values) → fits_one p tys (parts vs) ≡ true → all_well_typed p.types (Some tys) vs ≡ true
  parts_typed tys vs h = grind (arith, common_steps)

  extractor_fits : (t : ℕ) (e : TermEntry) (flags : Flags) (infallible : Bool) (c : Content) → slice_get p.terms t ≡ Some e → fits_extractor p t (a_call flags infallible) c ≡ true → fits_answer p flags.multi (not infallible) e.arg_tys c ≡ true
  extractor_fits t e flags infallible c there h = grind (arith, common_steps)

-- 2. what is held fits
-- total functions that are well typed for what is used, and well-typed arguments
pub record TypedFunctions (p : Program) (uses : Uses) : Type 0 where
  pub functions : TotalMeaning
  pub typed : IsWellTyped p uses.matched uses.called functions
  pub args : List Value
  pub given : all_well_typed p.types (Some uses.args) (of_list args) ≡ true

module _ (p : Program) (uses : Uses) (of : TypedFunctions p uses) where
  abbrev f : TotalMeaning
  f = of.functions

  abbrev typed : IsWellTyped p uses.matched uses.called f
  typed = of.typed

  abbrev m : Meaning
  m = total f

  abbrev args : List Value
  args = of.args

  abbrev given : all_well_typed p.types (Some uses.args) (of_list args) ≡ true
  given = of.given

  constructor_fits : (t : ℕ) (e : TermEntry) (flags : Flags) (infallible : Bool) (c : Content) → slice_get p.terms t ≡ Some e → kind p t ≡ a_call flags infallible → fits_constructor p t (kind p t) c ≡ true
      → fits_answer p flags.multi flags.partial (e.ret_ty ∷ []) c ≡ true
  constructor_fits t e flags infallible c there k h = grind (arith, common_steps)

  mutual
    pub held_fits : {multi optional : Bool} {tys : List ℕ} (s : SiteTerm) → Shaped p uses s multi optional tys → (c : Content) → Holds m args s c → fits_answer p multi optional tys c ≡ true
    held_fits (bool_term b ty) (shaped_bool t) _ (holds_bool {v = v} e) = subst (λ w. well_typed p.types ty w ≡ true) (some_is (f.literals (bool_literal b ty)) v e) (typed.bools b ty t)
    held_fits (int_term z ty) (shaped_int t) _ (holds_int {v = v} e) = subst (λ w. well_typed p.types ty w ≡ true) (some_is (f.literals (int_literal z ty)) v e) (typed.ints z ty (atom_literal p ty z t))
    held_fits (prim_term name) (shaped_prim {ty = ty} used t) _ (holds_prim {v = v} e) = subst (λ w. well_typed p.types ty w ≡ true) (some_is (f.constants name) v e) (typed.constants name ty used t)
    held_fits (argument i) (shaped_argument {ty = ty} t) _ (holds_argument {v = v} e) = arg_typed p uses.args args i ty v given t e
    held_fits (extractor_call t s) (shaped_extractor e flags infallible used there can k h) c (holds_extractor {v = v} g q) =
        extractor_fits p t e flags infallible c there
        (subst (λ x. fits_extractor p t x c ≡ true) k (subst (λ d. fits_extractor p t (kind p t) d ≡ true) (some_is (f.extractors t v) c q) (typed.extractors t e v used there can (held_fits s h (one v) g))))
    held_fits (constructor_call t ss zero) (shaped_pure e flags infallible used there can k pure h) c (holds_pure {vs = vs} g q) =
        constructor_fits t e flags infallible c there k
        (subst (λ d. fits_constructor p t (kind p t) d ≡ true) (some_is (f.pures t vs) c q) (typed.pures t e vs used there can (ap (λ x. (flags_of x).pure) k ∙ pure) (all_held_fit ss h vs g)))
    held_fits (constructor_call t ss (suc before)) (shaped_impure e flags infallible used there can k pure h) c (holds_impure {vs = vs} g q) =
        constructor_fits t e flags infallible c there k
        (subst (λ d. fits_constructor p t (kind p t) d ≡ true) (some_is (f.impures t before) c q) (typed.impures t before e vs used there can (ap (λ x. (flags_of x).pure) k ∙ pure) (all_held_fit ss h vs g)))
    held_fits (pick_of s) (shaped_pick {optional = optional} {tys = tys} h) c (holds_pick {cs = cs} g i) =
        all_in (fits_one p tys) (contents cs) c (held_fits {multi = true} {optional = optional} s h (many cs) g) (in_from_contains (contents cs) c i)
    held_fits (variant_made ty variant ss) (shaped_variant {tys = tys} t h) _ (holds_variant {vs = vs} g) = grind (arith, common_steps, all_held_fit ss h vs g, and_from)
    held_fits (variant_field s variant i) (shaped_variant_field {ty = ty} {u = u} {tys = tys} h t a) _ (holds_variant_field {ty = w} {vs = vs} {v = v} g e) =
        part_typed p tys vs i u v
        (subst (λ o. all_well_typed p.types o vs ≡ true) t
        (and_parts (w == ty) (all_well_typed p.types (variant_types (slice_get p.types ty) variant) vs) (held_fits s h (one (of_variant w variant vs)) g)).1) a e
    held_fits (struct_made ty ss) (shaped_struct {tys = tys} t h) _ (holds_struct {vs = vs} g) = grind (arith, common_steps, all_held_fit ss h vs g, and_from)
    held_fits (struct_field s i) (shaped_struct_field {ty = ty} {u = u} {tys = tys} h t a) _ (holds_struct_field {ty = w} {vs = vs} {v = v} g e) =
        part_typed p tys vs i u v
        (subst (λ o. all_well_typed p.types o vs ≡ true) t
        (and_parts (w == ty) (all_well_typed p.types (struct_types (slice_get p.types ty)) vs) (held_fits s h (one (of_struct w vs)) g)).1) a e
    held_fits (some_made s) (shaped_some h) _ (holds_some {c = d} g) = held_fits s h d g
    held_fits (some_part s) (shaped_part h) c (holds_part g) = held_fits s h (just c) g
    held_fits (tuple_part s i) (shaped_tuple {u = u} {tys = tys} k l h a) _ (holds_tuple_part {vs = vs} {v = v} g e) =
        part_typed p tys vs i u v (parts_typed p tys vs (held_fits s h (parts vs) g)) a e
    held_fits no_site h c g = elim g [ ]

    pub all_held_fit : {tys : List ℕ} (ss : SiteTerms) → ShapedAll p uses ss tys → (vs : Values) → HoldsAll m args ss vs → all_well_typed p.types (Some tys) vs ≡ true
    all_held_fit no_site_term shaped_none _ holds_none = refl
    all_held_fit (site_term_and s ss) (shaped_and {ty = ty} {tys = tys} h hs) _ (holds_and {v = v} {vs = vs} g gs) =
        and_from (well_typed p.types ty v) (all_well_typed p.types (Some tys) vs) (held_fits s h (one v) g) (all_held_fit ss hs vs gs)

-- 3. what a shape says of a site
pub bool_shape : {p : Program} {uses : Uses} {multi optional : Bool} {tys : List ℕ} {b : Bool} {ty : ℕ} → Shaped p uses (bool_term b ty) multi optional tys → is_truth_type (slice_get p.types ty) ≡ true
bool_shape (shaped_bool t) = t

pub int_shape : {p : Program} {uses : Uses} {multi optional : Bool} {tys : List ℕ} {z : ℤ} {ty : ℕ} → Shaped p uses (int_term z ty) multi optional tys → is_atom_type (slice_get p.types ty) ≡ true
int_shape {p = p} {z = z} {ty = ty} (shaped_int t) = atom_literal p ty z t

pub prim_shape : {p : Program} {uses : Uses} {multi optional : Bool} {tys : List ℕ} {name : ℕ} → Shaped p uses (prim_term name) multi optional tys → Contains (uses.matched ++ uses.called) (a_constant name) × (ty : ℕ) × (constant_type p name ≡ Some ty)
prim_shape (shaped_prim {ty = ty} used t) = (used, ty, t)

pub record ExtractorShape (p : Program) (uses : Uses) (t : ℕ) (s : SiteTerm) : Type 0 where
  pub entry : TermEntry
  pub used : Contains uses.matched (a_term t)
  pub there : slice_get p.terms t ≡ Some entry
  pub can : can_be_matched entry.kind ≡ true
  pub of : Shaped p uses s false false (entry.ret_ty ∷ [])

pub extractor_shape : {p : Program} {uses : Uses} {multi optional : Bool} {tys : List ℕ} {t : ℕ} {s : SiteTerm} → Shaped p uses (extractor_call t s) multi optional tys → ExtractorShape p uses t s
extractor_shape (shaped_extractor e flags infallible used there can k h) = record { entry = e; used = used; there = there; can = can; of = h }

pub record ConstructorShape (p : Program) (uses : Uses) (t : ℕ) (ss : SiteTerms) (pure : Bool) : Type 0 where
  pub entry : TermEntry
  pub used : Contains uses.called (a_term t)
  pub there : slice_get p.terms t ≡ Some entry
  pub can : can_be_called entry.kind ≡ true
  pub is : (flags_of (kind p t)).pure ≡ pure
  pub of : ShapedAll p uses ss entry.arg_tys

pub pure_shape : {p : Program} {uses : Uses} {multi optional : Bool} {tys : List ℕ} {t : ℕ} {ss : SiteTerms} → Shaped p uses (constructor_call t ss 0) multi optional tys → ConstructorShape p uses t ss true
pure_shape (shaped_pure e flags infallible used there can k pure h) = record { entry = e; used = used; there = there; can = can; is = ap (λ x. (flags_of x).pure) k ∙ pure; of = h }

pub impure_shape : {p : Program} {uses : Uses} {multi optional : Bool} {tys : List ℕ} {t before : ℕ} {ss : SiteTerms} → Shaped p uses (constructor_call t ss (suc before)) multi optional tys → ConstructorShape p uses t ss false
impure_shape (shaped_impure e flags infallible used there can k pure h) = record { entry = e; used = used; there = there; can = can; is = ap (λ x. (flags_of x).pure) k ∙ pure; of = h }
