-- What is asked of a rule where no rule of greater priority matches: facts say so, as far as places tell what such a rule asks.
use Rattle.std.specs.Prelude.{◌≡◌, ◌⊎◌, ℕ, zero, suc, Bool, true, false, not, ◌&&◌, ◌||◌, List, [], ◌∷◌, ◌++◌, map, length, Option, Some, is_some, slice_get, All, Contains}
use Rattle.std.specs.Bool.{◌==◌}
use Rattle.model.specs.lists.Tables.{TypeEntry, enum_type}
use Rattle.model.specs.rules.Program.{Program, arg_types}
use Rattle.model.specs.rules.Values.{is_truth_type, variant_types, struct_types}
use Rattle.model.specs.sites.Sites.{Constraint, is_variant, is_struct, is_bool, SetRule, SiteSet, SiteTerm, argument, variant_field, struct_field}
use Rattle.laws_specs.specs.Specs.{Specs, sort_of, is_closed}
use Rattle.laws_specs.specs.Conditions.{Condition}
use Rattle.laws_specs.specs.SetConditions.{set_condition, IsAboveInSet, IsValidBelowInSet}
use Rattle.model_questions.specs.Formulas.{Place, Fact, known, is_kind, both_of, none_of}
use Rattle.model_questions.specs.Forms.{Form, any_of}
use Rattle.model_questions.specs.Steps.{type_at, told_form}
use Rattle.model_questions.specs.Questions.{truth_fact, AreUnsatisfiable}
use Rattle.laws_questions.specs.EnoughLaws.{rule_questions}

-- none of the variants before this one stands at a place
abbrev pub none_before : Place → ℕ → Fact
none_before at zero = known true
none_before at (suc i) = both_of (none_before at i) (none_of (is_kind at i))

-- the last variant of an enum without other values: it stands where none before it does, since a model may have any number there
abbrev pub is_last_of : Option TypeEntry → (closed : Bool) → ℕ → Bool
is_last_of (Some (enum_type name id is_extern is_nodebug variants place)) closed variant = (suc variant == length variants) && (not is_extern || closed)
is_last_of _ closed variant = false

abbrev pub stands_fact : (is_last : Bool) → Place → ℕ → Fact
stands_fact true at variant = none_before at variant
stands_fact false at variant = is_kind at variant

-- where a type has what is asked for
abbrev pub if_had : Bool → Fact → Fact
if_had true f = f
if_had false f = known false

module _ (p : Program) (specs : Specs) where
  abbrev pub variant_fact : ℕ → Place → ℕ → Fact
  variant_fact ty at variant = stands_fact (is_last_of (slice_get p.types ty) (is_closed (sort_of specs ty)) variant) at variant

  -- a field is there where its variant stands, or in a struct of its type
  abbrev pub field_fact : ℕ → ℕ → Form → Fact
  field_fact variant i (any_of ty at) = if_had (is_some (type_at (variant_types (slice_get p.types ty) variant) i)) (variant_fact ty at variant)
  field_fact variant i _ = known false

  abbrev pub struct_fact : ℕ → Form → Fact
  struct_fact i (any_of ty at) = known (is_some (type_at (struct_types (slice_get p.types ty)) i))
  struct_fact i _ = known false

  -- a value meets a constraint
  abbrev pub meets_fact : Form → Constraint → Fact
  meets_fact (any_of t at) (is_variant ty variant fields) = if_had ((t == ty) && is_some (variant_types (slice_get p.types ty) variant)) (variant_fact ty at variant)
  meets_fact (any_of t at) (is_struct ty fields) = known ((t == ty) && is_some (struct_types (slice_get p.types ty)))
  meets_fact (any_of t at) (is_bool b ty) = if_had (is_truth_type (slice_get p.types t)) (truth_fact b (any_of t at))
  meets_fact _ _ = known false

  module _ (c : Condition) where
    -- a site surely holds a value: an argument, and a field of what surely holds one
    abbrev pub there_fact : SiteTerm → Fact
    there_fact (argument i) = known (is_some (slice_get (arg_types p c.term) i))
    there_fact (variant_field s variant i) = both_of (there_fact s) (field_fact variant i (told_form p specs c s))
    there_fact (struct_field s i) = both_of (there_fact s) (struct_fact i (told_form p specs c s))
    there_fact _ = known false

    abbrev pub met_fact : SiteTerm → Constraint → Fact
    met_fact s k = both_of (there_fact s) (meets_fact (told_form p specs c s) k)

    -- constraints are met where this is so: what the rule asks itself may be passed over
    abbrev pub AreMetBy : List (SiteTerm × Constraint) → Fact → Type 0
    AreMetBy [] g = g ≡ known true
    AreMetBy (d ∷ ds) g = (Contains c.constraints d × AreMetBy ds g) ⊎ ((h : Fact) × AreMetBy ds h × (g ≡ both_of (met_fact d.0 d.1) h))

  -- a rule of greater priority that asks for no equal sites doesn't match
  pub record ExcludesOne (t : ℕ) (set : SiteSet) (r : SetRule) (f : Fact) : Type 0 where
    pub rule : SetRule
    pub above : IsAboveInSet set r rule
    pub without_equalities : (a b : SiteTerm) → Contains (set_condition t set rule).equalities (a, b) → ⊥
    pub met : Fact
    pub meets : AreMetBy (set_condition t set r) (set_condition t set rule).constraints met
    pub excludes : f ≡ none_of met

-- the law: where no question about a rule can be satisfied beside such facts, its condition is valid below the rules of greater priority
abbrev pub BelowAskEnough : Type 0
BelowAskEnough =
    (p : Program) (specs : Specs) (t : ℕ) (set : SiteSet) (r : SetRule) (plan : Place → Bool) (es : List Fact)
    → All (ExcludesOne p specs t set r) es → AreUnsatisfiable specs (map (λ q. q ++ es) (rule_questions p specs t set r plan)) → IsValidBelowInSet p specs t set r
