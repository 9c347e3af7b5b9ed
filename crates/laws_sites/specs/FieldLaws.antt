-- What a visit speaks of as a field is given by a constraint, and what a constraint gives is made.
use Rattle.std.specs.Prelude.{[], ◌≡◌, ◌↔◌, Contains}
use Rattle.model.specs.rules.Program.{Program}
use Rattle.model.specs.rules.Typed.{TypedRule}
use Rattle.model.specs.sites.Sites.{Constraint, SiteTerm, variant_field, struct_field, field_terms}
use Rattle.model.specs.visits.Demands.{Demands, demands_of}
use Rattle.model.specs.sites.Closure.{conflicts_met, spoken_of}

-- a constraint of a site gives it this field
abbrev pub GivesField : Demands → SiteTerm → SiteTerm → Type 0
GivesField d s x = (c : Constraint) × Contains d.constraints (s, c) × Contains (field_terms c s) x

-- where a site is a field, some constraint gives it
abbrev pub IsGiven : Demands → SiteTerm → Type 0
IsGiven d (variant_field s variant i) = GivesField d s (variant_field s variant i)
IsGiven d (struct_field s i) = GivesField d s (struct_field s i)
IsGiven d s = Unit {0}

-- each field that is spoken of is given, and each that is given is made
pub record FieldsAreGivenIn (d : Demands) : Type 0 where
  pub given : (s : SiteTerm) → Contains (spoken_of d) s → IsGiven d s
  pub made : (s x : SiteTerm) → GivesField d s x → Contains d.made x

-- so it is in the demands of every rule, for which no premise is needed: a variable that nothing binds stands for no site
abbrev pub FieldsAreGiven : Type 0
FieldsAreGiven = (p : Program) (r : TypedRule) → FieldsAreGivenIn (demands_of p r)

-- no conflict is met exactly where the constraints of one site are one
abbrev pub ConflictFreeConstraintsAgree : Type 0
ConflictFreeConstraintsAgree =
    (d : Demands)
    → (conflicts_met [] d.constraints ≡ []) ↔ ((s : SiteTerm) (a b : Constraint) → Contains d.constraints (s, a) → Contains d.constraints (s, b) → a ≡ b)
