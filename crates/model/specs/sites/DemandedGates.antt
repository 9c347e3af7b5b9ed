-- The gates of sites, on trees: what demands must ask for so that a site can be reached.
use Rattle.std.specs.Prelude.{◌≡◌, ℕ, zero, suc, ◌<◌, Bool, true, false, List, [], ◌∷◌, Contains, IsTrue}
use Rattle.model.specs.rules.Program.{Program, is_multi, is_partial, is_pure}
use Rattle.model.specs.rules.CalledTerms.{CallsAlone, CallAlone, LetsCallAlone}
use Rattle.model.specs.rules.Typed.{TypedExpr, TypedExprs, TypedLets, TypedIfLet, TypedRule}
use Rattle.model.specs.sites.Sites.{Constraint, is_variant, is_struct, is_present, SiteTerm, bool_term, int_term, prim_term, argument, extractor_call, constructor_call, pick_of, variant_made, variant_field, struct_made, struct_field, some_made, some_part, tuple_part, no_site, SiteTerms, no_site_term, site_term_and}
use Rattle.model.specs.visits.Demands.{Demands, demands_of, result_of}
use Rattle.model.specs.sites.Closure.{Closed}

-- a site is asked to be that variant, with more than i fields
pub record AsksVariant (cs : List (SiteTerm × Constraint)) (s : SiteTerm) (variant i : ℕ) : Type 0 where
  pub ty : ℕ
  pub fields : ℕ
  pub asked : Contains cs (s, is_variant ty variant fields)
  pub many : i < fields

-- a site is asked to be a struct with more than i fields
pub record AsksStruct (cs : List (SiteTerm × Constraint)) (s : SiteTerm) (i : ℕ) : Type 0 where
  pub ty : ℕ
  pub fields : ℕ
  pub asked : Contains cs (s, is_struct ty fields)
  pub many : i < fields

-- a call is asked to answer, where that matters
abbrev pub AsksAnswer : Bool → List (SiteTerm × Constraint) → SiteTerm → Type 0
AsksAnswer true cs s = Contains cs (s, is_present)
AsksAnswer false cs s = Unit {0}

-- a call is no impure one, where that matters: pure calls have the number 0
abbrev pub IsPureCall : Bool → ℕ → Type 0
IsPureCall true zero = Unit {0}
IsPureCall true (suc n) = ⊥
IsPureCall false n = Unit {0}

-- the gates at or below a site are demanded by these constraints and by going over these calls: each field's source is
-- asked to have it, and each call whose answers are picked is gone over. Where `asked`, each call that is unwrapped is
-- asked to answer; where `pure`, none is impure
abbrev mutual
  pub GatesDemanded : (asked pure : Bool) → List (SiteTerm × Constraint) → List SiteTerm → SiteTerm → Type 0
  GatesDemanded asked pure cs calls (bool_term b ty) = Unit {0}
  GatesDemanded asked pure cs calls (int_term z ty) = Unit {0}
  GatesDemanded asked pure cs calls (prim_term name) = Unit {0}
  GatesDemanded asked pure cs calls (argument i) = Unit {0}
  GatesDemanded asked pure cs calls (extractor_call t a) = GatesDemanded asked pure cs calls a
  GatesDemanded asked pure cs calls (constructor_call t args i) = IsPureCall pure i × AllGatesDemanded asked pure cs calls args
  GatesDemanded asked pure cs calls (pick_of a) = Contains calls a × GatesDemanded asked pure cs calls a
  GatesDemanded asked pure cs calls (variant_made ty variant fields) = AllGatesDemanded asked pure cs calls fields
  GatesDemanded asked pure cs calls (variant_field a variant f) = AsksVariant cs a variant f × GatesDemanded asked pure cs calls a
  GatesDemanded asked pure cs calls (struct_made ty fields) = AllGatesDemanded asked pure cs calls fields
  GatesDemanded asked pure cs calls (struct_field a f) = AsksStruct cs a f × GatesDemanded asked pure cs calls a
  GatesDemanded asked pure cs calls (some_made a) = GatesDemanded asked pure cs calls a
  GatesDemanded asked pure cs calls (some_part a) = AsksAnswer asked cs a × GatesDemanded asked pure cs calls a
  GatesDemanded asked pure cs calls (tuple_part a f) = GatesDemanded asked pure cs calls a
  GatesDemanded asked pure cs calls no_site = Unit {0}

  pub AllGatesDemanded : (asked pure : Bool) → List (SiteTerm × Constraint) → List SiteTerm → SiteTerms → Type 0
  AllGatesDemanded asked pure cs calls no_site_term = Unit {0}
  AllGatesDemanded asked pure cs calls (site_term_and a rest) = GatesDemanded asked pure cs calls a × AllGatesDemanded asked pure cs calls rest

-- an expression calls pure terms alone
abbrev pub IsPureExpr : Program → TypedExpr → Type 0
IsPureExpr p x = CallsAlone (λ t. IsTrue (is_pure p t)) x

abbrev pub ArePureExprs : Program → TypedExprs → Type 0
ArePureExprs p xs = CallAlone (λ t. IsTrue (is_pure p t)) xs

abbrev pub ArePureLets : Program → TypedLets → Type 0
ArePureLets p ds = LetsCallAlone (λ t. IsTrue (is_pure p t)) ds

-- the expressions of if-lets do
abbrev pub ArePureIfLets : Program → List TypedIfLet → Type 0
ArePureIfLets p [] = Unit {0}
ArePureIfLets p (i ∷ is) = IsPureExpr p i.rhs × ArePureIfLets p is

-- what demands constrain or equate may be tested: the gates at or below it are demanded, the calls that it unwraps are
-- asked to answer, and it makes no impure call
pub record CanBeTested (d : Demands) : Type 0 where
  pub asked : (u : SiteTerm) (c : Constraint) → Contains d.constraints (u, c) → GatesDemanded true true d.constraints d.iterators u
  pub equal : (u w : SiteTerm) → Contains d.equalities (u, w)
      → GatesDemanded true true d.constraints d.iterators u × GatesDemanded true true d.constraints d.iterators w

-- likewise of closed demands, by going over these calls
pub record ClosedCanBeTested (calls : List SiteTerm) (k : Closed) : Type 0 where
  pub asked : (u : SiteTerm) (c : Constraint) → Contains k.constraints (u, c) → GatesDemanded true true k.constraints calls u
  pub equal : (class : List SiteTerm) (u : SiteTerm) → Contains k.classes class → Contains class u → GatesDemanded true true k.constraints calls u

-- what a rule demands may be tested, and the gates below what it returns, and below its impure calls, are demanded, but
-- for answers of calls that are unwrapped
pub record DemandsGates (p : Program) (r : TypedRule) : Type 0 where
  pub tested : CanBeTested (demands_of p r)
  pub impure : (u : SiteTerm) → Contains (demands_of p r).impure u → GatesDemanded false false (demands_of p r).constraints (demands_of p r).iterators u
  pub result : GatesDemanded false false (demands_of p r).constraints (demands_of p r).iterators (result_of p r)

-- a call of a multi term
abbrev pub IsMultiCall : Program → SiteTerm → Type 0
IsMultiCall p (extractor_call t a) = is_multi p t ≡ true
IsMultiCall p (constructor_call t args i) = is_multi p t ≡ true
IsMultiCall p _ = ⊥

-- no term is multi and partial at once
abbrev pub HasNoPartialMulti : Program → Type 0
HasNoPartialMulti p = (t : ℕ) → is_multi p t ≡ true → is_partial p t ≡ true → ⊥

-- demands go over multi calls alone, and constrain and equate none
pub record GoesOverMultiCalls (p : Program) (d : Demands) : Type 0 where
  pub calls : (u : SiteTerm) → Contains d.iterators u → IsMultiCall p u
  pub asked : (u : SiteTerm) (c : Constraint) → Contains d.constraints (u, c) → IsMultiCall p u → ⊥
  pub equal : (u w : SiteTerm) → Contains d.equalities (u, w) → (IsMultiCall p u → ⊥) × (IsMultiCall p w → ⊥)
