-- The meaning that gives literals the values that they write serves rules that ask for nothing else, and meets specs of bytes.
use Rattle.std.proofs.Common.{◌≡◌, ◌⊎◌, ℕ, ℤ, suc, true, List, Some, slice_get, Contains, refl, ap, subst, arith}
use Rattle.std.proofs.lemmas.Grind.{common_steps}
use Rattle.std.specs.List.{AllByRecursion}
use Rattle.std.proofs.lemmas.List.Elements.{All-contains, All-from_recursion}
use Rattle.model.specs.lists.Tables.{builtin_type}
use Rattle.model.specs.rules.Values.{Value, atom, has_atoms, well_typed}
use Rattle.model.specs.rules.Outcome.{Call}
use Rattle.model.specs.rules.Program.{Program, rules_of}
use Rattle.model.specs.sites.Serves.{asked, Serves}
use Rattle.model.specs.sites.Sites.{SiteTerm, int_term, argument, constructor_call, SiteTerms}
use Rattle.model.specs.visits.Demands.{demands_of}
use Rattle.model.proofs.Elements.{in_from_contains, some_is, none_some}
use Rattle.laws_specs.specs.Words.{Denoted}
use Rattle.laws_specs.specs.Specs.{Specs, literal_of}
use Rattle.laws_specs.specs.Meets.{MeetsSpecs}
use Rattle.laws_specs.specs.SampleCalls.{bytes_as, written}
use Rattle.laws_specs.proofs.PlainOutcomes.{made_asked}

-- an argument or a literal byte
abbrev pub IsPlainSite : SiteTerm → Type 0
IsPlainSite u = (argument 0 ≡ u) ⊎ ((z : ℤ) × (int_term z 1 ≡ u))

no_constructor : (t n : ℕ) (ss : SiteTerms) → IsPlainSite (constructor_call t ss n) → ⊥
no_constructor t n ss h = grind (arith, common_steps)

int_type : (z : ℤ) (ty : ℕ) → IsPlainSite (int_term z ty) → 1 ≡ ty
int_type z ty h = grind (arith, common_steps)

pub written_serves : (p : Program) (t : ℕ) (args : List Value) → slice_get p.types 1 ≡ Some (builtin_type 1) → AllByRecursion IsPlainSite (asked p (rules_of p t)) → Serves p written args (rules_of p t)
written_serves p t args bytes sites = record {
  bools = λ b ty i. absurd (grind (arith, common_steps));
  ints = λ z ty i. subst (λ n. well_typed p.types n (atom n z) ≡ true) (int_type z ty (only (int_term z ty) i)) (ap has_atoms bytes);
  written_bools = λ b ty i. refl;
  written_ints = λ z ty i own. refl;
  prims = λ name i. absurd (grind (arith, common_steps));
  extractors = λ k u s v i e. absurd (grind (arith, common_steps));
  pures = λ k u ss vs i e. absurd (no_constructor u 0 ss (only (constructor_call u ss 0) i));
  impures = λ k r u before ss vs i matched made gave e.
      absurd (no_constructor u (suc before) ss (only (constructor_call u ss (suc before)) (made_asked p (rules_of p t) r (constructor_call u ss (suc before)) i (in_from_contains (demands_of p r).made (constructor_call u ss (suc before)) made))));
}
  where
    only : (u : SiteTerm) → Contains (asked p (rules_of p t)) u → IsPlainSite u
    only u i = All-contains IsPlainSite (asked p (rules_of p t)) u (All-from_recursion IsPlainSite (asked p (rules_of p t)) sites) i

pub written_meets : (specs : Specs) (calls : List Call) → ((ty : ℕ) (z : ℤ) (y : Denoted) → literal_of specs z ty ≡ Some y → bytes_as ty z ≡ y) → MeetsSpecs specs bytes_as written calls
written_meets specs calls numbered = grind (arith, common_steps, some_is, none_some)
