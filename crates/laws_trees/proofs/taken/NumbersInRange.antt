-- The integer literals of a set that is built of a well-typed program lie in the ranges of their types.
use Rattle.std.proofs.Common.{◌≡◌, ℕ, ℤ, true, Some, slice_get, Contains, arith}
use Rattle.std.proofs.lemmas.Option.{slice_get_within}
use Rattle.std.proofs.lemmas.Grind.{common_steps}
use Rattle.model.specs.lists.Ranges.{is_literal_of}
use Rattle.model.specs.rules.Program.{Program}
use Rattle.model.specs.sites.Sites.{SiteSet, is_int, SiteTerm, int_site, unfold_site}
use Rattle.model.specs.visits.Demands.{demands_of}
use Rattle.model.specs.sites.Overlap.{built_rules}
use Rattle.model.specs.claims.SetMeanings.{LiesInRange, HasNumbersInRange}
use Rattle.model.proofs.Elements.{in_from_contains, contains_from_in}
use Rattle.laws_trees.specs.AnswerLaws.{BuiltSetsHaveNumbersInRange}
use Rattle.laws_typing.specs.WellTypedPrograms.{IsWellTypedProgram}
use Rattle.laws_typing.proofs.Ranges.{literal_in_range}
use Rattle.laws_trees.proofs.runs.Contents.{unfolded_layer}
use Rattle.laws_trees.proofs.FormedDemands.{rule_formed}
use Rattle.laws_trees.proofs.DisjointRules.{built_follows}
use Rattle.laws_trees.proofs.taken.BuiltSites.{sites_stand}
use Rattle.laws_sites.proofs.built.BuiltGates.{typed_built}
use Rattle.laws_sites.proofs.built.BuiltSets.{BuiltSet, RuleOfSet}
use Rattle.laws_sites.proofs.built.WellBuiltSets.{each_of_set}

module _ (s : BuiltSet) (h : IsWellTypedProgram s.program) where
  abbrev p : Program
  p = s.program

  abbrev set : SiteSet
  set = s.set

  literal_site : (k ty : ℕ) (z : ℤ) → slice_get set.sites k ≡ Some (int_site z ty) → is_literal_of (slice_get p.types ty) z ≡ true
  literal_site k ty z there = grind (arith, common_steps, sites_stand, slice_get_within, unfolded_layer)

  literal_asked : (x : RuleOfSet s) (u : SiteTerm) (ty : ℕ) (z : ℤ) → Contains x.typed.demands.constraints (u, is_int z ty) → is_literal_of (slice_get p.types ty) z ≡ true
  literal_asked x u ty z c =
      let due = (built_follows p s.term x.typed (contains_from_in (built_rules p s.term) x.typed x.listed)).constraints (u, is_int z ty) (in_from_contains x.typed.demands.constraints (u, is_int z ty) c) in
      rule_formed p h.parts x.typed.rule (typed_built p s.term x.typed h x.listed).formed (due.source, is_int z ty) (in_from_contains (demands_of p x.typed.rule).constraints (due.source, is_int z ty) due.asked)

  numbers : HasNumbersInRange p set
  numbers = record {
    sites = λ k ty z there range g. literal_in_range (slice_get p.types ty) z range (literal_site k ty z there) g;
    constraints = each_of_set s (λ r. (k ty : ℕ) (z : ℤ) → Contains r.constraints (k, is_int z ty) → LiesInRange p ty z)
        (λ x k ty z i range g. literal_in_range (slice_get p.types ty) z range (literal_asked x (unfold_site set.sites k) ty z (x.is.constraints.asked k (is_int z ty) i).1) g);
  }

pub built_sets_have_numbers_in_range_lem : BuiltSetsHaveNumbersInRange
built_sets_have_numbers_in_range_lem p t set h b = numbers (record { program = p; term = t; set = set; built = b }) h
