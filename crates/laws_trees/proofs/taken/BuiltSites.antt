-- The sites of a set that is built of a well-typed program have forms.
use Rattle.std.proofs.Common.{ℕ, ◌<◌, List, [], length, arith}
use Rattle.std.proofs.lemmas.Grind.{common_steps}
use Rattle.model.specs.rules.Program.{Program, rules_of, arg_types}
use Rattle.model.specs.rules.Typed.{TypedRule}
use Rattle.model.specs.sites.Sites.{unfold_site}
use Rattle.model.specs.visits.Demands.{demands_of}
use Rattle.model.specs.sites.Limits.{sites_after_rules}
use Rattle.model.proofs.Elements.{In, contains_from_in, in_slice}
use Rattle.laws_typing.specs.WellTypedPrograms.{IsWellTypedProgram}
use Rattle.laws_sites.proofs.built.BuiltSets.{BuiltSet, of_term}
use Rattle.laws_trees.proofs.taken.Forms.{AreKnown, rule_known}
use Rattle.laws_trees.proofs.taken.SitesKnown.{Stands, rules_stand}

module _ (s : BuiltSet) (h : IsWellTypedProgram s.program) where
  abbrev p : Program
  p = s.program

  abbrev n : ℕ
  n = length (arg_types p s.term)

  abbrev rs : List TypedRule
  rs = rules_of p s.term

  pub rules_known : (r : TypedRule) → In rs r → AreKnown p n (demands_of p r)
  rules_known r i = grind (arith, common_steps, of_term p s.term r (contains_from_in rs r i), contains_from_in rs r i, rule_known p n h r)

  pub sites_stand : (k : ℕ) → k < length s.set.sites → Stands p n rs (unfold_site s.set.sites k)
  sites_stand k l =
      rules_stand p n rs [] (λ u i. absurd i) rs (λ r i. (i, rules_known r i)) (unfold_site s.set.sites k)
      (in_slice (sites_after_rules p [] rs) k (unfold_site s.set.sites k) (s.built.sites.exact k l))
