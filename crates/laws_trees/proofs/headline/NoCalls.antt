-- In a term that isn't multi no rule of its built set goes over calls.
use Rattle.std.proofs.Common.{◌≡◌, ℕ, false, List, [], ◌∷◌, Contains, All, subst, refl}
use Rattle.model.specs.rules.Program.{Program, is_multi}
use Rattle.model.specs.sites.Sites.{SetRule, SiteSet, unfold_site}
use Rattle.model.specs.visits.Demands.{demands_of}
use Rattle.model.specs.sites.Overlap.{BuiltRule, built_rules}
use Rattle.model.proofs.Members.{nothing_in, all_members, member_from_get, get_from_member}
use Rattle.laws_typing.specs.WellTypedPrograms.{IsWellTypedProgram}
use Rattle.laws_sites.proofs.built.BuiltSets.{BuiltSet}
use Rattle.laws_trees.specs.MatchLaws.{RulesWithoutMultiGoOverNoCalls}
use Rattle.laws_sites.proofs.built.BuiltGates.{one_rule}
use Rattle.laws_trees.proofs.BuiltMatches.{built_listed}
use Rattle.laws_trees.proofs.headline.Places.{Pair, of_set_rule}

none_listed : (xs : List ℕ) → ((s : ℕ) → Contains xs s → ⊥) → xs ≡ []
none_listed [] h = refl
none_listed (x ∷ xs) h = absurd (h x (member_from_get (x ∷ xs) 0 x refl))

module _ (no_calls : RulesWithoutMultiGoOverNoCalls) (b : BuiltSet) (h : IsWellTypedProgram b.program) (without : is_multi b.program b.term ≡ false) where
  abbrev p : Program
  p = b.program

  abbrev t : ℕ
  t = b.term

  abbrev set : SiteSet
  set = b.set

  pub rule_goes_over_none : (k : BuiltRule) → Contains (built_rules p t) k → (demands_of p k.rule).iterators ≡ []
  rule_goes_over_none k c = no_calls p t h without k.rule (built_listed p t k c)

  pub pair_goes_over_none : (i : ℕ) (x : Pair p t set i) → x.built.iterators ≡ []
  pair_goes_over_none i x =
      let q = one_rule p t set x.typed x.built b.built x.one in
      none_listed x.built.iterators
      (λ s c. nothing_in (unfold_site set.sites s)
      (subst (λ l. Contains l (unfold_site set.sites s)) (rule_goes_over_none x.typed (member_from_get (built_rules p t) i x.typed x.here)) (q.iterators.gone_over s c).1))

  pub set_goes_over_none : All (λ r. r.iterators ≡ []) set.rules
  set_goes_over_none =
      all_members (λ r. r.iterators ≡ []) set.rules
      (λ r c.
      let g = get_from_member set.rules r c in
      let x = of_set_rule p t set b.built g.0 r g.1 in
      subst (λ (q : SetRule). q.iterators ≡ []) x.1 (pair_goes_over_none g.0 x.0))
