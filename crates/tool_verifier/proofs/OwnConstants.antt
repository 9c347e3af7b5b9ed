-- Rules whose sets ask no constant that a meaning may choose have their constants told apart by every meaning.
use Rattle.std.proofs.Common.{◌≡◌, ◌||◌, not, ℕ, true, false, List, [], ◌∷◌, map, Contains, flat_map, sym, ap, ◌∙◌, subst, inl, inr}
use Rattle.std.proofs.lemmas.Bool.{false≢true}
use Rattle.cranelift_isle.specs.Meaning.{Meaning}
use Rattle.cranelift_isle.specs.Program.{Program, rules_of}
use Rattle.cranelift_isle.specs.Typed.{TypedRule}
use Rattle.cranelift_isle.specs.Closure.{itself, HasConstraint}
use Rattle.cranelift_isle.specs.Demands.{demands_of}
use Rattle.cranelift_isle.specs.Overlap.{BuiltRule, built_rules}
use Rattle.cranelift_isle.specs.RuleSets.{IsBuilt, IsRuleOf, AreRulesOfSet}
use Rattle.cranelift_isle.specs.Serves.{TellsConstantsApart, constant_site, tested_constants, is_open_constant}
use Rattle.cranelift_isle.specs.Sites.{Site, SiteTerm, Constraint, is_variant, is_struct, is_bool, is_int, is_prim, is_present, SetRule, SiteSet}
use Rattle.cranelift_isle.specs.SetMeanings.{DemandsAreWhole}
use Rattle.model.proofs.Members.{nothing_in, in_head, in_tail, in_cases, in_alone, each_passes, from_map, from_flat_map}
use Rattle.report_queries.specs.Premises.{asks_own_constant, rule_asks_own, asks_own_constants}

-- the rule of a set that a built rule became
became : (p : Program) (sites : List Site) (bs : List BuiltRule) (rs : List SetRule) → AreRulesOfSet p sites bs rs → (b : BuiltRule) → Contains bs b
    → (r : SetRule) × Contains rs r × IsRuleOf p sites b r
became p sites [] rs h b c = absurd (nothing_in b c)
became p sites (x ∷ bs) [] h b c = absurd h
became p sites (x ∷ bs) (r ∷ rs) h b c =
    elim (in_cases x b bs c) [
      | inl e ↦ (r, in_head r rs, subst (λ y. IsRuleOf p sites y r) e h.0)
      | inr d ↦ let k = became p sites bs rs h.1 b d in (k.0, in_tail r k.0 rs k.1, k.2)
    ]

-- a constant that such a constraint names has the value that is written
own_value : (p : Program) (c : Constraint) (a : SiteTerm) → asks_own_constant p.types c ≡ true → Contains (constant_site c) a → is_open_constant p a ≡ false
own_value p (is_variant ty variant fields) a h c = absurd (nothing_in a c)
own_value p (is_struct ty fields) a h c = absurd (nothing_in a c)
own_value p (is_bool b ty) a h c = ap (is_open_constant p) (sym (in_alone _ a c))
own_value p (is_int z ty) a h c = ap (is_open_constant p) (sym (in_alone _ a c)) ∙ ap not h
own_value p (is_prim name) a h c = absurd (false≢true h)
own_value p is_present a h c = absurd (nothing_in a c)

module _ (p : Program) (t : ℕ) (set : SiteSet) (built : IsBuilt p t set) (whole : DemandsAreWhole p t) (all : map (λ b. b.rule) (built_rules p t) ≡ rules_of p t)
    (own : asks_own_constants p.types set ≡ true) where
  -- each constraint that a rule of the term demands asks no other constant
  asked_own : (r : TypedRule) (s : SiteTerm) (c : Constraint) → Contains (rules_of p t) r → Contains (demands_of p r).constraints (s, c) → asks_own_constant p.types c ≡ true
  asked_own r s c there asked =
      let b = from_map (λ b. b.rule) (built_rules p t) r (subst (λ l. Contains l r) (sym all) there) in
      let d : HasConstraint (demands_of p b.0.rule) s c = record { source = s; joined = itself; asked = subst (λ q. Contains (demands_of p q).constraints (s, c)) (sym b.2) asked } in
      let k = became p set.sites (built_rules p t) set.rules built.rules b.0 b.1 in
      let at = k.2.constraints.all_asked s c (((whole b.0 b.1).constraints s c).1 d) in
      each_passes (λ x. asks_own_constant p.types x.1) k.0.constraints (each_passes (rule_asks_own p.types) set.rules own k.0 k.1) (at.0, c) at.1

  tested_own : (a : SiteTerm) → Contains (tested_constants p (rules_of p t)) a → is_open_constant p a ≡ false
  tested_own a c =
      let r = from_flat_map (λ r. flat_map (λ x. constant_site x.1) (demands_of p r).constraints) (rules_of p t) a c in
      let x = from_flat_map (λ x. constant_site x.1) (demands_of p r.0).constraints a r.2 in
      own_value p x.0.1 a (asked_own r.0 x.0.0 x.0.1 r.1 x.1) x.2

  pub own_apart : (m : Meaning) → TellsConstantsApart p m (rules_of p t)
  own_apart m = record {
    different = λ a b ty v x y other ta tb va vb.
        absurd (false≢true (sym (ap (λ o. o || is_open_constant p b) (tested_own a x) ∙ tested_own b y) ∙ other));
    without_parts = λ r s name ty there asked e. absurd (false≢true (asked_own r s (is_prim name) there asked));
  }
