-- A pattern that hangs together asks variants and structs for all their fields.
use Rattle.std.proofs.Common.{◌≡◌, ℕ, true, List, [], ◌∷◌, length, Some, slice_get, subst, arith}
use Rattle.std.proofs.lemmas.Grind.{common_steps}
use Rattle.model.specs.lists.Formed.{is_formed_rule}
use Rattle.model.specs.rules.Values.{variant_types, struct_types}
use Rattle.model.specs.rules.Program.{Program, kind}
use Rattle.model.specs.rules.Typed.{TypedRule}
use Rattle.model.specs.sites.Sites.{Constraint, is_variant, is_struct, is_bool, is_int, is_prim, is_present, SiteTerm}
use Rattle.model.specs.visits.Demands.{Demands, demands_of, Visit, asking, asking_all}
use Rattle.model.proofs.Elements.{In, in_either}
use Rattle.laws_typing.specs.WellTypedPrograms.{HasTypedParts}
use Rattle.laws_typing.proofs.WellTypedPrograms.{variant_takes, struct_takes}
use Rattle.laws_sites.proofs.Patterns.{term_known}
use Rattle.laws_sites.proofs.GrowingVisits.{term_adds}
use Rattle.laws_sites.proofs.PatternParts.{as_many_types}
use Rattle.laws_sites.proofs.RuleParts.{rule_parts}
use Rattle.laws_sites.proofs.WithSites.{by_equating}
use Rattle.laws_sites.proofs.WithTypes.{Facts, KeptWithTypes, all_fields_each, outputs_each, rule_kept_typed}

-- as many fields as the variant or the struct has
abbrev pub HasAllFields : Program → Constraint → Type 0
HasAllFields p (is_variant ty i n) = (tys : List ℕ) × (variant_types (slice_get p.types ty) i ≡ Some tys) × (length tys ≡ n)
HasAllFields p (is_struct ty n) = (tys : List ℕ) × (struct_types (slice_get p.types ty) ≡ Some tys) × (length tys ≡ n)
HasAllFields p c = Unit {0}

abbrev pub AskAllFields : Program → Demands → Type 0
AskAllFields p d = (x : SiteTerm × Constraint) → In d.constraints x → HasAllFields p x.1

module _ (p : Program) where
  asked_too : (s : SiteTerm) (c : Constraint) (v : Visit) → HasAllFields p c → AskAllFields p v.demands → AskAllFields p (asking s c v).demands
  asked_too s c v f a x i = grind (arith, common_steps, in_either v.demands.constraints ((s, c) ∷ []) x i, in_either)

  all_asked_too : (ss : List SiteTerm) (v : Visit) → AskAllFields p v.demands → AskAllFields p (asking_all ss v).demands
  all_asked_too [] v a = a
  all_asked_too (s ∷ ss) v a = all_asked_too ss (asking s is_present v) (asked_too s is_present v tt a)

  -- of sites nothing is said
  abbrev asked : Facts
  asked = record { demands = AskAllFields p; site = λ s ty. Unit {0}; matched = λ t. Unit {0}; called = λ t. Unit {0} }

  module _ (fields : HasTypedParts p) where
    kept : KeptWithTypes asked p
    kept = record {
      equates = λ a b ty v m n h. by_equating (λ w. AskAllFields p w.demands) a b v h h;
      asks_bool = λ s b ty v e h. asked_too s (is_bool b ty) v tt h;
      asks_int = λ s z ty v e h. asked_too s (is_int z ty) v tt h;
      asks_prim = λ s name ty v e u h. asked_too s (is_prim name) v tt h;
      opens = λ t e there x m s i args n v h. grind (arith, asked_too, variant_takes, as_many_types, all_fields_each, struct_takes, term_known, outputs_each);
      makes_bool = λ b ty v e h. (tt, h);
      makes_int = λ z ty v e h. (tt, h);
      makes_prim = λ name ty v e u h. (tt, h);
      values = λ t e there x m a g h. (tt, λ y i. h y (subst (λ l. In l y) (term_adds (kind p t) t a).constraints i));
      asks_all = all_asked_too;
      result = λ s ty v i h. h;
    }

    pub rule_asks_all_fields : (r : TypedRule) → is_formed_rule p r ≡ true → AskAllFields p (demands_of p r)
    rule_asks_all_fields r f = rule_kept_typed p asked kept r (rule_parts p r f) (λ t i. tt) (λ t i. tt) (λ j ty v e h. (tt, h)) (λ x i. absurd i)
