-- The constraints of a rule that hangs together: variants and structs are asked for with all their fields, constants have
-- types.
use Rattle.std.proofs.Common.{◌≡◌, ℕ, Bool, true, false, List, [], ◌∷◌, length, Some, slice_get, refl, subst, eqb-true, arith}
use Rattle.std.proofs.lemmas.Grind.{common_steps}
use Rattle.model.specs.lists.Tables.{TermEntry}
use Rattle.model.specs.lists.Ranges.{is_literal_of}
use Rattle.model.specs.rules.Values.{variant_types, struct_types}
use Rattle.model.specs.rules.Program.{Program, Kind, a_variant, a_struct, a_call, unknown, kind, kind_of}
use Rattle.model.specs.rules.Typed.{TypedPatterns, TypedRule}
use Rattle.model.specs.sites.Sites.{Constraint, is_variant, is_struct, is_bool, is_int, is_prim, is_present, SiteTerm, extractor_call, some_part, variant_field, struct_field}
use Rattle.model.specs.visits.Demands.{Demands, demands_of, Visit, making, asking, pattern_count, open_call, open_term, asking_all}
use Rattle.model.specs.sites.Serves.{constant_type}
use Rattle.model.specs.lists.Setting.{bool_type}
use Rattle.model.specs.lists.Formed.{is_formed_rule}
use Rattle.model.proofs.Elements.{In, in_either}
use Rattle.laws_sites.proofs.Patterns.{its_kind, term_known}
use Rattle.laws_sites.proofs.GrowingVisits.{term_adds}
use Rattle.laws_sites.proofs.PatternParts.{AsMany, as_many_types}
use Rattle.laws_sites.proofs.RuleParts.{rule_parts}
use Rattle.laws_sites.proofs.WithSites.{by_equating}
use Rattle.laws_sites.proofs.WithTypes.{Facts, AtEachTyped, KeptWithTypes, all_fields_each, outputs_each, rule_kept_typed}
use Rattle.laws_typing.specs.WellTypedPrograms.{HasTypedParts}
use Rattle.laws_typing.proofs.WellTypedPrograms.{variant_takes, struct_takes}

-- a constraint of a pattern that hangs together
abbrev pub IsFormed : Program → Constraint → Type 0
IsFormed p (is_variant ty i n) = (tys : List ℕ) × (variant_types (slice_get p.types ty) i ≡ Some tys) × (length tys ≡ n)
IsFormed p (is_struct ty n) = (tys : List ℕ) × (struct_types (slice_get p.types ty) ≡ Some tys) × (length tys ≡ n)
IsFormed p (is_bool b ty) = ty ≡ bool_type
IsFormed p (is_int z ty) = is_literal_of (slice_get p.types ty) z ≡ true
IsFormed p (is_prim name) = (ty : ℕ) × (constant_type p name ≡ Some ty)
IsFormed p is_present = Unit {0}

abbrev pub AreFormed : Program → Demands → Type 0
AreFormed p d = (x : SiteTerm × Constraint) → In d.constraints x → IsFormed p x.1

asked_formed : (p : Program) (s : SiteTerm) (c : Constraint) (v : Visit) → IsFormed p c → AreFormed p v.demands → AreFormed p (asking s c v).demands
asked_formed p s c v f a x i = grind (arith, common_steps, in_either)

all_asked_formed : (p : Program) (ss : List SiteTerm) (v : Visit) → AreFormed p v.demands → AreFormed p (asking_all ss v).demands
all_asked_formed p [] v a = a
all_asked_formed p (s ∷ ss) v a = all_asked_formed p ss (asking s is_present v) (asked_formed p s is_present v tt a)

call_formed : (p : Program) (pure multi partial rec infallible : Bool) (c : SiteTerm) (args : TypedPatterns) (v : Visit) → AreFormed p v.demands
    → AreFormed p (open_call (record { pure = pure; multi = multi; partial = partial; rec = rec }) infallible c args v).visit.demands
call_formed p pure true partial rec infallible c args v h = h
call_formed p pure false partial rec true c args v h = h
call_formed p pure false partial rec false c args v h = asked_formed p c is_present (making (c ∷ (some_part c ∷ [])) v) tt h

-- what is asked is formed; of sites nothing is said
abbrev formed : Program → Facts
formed p = record { demands = AreFormed p; site = λ s ty. Unit {0}; matched = λ t. Unit {0}; called = λ t. Unit {0} }

call_inputs : (p : Program) (pure multi partial rec infallible : Bool) (c : SiteTerm) (args : TypedPatterns) (tys : List ℕ) (v : Visit) → AsMany args tys
    → AtEachTyped (formed p) (open_call (record { pure = pure; multi = multi; partial = partial; rec = rec }) infallible c args v).inputs tys
call_inputs p pure multi partial rec infallible c args tys v n = grind (arith, common_steps, outputs_each)

module _ (p : Program) (fields : HasTypedParts p) where
  term_formed : (t : ℕ) (e : TermEntry) → slice_get p.terms t ≡ Some e → (k : Kind) → kind p t ≡ k → kind_of e ≡ k → (s : SiteTerm) (args : TypedPatterns) → AsMany args e.arg_tys → (v : Visit) → AreFormed p v.demands
      → AreFormed p (open_term k t s args v).visit.demands × AtEachTyped (formed p) (open_term k t s args v).inputs e.arg_tys
  term_formed t e there (a_variant ty i) w q s args n v h = (
    asked_formed p s (is_variant ty i (pattern_count args)) v (e.arg_tys, (variant_takes p fields t e there ty i q).1, as_many_types args e.arg_tys n) h,
    all_fields_each (formed p) (variant_field s i) args e.arg_tys n (λ j u x. tt),
  )
  term_formed t e there (a_struct ty) w q s args n v h = (
    asked_formed p s (is_struct ty (pattern_count args)) v (e.arg_tys, (struct_takes p fields t e there ty q).1, as_many_types args e.arg_tys n) h,
    all_fields_each (formed p) (struct_field s) args e.arg_tys n (λ j u x. tt),
  )
  term_formed t e there (a_call flags infallible) w q s args n v h =
      let c = extractor_call t s in
      (call_formed p flags.pure flags.multi flags.partial flags.rec infallible c args v h, call_inputs p flags.pure flags.multi flags.partial flags.rec infallible c args e.arg_tys v n)
  term_formed t e there unknown w q s args n v h = absurd (term_known p t e there w)

  formed_kept : KeptWithTypes (formed p) p
  formed_kept = record {
    equates = λ a b ty v m n h. by_equating (λ w. AreFormed p w.demands) a b v h h;
    asks_bool = λ s b ty v e h. asked_formed p s (is_bool b ty) v (eqb-true ty bool_type e) h;
    asks_int = λ s z ty v e h. asked_formed p s (is_int z ty) v e h;
    asks_prim = λ s name ty v e u h. asked_formed p s (is_prim name) v (ty, e) h;
    opens = λ t e there x m s i args n v h. term_formed t e there (kind p t) refl (its_kind p t e there) s args n v h;
    makes_bool = λ b ty v e h. (tt, h);
    makes_int = λ z ty v e h. (tt, h);
    makes_prim = λ name ty v e u h. (tt, h);
    values = λ t e there x m a g h. (tt, λ y i. h y (subst (λ l. In l y) (term_adds (kind p t) t a).constraints i));
    asks_all = all_asked_formed p;
    result = λ s ty v i h. h;
  }

  pub rule_formed : (r : TypedRule) → is_formed_rule p r ≡ true → AreFormed p (demands_of p r)
  rule_formed r f = rule_kept_typed p (formed p) formed_kept r (rule_parts p r f) (λ t i. tt) (λ t i. tt) (λ j ty v e h. (tt, h)) (λ x i. absurd i)
