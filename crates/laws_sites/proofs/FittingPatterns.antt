-- Patterns that hang together have terms that are there, with as many parts as arguments.
use Rattle.std.proofs.Common.{◌≡◌, ℕ, suc, ◌==◌, ◌&&◌, if◌then◌else◌, List, ◌∷◌, length, Option, Some, None, slice_get, ap, arith}
use Rattle.std.proofs.lemmas.Bool.{and_parts}
use Rattle.std.proofs.lemmas.Grind.{common_steps}
use Rattle.model.specs.lists.Formed.{pattern_type, formed_pattern, formed_parts, formed_each, with_new}
use Rattle.model.specs.lists.Setting.{has_extractor}
use Rattle.model.specs.lists.Tables.{TermEntry}
use Rattle.model.specs.rules.Outcome.{then_option}
use Rattle.model.specs.rules.Program.{Program}
use Rattle.model.specs.rules.Typed.{TypedPattern, match_bind, match_term, match_and, TypedPatterns, no_typed_pattern, typed_pattern_and}
use Rattle.model.specs.visits.Demands.{pattern_count}
use Rattle.model.proofs.Elements.{none_some}
use Rattle.model.proofs.Options.{then_some}
use Rattle.laws_typing.proofs.FormedParts.{from_if}

-- a term that is there, at a type, with n arguments
abbrev pub FitsTerm : ℕ → ℕ → Option TermEntry → Type 0
FitsTerm ty n None = ⊥
FitsTerm ty n (Some e) = (e.ret_ty ≡ ty) × (length e.arg_tys ≡ n)

abbrev mutual
  pub Fits : Program → TypedPattern → Type 0
  Fits p (match_bind ty x of) = Fits p of
  Fits p (match_term ty term args) = FitsTerm ty (pattern_count args) (slice_get p.terms term) × FitAll p args
  Fits p (match_and ty parts) = FitAll p parts
  Fits p _ = Unit {0}

  pub FitAll : Program → TypedPatterns → Type 0
  FitAll p no_typed_pattern = Unit {0}
  FitAll p (typed_pattern_and q rest) = Fits p q × FitAll p rest

module _ (p : Program) where
  term_fits : (ty : ℕ) (args : TypedPatterns) (o : Option TermEntry) (vars more : List (ℕ × ℕ))
      → ((tys : List ℕ) → formed_parts p args tys vars ≡ Some more → (length tys ≡ pattern_count args) × FitAll p args)
      → then_option o (λ t. if (t.ret_ty == ty) && has_extractor t.kind then formed_parts p args t.arg_tys vars else None) ≡ Some more → FitsTerm ty (pattern_count args) o × FitAll p args
  term_fits ty args o vars more parts e = grind (arith, common_steps, none_some, from_if, and_parts)

  mutual
    pub formed_fits : (q : TypedPattern) (vars more : List (ℕ × ℕ)) → formed_pattern p q vars ≡ Some more → Fits p q
    formed_fits (match_bind ty x of) vars more e =
        let a = from_if (pattern_type of == ty) (then_option (formed_pattern p of vars) (with_new x ty)) more e in
        let b = then_some (formed_pattern p of vars) (with_new x ty) more a.1 in
        formed_fits of vars b.0 b.1
    formed_fits (match_term ty term args) vars more e = term_fits ty args (slice_get p.terms term) vars more (λ tys f. parts_fit args tys vars more f) e
    formed_fits (match_and ty parts) vars more e = each_fits parts ty vars more e
    formed_fits _ vars more e = tt

    pub parts_fit : (qs : TypedPatterns) (tys : List ℕ) (vars more : List (ℕ × ℕ)) → formed_parts p qs tys vars ≡ Some more → (length tys ≡ pattern_count qs) × FitAll p qs
    parts_fit (typed_pattern_and q rest) (ty ∷ tys) vars more e =
        let a = from_if (pattern_type q == ty) (then_option (formed_pattern p q vars) (λ ws. formed_parts p rest tys ws)) more e in
        let b = then_some (formed_pattern p q vars) (λ ws. formed_parts p rest tys ws) more a.1 in
        let c = parts_fit rest tys b.0 more b.2 in
        (ap suc c.0, (formed_fits q vars b.0 b.1, c.1))
    parts_fit qs h vars more e = grind (arith, common_steps, none_some)

    each_fits : (qs : TypedPatterns) (ty : ℕ) (vars more : List (ℕ × ℕ)) → formed_each p qs ty vars ≡ Some more → FitAll p qs
    each_fits no_typed_pattern ty vars more e = tt
    each_fits (typed_pattern_and q rest) ty vars more e =
        let a = from_if (pattern_type q == ty) (then_option (formed_pattern p q vars) (λ ws. formed_each p rest ty ws)) more e in
        let b = then_some (formed_pattern p q vars) (λ ws. formed_each p rest ty ws) more a.1 in
        (formed_fits q vars b.0 b.1, each_fits rest ty b.0 more b.2)
