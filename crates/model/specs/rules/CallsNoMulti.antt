-- Which rules call no multi term?
use Rattle.std.specs.Prelude.{◌≡◌, false, List, [], ◌∷◌}
use Rattle.model.specs.rules.CalledTerms.{CallsAlone, CallAlone, LetsCallAlone}
use Rattle.model.specs.rules.Program.{Program, Kind, a_variant, a_struct, a_call, unknown, kind, is_multi}
use Rattle.model.specs.rules.Typed.{TypedPattern, match_bind, match_term, match_and, TypedPatterns, no_typed_pattern, typed_pattern_and, TypedExpr, TypedExprs, TypedLets, TypedIfLet, TypedRule}

-- what is asked of the parts of a term's pattern, where the term is one of the program: others have no parts
abbrev pub WhereKnown : Kind → Type 0 → Type 0
WhereKnown (a_variant ty variant) P = P
WhereKnown (a_struct ty) P = P
WhereKnown (a_call flags infallible) P = P
WhereKnown unknown P = Unit {0}

-- no term of a pattern is multi
abbrev mutual
  pub PatternCallsNoMulti : Program → TypedPattern → Type 0
  PatternCallsNoMulti p (match_bind ty x sub) = PatternCallsNoMulti p sub
  PatternCallsNoMulti p (match_term ty t args) = (is_multi p t ≡ false) × WhereKnown (kind p t) (PatternsCallNoMulti p args)
  PatternCallsNoMulti p (match_and ty subs) = PatternsCallNoMulti p subs
  PatternCallsNoMulti p _ = Unit {0}

  pub PatternsCallNoMulti : Program → TypedPatterns → Type 0
  PatternsCallNoMulti p no_typed_pattern = Unit {0}
  PatternsCallNoMulti p (typed_pattern_and q qs) = PatternCallsNoMulti p q × PatternsCallNoMulti p qs

-- no term of an expression is
abbrev pub ExprCallsNoMulti : Program → TypedExpr → Type 0
ExprCallsNoMulti p x = CallsAlone (λ t. is_multi p t ≡ false) x

abbrev pub ExprsCallNoMulti : Program → TypedExprs → Type 0
ExprsCallNoMulti p xs = CallAlone (λ t. is_multi p t ≡ false) xs

abbrev pub LetsCallNoMulti : Program → TypedLets → Type 0
LetsCallNoMulti p ds = LetsCallAlone (λ t. is_multi p t ≡ false) ds

-- none of a rule's argument patterns, none of its if-lets
abbrev pub ArgsCallNoMulti : Program → List TypedPattern → Type 0
ArgsCallNoMulti p [] = Unit {0}
ArgsCallNoMulti p (q ∷ qs) = PatternCallsNoMulti p q × ArgsCallNoMulti p qs

abbrev pub IfLetsCallNoMulti : Program → List TypedIfLet → Type 0
IfLetsCallNoMulti p [] = Unit {0}
IfLetsCallNoMulti p (i ∷ is) = PatternCallsNoMulti p i.lhs × ExprCallsNoMulti p i.rhs × IfLetsCallNoMulti p is

-- a rule without multi calls
pub record CallsNoMulti (p : Program) (r : TypedRule) : Type 0 where
  pub patterns : ArgsCallNoMulti p r.args
  pub conditions : IfLetsCallNoMulti p r.iflets
  pub right : ExprCallsNoMulti p r.rhs
