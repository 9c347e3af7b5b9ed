-- What a rule's visit counts can be seen of its patterns alone: a second way to say it, by which the first is tried.
use Rattle.std.specs.Prelude.{◌≡◌, ℕ, suc, List, [], ◌∷◌, ◌++◌}
use Rattle.std.specs.List.{flat_map}
use Rattle.model.specs.rules.Program.{Program, Kind, a_variant, a_struct, a_call, unknown, kind}
use Rattle.model.specs.rules.Typed.{TypedPattern, match_bind, match_var, match_bool, match_int, match_prim, match_term, match_any, match_and, TypedPatterns, no_typed_pattern, typed_pattern_and, TypedRule}
use Rattle.model.specs.sites.Limits.{counts_of_rule}
use Rattle.model.specs.visits.Demands.{Count, argument_taken, fields_matched, outputs_taken, pattern_count}

-- a term of this kind with n patterns, and then these of its parts; one of unknown kind isn't visited
abbrev pub term_shown : Kind → ℕ → List Count → List Count
term_shown (a_variant ty variant) n parts = fields_matched n ∷ parts
term_shown (a_struct ty) n parts = fields_matched n ∷ parts
term_shown (a_call flags infallible) n parts = outputs_taken n ∷ parts
term_shown unknown n parts = []

-- the terms in a pattern, an outer one before its parts, left to right
abbrev mutual
  pub shown : Program → TypedPattern → List Count
  shown p (match_bind ty x sub) = shown p sub
  shown p (match_var ty x) = []
  shown p (match_bool ty b) = []
  shown p (match_int ty z) = []
  shown p (match_prim ty name) = []
  shown p (match_term ty t args) = term_shown (kind p t) (pattern_count args) (shown_in p args)
  shown p (match_any ty) = []
  shown p (match_and ty parts) = shown_in p parts

  pub shown_in : Program → TypedPatterns → List Count
  shown_in p no_typed_pattern = []
  shown_in p (typed_pattern_and q qs) = shown p q ++ shown_in p qs

-- each argument from i on, and then its pattern
abbrev pub shown_of_args : Program → ℕ → List TypedPattern → List Count
shown_of_args p i [] = []
shown_of_args p i (q ∷ qs) = argument_taken i ∷ (shown p q ++ shown_of_args p (suc i) qs)

-- a visit counts each argument before its pattern, and then the patterns of if-lets; expressions count nothing
abbrev pub VisitsCountWhatIsShown : Type 0
VisitsCountWhatIsShown = (p : Program) (r : TypedRule) → counts_of_rule p r ≡ shown_of_args p 0 r.args ++ flat_map (λ i. shown p i.lhs) r.iflets
