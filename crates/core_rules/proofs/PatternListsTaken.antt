-- How lists of patterns are read on, part by part.
use Rattle.std.proofs.Common.{◌≡◌, ℕ, ◌+◌, ◌<◌, ◌≤◌, min, nat_le, Bool, List, [], ◌∷◌, ◌++◌, length, map, drop, get_or, Option, Some, None, option_map, Ok, append-nil, inl, inr, ◌⊎◌, refl, sym, ap, subst, ◌∙◌, arith}
use Rattle.std.proofs.lemmas.Bool.{cases_Bool, leb-true, leb-false}
use Rattle.std.proofs.lemmas.List.{drop_more, drop_all}
use Rattle.std.specs.Option.{option_to_list}
use Rattle.std.proofs.lemmas.Grind.{common_steps}
use Rattle.core_syntax.specs.declared.syntax.Pattern as T
use Rattle.core_syntax.specs.SyntaxViews as S
use Rattle.model.specs.lists.Setting.{Setting, Scope}
use Rattle.model.specs.rules.Typed.{TypedPatterns, no_typed_pattern, typed_pattern_and}
use Rattle.laws_errors.specs.Steps.{here, then_step}
use Rattle.laws_errors.specs.PatternSteps.{with_part}
use Rattle.core_types.specs.declared.ids.TypeId.{TypeId}
use Rattle.core_typed.specs.declared.patterns.Pattern.{Pattern}
use Rattle.core_typed.specs.PatternViews.{pattern_view, pattern_views, pattern_parts}
use Rattle.core_typed.proofs.NotedErrors.{none_at}
use Rattle.core_rules.specs.declared.term_env.TermEnv.{TermEnv}
use Rattle.core_rules.specs.declared.typing.progress.Stop.{Stop}
use Rattle.core_rules.specs.PatternTaking.{pattern_steps, parts_steps, each_steps, made_end}
use Rattle.core_rules.specs.Taking.{Stepping, MadeOrLimit, Took, took, EndsAs, StopsBy, LeadsOn}
use Rattle.core_rules.specs.ShownSettings.{Standing, Keeps}
use Rattle.core_rules.proofs.PatternLists.{appended}
use Rattle.core_rules.proofs.Taken.{joined_end, one_on, one_stops}

-- patterns after those that were made
abbrev pub after_made : List Pattern → MadeOrLimit TypedPatterns → MadeOrLimit TypedPatterns
after_made ps = made_end (appended (pattern_parts (pattern_views ps)))

pub after_none : (r : MadeOrLimit TypedPatterns) → r ≡ after_made [] r
after_none r = grind (arith, common_steps)

appended_none : (qs : TypedPatterns) → appended qs no_typed_pattern ≡ qs
appended_none no_typed_pattern = refl
appended_none (typed_pattern_and q qs) = ap (typed_pattern_and q) (appended_none qs)

one_between : (ps : List Pattern) (p : Pattern) (qs : TypedPatterns) → appended (pattern_parts (pattern_views ps)) (typed_pattern_and (pattern_view p) qs) ≡ appended (pattern_parts (pattern_views (ps ++ p ∷ []))) qs
one_between [] p qs = refl
one_between (q ∷ ps) p qs = ap (typed_pattern_and (pattern_view q)) (one_between ps p qs)

part_between : (ps : List Pattern) (o : Option Pattern) (qs : TypedPatterns)
    → appended (pattern_parts (pattern_views ps)) (with_part (option_map pattern_view o) qs) ≡ appended (pattern_parts (pattern_views (ps ++ option_to_list o))) qs
part_between ps None qs = ap (λ zs. appended (pattern_parts (pattern_views zs)) qs) (sym (append-nil ps))
part_between ps (Some p) qs = one_between ps p qs

abbrev something : TypedPatterns → MadeOrLimit TypedPatterns
something qs = Ok (Some qs)

one_after : (ps : List Pattern) (o : Option Pattern) (r : MadeOrLimit TypedPatterns) → after_made ps (joined_end with_part (option_map pattern_view o) r) ≡ after_made (ps ++ option_to_list o) r
one_after ps o r = grind (arith, part_between)

-- nothing is read yet
pub none_read : (env : TermEnv) (old : Standing) (whole : Stepping TypedPatterns) (ps : List Pattern) → ps ≡ [] → LeadsOn env old old whole whole (after_made ps)
none_read env old whole ps none = (inl refl, λ e s is sh new r rest. subst (Took old new (whole e old.work.expansions s)) (after_none r ∙ ap (λ (zs : List Pattern). after_made zs r) (sym none)) (rest s sh))

-- all is read
pub all_read : (env : TermEnv) (old mid : Standing) (whole rest : Stepping TypedPatterns) (ps : List Pattern) → ((e : Setting) (n : ℕ) (u : Scope) → rest e n u ≡ here no_typed_pattern u)
    → LeadsOn env old mid whole rest (after_made ps) → EndsAs env old mid whole (Ok (Some (pattern_parts (pattern_views ps))))
all_read env old mid whole rest ps law on = (
  on.0,
  λ e s is sh.
      subst (λ (qs : TypedPatterns). Took old mid (whole e old.work.expansions s) (Ok (Some qs))) (appended_none (pattern_parts (pattern_views ps)))
      (on.1 e s is sh mid (Ok (Some no_typed_pattern))
      (λ u shown. subst (λ t. Took mid mid t (Ok (Some no_typed_pattern))) (sym (law e mid.work.expansions u))
      (took (Some no_typed_pattern) u 0 [] (none_at mid.work.errors.items mid.work.errors.items refl) shown (omega arith)))),
)

-- the arguments of a term
abbrev pub args_from : Bool → List T.Pattern → List TypeId → ℕ → ℕ → Stepping TypedPatterns
args_from multi args tys d i = parts_steps multi (S.pattern_views (drop i args)) (map (λ t. t.0) (drop i tys)) d

abbrev pub each_from : Bool → List T.Pattern → ℕ → ℕ → ℕ → Stepping TypedPatterns
each_from multi args ty d i = each_steps multi (S.pattern_views (drop i args)) ty d

module _ (multi : Bool) (args : List T.Pattern) (d i : ℕ) (p : T.Pattern) (w : i < length args) (arg_is : p ≡ get_or args i p) where
  rest_is : drop i args ≡ p ∷ drop (i + 1) args
  rest_is = drop_more args i p w ∙ ap (λ q. q ∷ drop (i + 1) args) (sym arg_is)

  args_law : (tys : List TypeId) (ty : TypeId) → i < length tys → ty ≡ get_or tys i ty → (e : Setting) (n : ℕ) (u : Scope)
      → args_from multi args tys d i e n u ≡ then_step with_part (pattern_steps multi (S.pattern_view p) ty.0 d e n u) (λ m t k. args_from multi args tys d (i + 1) e (n + k) t)
  args_law tys ty v ty_is e n u = grind (arith, common_steps, drop_more)

  each_law : (ty : ℕ) (e : Setting) (n : ℕ) (u : Scope)
      → each_from multi args ty d i e n u ≡ then_step with_part (pattern_steps multi (S.pattern_view p) ty d e n u) (λ m t k. each_from multi args ty d (i + 1) e (n + k) t)
  each_law ty e n u = ap (λ ps. each_steps multi (S.pattern_views ps) ty d e n u) rest_is

  module _ (env : TermEnv) (old mid new : Standing) (keeps : Keeps old.tyenv mid.tyenv) (whole : Stepping TypedPatterns) (ps : List Pattern) where
    pub arg_goes_on : (tys : List TypeId) (ty : TypeId) → i < length tys → ty ≡ get_or tys i ty → LeadsOn env old mid whole (args_from multi args tys d i) (after_made ps)
        → (o : Option Pattern) → EndsAs env mid new (pattern_steps multi (S.pattern_view p) ty.0 d) (Ok (option_map pattern_view o)) → LeadsOn env old new whole (args_from multi args tys d (i + 1)) (after_made (ps ++ option_to_list o))
    arg_goes_on tys ty v ty_is on o h =
        one_on with_part env old mid new keeps whole (pattern_steps multi (S.pattern_view p) ty.0 d) (args_from multi args tys d i) (args_from multi args tys d (i + 1)) (args_law tys ty v ty_is) (after_made ps) on
        (option_map pattern_view o) (after_made (ps ++ option_to_list o)) (one_after ps o) h

    pub arg_stops_all : (tys : List TypeId) (ty : TypeId) → i < length tys → ty ≡ get_or tys i ty → LeadsOn env old mid whole (args_from multi args tys d i) (after_made ps)
        → (stop : Stop) → StopsBy env mid new (pattern_steps multi (S.pattern_view p) ty.0 d) stop → StopsBy env old new whole stop
    arg_stops_all tys ty v ty_is on stop h =
        one_stops with_part env old mid new keeps whole (pattern_steps multi (S.pattern_view p) ty.0 d) (args_from multi args tys d i) (args_from multi args tys d (i + 1)) (args_law tys ty v ty_is) (after_made ps) on
        (λ l. refl) stop h

    pub each_goes_on : (ty : ℕ) → LeadsOn env old mid whole (each_from multi args ty d i) (after_made ps)
        → (o : Option Pattern) → EndsAs env mid new (pattern_steps multi (S.pattern_view p) ty d) (Ok (option_map pattern_view o)) → LeadsOn env old new whole (each_from multi args ty d (i + 1)) (after_made (ps ++ option_to_list o))
    each_goes_on ty on o h =
        one_on with_part env old mid new keeps whole (pattern_steps multi (S.pattern_view p) ty d) (each_from multi args ty d i) (each_from multi args ty d (i + 1)) (each_law ty) (after_made ps) on
        (option_map pattern_view o) (after_made (ps ++ option_to_list o)) (one_after ps o) h

    pub each_stops_all : (ty : ℕ) → LeadsOn env old mid whole (each_from multi args ty d i) (after_made ps)
        → (stop : Stop) → StopsBy env mid new (pattern_steps multi (S.pattern_view p) ty d) stop → StopsBy env old new whole stop
    each_stops_all ty on stop h =
        one_stops with_part env old mid new keeps whole (pattern_steps multi (S.pattern_view p) ty d) (each_from multi args ty d i) (each_from multi args ty d (i + 1)) (each_law ty) (after_made ps) on
        (λ l. refl) stop h

-- as far as there are arguments and types
no_more : (multi : Bool) (ps : List T.Pattern) (ts : List TypeId) (d : ℕ) (e : Setting) (n : ℕ) (u : Scope) → (length ps ≡ 0) ⊎ (length ts ≡ 0) → parts_steps multi (S.pattern_views ps) (map (λ t. t.0) ts) d e n u ≡ here no_typed_pattern u
no_more multi (p ∷ ps) (t ∷ ts) d e n u (inl h) = absurd (cc)
no_more multi (p ∷ ps) (t ∷ ts) d e n u (inr h) = absurd (cc)
no_more multi _ _ d e n u h = refl

pub args_read : (multi : Bool) (args : List T.Pattern) (tys : List TypeId) (d i : ℕ) → min (length args) (length tys) ≤ i → (e : Setting) (n : ℕ) (u : Scope) → args_from multi args tys d i e n u ≡ here no_typed_pattern u
args_read multi args tys d i few e n u = elim (cases_Bool (nat_le (length args) i)) [
  | inl t ↦ no_more multi (drop i args) (drop i tys) d e n u (inl (ap length (drop_all i args (leb-true (length args) i t))))
  | inr f ↦ grind (arith, common_steps, leb-false (length args) i f, no_more multi (drop i args) (drop i tys) d e n u, drop_all i tys)
]

pub each_read : (multi : Bool) (args : List T.Pattern) (ty d i : ℕ) → length args ≤ i → (e : Setting) (n : ℕ) (u : Scope) → each_from multi args ty d i e n u ≡ here no_typed_pattern u
each_read multi args ty d i w e n u = ap (λ ps. each_steps multi (S.pattern_views ps) ty d e n u) (drop_all i args w)
