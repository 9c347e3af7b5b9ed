-- What a rule's steps find wrong stands at positions of the rule, or at those of the templates that are expanded.
use Rattle.std.proofs.Common.{cond, List, [], ◌∷◌, ◌++◌, Contains, ℕ, None, subst, ◌∙◌, slice_get, arith}
use Rattle.std.specs.List.{flat_map}
use Rattle.std.proofs.lemmas.Grind.{common_steps}
use Rattle.model.specs.lists.Syntax.{Position, PatternTree, var_pattern, bind_pattern, bool_pattern, int_pattern, prim_pattern, term_pattern, wildcard_pattern, and_pattern, macro_arg, PatternTrees, no_pattern, pattern_and, ExprTree, term_expr, var_expr, bool_expr, int_expr, prim_expr, let_expr, ExprTrees, no_expr, expr_and, LetTrees, no_let, let_and, IfLetTree, RuleTree}
use Rattle.model.specs.lists.Setting.{Setting, kind_template, new_scope}
use Rattle.model.specs.lists.Elaborated.{most_nested}
use Rattle.model.proofs.Members.{in_head, member_from_get}
use Rattle.model.proofs.Options.{then_some}
use Rattle.core_syntax.specs.Positions.{OccurAmong, pattern_positions, patterns_positions, expr_positions, exprs_positions, lets_positions, iflet_positions, rule_name_positions, rule_positions}
use Rattle.core_syntax.proofs.Positioned.{among_both, among_left, among_right, among_rest, among_each}
use Rattle.laws_errors.specs.PlaceLaws.{StandsAt, StandAt, ExprStandsAt, ExprsStandAt, LetsStandAt, IfLetsStandAt, RuleStandsAt, TemplatesStandAt, AreAt, wrong_of}
use Rattle.laws_errors.specs.RuleSteps.{step_of_rule}
use Rattle.laws_errors.proofs.RulePlaces.{rule_errors_are_placed_lem}
use Rattle.core_types.specs.declared.type_env.TypeEnv.{TypeEnv}
use Rattle.core_rules.specs.declared.term_env.TermEnv.{TermEnv}
use Rattle.core_rules.specs.RulePositions.{template_positions, templates_positions}
use Rattle.core_rules.specs.TermEnvs.{term_in_env}
use Rattle.core_rules.specs.ShownSettings.{IsSettingOf}
use Rattle.core_rules.proofs.PartPlaces.{bind_inside, term_inside, and_inside, call_inside, body_inside, taken_inside, given_inside, rule_iflets, rule_value}

module _ (all : List Position) where
  inside : (ps qs : List Position) → OccurAmong ps qs → OccurAmong qs all → OccurAmong ps all
  inside ps qs a b = among_both ps qs all a b

  first : (at : Position) (ps : List Position) → OccurAmong (at ∷ ps) all → Contains all at
  first at ps a = a at (in_head at ps)

  mutual
    pattern_stands : (p : PatternTree) → OccurAmong (pattern_positions p) all → StandsAt (Contains all) p
    pattern_stands (var_pattern name at) a = first at (name.at ∷ []) a
    pattern_stands (bind_pattern name of at) a = (first at (name.at ∷ pattern_positions of) a, pattern_stands of (inside (pattern_positions of) (pattern_positions (bind_pattern name of at)) (bind_inside name of at) a))
    pattern_stands (bool_pattern b at) a = first at [] a
    pattern_stands (int_pattern z at) a = first at [] a
    pattern_stands (prim_pattern name at) a = first at (name.at ∷ []) a
    pattern_stands (term_pattern name args at) a =
        (first at (name.at ∷ patterns_positions args) a, patterns_stand args (inside (patterns_positions args) (pattern_positions (term_pattern name args at)) (term_inside name args at) a))
    pattern_stands (wildcard_pattern at) a = first at [] a
    pattern_stands (and_pattern parts at) a = (first at (patterns_positions parts) a, patterns_stand parts (inside (patterns_positions parts) (pattern_positions (and_pattern parts at)) (and_inside parts at) a))
    pattern_stands (macro_arg i at) a = first at [] a

    patterns_stand : (ps : PatternTrees) → OccurAmong (patterns_positions ps) all → StandAt (Contains all) ps
    patterns_stand no_pattern a = tt
    patterns_stand (pattern_and p rest) a = (
      pattern_stands p (inside (pattern_positions p) (pattern_positions p ++ patterns_positions rest) (among_left (pattern_positions p) (patterns_positions rest)) a),
      patterns_stand rest (inside (patterns_positions rest) (pattern_positions p ++ patterns_positions rest) (among_right (pattern_positions p) (patterns_positions rest)) a),
    )

  mutual
    expr_stands : (x : ExprTree) → OccurAmong (expr_positions x) all → ExprStandsAt (Contains all) x
    expr_stands (term_expr name args at) a =
        (first at (name.at ∷ exprs_positions args) a, exprs_stand args (inside (exprs_positions args) (expr_positions (term_expr name args at)) (call_inside name args at) a))
    expr_stands (var_expr name at) a = first at (name.at ∷ []) a
    expr_stands (bool_expr b at) a = first at [] a
    expr_stands (int_expr z at) a = first at [] a
    expr_stands (prim_expr name at) a = first at (name.at ∷ []) a
    expr_stands (let_expr defs body at) a =
        let rest = lets_positions defs ++ expr_positions body in (
          first at rest a,
          (
            lets_stand defs (inside (lets_positions defs) rest (among_left (lets_positions defs) (expr_positions body)) (inside rest (at ∷ rest) (among_rest at rest) a)),
            expr_stands body (inside (expr_positions body) (expr_positions (let_expr defs body at)) (body_inside defs body at) a),
          ),
        )

    exprs_stand : (xs : ExprTrees) → OccurAmong (exprs_positions xs) all → ExprsStandAt (Contains all) xs
    exprs_stand no_expr a = tt
    exprs_stand (expr_and x rest) a = (
      expr_stands x (inside (expr_positions x) (expr_positions x ++ exprs_positions rest) (among_left (expr_positions x) (exprs_positions rest)) a),
      exprs_stand rest (inside (exprs_positions rest) (expr_positions x ++ exprs_positions rest) (among_right (expr_positions x) (exprs_positions rest)) a),
    )

    lets_stand : (ds : LetTrees) → OccurAmong (lets_positions ds) all → LetsStandAt (Contains all) ds
    lets_stand no_let a = tt
    lets_stand (let_and name ty value at rest) a =
        let own : List Position = at ∷ name.at ∷ ty.at ∷ expr_positions value in
        let own_inside = inside own (own ++ lets_positions rest) (among_left own (lets_positions rest)) a in (
          expr_stands value (inside (expr_positions value) (ty.at ∷ expr_positions value) (among_rest ty.at (expr_positions value))
              (inside (ty.at ∷ expr_positions value) (name.at ∷ ty.at ∷ expr_positions value) (among_rest name.at (ty.at ∷ expr_positions value))
              (inside (name.at ∷ ty.at ∷ expr_positions value) own (among_rest at (name.at ∷ ty.at ∷ expr_positions value)) own_inside))),
          lets_stand rest (inside (lets_positions rest) (own ++ lets_positions rest) (among_right own (lets_positions rest)) a),
        )

  iflets_stand : (is : List IfLetTree) → OccurAmong (flat_map iflet_positions is) all → IfLetsStandAt (Contains all) is
  iflets_stand [] a = tt
  iflets_stand (i ∷ is) a =
      let own = inside (iflet_positions i) (iflet_positions i ++ flat_map iflet_positions is) (among_left (iflet_positions i) (flat_map iflet_positions is)) a in (
        (
          pattern_stands i.pattern (inside (pattern_positions i.pattern) (iflet_positions i) (taken_inside i) own),
          expr_stands i.expr (inside (expr_positions i.expr) (iflet_positions i) (given_inside i) own),
        ),
        iflets_stand is (inside (flat_map iflet_positions is) (iflet_positions i ++ flat_map iflet_positions is) (among_right (iflet_positions i) (flat_map iflet_positions is)) a),
      )

  rule_stands : (r : RuleTree) → OccurAmong (rule_positions r) all → RuleStandsAt (Contains all) r
  rule_stands r a =
      let names = rule_name_positions r.name in
      let pattern = pattern_positions r.pattern in
      let iflets = flat_map iflet_positions r.iflets in
      let value = expr_positions r.expr in
      let rest = names ++ pattern ++ iflets ++ value in
      let behind = inside rest (r.at ∷ rest) (among_rest r.at rest) a in
      record {
        rule = first r.at rest a;
        pattern = pattern_stands r.pattern (inside pattern (names ++ pattern) (among_right names pattern) (grind (arith, common_steps, inside, among_left)));
        iflets = iflets_stand r.iflets (inside iflets (rule_positions r) (rule_iflets r) a);
        expr = expr_stands r.expr (inside value (rule_positions r) (rule_value r) a);
      }

-- by the tables
module _ (tyenv : TypeEnv) (env : TermEnv) (e : Setting) (is : IsSettingOf tyenv env e) where
  abbrev pub around : RuleTree → List Position
  around r = rule_positions r ++ templates_positions e.expand e.terms

  templates_stand : (all : List Position) → OccurAmong (templates_positions e.expand e.terms) all → TemplatesStandAt e (Contains all)
  templates_stand all a s x t template found there =
      let k = then_some (term_in_env env _) (slice_get e.terms) t (is.term_names _ ∙ found) in
      let templates = templates_positions e.expand e.terms in
      let of_term : OccurAmong (pattern_positions template) templates =
      subst (λ o. OccurAmong (template_positions o) templates) there (among_each (λ u. template_positions (cond e.expand (kind_template u.kind) None)) e.terms t (member_from_get e.terms k.0 t k.2)) in
      pattern_stands all template (inside all (pattern_positions template) templates of_term a)

  pub wrong_stands : (id : ℕ) (r : RuleTree) (names : List (List ℕ)) → AreAt (Contains (around r)) (wrong_of (step_of_rule e id r names))
  wrong_stands id r names =
      let own = rule_positions r in
      let templates = templates_positions e.expand e.terms in
      rule_errors_are_placed_lem (around r) e (templates_stand (around r) (among_right own templates)) most_nested id r 0 (new_scope names) (rule_stands (around r) r (among_left own templates))
