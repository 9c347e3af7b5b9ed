-- Where what takes the place of a use stands: at positions of the use, or of templates.
use Rattle.std.proofs.Common.{◌≡◌, ℕ, zero, suc, Bool, cond, List, [], ◌∷◌, ◌++◌, Some, None, Contains, slice_get, option_and_then, sym, subst, arith}
use Rattle.std.proofs.lemmas.Option.{none-some, same_Some}
use Rattle.std.proofs.lemmas.Grind.{common_steps}
use Rattle.model.specs.lists.Syntax.{Position, Name, PatternTree, var_pattern, bind_pattern, bool_pattern, int_pattern, prim_pattern, term_pattern, wildcard_pattern, and_pattern, macro_arg, PatternTrees, no_pattern, pattern_and, pattern_list, ExprTree}
use Rattle.model.specs.lists.Tables.{TermKindEntry, TermEntry}
use Rattle.model.specs.lists.Expansions.{substituted, all_substituted}
use Rattle.model.specs.lists.Setting.{kind_template}
use Rattle.model.proofs.Members.{in_head, in_tail, member_from_get}
use Rattle.model.proofs.Options.{then_some}
use Rattle.core_syntax.specs.Positions.{OccurAmong, pattern_positions, patterns_positions, expr_positions}
use Rattle.core_syntax.proofs.Positioned.{among_same, among_both, among_left, among_right, among_rest, among_each, among_none, among_join, among_next}
use Rattle.core_types.specs.declared.type_env.TypeEnv.{TypeEnv}
use Rattle.core_types.specs.Envs.{symbol_of}
use Rattle.core_terms.specs.TermViews.{term_views}
use Rattle.core_rules.specs.declared.term_env.TermEnv.{TermEnv}
use Rattle.core_rules.specs.TermEnvs.{term_in_env}
use Rattle.core_rules.specs.PatternUses.{found_term, found_template, inside_term}
use Rattle.core_rules.specs.ExprUses.{inside_call}
use Rattle.core_rules.specs.RulePositions.{template_positions, templates_positions, with_templates}
use Rattle.core_terms.specs.TermPositions.{kind_positions, entry_positions, terms_positions}
use Rattle.core_rules.proofs.PatternSizes.{mapped_gives, with_gives}
use Rattle.core_rules.proofs.ErrorPositions.{among_here}

-- a template with patterns in the place of its arguments, where all of them have positions among these
module _ (given : List PatternTree) (all : List Position) (each : (i : ℕ) (p : PatternTree) → slice_get given i ≡ Some p → OccurAmong (pattern_positions p) all) where
  same_places : (t q : PatternTree) → Some t ≡ Some q → OccurAmong (pattern_positions t) all → OccurAmong (pattern_positions q) all
  same_places t q e a = subst (λ p. OccurAmong (pattern_positions p) all) (same_Some t q e) a

  mutual
    pub substituted_places : (t q : PatternTree) → substituted given t ≡ Some q → OccurAmong (pattern_positions t) all → OccurAmong (pattern_positions q) all
    substituted_places (macro_arg i at) q h a = each i q h
    substituted_places (bind_pattern name of at) q h a =
        let g = mapped_gives (λ p. bind_pattern name p at) (substituted given of) q h in
        let rest : OccurAmong (pattern_positions of) all = λ p c. a p (in_tail at p (name.at ∷ pattern_positions of) (in_tail name.at p (pattern_positions of) c)) in
        let r = substituted_places of g.0 g.1 rest in
        subst (λ p. OccurAmong (pattern_positions p) all) g.2
        (grind (arith, common_steps, among_next, in_head, in_tail))
    substituted_places (term_pattern name args at) q h a =
        let g = mapped_gives (λ ps. term_pattern name ps at) (all_substituted given args) q h in
        let rest : OccurAmong (patterns_positions args) all = λ p c. a p (in_tail at p (name.at ∷ patterns_positions args) (in_tail name.at p (patterns_positions args) c)) in
        let r = all_places args g.0 g.1 rest in
        subst (λ p. OccurAmong (pattern_positions p) all) g.2
        (grind (arith, common_steps, among_next, in_head, in_tail))
    substituted_places (and_pattern parts at) q h a =
        let g = mapped_gives (λ ps. and_pattern ps at) (all_substituted given parts) q h in
        let rest : OccurAmong (patterns_positions parts) all = λ p c. a p (in_tail at p (patterns_positions parts) c) in
        let r = all_places parts g.0 g.1 rest in
        subst (λ p. OccurAmong (pattern_positions p) all) g.2 (among_next at (patterns_positions g.0) all (a at (in_head at (patterns_positions parts))) r)
    substituted_places (var_pattern name at) q h a = same_places (var_pattern name at) q h a
    substituted_places (bool_pattern b at) q h a = same_places (bool_pattern b at) q h a
    substituted_places (int_pattern z at) q h a = same_places (int_pattern z at) q h a
    substituted_places (prim_pattern name at) q h a = same_places (prim_pattern name at) q h a
    substituted_places (wildcard_pattern at) q h a = same_places (wildcard_pattern at) q h a

    all_places : (ts qs : PatternTrees) → all_substituted given ts ≡ Some qs → OccurAmong (patterns_positions ts) all → OccurAmong (patterns_positions qs) all
    all_places no_pattern qs h a = subst (λ ps. OccurAmong (patterns_positions ps) all) (same_Some no_pattern qs h) a
    all_places (pattern_and t ts) qs h a =
        let g = with_gives (substituted given t) (all_substituted given ts) qs h in
        let r = substituted_places t g.0 g.2 (among_both (pattern_positions t) (pattern_positions t ++ patterns_positions ts) all (among_left (pattern_positions t) (patterns_positions ts)) a) in
        let u = all_places ts g.1 g.3 (among_both (patterns_positions ts) (pattern_positions t ++ patterns_positions ts) all (among_right (pattern_positions t) (patterns_positions ts)) a) in
        subst (λ ps. OccurAmong (patterns_positions ps) all) g.4 (among_join (pattern_positions g.0) (patterns_positions g.1) all r u)

part_places : (ps : PatternTrees) (i : ℕ) (p : PatternTree) → slice_get (pattern_list ps) i ≡ Some p → OccurAmong (pattern_positions p) (patterns_positions ps)
part_places no_pattern i p h = absurd (cc)
part_places (pattern_and q ps) zero p h = subst (λ x. OccurAmong (pattern_positions x) (pattern_positions q ++ patterns_positions ps)) (same_Some q p h) (among_left (pattern_positions q) (patterns_positions ps))
part_places (pattern_and q ps) (suc i) p h = grind (arith, common_steps, part_places ps i p h, among_both, among_right)

-- a term's template has positions among those of the term
of_kind : (k : TermKindEntry) (p : PatternTree) → kind_template k ≡ Some p → OccurAmong (pattern_positions p) (kind_positions k)
of_kind k p h = grind (arith, none-some)

-- and so those of all templates are among those of the terms
of_template : (expand : Bool) (k : TermKindEntry) → OccurAmong (template_positions (cond expand (kind_template k) None)) (kind_positions k)
of_template expand k = grind (arith, common_steps, among_none, of_kind)

pub templates_inside : (expand : Bool) (ts : List TermEntry) → OccurAmong (templates_positions expand ts) (terms_positions ts)
templates_inside expand [] = among_none []
templates_inside expand (t ∷ ts) =
    let own = template_positions (cond expand (kind_template t.kind) None) in
    let all = entry_positions t ++ terms_positions ts in
    among_join own (templates_positions expand ts) all
    (among_both own (kind_positions t.kind) all (of_template expand t.kind) (among_both (kind_positions t.kind) (entry_positions t) all (among_rest t.at (kind_positions t.kind)) (among_left (entry_positions t) (terms_positions ts))))
    (among_both (templates_positions expand ts) (terms_positions ts) all (templates_inside expand ts) (among_right (entry_positions t) (terms_positions ts)))

module _ (env : TermEnv) (tyenv : TypeEnv) (name : Name) (args : PatternTrees) (at : Position) where
  abbrev whole : PatternTree
  whole = term_pattern name args at

  -- the template of a term, with the arguments
  pub expanded_places : (t : TermEntry) → Some t ≡ found_term env tyenv name.text → (template : PatternTree) → Some template ≡ found_template env t → (made : PatternTree) → Some made ≡ substituted (pattern_list args) template
      → OccurAmong (pattern_positions made) (with_templates env (pattern_positions whole))
  expanded_places t known template there made is_made =
      let terms = term_views env.terms.items in
      let place = then_some (option_and_then (term_in_env env) (symbol_of tyenv name.text)) (slice_get terms) t (sym known) in
      let templates = templates_positions env.expand_internal_extractors terms in
      let of_term : OccurAmong (pattern_positions template) templates =
      subst (λ o. OccurAmong (template_positions o) templates) (sym there) (among_each (λ u. template_positions (found_template env u)) terms t (member_from_get terms place.0 t place.2)) in
      let args_inside : OccurAmong (patterns_positions args) (pattern_positions whole) = λ p c. in_tail at p (name.at ∷ patterns_positions args) (in_tail name.at p (patterns_positions args) c) in
      substituted_places (pattern_list args) (with_templates env (pattern_positions whole))
      (λ i p h. among_here env (pattern_positions p) (pattern_positions whole) (among_both (pattern_positions p) (patterns_positions args) (pattern_positions whole) (part_places args i p h) args_inside))
      template made (sym is_made)
      (among_both (pattern_positions template) templates (with_templates env (pattern_positions whole)) of_term (among_right (pattern_positions whole) templates))

-- a pattern inside a converter's use, at a position of its own
pub converted_places : (env : TermEnv) (tyenv : TypeEnv) (by : TermEntry) (at : Position) (p : PatternTree) → Contains (pattern_positions p) at → OccurAmong (pattern_positions (inside_term tyenv by at p)) (with_templates env (pattern_positions p))
converted_places env tyenv by at p here =
    let inside = pattern_positions p in
    among_here env (pattern_positions (inside_term tyenv by at p)) inside
    (among_next at (at ∷ inside ++ []) inside here (among_next at (inside ++ []) inside here (among_join inside [] inside (among_same inside) (among_none inside))))

-- an expression likewise
pub called_places : (tyenv : TypeEnv) (by : TermEntry) (at : Position) (x : ExprTree) → Contains (expr_positions x) at → OccurAmong (expr_positions (inside_call tyenv by at x)) (expr_positions x)
called_places tyenv by at x here =
    let inside = expr_positions x in
    among_next at (at ∷ inside ++ []) inside here (among_next at (inside ++ []) inside here (among_join inside [] inside (among_same inside) (among_none inside)))
