-- The constants that demands ask of sites are those that patterns name.
use Rattle.std.proofs.Common.{◌≡◌, ◌&&◌, ◌||◌, not, ℕ, suc, Bool, true, false, List, [], ◌∷◌, ◌++◌, Some, slice_get, Contains, flat_map, refl, sym, ap, ◌∙◌, subst, inl, inr, arith}
use Rattle.std.proofs.lemmas.Bool.{and_from, not-true}
use Rattle.std.proofs.lemmas.Grind.{common_steps}
use Rattle.model.specs.lists.Formed.{formed_pattern, formed_parts, formed_each, formed_list, formed_iflets, is_formed_rule}
use Rattle.model.specs.rules.Values.{Value}
use Rattle.model.specs.rules.Meaning.{bool_literal, int_literal, Meaning}
use Rattle.model.specs.rules.Program.{Program, Kind, unknown, kind, rules_of}
use Rattle.model.specs.rules.Typed.{TypedPattern, match_bind, match_var, match_bool, match_int, match_prim, match_term, match_any, match_and, TypedPatterns, no_typed_pattern, typed_pattern_and, TypedIfLet, TypedRule}
use Rattle.model.specs.sites.Sites.{Constraint, is_bool, is_int, is_prim, is_present, SiteTerm, bool_term, int_term, prim_term, argument}
use Rattle.model.specs.visits.Demands.{site_term_eq, Visit, visit_start, asking, equating, binding, var_site, open_term, visit_pattern, visit_each, visit_all, visit_expr, unwraps, asking_all, visit_args, visit_iflets, demands_of, taking_argument}
use Rattle.model.specs.sites.Serves.{constant_site, constant_type, written_type, written_value, tested_constants, is_open_constant, is_type_with_parts, TellsConstantsApart}
use Rattle.model.specs.claims.Environments.{program_of}
use Rattle.model.proofs.Either.{either}
use Rattle.model.proofs.Elements.{In, in_from_contains, contains_from_in, in_left, in_right, in_either, some_is, none_some, in_flat_map, from_flat_map}
use Rattle.laws_typing.proofs.FormedParts.{from_if, type_is}
use Rattle.laws_typing.proofs.WellTypedRules.{elaborated_programs_are_well_typed_lem}
use Rattle.laws_sites.proofs.Patterns.{AsManySites, term_known, as_many_sites}
use Rattle.laws_sites.proofs.RuleParts.{iflet_parts, rule_parts}
use Rattle.laws_sites.proofs.GrowingVisits.{equated, Grown, each_grown, all_grown, args_grown, iflets_grown, expr_adds, rule_adds}
use Rattle.laws_sites.proofs.PatternParts.{pattern_parts, from_part, from_bind}
use Rattle.laws_sites.proofs.built.BuiltSets.{typed_rule}
use Rattle.laws_typing.specs.WellTypedPrograms.{IsWellTypedProgram}
use Rattle.laws_trees.specs.PatternConstants.{PatternConstant, a_literal, a_name, pattern_constants, patterns_constants, rule_constants, rules_constants, type_of_constant, means_itself, value_in, TellsPatternsApart, LiteralsAreToldApart, ConstantsAreOfPatterns, HeadlineIsOfPatterns}

-- 1. each constant that demands ask for is named by a pattern
-- the site of a constant
abbrev pub site_of : PatternConstant → SiteTerm
site_of (a_literal (bool_literal b ty)) = bool_term b ty
site_of (a_literal (int_literal z ty)) = int_term z ty
site_of (a_name name ty) = prim_term name

module _ (p : Program) (P : SiteTerm → Type 0) where
  abbrev AreSuch : List SiteTerm → Type 0
  AreSuch us = (u : SiteTerm) → In us u → P u

  abbrev AsksSuch : Visit → Type 0
  AsksSuch v = (x : SiteTerm × Constraint) → In v.demands.constraints x → AreSuch (constant_site x.1)

  abbrev NameSuch : List PatternConstant → Type 0
  NameSuch ks = (k : PatternConstant) → In ks k → P (site_of k)

  none_such : AreSuch []
  none_such u i = absurd i

  one_such : (s : SiteTerm) → P s → AreSuch (s ∷ [])
  one_such s h u k = grind (arith, common_steps)

  asked_such : (s : SiteTerm) (c : Constraint) (v : Visit) → AreSuch (constant_site c) → AsksSuch v → AsksSuch (asking s c v)
  asked_such s c v t h x i = grind (arith, common_steps, in_either)

  all_asked_such : (ss : List SiteTerm) (v : Visit) → AsksSuch v → AsksSuch (asking_all ss v)
  all_asked_such [] v h = h
  all_asked_such (s ∷ ss) v h = all_asked_such ss (asking s is_present v) (asked_such s is_present v none_such h)

  equated_such : (a b : SiteTerm) (v : Visit) → AsksSuch v → AsksSuch (equating a b v)
  unfolding equated
  equated_such a b v h = either AsksSuch (site_term_eq a b) v (equated a b v) h h

  term_such : (k : Kind) (t : ℕ) (s : SiteTerm) (args : TypedPatterns) (v : Visit) → AsksSuch v → AsksSuch (open_term k t s args v).visit
  term_such k t s args v h = grind (arith, common_steps, asked_such)

  mutual
    pattern_such : (q : TypedPattern) (s : SiteTerm) (v : Visit) → NameSuch (pattern_constants q) → AsksSuch v → AsksSuch (visit_pattern p q s v)
    pattern_such (match_bind ty x sub) s v n h = pattern_such sub s (binding x s v) n h
    pattern_such (match_var ty x) s v n h = equated_such s (var_site v x) v h
    pattern_such (match_bool ty b) s v n h = asked_such s (is_bool b ty) v (one_such (bool_term b ty) (n (a_literal (bool_literal b ty)) (inl refl))) h
    pattern_such (match_int ty z) s v n h = asked_such s (is_int z ty) v (one_such (int_term z ty) (n (a_literal (int_literal z ty)) (inl refl))) h
    pattern_such (match_prim ty name) s v n h = asked_such s (is_prim name) v (one_such (prim_term name) (n (a_name name ty) (inl refl))) h
    pattern_such (match_term ty t args) s v n h = grind (arith, common_steps, each_such args, term_such)
    pattern_such (match_any ty) s v n h = h
    pattern_such (match_and ty subs) s v n h = all_such subs s v n h

    each_such : (qs : TypedPatterns) (ss : List SiteTerm) (v : Visit) → NameSuch (patterns_constants qs) → AsksSuch v → AsksSuch (visit_each p qs ss v)
    each_such no_typed_pattern ss v n h = h
    each_such (typed_pattern_and q qs) [] v n h = h
    each_such (typed_pattern_and q qs) (s ∷ ss) v n h = grind (arith, common_steps, each_such qs ss (visit_pattern p q s v), pattern_such q s v, in_right, in_left)

    all_such : (qs : TypedPatterns) (s : SiteTerm) (v : Visit) → NameSuch (patterns_constants qs) → AsksSuch v → AsksSuch (visit_all p qs s v)
    all_such no_typed_pattern s v n h = h
    all_such (typed_pattern_and q qs) s v n h = grind (arith, common_steps, all_such qs s (visit_pattern p q s v), pattern_such q s v, in_right, in_left)

  args_such : (i : ℕ) (qs : List TypedPattern) (v : Visit) → NameSuch (flat_map pattern_constants qs) → AsksSuch v → AsksSuch (visit_args p i qs v)
  args_such i [] v n h = h
  args_such i (q ∷ qs) v n h = grind (arith, common_steps, args_such (suc i) qs (visit_pattern p q (argument i) (taking_argument i v)), in_right, pattern_such, in_left)

  iflets_such : (is : List TypedIfLet) (v : Visit) → NameSuch (flat_map (λ (i : TypedIfLet). pattern_constants i.lhs) is) → AsksSuch v → AsksSuch (visit_iflets p is v)
  iflets_such [] v n h = h
  iflets_such (i ∷ is) v n h =
      let b = visit_expr p i.rhs v in
      let u = asking_all (unwraps b.site) b.visit in
      iflets_such is (visit_pattern p i.lhs b.site u) (λ k j. n k (in_right (pattern_constants i.lhs) (flat_map (λ (y : TypedIfLet). pattern_constants y.lhs) is) k j))
      (pattern_such i.lhs b.site u (λ k j. n k (in_left (pattern_constants i.lhs) (flat_map (λ (y : TypedIfLet). pattern_constants y.lhs) is) k j))
      (all_asked_such (unwraps b.site) b.visit (λ x j. h x (subst (λ l. In l x) (expr_adds p i.rhs v).constraints j))))

  rule_such : (r : TypedRule) → NameSuch (rule_constants r) → (x : SiteTerm × Constraint) → In (demands_of p r).constraints x → AreSuch (constant_site x.1)
  rule_such r n x i =
      let u = visit_args p 0 r.args visit_start in
      let w = visit_iflets p r.iflets u in
      iflets_such r.iflets u (λ k j. n k (in_right (flat_map pattern_constants r.args) (flat_map (λ (y : TypedIfLet). pattern_constants y.lhs) r.iflets) k j))
      (args_such 0 r.args visit_start (λ k j. n k (in_left (flat_map pattern_constants r.args) (flat_map (λ (y : TypedIfLet). pattern_constants y.lhs) r.iflets) k j)) (λ y j. absurd j))
      x (subst (λ l. In l x) (rule_adds p r w).constraints i)

-- a constant that patterns name, with this site
record IsNamed (ks : List PatternConstant) (u : SiteTerm) : Type 0 where
  constant : PatternConstant
  named : In ks constant
  site : site_of constant ≡ u

named_of_rule : (p : Program) (r : TypedRule) (x : SiteTerm × Constraint) → In (demands_of p r).constraints x → (u : SiteTerm) → In (constant_site x.1) u → IsNamed (rule_constants r) u
named_of_rule p r x i u j = rule_such p (IsNamed (rule_constants r)) r (λ k n. record { constant = k; named = n; site = refl }) x i u j

-- 2. each constant that a pattern names is asked for, at its type
-- a site is asked to have it
record IsAsked (v : Visit) (k : PatternConstant) : Type 0 where
  asked : SiteTerm × Constraint
  listed : In v.demands.constraints asked
  constant : In (constant_site asked.1) (site_of k)

asked_later : (v w : Visit) (k : PatternConstant) → Grown v w → IsAsked v k → IsAsked w k
asked_later v w k g a = record { asked = a.asked; listed = g.asked a.asked a.listed; constant = a.constant }

asked_now : (s : SiteTerm) (c : Constraint) (v : Visit) (k : PatternConstant) → In (constant_site c) (site_of k) → IsAsked (asking s c v) k
asked_now s c v k i = record { asked = (s, c); listed = in_right v.demands.constraints ((s, c) ∷ []) (s, c) (inl refl); constant = i }

term_inputs : (k : Kind) (t : ℕ) (s : SiteTerm) (args : TypedPatterns) (v : Visit) → (k ≡ unknown → ⊥) → AsManySites (open_term k t s args v).inputs args
term_inputs k t s args v known = grind (arith, common_steps, as_many_sites)

-- it is asked for, and is of the type that the pattern says
abbrev IsMet : Program → Visit → PatternConstant → Type 0
IsMet p v k = IsAsked v k × (written_type p (site_of k) ≡ Some (type_of_constant k))

abbrev AreMet : Program → Visit → List PatternConstant → Type 0
AreMet p v ks = (k : PatternConstant) → In ks k → IsMet p v k

module _ (p : Program) where
  none_met : (v : Visit) → AreMet p v []
  none_met v k i = absurd i

  one_met : (v : Visit) (c : PatternConstant) → IsMet p v c → AreMet p v (c ∷ [])
  one_met v c h k j = grind (arith, common_steps)

  met_later : (v w : Visit) (ks : List PatternConstant) → Grown v w → AreMet p v ks → AreMet p w ks
  met_later v w ks g h k i = let a = h k i in (asked_later v w k g a.0, a.1)

  both_met : (v : Visit) (ks ls : List PatternConstant) → AreMet p v ks → AreMet p v ls → AreMet p v (ks ++ ls)
  both_met v ks ls h g k i = elim (in_either ks ls k i) [ inl j ↦ h k j | inr j ↦ g k j ]

  mutual
    pattern_met : (q : TypedPattern) (s : SiteTerm) (v : Visit) (vars more : List (ℕ × ℕ)) → formed_pattern p q vars ≡ Some more → AreMet p (visit_pattern p q s v) (pattern_constants q)
    pattern_met (match_bind ty x sub) s v vars more f = let a = from_bind p ty x sub vars more f in pattern_met sub s (binding x s v) vars a.0 a.2
    pattern_met (match_var ty x) s v vars more f = none_met (equating s (var_site v x) v)
    pattern_met (match_bool ty b) s v vars more f = grind (arith, common_steps, one_met, asked_now)
    pattern_met (match_int ty z) s v vars more f = grind (arith, common_steps, one_met, asked_now)
    pattern_met (match_prim ty name) s v vars more f = grind (arith, common_steps, one_met, asked_now, type_is, from_if)
    pattern_met (match_term ty t args) s v vars more f =
        let a = pattern_parts p ty t args vars more f in
        let o = open_term (kind p t) t s args v in
        each_met args o.inputs a.entry.arg_tys o.visit vars more a.formed (term_inputs (kind p t) t s args v (term_known p t a.entry a.there))
    pattern_met (match_any ty) s v vars more f = none_met v
    pattern_met (match_and ty subs) s v vars more f = all_met subs s ty v vars more f

    each_met : (qs : TypedPatterns) (ss : List SiteTerm) (tys : List ℕ) (v : Visit) (vars more : List (ℕ × ℕ)) → formed_parts p qs tys vars ≡ Some more → AsManySites ss qs → AreMet p (visit_each p qs ss v) (patterns_constants qs)
    each_met no_typed_pattern ss tys v vars more f n = none_met v
    each_met (typed_pattern_and q qs) [] tys v vars more f n = absurd n
    each_met (typed_pattern_and q qs) (s ∷ ss) [] v vars more f n = absurd (none_some more f)
    each_met (typed_pattern_and q qs) (s ∷ ss) (ty ∷ tys) v vars more f n =
        let a = from_part p q ty vars more (λ mid. formed_parts p qs tys mid) f in
        let w = visit_pattern p q s v in
        both_met (visit_each p qs ss w) (pattern_constants q) (patterns_constants qs)
        (met_later w (visit_each p qs ss w) (pattern_constants q) (each_grown p qs ss w) (pattern_met q s v vars a.0 a.2)) (each_met qs ss tys w a.0 more a.3 n)

    all_met : (qs : TypedPatterns) (s : SiteTerm) (ty : ℕ) (v : Visit) (vars more : List (ℕ × ℕ)) → formed_each p qs ty vars ≡ Some more → AreMet p (visit_all p qs s v) (patterns_constants qs)
    all_met no_typed_pattern s ty v vars more f = none_met v
    all_met (typed_pattern_and q qs) s ty v vars more f =
        let a = from_part p q ty vars more (λ mid. formed_each p qs ty mid) f in
        let w = visit_pattern p q s v in
        both_met (visit_all p qs s w) (pattern_constants q) (patterns_constants qs)
        (met_later w (visit_all p qs s w) (pattern_constants q) (all_grown p qs s w) (pattern_met q s v vars a.0 a.2)) (all_met qs s ty w a.0 more a.3)

  args_met : (i : ℕ) (qs : List TypedPattern) (tys : List ℕ) (v : Visit) (vars more : List (ℕ × ℕ)) → formed_list p qs tys vars ≡ Some more → AreMet p (visit_args p i qs v) (flat_map pattern_constants qs)
  args_met i [] tys v vars more f = none_met v
  args_met i (q ∷ qs) [] v vars more f = absurd (none_some more f)
  args_met i (q ∷ qs) (ty ∷ tys) v vars more f =
      let a = from_part p q ty vars more (λ mid. formed_list p qs tys mid) f in
      let u = taking_argument i v in
      let w = visit_pattern p q (argument i) u in
      both_met (visit_args p (suc i) qs w) (pattern_constants q) (flat_map pattern_constants qs)
      (met_later w (visit_args p (suc i) qs w) (pattern_constants q) (args_grown p (suc i) qs w) (pattern_met q (argument i) u vars a.0 a.2)) (args_met (suc i) qs tys w a.0 more a.3)

  iflets_met : (is : List TypedIfLet) (v : Visit) (vars more : List (ℕ × ℕ)) → formed_iflets p is vars ≡ Some more → AreMet p (visit_iflets p is v) (flat_map (λ (i : TypedIfLet). pattern_constants i.lhs) is)
  iflets_met [] v vars more f = none_met v
  iflets_met (i ∷ is) v vars more f =
      let a = iflet_parts p i is vars more f in
      let b = visit_expr p i.rhs v in
      let u = asking_all (unwraps b.site) b.visit in
      let w = visit_pattern p i.lhs b.site u in
      both_met (visit_iflets p is w) (pattern_constants i.lhs) (flat_map (λ (y : TypedIfLet). pattern_constants y.lhs) is)
      (met_later w (visit_iflets p is w) (pattern_constants i.lhs) (iflets_grown p is w) (pattern_met i.lhs b.site u vars a.mid a.pattern)) (iflets_met is w a.mid more a.rest)

  -- a constant of a rule is asked for by its demands
  record IsDemanded (r : TypedRule) (k : PatternConstant) : Type 0 where
    asked : SiteTerm × Constraint
    listed : In (demands_of p r).constraints asked
    constant : In (constant_site asked.1) (site_of k)
    typed : written_type p (site_of k) ≡ Some (type_of_constant k)

  rule_met : (r : TypedRule) → is_formed_rule p r ≡ true → (k : PatternConstant) → In (rule_constants r) k → IsDemanded r k
  rule_met r f k i =
      let a = rule_parts p r f in
      let u = visit_args p 0 r.args visit_start in
      let w = visit_iflets p r.iflets u in
      let m = both_met w (flat_map pattern_constants r.args) (flat_map (λ (y : TypedIfLet). pattern_constants y.lhs) r.iflets)
      (met_later u w (flat_map pattern_constants r.args) (iflets_grown p r.iflets u) (args_met 0 r.args a.entry.arg_tys visit_start [] a.mid a.args)) (iflets_met r.iflets u a.mid a.vars a.iflets) k i in
      record { asked = m.0.asked; listed = subst (λ l. In l m.0.asked) (sym (rule_adds p r w).constraints) m.0.listed; constant = m.0.constant; typed = m.1 }

-- 3. the two premises are one
-- a constant that means what it writes is none whose value may be any
open_or_itself : (p : Program) (k : PatternConstant) → is_open_constant p (site_of k) ≡ not (means_itself p k)
open_or_itself p k = grind (arith, common_steps)

one_open : (a b : Bool) → (not a || not b) ≡ true → (a && b) ≡ false
one_open a b h = grind (arith, common_steps, not-true)

not_both : (a b : Bool) → (a && b) ≡ false → (not a || not b) ≡ true
not_both a b h = grind (arith, common_steps)

-- constants of one site and one type are one
one_constant : (a b : PatternConstant) → site_of a ≡ site_of b → type_of_constant a ≡ type_of_constant b → a ≡ b
one_constant a b e g = grind (arith, common_steps)

value_there : (m : Meaning) (k : PatternConstant) → written_value m (site_of k) ≡ value_in m k
value_there m k = grind (arith, common_steps)

-- a site of a named constant
of_name : (k : PatternConstant) (name : ℕ) → site_of k ≡ prim_term name → k ≡ a_name name (type_of_constant k)
of_name k name e = grind (arith, common_steps)

-- a constraint that names a named constant
of_constraint : (c : Constraint) (name : ℕ) → In (constant_site c) (prim_term name) → c ≡ is_prim name
of_constraint c name j = grind (arith, common_steps)

module _ (p : Program) (rs : List TypedRule) (formed : (r : TypedRule) → In rs r → is_formed_rule p r ≡ true) where
  -- a constant that demands test, as patterns name it
  record IsTested (s : SiteTerm) : Type 0 where
    constant : PatternConstant
    named : Contains (rules_constants rs) constant
    site : site_of constant ≡ s
    typed : written_type p s ≡ Some (type_of_constant constant)

  abbrev constants_of : SiteTerm × Constraint → List SiteTerm
  constants_of x = constant_site x.1

  of_rule : (r : TypedRule) → In rs r → (x : SiteTerm × Constraint) → In (demands_of p r).constraints x → (s : SiteTerm) → In (constant_site x.1) s → IsTested s
  of_rule r i x j s l =
      let n = named_of_rule p r x j s l in
      let d = rule_met p r (formed r i) n.constant n.named in
      record {
        constant = n.constant;
        named = contains_from_in (rules_constants rs) n.constant (in_flat_map rule_constants rs r n.constant i n.named);
        site = n.site;
        typed = subst (λ u. written_type p u ≡ Some (type_of_constant n.constant)) n.site d.typed;
      }

  tested : (s : SiteTerm) → Contains (tested_constants p rs) s → IsTested s
  tested s c =
      let a = from_flat_map (λ (r : TypedRule). flat_map constants_of (demands_of p r).constraints) rs s (in_from_contains (tested_constants p rs) s c) in
      let b = from_flat_map constants_of (demands_of p a.0).constraints s a.2 in
      of_rule a.0 a.1 b.0 b.1 s b.2

  -- a constant that patterns name, with the rule that asks for it
  record IsOfRule (k : PatternConstant) : Type 0 where
    rule : TypedRule
    listed : In rs rule
    demanded : IsDemanded p rule k

  named_by : (k : PatternConstant) → Contains (rules_constants rs) k → IsOfRule k
  named_by k c =
      let a = from_flat_map rule_constants rs k (in_from_contains (rules_constants rs) k c) in
      record { rule = a.0; listed = a.1; demanded = rule_met p a.0 (formed a.0 a.1) k a.2 }

  is_tested : (k : PatternConstant) → Contains (rules_constants rs) k → Contains (tested_constants p rs) (site_of k)
  is_tested k c =
      let a = named_by k c in
      contains_from_in (tested_constants p rs) (site_of k)
      (in_flat_map (λ (r : TypedRule). flat_map constants_of (demands_of p r).constraints) rs a.rule (site_of k) a.listed
      (in_flat_map constants_of (demands_of p a.rule).constraints a.demanded.asked (site_of k) a.demanded.listed a.demanded.constant))

  one_is_open : (a b : PatternConstant) → (is_open_constant p (site_of a) || is_open_constant p (site_of b)) ≡ true → (means_itself p a && means_itself p b) ≡ false
  one_is_open a b h = one_open (means_itself p a) (means_itself p b) (sym (ap (λ x. x || is_open_constant p (site_of b)) (open_or_itself p a) ∙ ap (λ x. not (means_itself p a) || x) (open_or_itself p b)) ∙ h)

  are_open : (a b : PatternConstant) → (means_itself p a && means_itself p b) ≡ false → (is_open_constant p (site_of a) || is_open_constant p (site_of b)) ≡ true
  are_open a b h = ap (λ x. x || is_open_constant p (site_of b)) (open_or_itself p a) ∙ ap (λ x. not (means_itself p a) || x) (open_or_itself p b) ∙ not_both (means_itself p a) (means_itself p b) h

  -- from patterns to sites
  same_site : (m : Meaning) → TellsPatternsApart p m rs → (a b : SiteTerm) (ty : ℕ) (x : IsTested a) (y : IsTested b) → (is_open_constant p a || is_open_constant p b) ≡ true → written_type p a ≡ Some ty → written_type p b ≡ Some ty
      → (v : Value) → value_in m x.constant ≡ Some v → value_in m y.constant ≡ Some v → a ≡ b
  same_site m h a b ty x y o s t v g k =
      let opened = ap (λ u. is_open_constant p u || is_open_constant p (site_of y.constant)) x.site ∙ ap (λ u. is_open_constant p a || is_open_constant p u) y.site ∙ o in
      let one = some_is (type_of_constant x.constant) ty (sym x.typed ∙ s) in
      let two = some_is (type_of_constant y.constant) ty (sym y.typed ∙ t) in
      sym x.site ∙ ap site_of (h.different x.constant y.constant v x.named y.named (one ∙ sym two) (one_is_open x.constant y.constant opened) g k) ∙ y.site

  no_parts : (m : Meaning) → TellsPatternsApart p m rs → (r : TypedRule) (s : SiteTerm) (name ty : ℕ) → Contains rs r → Contains (demands_of p r).constraints (s, is_prim name) → constant_type p name ≡ Some ty → is_type_with_parts (slice_get p.types ty) ≡ false
  no_parts m h r s name ty c i t =
      let x = of_rule r (in_from_contains rs r c) (s, is_prim name) (in_from_contains (demands_of p r).constraints (s, is_prim name) i) (prim_term name) (inl refl) in
      let one = some_is (type_of_constant x.constant) ty (sym x.typed ∙ t) in
      h.without_parts name ty (subst (Contains (rules_constants rs)) (of_name x.constant name x.site ∙ ap (a_name name) one) x.named)

  -- and back
  parts_back : ((r : TypedRule) (s : SiteTerm) (name ty : ℕ) → Contains rs r → Contains (demands_of p r).constraints (s, is_prim name) → constant_type p name ≡ Some ty → is_type_with_parts (slice_get p.types ty) ≡ false)
      → (name ty : ℕ) → Contains (rules_constants rs) (a_name name ty) → is_type_with_parts (slice_get p.types ty) ≡ false
  parts_back h name ty c =
      let a = named_by (a_name name ty) c in
      let e = of_constraint a.demanded.asked.1 name a.demanded.constant in
      h a.rule a.demanded.asked.0 name ty (contains_from_in rs a.rule a.listed)
      (contains_from_in (demands_of p a.rule).constraints (a.demanded.asked.0, is_prim name)
      (subst (λ x. In (demands_of p a.rule).constraints (a.demanded.asked.0, x)) e a.demanded.listed))
      a.demanded.typed

  tells : (m : Meaning) → TellsPatternsApart p m rs → TellsConstantsApart p m rs
  tells m h = record {
    different = λ a b ty v i j o s t g k.
        (let x = tested a i in
        let y = tested b j in
        same_site m h a b ty x y o s t v (sym (value_there m x.constant) ∙ ap (written_value m) x.site ∙ g) (sym (value_there m y.constant) ∙ ap (written_value m) y.site ∙ k));
    without_parts = no_parts m h;
  }

  told : (m : Meaning) → TellsConstantsApart p m rs → TellsPatternsApart p m rs
  told m h = record {
    different = λ a b v i j same o g k.
        one_constant a b
        (h.different (site_of a) (site_of b) (type_of_constant a) v (is_tested a i) (is_tested b j) (are_open a b o)
        (named_by a i).demanded.typed ((named_by b j).demanded.typed ∙ ap Some (sym same)) (value_there m a ∙ g) (value_there m b ∙ k))
        same;
    without_parts = parts_back h.without_parts;
  }

-- 4. rules that elaborate
all_formed : (p : Program) (t : ℕ) → IsWellTypedProgram p → (r : TypedRule) → In (rules_of p t) r → is_formed_rule p r ≡ true
all_formed p t h r i = (typed_rule p t r h (contains_from_in (rules_of p t) r i)).formed

pub tells_constants : (p : Program) (t : ℕ) (m : Meaning) → IsWellTypedProgram p → TellsPatternsApart p m (rules_of p t) → TellsConstantsApart p m (rules_of p t)
tells_constants p t m h = tells p (rules_of p t) (all_formed p t h) m

pub constants_are_of_patterns_lem : ConstantsAreOfPatterns
constants_are_of_patterns_lem e defs expand rules t m h =
    let p = program_of e defs rules.rules in
    let formed = all_formed p t (elaborated_programs_are_well_typed_lem e defs expand rules h) in
    (tells p (rules_of p t) formed m, told p (rules_of p t) formed m)

pub headline_is_of_patterns_lem : HeadlineIsOfPatterns
headline_is_of_patterns_lem e defs expand rules t sites tree h =
    let p = program_of e defs rules.rules in
    let w = elaborated_programs_are_well_typed_lem e defs expand rules h in
    record {
      chooses = λ runs without m args typed served apart. runs without m args typed served (tells_constants p t m w apart);
      collects = λ bags multi results m args typed served apart. bags multi results m args typed served (tells_constants p t m w apart);
    }

-- 5. literals that mean what they write
pub literals_are_told_apart_lem : LiteralsAreToldApart
literals_are_told_apart_lem p m rs all = grind (arith, common_steps, and_from)
