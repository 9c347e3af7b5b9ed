-- A rule that hangs together matches exactly where what its visit asks is met.
use Rattle.std.proofs.Common.{◌≡◌, ℕ, suc, ◌+◌, true, List, [], ◌∷◌, Option, Some, None, is_some, slice_get, refl, sym, ap, subst, ◌∙◌, inl, inr, eqb-true, arith}
use Rattle.std.proofs.lemmas.Bool.{and_parts, false≢true}
use Rattle.std.proofs.lemmas.Grind.{common_steps}
use Rattle.model.specs.rules.Values.{Value, of_variant, of_struct, Values, value_and, of_list, well_typed, all_well_typed, args_well_typed}
use Rattle.model.specs.rules.Meaning.{Content, one, just, extractor_answer}
use Rattle.model.specs.rules.Outcome.{then_option}
use Rattle.model.specs.rules.Program.{Program, arg_types}
use Rattle.model.specs.rules.Typed.{TypedPattern, TypedIfLet, TypedRule}
use Rattle.model.specs.rules.Picks.{picked, field_of_variant, field_of_struct, part_of_some, call_answer, SitedVars, expr_site, holds_under, value_under, args_hold_under, iflets_hold_under, matches_under}
use Rattle.model.specs.trees.Run.{as_value, from_value, part_at}
use Rattle.model.specs.sites.Sites.{is_present, SiteTerm, bool_term, int_term, prim_term, argument, extractor_call, constructor_call, pick_of, variant_made, variant_field, struct_made, struct_field, some_made, some_part, tuple_part, no_site, SiteTerms, no_site_term, site_term_and}
use Rattle.model.specs.visits.Demands.{demands_of, Visit, visit_start, visit_pattern, Valued, visit_expr, unwraps, unwraps_all, asking_all, visit_args, visit_iflets, visit_rule, taking_argument}
use Rattle.model.specs.sites.DemandedGates.{IsPureExpr, ArePureIfLets}
use Rattle.model.specs.lists.Setting.{expr_type}
use Rattle.model.specs.lists.Formed.{pattern_type, formed_pattern, is_formed_expr, formed_list, formed_iflets, is_formed_rule}
use Rattle.model.proofs.Elements.{In, in_from_contains, in_either, some_is, none_some}
use Rattle.model.proofs.Options.{is_there, some_then}
use Rattle.laws_sites.proofs.AskedSites.{all_asked, asked_binds}
use Rattle.laws_sites.proofs.Patterns.{from_then}
use Rattle.laws_trees.proofs.Contents.{Given, content_of, value_of, values_of, Here, IsAnswered, is_value}
use Rattle.laws_trees.proofs.Demanded.{AreMet, AskEnough, enough_before, met_all, meets_present, AreBound, bound_vars, Past, then_past, After}
use Rattle.laws_trees.proofs.Exprs.{expr_valued}
use Rattle.laws_sites.proofs.GrowingVisits.{Grown, then_grown, grown_all, expr_adds, pattern_grown, iflets_grown, args_grown, rule_adds}
use Rattle.laws_sites.proofs.PatternParts.{from_part}
use Rattle.laws_trees.proofs.Patterns.{pattern_after}
use Rattle.laws_sites.proofs.SameExprs.{expr_keeps}
use Rattle.laws_typing.specs.WellTypedPrograms.{IsWellTypedProgram}
use Rattle.laws_trees.proofs.Variables.{named, IsPresent, AllPresent, var_moved}
use Rattle.laws_sites.proofs.RuleParts.{iflet_parts}
use Rattle.laws_trees.proofs.picks.HeldContents.{is_just}
pub use Rattle.laws_sites.proofs.RuleParts.{RuleParts, rule_parts}

-- 1. the calls that a site with a content unwraps answer
module _ (g : Given) where
  only : (s : SiteTerm) → IsPresent g s → AllPresent g (unwraps s) → AllPresent g (s ∷ unwraps s)
  only s h f u (inl e) = subst (IsPresent g) e h
  only s h f u (inr i) = f u i

  mutual
    pub unwrapped_present : (s : SiteTerm) (c : Content) → content_of g s ≡ Some c → AllPresent g (unwraps s)
    unwrapped_present (bool_term b ty) c e u i = absurd i
    unwrapped_present (int_term z ty) c e u i = absurd i
    unwrapped_present (prim_term name) c e u i = absurd i
    unwrapped_present (argument n) c e u i = absurd i
    unwrapped_present (extractor_call t s) c e u i =
        let a = from_then (value_of g s) (extractor_answer g.meaning t) c e in
        let b = from_then (content_of g s) as_value a.0 a.1 in unwrapped_present s b.0 b.1 u i
    unwrapped_present (constructor_call t ss n) c e u i = let a = from_then (values_of g ss) (call_answer g.meaning t n) c e in each_present ss a.0 a.1 u i
    unwrapped_present (pick_of s) c e u i = let a = from_then (content_of g s) (picked g.pick s) c e in unwrapped_present s a.0 a.1 u i
    unwrapped_present (variant_made ty n ss) c e u i = let a = from_then (values_of g ss) (λ vs. Some (one (of_variant ty n vs))) c e in each_present ss a.0 a.1 u i
    unwrapped_present (variant_field s n f) c e u i =
        let a = from_then (value_of g s) (field_of_variant n f) c e in
        let b = from_then (content_of g s) as_value a.0 a.1 in unwrapped_present s b.0 b.1 u i
    unwrapped_present (struct_made ty ss) c e u i = let a = from_then (values_of g ss) (λ vs. Some (one (of_struct ty vs))) c e in each_present ss a.0 a.1 u i
    unwrapped_present (struct_field s f) c e u i =
        let a = from_then (value_of g s) (field_of_struct f) c e in
        let b = from_then (content_of g s) as_value a.0 a.1 in unwrapped_present s b.0 b.1 u i
    unwrapped_present (some_made s) c e u i = let a = from_then (content_of g s) (λ d. Some (just d)) c e in unwrapped_present s a.0 a.1 u i
    unwrapped_present (some_part s) c e u i =
        let a = from_then (content_of g s) part_of_some c e in
        only s (c, a.1 ∙ ap Some (is_just a.0 c a.2)) (unwrapped_present s a.0 a.1) u i
    unwrapped_present (tuple_part s f) c e u i = let a = from_then (content_of g s) (λ d. part_at d f) c e in unwrapped_present s a.0 a.1 u i
    unwrapped_present no_site c e u i = absurd (none_some c e)

    each_present : (ss : SiteTerms) (vs : Values) → values_of g ss ≡ Some vs → AllPresent g (unwraps_all ss)
    each_present no_site_term vs e u i = absurd i
    each_present (site_term_and s ss) vs e u i =
        let a = from_then (value_of g s) (λ v. then_option (values_of g ss) (λ ws. Some (value_and v ws))) vs e in
        let b = from_then (content_of g s) as_value a.0 a.1 in
        let c = from_then (values_of g ss) (λ ws. Some (value_and a.0 ws)) vs a.2 in
        elim (in_either (unwraps s) (unwraps_all ss) u i) [
          | inl j ↦ unwrapped_present s b.0 b.1 u j
          | inr j ↦ each_present ss c.0 c.1 u j
        ]

-- 2. arguments and if-lets
nothing_past : (g : Given) (vars more : List (ℕ × ℕ)) (e : SitedVars) (v : Visit) → Some vars ≡ Some more → AreBound g vars e v.vars → Past g more e v v (Some e)
nothing_past g vars more e v f b = record {
  met = λ h e' q. h;
  found = λ h. (e, refl);
  agree = λ e' q. subst (λ x. AreBound g more x v.vars) (some_is e e' q) (subst (λ vs. AreBound g vs e v.vars) (some_is vars more f) b);
}

module _ (g : Given) (z : Visit) (h : IsAnswered g z.demands) (well : IsWellTypedProgram g.program) where
  abbrev p : Program
  p = g.program

  arg_past : (i : ℕ) (q : TypedPattern) (v : Visit) (vars mid : List (ℕ × ℕ)) (e : SitedVars) (x : Value) → formed_pattern p q vars ≡ Some mid → Here g (argument i) (pattern_type q) x → AreBound g vars e v.vars
      → Grown (visit_pattern p q (argument i) (taking_argument i v)) z
      → Past g mid e v (visit_pattern p q (argument i) (taking_argument i v)) (holds_under p g.meaning g.pick q (argument i) x e)
  arg_past i q v vars mid e x f here b l =
      let a = pattern_after g z h well.parts q (argument i) (taking_argument i v) vars mid e x f here b l in
      record { met = λ m e' k. a.met (record { asked = m.asked; equal = m.equal }) e' k; found = a.found; agree = a.agree }

  pub args_past : (i : ℕ) (qs : List TypedPattern) (tys : List ℕ) (xs : List Value) (v : Visit) (vars more : List (ℕ × ℕ)) (e : SitedVars) → formed_list p qs tys vars ≡ Some more
      → all_well_typed p.types (Some tys) (of_list xs) ≡ true → ((j : ℕ) (x : Value) → slice_get xs j ≡ Some x → slice_get g.args (i + j) ≡ Some x) → AreBound g vars e v.vars
      → Grown (visit_args p i qs v) z → Past g more e v (visit_args p i qs v) (args_hold_under p g.meaning g.pick i qs xs e)
  args_past i [] [] [] v vars more e f t c b l = nothing_past g vars more e v f b
  args_past i [] [] (x ∷ xs) v vars more e f t c b l = absurd (false≢true t)
  args_past i [] (ty ∷ tys) xs v vars more e f t c b l = absurd (none_some more f)
  args_past i (q ∷ qs) [] xs v vars more e f t c b l = absurd (none_some more f)
  args_past i (q ∷ qs) (ty ∷ tys) [] v vars more e f t c b l = absurd (false≢true t)
  args_past i (q ∷ qs) (ty ∷ tys) (x ∷ xs) v vars more e f t c b l =
      let a = from_part p q ty vars more (λ mid. formed_list p qs tys mid) f in
      let d = and_parts (well_typed p.types ty x) (all_well_typed p.types (Some tys) (of_list xs)) t in
      let u = visit_pattern p q (argument i) (taking_argument i v) in
      let w = visit_args p (suc i) qs u in
      let k = args_grown p (suc i) qs u in
      let first : i + 0 ≡ i = omega arith in
      let here : Here g (argument i) (pattern_type q) x = record {
        content = ap from_value (ap (slice_get g.args) (sym first) ∙ c 0 x refl);
        typed = subst (λ n. well_typed p.types n x ≡ true) (sym a.1) d.0;
      } in
      let r = arg_past i q v vars a.0 e x a.2 here b (then_grown u w z k l) in
      then_past g a.0 more e v u w (holds_under p g.meaning g.pick q (argument i) x e) (λ e'. args_hold_under p g.meaning g.pick (suc i) qs xs e') r k
      (λ e' n. args_past (suc i) qs tys xs u a.0 more e' a.3 d.1 (λ j y s. (let next : suc i + j ≡ i + suc j = omega arith in ap (slice_get g.args) next ∙ c (suc j) y s)) (r.agree e' n) l)

  -- the visit of one if-let, before its pattern, and after it
  abbrev valued_at : TypedIfLet → Visit → Valued
  valued_at i v = visit_expr p i.rhs v

  abbrev before_pattern : TypedIfLet → Visit → Visit
  before_pattern i v = asking_all (unwraps (valued_at i v).site) (valued_at i v).visit

  abbrev after_iflet : TypedIfLet → Visit → Visit
  after_iflet i v = visit_pattern p i.lhs (valued_at i v).site (before_pattern i v)

  abbrev value_in : TypedIfLet → SitedVars → Option Value
  value_in i e = value_under p g.meaning g.pick i.rhs e

  abbrev holds_in : TypedIfLet → SitedVars → Value → Option SitedVars
  holds_in i e x = holds_under p g.meaning g.pick i.lhs (expr_site p i.rhs e 0) x e

  iflet_past : (i : TypedIfLet) (v : Visit) (vars mid : List (ℕ × ℕ)) (e : SitedVars) → is_formed_expr p i.rhs vars ≡ true → IsPureExpr p i.rhs → pattern_type i.lhs ≡ expr_type i.rhs
      → formed_pattern p i.lhs vars ≡ Some mid → AreBound g vars e v.vars → Grown (after_iflet i v) z → Past g mid e v (after_iflet i v) (then_option (value_in i e) (holds_in i e))
  iflet_past i v vars mid e f y s q b l =
      let a = valued_at i v in
      let u = before_pattern i v in
      let w = after_iflet i v in
      let adds = expr_adds p i.rhs v in
      let grown_u : Grown u z = then_grown u w z (pattern_grown p i.lhs a.site u) l in
      let r = expr_valued g z h well i.rhs v vars e f y (bound_vars g vars e v.vars b) (then_grown a.visit u z (grown_all (unwraps a.site) a.visit) grown_u) in
      let moved : AreBound g vars e u.vars = λ x ty k.
      (let n = b x ty k in
      record {
        var = var_moved g e v.vars u.vars x ty (ap (λ vs. named vs x) (asked_binds (unwraps a.site) a.visit) ∙ expr_keeps p i.rhs v vars f x (ap is_some k)) n.var;
        value = n.value;
        there = n.there;
      }) in
      let rest : (x : Value) → value_in i e ≡ Some x → After g mid e u w (holds_in i e x) = λ x k.
      subst (λ n. After g mid e u w (holds_under p g.meaning g.pick i.lhs n x e)) (sym r.site)
      (pattern_after g z h well.parts i.lhs a.site u vars mid e x q
      (record { content = is_value (content_of g a.site) x (sym r.value ∙ k); typed = subst (λ n. well_typed p.types n x ≡ true) (sym s) (r.typed x k) }) moved l) in
      record {
        met = λ m e' k.
            (let c = from_then (value_in i e) (holds_in i e) e' k in
            let there = is_value (content_of g a.site) c.0 (sym r.value ∙ c.1) in
            (rest c.0 c.1).met
            (met_all g (unwraps a.site) a.visit (unwrapped_present g a.site (one c.0) there)
            (record { asked = λ x j. m.asked x (subst (λ n. In n x) adds.constraints j); equal = λ x j. m.equal x (subst (λ n. In n x) adds.equalities j) })) e' c.2);
        found = λ m.
            (let before = enough_before g u w (pattern_grown p i.lhs a.site u) m in
            let c = r.reached (λ n j. meets_present g n (before.asked (n, is_present) (in_from_contains u.demands.constraints (n, is_present) (all_asked (unwraps a.site) a.visit n j)))) in
            let d = (rest c.0 c.1).found m in
            (d.0, some_then (value_in i e) (holds_in i e) c.0 d.0 c.1 d.1));
        agree = λ e' k. (let c = from_then (value_in i e) (holds_in i e) e' k in (rest c.0 c.1).agree e' c.2);
      }

  -- the rest after one if-let
  regroup : {X : Type 0} (o : Option X) (f : X → Option SitedVars) (k : SitedVars → Option SitedVars) → then_option (then_option o f) k ≡ then_option o (λ x. then_option (f x) k)
  regroup o f k = grind (arith, common_steps)

  pub iflets_past : (is : List TypedIfLet) (v : Visit) (vars more : List (ℕ × ℕ)) (e : SitedVars) → formed_iflets p is vars ≡ Some more → ArePureIfLets p is → AreBound g vars e v.vars → Grown (visit_iflets p is v) z
      → Past g more e v (visit_iflets p is v) (iflets_hold_under p g.meaning g.pick is e)
  iflets_past [] v vars more e f y b l = nothing_past g vars more e v f b
  iflets_past (i ∷ is) v vars more e f y b l =
      let c = iflet_parts p i is vars more f in
      let u = after_iflet i v in
      let w = visit_iflets p is u in
      let k = iflets_grown p is u in
      let r = iflet_past i v vars c.mid e c.value y.0 (eqb-true (pattern_type i.lhs) (expr_type i.rhs) c.typed) c.pattern b (then_grown u w z k l) in
      subst (Past g more e v w) (regroup (value_in i e) (holds_in i e) (λ e'. iflets_hold_under p g.meaning g.pick is e'))
      (then_past g c.mid more e v u w (then_option (value_in i e) (holds_in i e)) (λ e'. iflets_hold_under p g.meaning g.pick is e') r k (λ e' n. iflets_past is u c.mid more e' c.rest y.1 (r.agree e' n) l))

-- 3. rules
pub record Matches (g : Given) (r : TypedRule) : Type 0 where
  pub met : is_some (matches_under g.program g.meaning g.pick r g.args) ≡ true → AreMet g (demands_of g.program r)
  pub found : AskEnough g (demands_of g.program r) → is_some (matches_under g.program g.meaning g.pick r g.args) ≡ true

-- the visit before the right side
abbrev pub before_result : Program → TypedRule → Visit
before_result p r = visit_iflets p r.iflets (visit_args p 0 r.args visit_start)

-- a rule's arguments and if-lets, past all of them
pub rule_past : (g : Given) (r : TypedRule) (a : RuleParts g.program r) → ArePureIfLets g.program r.iflets → args_well_typed g.program.types (arg_types g.program r.root_term) g.args ≡ true
    → IsWellTypedProgram g.program → IsAnswered g (demands_of g.program r)
    → Past g a.vars [] visit_start (before_result g.program r) (matches_under g.program g.meaning g.pick r g.args)
rule_past g r a y t well h =
    let p = g.program in
    let z = (visit_rule p r).visit in
    let u = visit_args p 0 r.args visit_start in
    let w = before_result p r in
    let adds = rule_adds p r w in
    let typed : all_well_typed p.types (Some a.entry.arg_tys) (of_list g.args) ≡ true =
    subst (λ o. args_well_typed p.types (elim o as (λ _. List ℕ) [ None ↦ [] | Some e ↦ e.arg_tys ]) g.args ≡ true) a.there t in
    let first = args_past g z h well 0 r.args a.entry.arg_tys g.args visit_start [] a.mid [] a.args typed
    (λ j x s. (let same : 0 + j ≡ j = omega arith in ap (slice_get g.args) same ∙ s)) (λ x ty i. absurd (none_some ty i)) (then_grown u w z (iflets_grown p r.iflets u) adds.grown) in
    then_past g a.mid a.vars [] visit_start u w (args_hold_under p g.meaning g.pick 0 r.args g.args []) (λ e. iflets_hold_under p g.meaning g.pick r.iflets e) first (iflets_grown p r.iflets u)
    (λ e i. iflets_past g z h well r.iflets u a.mid a.vars e a.iflets y (first.agree e i) adds.grown)

pub rule_matches : (g : Given) (r : TypedRule) → is_formed_rule g.program r ≡ true → ArePureIfLets g.program r.iflets → args_well_typed g.program.types (arg_types g.program r.root_term) g.args ≡ true
    → IsWellTypedProgram g.program → IsAnswered g (demands_of g.program r) → Matches g r
rule_matches g r f y t well h =
    let p = g.program in
    let w = before_result p r in
    let adds = rule_adds p r w in
    let all = rule_past g r (rule_parts p r f) y t well h in
    record {
      met = λ m.
          (let e = is_there (matches_under p g.meaning g.pick r g.args) m in
          let n = all.met (record { asked = λ x i. absurd i; equal = λ x i. absurd i }) e.0 e.1 in
          record { asked = λ x i. n.asked x (subst (λ l. In l x) adds.constraints i); equal = λ x i. n.equal x (subst (λ l. In l x) adds.equalities i) });
      found = λ m. (let e = all.found (enough_before g w (visit_rule p r).visit adds.grown m) in ap is_some e.1);
    }
