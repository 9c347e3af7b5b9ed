-- The right side of a rule that matches follows its impure calls in order, then its result.
use Rattle.std.proofs.Common.{◌≡◌, ℕ, Bool, true, false, List, [], ◌∷◌, ◌++◌, length, Some, All, sym, ap, subst, ◌∙◌, inl, inr, arith}
use Rattle.std.proofs.lemmas.List.Elements.{All-nil}
use Rattle.std.proofs.lemmas.Grind.{common_steps}
use Rattle.model.specs.rules.Values.{args_well_typed}
use Rattle.model.specs.rules.Program.{arg_types, is_partial}
use Rattle.model.specs.rules.CalledTerms.{CallsAlone}
use Rattle.model.specs.rules.Typed.{TypedRule}
use Rattle.model.specs.rules.Picks.{SitedVars, matches_under, eval_under, right_side_under, HasContent}
use Rattle.model.specs.trees.Run.{from_value}
use Rattle.model.specs.sites.Sites.{Constraint, SiteTerm, bool_term, int_term, prim_term, argument, extractor_call, constructor_call, pick_of, variant_made, variant_field, struct_made, struct_field, some_made, some_part, tuple_part, no_site, SiteTerms, no_site_term, site_term_and}
use Rattle.model.specs.visits.Demands.{demands_of, result_of, visit_start, Valued, visit_expr, visit_args, finished, visit_rule}
use Rattle.model.specs.sites.DemandedGates.{IsPureCall, GatesDemanded, AllGatesDemanded, ArePureIfLets}
use Rattle.model.specs.lists.Formed.{is_formed_rule}
use Rattle.laws_trees.proofs.taking.CallsIn.{WhereImpure, CallsOnly, CallOnly, Known, InOrder}
use Rattle.laws_trees.proofs.taking.FollowedCalls.{result_after}
use Rattle.model.proofs.CalledTerms.{calls_such}
use Rattle.laws_sites.proofs.Rules.{sides_past}
use Rattle.laws_trees.proofs.Contents.{Given, content_of, IsAnswered, is_value}
use Rattle.laws_trees.proofs.Demanded.{AreBound}
use Rattle.laws_sites.proofs.GrowingVisits.{Grown, grown_by_none, grown_making}
use Rattle.laws_trees.proofs.Rules.{rule_parts, before_result, rule_past}
use Rattle.laws_typing.specs.WellTypedPrograms.{IsWellTypedProgram}
use Rattle.laws_trees.proofs.Variables.{named}
use Rattle.laws_trees.proofs.outcomes.Evals.{AreWorth, MayBeCalled, follow_in, expr_came, outcome_follows}
use Rattle.laws_trees.proofs.outcomes.Ordered.{IsPureOrSingle, VarsKnownTo, IsOrderly, expr_ordered}
use Rattle.laws_sites.proofs.ImpureCallsMet.{adds_kept, then_keeps_calls, args_keep, iflets_keep}

-- 1. no impure call stands in what may be tested
pure_where : (n : ℕ) (P : Type 0) → IsPureCall true n → WhereImpure n P
pure_where n P h = grind (arith, common_steps)

module _ (P : SiteTerm → Type 0) (cs : List (SiteTerm × Constraint)) (calls : List SiteTerm) where
  mutual
    pub tested_calls : (s : SiteTerm) → GatesDemanded true true cs calls s → CallsOnly P s
    tested_calls (bool_term b ty) h = tt
    tested_calls (int_term z ty) h = tt
    tested_calls (prim_term name) h = tt
    tested_calls (argument i) h = tt
    tested_calls (extractor_call t a) h = tested_calls a h
    tested_calls (constructor_call t args i) h = (pure_where i (P (constructor_call t args i)) h.0, tested_call args h.1)
    tested_calls (pick_of a) h = tested_calls a h.1
    tested_calls (variant_made ty variant fields) h = tested_call fields h
    tested_calls (variant_field a variant f) h = tested_calls a h.1
    tested_calls (struct_made ty fields) h = tested_call fields h
    tested_calls (struct_field a f) h = tested_calls a h.1
    tested_calls (some_made a) h = tested_calls a h
    tested_calls (some_part a) h = tested_calls a h.1
    tested_calls (tuple_part a f) h = tested_calls a h
    tested_calls no_site h = tt

    tested_call : (ss : SiteTerms) → AllGatesDemanded true true cs calls ss → CallOnly P ss
    tested_call no_site_term h = tt
    tested_call (site_term_and a rest) h = (tested_calls a h.0, tested_call rest h.1)

-- 2. the end of a visit
finished_grown : (b : Bool) (a : Valued) → Grown a.visit (finished b a).visit
finished_grown false a = grown_by_none a.visit
finished_grown true a = grown_making (some_made a.site ∷ []) a.visit

pub finished_impure : (b : Bool) (a : Valued) → (finished b a).visit.demands.impure ≡ a.visit.demands.impure
finished_impure b a = grind (arith, common_steps)

finished_calls : (P : SiteTerm → Type 0) (b : Bool) (a : Valued) → CallsOnly P a.site → CallsOnly P (finished b a).site
finished_calls P b a h = grind (arith, common_steps)

-- 3. variables of the left side have values
bound_worth : (g : Given) (vars : List (ℕ × ℕ)) (e : SitedVars) (vs : List (ℕ × SiteTerm)) → AreBound g vars e vs → AreWorth g vars e vs
bound_worth g vars e vs f x ty h =
    let b = f x ty h in
    record { site = b.var.site; content = is_value (content_of g (named vs x)) b.value (sym b.var.value ∙ b.there) ∙ ap from_value (sym b.there) }

-- 4. a rule
pub record RightFollows (g : Given) (r : TypedRule) (e : SitedVars) : Type 0 where
  pub right : right_side_under g.program g.meaning g.pick r e ≡ result_after (content_of g (result_of g.program r)) (follow_in g (demands_of g.program r).impure [])
  pub order : InOrder (demands_of g.program r).made [] (demands_of g.program r).impure
  pub only : CallsOnly (Known (demands_of g.program r).impure) (result_of g.program r)

pub right_follows : (g : Given) (r : TypedRule) → is_formed_rule g.program r ≡ true → ArePureIfLets g.program r.iflets → args_well_typed g.program.types (arg_types g.program r.root_term) g.args ≡ true
    → IsWellTypedProgram g.program → IsAnswered g (demands_of g.program r) → CallsAlone (MayBeCalled g (visit_rule g.program r).visit) r.rhs
    → (e : SitedVars) → matches_under g.program g.meaning g.pick r g.args ≡ Some e → RightFollows g r e
right_follows g r f y t well h may e i =
    let p = g.program in
    let z = (visit_rule p r).visit in
    let a = rule_parts p r f in
    let u = visit_args p 0 r.args visit_start in
    let w = before_result p r in
    let x = visit_expr p r.rhs w in
    let b = is_partial p r.root_term in
    let keeps = then_keeps_calls visit_start u w (args_keep p 0 r.args visit_start) (iflets_keep p r.iflets u y) in
    let past = rule_past g r a y t well h in
    let came = expr_came g z h well.not_both r.rhs w a.vars e [] a.right may (bound_worth g a.vars e w.vars (past.agree e i))
    (record { made = sym keeps.count; count = ap length keeps.impure ∙ sym keeps.count; gave = subst (All (HasContent g.meaning g.args g.pick)) (sym keeps.impure) (All-nil (HasContent g.meaning g.args g.pick)) })
    (finished_grown b x) (adds_kept x.visit z (finished_impure b x)) in
    let good = (sides_past p r a y).iflets.good in
    let known : VarsKnownTo a.vars w = λ n k. tested_calls (Known w.demands.impure) w.demands.constraints w.demands.iterators (named w.vars n) (good n k) in
    let quiet : IsOrderly p z w = record { count = ap length keeps.impure ∙ sym keeps.count; order = subst (InOrder z.demands.made []) (sym keeps.impure) tt } in
    let ordered = expr_ordered p z r.rhs w a.vars a.right (calls_such (MayBeCalled g z) (IsPureOrSingle p) (λ n k. single n k) r.rhs may) known quiet (finished_grown b x) in
    let impure : z.demands.impure ≡ x.visit.demands.impure = finished_impure b x in
    let new : x.visit.demands.impure ≡ came.adds.new = came.adds.impure ∙ ap (λ l. l ++ came.adds.new) keeps.impure in
    record {
      right = outcome_follows g b x (follow_in g came.adds.new []) (eval_under p g.meaning g.pick r.rhs e []) came.comes ∙ ap (λ us. result_after (content_of g (result_of p r)) (follow_in g us [])) (sym (impure ∙ new));
      order = subst (InOrder z.demands.made []) (sym impure) ordered.orderly.order;
      only = subst (λ us. CallsOnly (Known us) (result_of p r)) (sym impure) (finished_calls (Known x.visit.demands.impure) b x ordered.site);
    }
  where
    single : (n : ℕ) → MayBeCalled g (visit_rule g.program r).visit n → IsPureOrSingle g.program n
    single n (inl k) = inl k
    single n (inr k) = inr k.0
