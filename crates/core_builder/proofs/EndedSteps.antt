-- A step of the builder that ends, ends its visit: on the way nothing that was counted passes a limit, or what the step itself
-- counts does.
use Rattle.std.proofs.Common.{◌≡◌, ℕ, suc, ◌-◌, ◌<◌, ◌≤◌, Bool, List, [], ◌∷◌, ◌++◌, length, take, Option, Some, None, All, refl, sym, ap, ◌∙◌, subst, inl, inr, arith}
use Rattle.std.specs.Prelude.{nat_lt}
use Rattle.std.proofs.lemmas.Bool.{cases_lt, cond-true, le-ltb, lt-ltb}
use Rattle.std.proofs.lemmas.List.{append-nil, length-append, take-append-le, take_all}
use Rattle.std.proofs.lemmas.List.Elements.{All-nil, All-push, All-tail}
use Rattle.std.proofs.Math.Nat.{add-sub_of_le}
use Rattle.std.proofs.Math.Seq.{take-append_seam, take-append-add}
use Rattle.std.proofs.lemmas.Grind.{common_steps}
use Rattle.core_syntax.specs.declared.syntax.Limit.{Limit}
use Rattle.core_syntax.specs.declared.syntax.Limit.TheVariants as Limits
use Rattle.core_syntax.specs.declared.visit_fault.VisitFault.{VisitFault}
use Rattle.core_syntax.specs.declared.visit_fault.VisitFault.TheVariants as Faults
use Rattle.model.specs.lists.Tables.{Flags}
use Rattle.model.specs.rules.Typed.{TypedPatterns}
use Rattle.model.specs.sites.Limits.{RuleLimit, arguments_limit, fields_limit, outputs_limit, most_arguments, most_fields, most_outputs, first_passed, passed_by, passed_or_later}
use Rattle.model.specs.sites.Sites.{Constraint, SiteTerm, argument, field_terms}
use Rattle.model.specs.visits.Demands.{Count, fields_matched, outputs_taken, argument_taken, Visit, Opened, making, open_call, part_sites, pattern_count, taking_argument, with_sites, fields_opened}
use Rattle.model.proofs.Elements.{none_some, some_is}
use Rattle.laws_sites.specs.VisitLaws.{Continues}
use Rattle.laws_sites.proofs.Continued.{passed_after}
use Rattle.core_rule_sets.specs.SiteTables.{AreFirst}
use Rattle.core_rule_sets.proofs.ClosingClasses.{sites_append}
use Rattle.core_rule_sets.proofs.FullTables.{first_with}
use Rattle.core_builder.specs.VisitedSites.{EndsBefore, EndsOpening, EndsVisit, HasSites, MeetsCount, answer_of, answered, built_sites, sites_made, with_made_until}
use Rattle.core_builder.specs.declared.ruleset_builder.RuleSetBuilder.{RuleSetBuilder}
use Rattle.core_builder.proofs.BuilderFields.{call_same}
use Rattle.core_builder.proofs.BuilderSteps.{argument_passes, fields_pass, one_more_count, outputs_pass}

-- 1. the first limit that is passed stays the first, and one that is passed later was counted after what was made before
some_first : (cs ds : List (Count × ℕ)) (x : RuleLimit × ℕ) → first_passed cs ≡ Some x → first_passed (cs ++ ds) ≡ Some x
some_first [] ds x e = absurd (none_some x e)
some_first (c ∷ cs) ds x e = grind (arith, common_steps, some_first cs ds x)

first_after : (cs : List (Count × ℕ)) (n : ℕ) (x : RuleLimit × ℕ) → All (λ c. n ≤ c.1) cs → first_passed cs ≡ Some x → n ≤ x.1
first_after [] n x h e = absurd (none_some x e)
first_after (c ∷ cs) n x h e = by (passed_by c.0) e (first_after cs n x (All-tail (λ d. n ≤ d.1) c cs h))
  where
    by : (o : Option RuleLimit) → passed_or_later o c.1 (first_passed cs) ≡ Some x → (first_passed cs ≡ Some x → n ≤ x.1) → n ≤ x.1
    by o k later = grind (arith, common_steps, some_is)

-- 2. sites that are made until then
taken_past : (n : ℕ) (xs ys : List SiteTerm) → length xs ≤ n → (more : List SiteTerm) × (take n (xs ++ ys) ≡ xs ++ more)
taken_past n xs ys l = let m = n - length xs in (take m ys, ap (λ k. take k (xs ++ ys)) (sym (add-sub_of_le l)) ∙ take-append-add xs ys m)

taken_more : (n : ℕ) (xs ys : List SiteTerm) → (more : List SiteTerm) × (take n (xs ++ ys) ≡ take n xs ++ more)
taken_more n xs ys = grind (arith, common_steps, cases_lt n (length xs), take-append-le n xs ys, append-nil (take n xs), taken_past n xs ys, take_all n xs)

-- what a visit made until the first count that passes a limit stays at the front of what a later visit made
module _ (before : List SiteTerm) (v w : Visit) (k : Continues v w) where
  abbrev Later : Type 0
  Later = (more : List SiteTerm) × (sites_made before w ≡ with_sites (sites_made before v) more)

  by_then : (o : Option (RuleLimit × ℕ)) → first_passed w.demands.counted ≡ o → (us more : List SiteTerm) → with_made_until before w.demands.made o ≡ with_sites before (us ++ more) → sites_made before v ≡ with_sites before us → Later
  by_then o e us more is same = (more, ap (with_made_until before w.demands.made) e ∙ is ∙ sym (sites_append us more before) ∙ ap (λ ts. with_sites ts more) (sym same))

  after_none : first_passed v.demands.counted ≡ None → Later
  after_none none = by (first_passed k.counted) refl
    where
      first : first_passed w.demands.counted ≡ first_passed k.counted
      first = ap first_passed k.counts ∙ passed_after v.demands.counted k.counted none

      same : sites_made before v ≡ with_sites before v.demands.made
      same = ap (with_made_until before v.demands.made) none

      by : (o : Option (RuleLimit × ℕ)) → first_passed k.counted ≡ o → Later
      by None e = by_then None (first ∙ e) v.demands.made k.made (ap (with_sites before) k.makes) same
      by (Some x) e =
          let t = taken_past x.1 v.demands.made k.made (first_after k.counted (length v.demands.made) x k.after e) in
          by_then (Some x) (first ∙ e) v.demands.made t.0 (ap (λ us. with_sites before (take x.1 us)) k.makes ∙ ap (with_sites before) t.1) same

  after_some : (x : RuleLimit × ℕ) → first_passed v.demands.counted ≡ Some x → Later
  after_some x e = grind (arith, common_steps, taken_more x.1 v.demands.made k.made, by_then (Some x), some_first v.demands.counted k.counted x e)

  made_later : Later
  made_later = elim (first_passed v.demands.counted) as (λ o. first_passed v.demands.counted ≡ o → Later) [ None ↦ after_none | Some x ↦ after_some x ] refl

  -- who ended where a visit stands ended further on
  meets_further : (b : RuleSetBuilder) (l : RuleLimit) → MeetsCount before b v l → MeetsCount before b w l
  meets_further b l m =
      let within = m.until in
      let long = ap length k.makes ∙ length-append v.demands.made k.made in
      record {
        made = m.made;
        first = ap first_passed k.counts ∙ some_first v.demands.counted k.counted (l, m.made) m.first;
        until = omega (arith, within, long);
        sites = subst (λ us. HasSites b (with_sites before us)) (sym (ap (take m.made) k.makes ∙ take-append-le m.made v.demands.made k.made m.until)) m.sites;
      }

  pub ends_further : (b : RuleSetBuilder) (e : VisitFault) → EndsVisit before b v e → EndsVisit before b w e
  ends_further b (Faults.Memory a) h = tt
  ends_further b (Faults.Limit Limits.Fields) h = meets_further b fields_limit h
  ends_further b (Faults.Limit Limits.Outputs) h = meets_further b outputs_limit h
  ends_further b (Faults.Limit Limits.Arguments) h = meets_further b arguments_limit h
  ends_further b (Faults.Limit Limits.Sites) h = (h.0, subst (AreFirst (built_sites b)) (sym made_later.1) (first_with (built_sites b) (sites_made before v) made_later.0 h.1))
  ends_further b _ h = absurd h

-- 3. on the way, where nothing that was counted passes a limit
ends_now : (before : List SiteTerm) (b : RuleSetBuilder) (v : Visit) (e : VisitFault) → first_passed v.demands.counted ≡ None → EndsBefore before b v e → EndsVisit before b v e
ends_now before b v e none h = grind arith

pub ends_visit : (before : List SiteTerm) (b : RuleSetBuilder) (u v : Visit) (e : VisitFault) → first_passed u.demands.counted ≡ None → Continues u v → EndsBefore before b u e → EndsVisit before b v e
ends_visit before b u v e none k h = ends_further before u v k b e (ends_now before b u e none h)

-- 4. where a step counts something, and makes sites for it
-- a visit goes on by one count, and by sites
record CountsOnce (u : Visit) (c : Count) (w : Visit) : Type 0 where
  made : List SiteTerm
  makes : w.demands.made ≡ u.demands.made ++ made
  counts : w.demands.counted ≡ u.demands.counted ++ (c, length u.demands.made) ∷ []

-- a count of so many passes this limit, where there are more than there may be
record PassesMany (c : Count) (most count : ℕ) (l : RuleLimit) : Type 0 where
  few : count ≤ most → passed_by c ≡ None
  many : most < count → passed_by c ≡ Some l

module _ (before : List SiteTerm) (b : RuleSetBuilder) (u w : Visit) where
  -- the limit itself ends it where it stands
  meets_count : (c : Count) (l : RuleLimit) → CountsOnce u c w → first_passed u.demands.counted ≡ None → passed_by c ≡ Some l → HasSites b (with_sites before u.demands.made) → MeetsCount before b w l
  meets_count c l k none passes has =
      let long = ap length k.makes ∙ length-append u.demands.made k.made in
      record {
        made = length u.demands.made;
        first = ap first_passed k.counts ∙ one_more_count u.demands.counted c (length u.demands.made) none ∙ ap (λ o. passed_or_later o (length u.demands.made) None) passes;
        until = omega (arith, long);
        sites = subst (λ us. HasSites b (with_sites before us)) (sym (ap (take (length u.demands.made)) k.makes ∙ take-append_seam u.demands.made k.made)) has;
      }

  opening_ends : (c : Count) (l : RuleLimit) (limit : Limit) (most count : ℕ) (e : VisitFault) → CountsOnce u c w → PassesMany c most count l → (MeetsCount before b w l → EndsVisit before b w (Faults.Limit limit))
      → first_passed u.demands.counted ≡ None → EndsOpening before b w limit most count u e → EndsVisit before b w e
  opening_ends c l limit most count e k p meets none (inl h) =
      ends_now before b w e (ap first_passed k.counts ∙ one_more_count u.demands.counted c (length u.demands.made) none ∙ ap (λ o. passed_or_later o (length u.demands.made) None) (p.few h.0)) h.1
  opening_ends c l limit most count e k p meets none (inr h) =
      elim h.1 [
        | inl g ↦
            let one : List (Count × ℕ) = (c, length u.demands.made) ∷ [] in
            let after = All-push (λ d. length u.demands.made ≤ d.1) [] (c, length u.demands.made) (All-nil (λ d. length u.demands.made ≤ d.1)) (omega arith) in
            ends_visit before b u w e none (record { made = k.made; counted = one; makes = k.makes; counts = k.counts; after = after }) g
        | inr g ↦ subst (EndsVisit before b w) (sym g.0) (meets (meets_count c l k none (p.many h.0) (record { table = g.1.table; stand = g.1.demands.stand })))
      ]

-- 5. fields, outputs of a call, an argument
many_fields : (n : ℕ) → PassesMany (fields_matched n) most_fields n fields_limit
many_fields n = record { few = fields_pass n; many = λ l. cond-true (nat_lt most_fields n) (Some fields_limit) None (lt-ltb most_fields n l) }

many_outputs : (n : ℕ) → PassesMany (outputs_taken n) most_outputs n outputs_limit
many_outputs n = record { few = outputs_pass n; many = λ l. cond-true (nat_lt most_outputs n) (Some outputs_limit) None (lt-ltb most_outputs n l) }

many_arguments : (i : ℕ) → PassesMany (argument_taken i) most_arguments (suc i) arguments_limit
many_arguments i = grind (arith, common_steps, argument_passes i, le-ltb i most_arguments)

pub fields_end : (before : List SiteTerm) (b : RuleSetBuilder) (v : Visit) (c : Constraint) (n : ℕ) (u : SiteTerm) (e : VisitFault) → first_passed v.demands.counted ≡ None
    → EndsOpening before b (fields_opened c n u v).visit Limits.Fields most_fields n v e → EndsVisit before b (fields_opened c n u v).visit e
fields_end before b v c n u e none h =
    opening_ends before b v (fields_opened c n u v).visit (fields_matched n) fields_limit Limits.Fields most_fields n e (record { made = field_terms c u; makes = refl; counts = refl }) (many_fields n) (λ m. m) none h

pub argument_ends : (before : List SiteTerm) (b : RuleSetBuilder) (v : Visit) (i : ℕ) (e : VisitFault) → first_passed v.demands.counted ≡ None
    → EndsOpening before b (taking_argument i v) Limits.Arguments most_arguments (suc i) v e → EndsVisit before b (taking_argument i v) e
argument_ends before b v i e none h =
    opening_ends before b v (taking_argument i v) (argument_taken i) arguments_limit Limits.Arguments most_arguments (suc i) e (record { made = argument i ∷ []; makes = refl; counts = refl }) (many_arguments i) (λ m. m) none h

answer_counts : (multi infallible : Bool) (call : SiteTerm) (v : Visit) → first_passed v.demands.counted ≡ None → first_passed (answered multi infallible call (making (call ∷ []) v)).demands.counted ≡ None
answer_counts multi infallible call v none = grind (arith, common_steps)

pub outputs_end : (before : List SiteTerm) (b : RuleSetBuilder) (v : Visit) (flags : Flags) (multi infallible : Bool) (call : SiteTerm) (args : TypedPatterns) (count : ℕ) (e : VisitFault) → flags.multi ≡ multi → pattern_count args ≡ count
    → first_passed v.demands.counted ≡ None → EndsOpening before b (open_call flags infallible call args v).visit Limits.Outputs most_outputs count (answered multi infallible call (making (call ∷ []) v)) e
    → EndsVisit before b (open_call flags infallible call args v).visit e
outputs_end before b v flags multi infallible call args count e is same none h =
    let u = answered multi infallible call (making (call ∷ []) v) in
    let w = (open_call flags infallible call args v).visit in
    let once : CountsOnce u (outputs_taken (pattern_count args)) w =
    subst (λ (q : Opened). CountsOnce u (outputs_taken (pattern_count args)) q.visit) (call_same before v flags multi infallible is call args)
    (record { made = part_sites (answer_of multi infallible call) args; makes = refl; counts = refl }) in
    opening_ends before b u w (outputs_taken (pattern_count args)) outputs_limit Limits.Outputs most_outputs (pattern_count args) e once (many_outputs (pattern_count args)) (λ m. m)
    (answer_counts multi infallible call v none) (subst (λ n. EndsOpening before b w Limits.Outputs most_outputs n u e) (sym same) h)
