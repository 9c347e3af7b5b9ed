-- A visit only adds to what it has made and counted, at the end; so where a count passes a limit, the sites that were made
-- before are those that the visit had made when it counted.
use Rattle.std.proofs.Common.{◌≡◌, ◌≤◌, ℕ, arith, Bool, true, false, List, [], ◌∷◌, ◌++◌, length, None, refl, sym, ◌∙◌}
use Rattle.std.proofs.lemmas.List.{append-nil, append_assoc, length-append}
use Rattle.std.proofs.lemmas.List.Elements.{All-nil, All-cons, All-append}
use Rattle.std.proofs.Math.Seq.{take-append_seam}
use Rattle.std.proofs.lemmas.Grind.{common_steps}
use Rattle.model.specs.rules.Program.{Program}
use Rattle.model.specs.rules.Typed.{TypedPatterns}
use Rattle.model.specs.sites.Sites.{is_present, SiteTerm, pick_of, some_part}
use Rattle.model.specs.visits.Demands.{Count, Visit, site_term_eq, making, counting, asking, iterating, equating, outputs_opened, open_call}
use Rattle.model.specs.sites.Limits.{first_passed}
use Rattle.model.proofs.Elements.{none_some}
use Rattle.model.proofs.Either.{either}
use Rattle.laws_sites.specs.VisitLaws.{Continues, VisitsContinue}
use Rattle.laws_sites.specs.LimitLaws.{FirstCountsArePassed}
use Rattle.laws_sites.proofs.VisitInvariants.{KeptByTests, KeptByValues, pattern_kept, args_kept, expr_kept, iflets_kept}
use Rattle.laws_sites.proofs.AskedSites.{equated}

-- 1. steps
-- what is counted after the sites that a visit had made
abbrev CountedLater : Visit → Count × ℕ → Type 0
CountedLater v c = length v.demands.made ≤ c.1

pub continues_now : (v : Visit) → Continues v v
continues_now v = record { made = []; counted = []; makes = sym (append-nil v.demands.made); counts = sym (append-nil v.demands.counted); after = All-nil (CountedLater v) }

-- a step that makes and counts nothing
pub continues_alike : (v w x : Visit) → x.demands.made ≡ w.demands.made → x.demands.counted ≡ w.demands.counted → Continues v w → Continues v x
continues_alike v w x e f k = record { made = k.made; counted = k.counted; makes = e ∙ k.makes; counts = f ∙ k.counts; after = k.after }

pub continues_making : (ts : List SiteTerm) (v w : Visit) → Continues v w → Continues v (making ts w)
continues_making ts v w k = grind (arith, common_steps, append_assoc)

pub continues_counting : (c : Count) (v w : Visit) → Continues v w → Continues v (counting c w)
continues_counting c v w k = grind (arith, common_steps, length-append, append_assoc, All-append, All-cons, All-nil)

continues_equating : (a b : SiteTerm) (v w : Visit) → Continues v w → Continues v (equating a b w)
continues_equating a b v w k = either (Continues v) (site_term_eq a b) w (equated a b w) k (continues_alike v w (equated a b w) refl refl k)

outputs_continue : (s : SiteTerm) (args : TypedPatterns) (v w : Visit) → Continues v w → Continues v (outputs_opened s args w).visit
outputs_continue s args v w k = grind (arith, common_steps, continues_making, continues_counting)

call_continues : (pure multi partial rec infallible : Bool) (call : SiteTerm) (args : TypedPatterns) (v w : Visit) → Continues v w
    → Continues v (open_call (record { pure = pure; multi = multi; partial = partial; rec = rec }) infallible call args w).visit
call_continues pure true partial rec infallible call args v w k =
    let a = making (call ∷ (pick_of call ∷ [])) w in
    outputs_continue (pick_of call) args v (iterating call a) (continues_alike v a (iterating call a) refl refl (continues_making (call ∷ (pick_of call ∷ [])) v w k))
call_continues pure false partial rec true call args v w k = outputs_continue call args v (making (call ∷ []) w) (continues_making (call ∷ []) v w k)
call_continues pure false partial rec false call args v w k =
    let a = making (call ∷ (some_part call ∷ [])) w in
    outputs_continue (some_part call) args v (asking call is_present a) (continues_alike v a (asking call is_present a) refl refl (continues_making (call ∷ (some_part call ∷ [])) v w k))

pub tests_continue : (p : Program) (v : Visit) → KeptByTests p (Continues v)
tests_continue p v = grind (arith, common_steps, continues_alike, continues_equating, continues_counting, call_continues)

pub values_continue : (p : Program) (v : Visit) → KeptByValues p (Continues v)
values_continue p v = grind (arith, common_steps, continues_alike, continues_making)

pub visits_continue_lem : VisitsContinue
visits_continue_lem p v = record {
  pattern = λ q s. pattern_kept p (Continues v) (tests_continue p v) q s v (continues_now v);
  args = λ i qs. args_kept p (Continues v) (tests_continue p v) (values_continue p v).made i qs v (continues_now v);
  expr = λ x. expr_kept p (Continues v) (values_continue p v) x v (continues_now v);
  iflets = λ is. iflets_kept p (Continues v) (tests_continue p v) (values_continue p v) is v (continues_now v);
}

-- 2. the first count that passes a limit, after some that pass none
pub passed_after : (cs ds : List (Count × ℕ)) → first_passed cs ≡ None → first_passed (cs ++ ds) ≡ first_passed ds
passed_after [] ds e = refl
passed_after (c ∷ cs) ds e = grind (arith, common_steps, passed_after cs ds, none_some)

pub first_counts_are_passed_lem : FirstCountsArePassed
first_counts_are_passed_lem p r v c l k none passes = grind (arith, common_steps, append_assoc, passed_after, take-append_seam)
