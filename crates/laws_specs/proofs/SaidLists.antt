-- Runs answer as specs say where multi terms with rules are called too: each element of a list is a result of the bag.
use Rattle.std.proofs.Common.{◌≡◌, ℕ, zero, suc, List, [], All, Contains, sym, ap, subst, ◌∙◌, inl, inr, arith}
use Rattle.std.specs.Prelude.{IsPermutation}
use Rattle.std.proofs.lemmas.List.{append-nil}
use Rattle.std.proofs.lemmas.List.Elements.{All-contains}
use Rattle.std.proofs.lemmas.List.Sorted.{IsPermutation-sym, All-permutation}
use Rattle.std.proofs.lemmas.Grind.{common_steps}
use Rattle.model.specs.rules.Values.{Value, listed}
use Rattle.model.specs.rules.Meaning.{Content, contents}
use Rattle.model.specs.rules.Outcome.{Call}
use Rattle.model.specs.rules.Picks.{bag}
use Rattle.model.specs.rules.Program.{Program, is_partial, rules_of}
use Rattle.model.specs.trees.Collects.{HasCollectedResults}
use Rattle.model.specs.claims.Layers.{own_program}
use Rattle.model.specs.claims.Environments.{types_read}
use Rattle.model.proofs.Elements.{in_from_contains, some_is}
use Rattle.laws_typing.specs.WellTypedPrograms.{IsWellTypedProgram}
use Rattle.laws_typing.proofs.WellTypedRules.{elaborated_programs_are_well_typed_lem}
use Rattle.laws_specs.specs.Specs.{Specs, IsRequired, IsProvided}
use Rattle.laws_specs.specs.Meets.{Atoms, stands_for, stand_for, content_as, answers_in, IsDenotation, IsResultAsSaid}
use Rattle.laws_specs.specs.Conditions.{result_as}
use Rattle.laws_specs.specs.ConditionLaws.{IsCalled, ChoosesAsSaid, ChoosesAsSaidByPriority}
use Rattle.laws_specs.specs.CollectLaws.{MakesNoImpureCall, BagsAreAsSaid}
use Rattle.laws_specs.specs.WholeRuns.{Outside, by_rules}
use Rattle.laws_specs.specs.ProgramLaws.{MeetsSpecsOutside, DoTheSame, IsRunAsSaid, AllChooseAsSaid}
use Rattle.laws_specs.specs.ListRuns.{by_bags, IsListRun, ListRun}
use Rattle.laws_specs.specs.ListLaws.{AllListsAreValid, ListProgramsComputeAsSaid, LoweredListProgramsComputeAsSaid}
use Rattle.laws_specs.proofs.LikeRuns.{within}
use Rattle.laws_specs.proofs.ListRuns.{single_is, lowered_programs_collect_as_their_source_lem}
use Rattle.laws_specs.proofs.Answers.{result_is}
use Rattle.laws_specs.proofs.SaidRuns.{back, meets, one_run, all_choose}

bags_choose : (p : Program) → DoTheSame p (by_bags p) (by_rules p)
bags_choose p t known single m args typed serves apart = sym (single_is p t m args single)

module _ (p : Program) (specs : Specs) (d : Atoms) (well : IsWellTypedProgram p) (denotes : IsDenotation p specs d) (choose : AllChooseAsSaid p specs d) (valid : AllListsAreValid p specs) (bags : BagsAreAsSaid) (o : Outside) (outside : MeetsSpecsOutside p specs d o) where
  one_list_run : (N : Call → List Call → Content → List Call → Type 0)
      → ((call : Call) (before : List Call) (c : Content) (after : List Call) → N call before c after → IsRequired specs call.term (stand_for d call.args) → IsRunAsSaid specs d call before c after)
      → (call : Call) (before : List Call) (c : Content) (after : List Call) → IsListRun N p o (by_bags p) call before c after → IsRequired specs call.term (stand_for d call.args) → IsRunAsSaid specs d call before c after
  one_list_run N said call before c after r required =
      let args : List Value = listed call.args in
      let results : List Content = bag p r.meaning (rules_of p call.term) args in
      let called : IsCalled p specs call.term d r.meaning args [] = record {
        denotes = denotes;
        typed = r.around.typed;
        serves = r.around.serves;
        meets = meets p specs d o N said outside [] before after call r.meaning r.around r.calls;
        required = subst (λ vs. IsRequired specs call.term (stand_for d vs)) (sym (back call.args)) required;
      } in
      let quiet : MakesNoImpureCall p call.term = λ q i. (All-contains (HasCollectedResults p) (rules_of p call.term) q r.collected i).no_calls in
      let said_all : All (IsResultAsSaid p specs call.term d args) results = bags p specs call.term d r.meaning args well quiet (valid call.term r.known r.multi) called in
      let same : IsPermutation (contents (r.answer.0)) results = subst (IsPermutation (contents (r.answer.0))) (grind (arith, common_steps)) r.answer.2.same in
      let each : All (IsResultAsSaid p specs call.term d args) (contents (r.answer.0)) =
      All-permutation (IsResultAsSaid p specs call.term d args) results (contents (r.answer.0)) (IsPermutation-sym (contents (r.answer.0)) results same) said_all in
      record {
        provides = λ a x i e.
            (let w = All-contains (IsResultAsSaid p specs call.term d args) (contents (r.answer.0)) a each (subst (λ y. Contains (answers_in y) a) r.answer.1 i) in
            let stands : stands_for d w.0 ≡ x = some_is (stands_for d w.0) x (sym (result_is d (is_partial p call.term) w.0) ∙ ap (λ y. result_as (content_as d y)) (sym w.1) ∙ e) in
            subst (IsProvided specs call.term (stand_for d call.args)) stands
            (subst (λ vs. IsProvided specs call.term (stand_for d vs) (stands_for d w.0)) (back call.args) w.2));
        made = [];
        after_those = sym r.calls ∙ sym (append-nil before);
        required = λ k i. absurd (in_from_contains [] k i);
      }

  list_run : (n : ℕ) (call : Call) (before : List Call) (c : Content) (after : List Call) → ListRun (by_bags p) p o n call before c after → IsRequired specs call.term (stand_for d call.args) → IsRunAsSaid specs d call before c after
  list_run zero call before c after r required = absurd r
  list_run (suc n) call before c after (inl r) required =
      one_run p specs d denotes choose o outside (ListRun (by_bags p) p o n) (list_run n) call before c after
      (within (ListRun (by_bags p) p o n) (ListRun (by_bags p) p o n) p o (λ call' before' c' after' n'. n') (by_bags p) (by_rules p) call before c after (bags_choose p) r) required
  list_run (suc n) call before c after (inr r) required = one_list_run (ListRun (by_bags p) p o n) (list_run n) call before c after r required

pub list_programs_compute_as_said_lem : ChoosesAsSaid → ChoosesAsSaidByPriority → BagsAreAsSaid → ListProgramsComputeAsSaid
list_programs_compute_as_said_lem chooses by_priority bags p specs d well denotes valid lists o n call before c after outside r required =
    list_run p specs d well denotes (all_choose chooses by_priority p specs d well valid) lists bags o outside n call before c after r required

pub lowered_list_programs_compute_as_said_lem : ListProgramsComputeAsSaid → LoweredListProgramsComputeAsSaid
lowered_list_programs_compute_as_said_lem said defs expand rules terms f specs d accepted low runs denotes valid lists o n call before c after outside r required =
    let p = own_program defs rules in
    let well = elaborated_programs_are_well_typed_lem (types_read defs) defs expand rules accepted.read.elaborated in
    said p specs d well denotes valid lists o n call before c after outside ((lowered_programs_collect_as_their_source_lem p terms f low runs o n call before c after).0 r) required
