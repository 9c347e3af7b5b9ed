-- Whole runs answer as specs say: by the depth to which calls nest, each call is answered as its term's spec says, so that the law of
-- one term speaks of the next call around it.
use Rattle.std.proofs.Common.{◌≡◌, ℕ, zero, suc, ◌+◌, Bool, true, false, Some, List, [], ◌∷◌, ◌++◌, slice_get, Contains, refl, sym, ap, subst, ◌∙◌, arith}
use Rattle.std.proofs.lemmas.Grind.{common_steps}
use Rattle.std.proofs.lemmas.List.{append_assoc, append-nil}
use Rattle.model.specs.rules.Values.{Values, no_value, value_and, listed, of_list}
use Rattle.model.specs.rules.Meaning.{Content, Meaning, bool_literal, int_literal, impure_answer}
use Rattle.model.specs.rules.Outcome.{Call}
use Rattle.model.specs.rules.Program.{Program, rules_of}
use Rattle.model.specs.rules.Choice.{choice}
use Rattle.model.specs.claims.Layers.{own_program}
use Rattle.model.specs.claims.Environments.{types_read}
use Rattle.model.proofs.Elements.{In, in_from_contains, contains_from_in, in_either}
use Rattle.laws_typing.specs.WellTypedPrograms.{IsWellTypedProgram}
use Rattle.laws_typing.proofs.WellTypedRules.{elaborated_programs_are_well_typed_lem}
use Rattle.laws_specs.specs.Specs.{Specs, IsRequired}
use Rattle.laws_specs.specs.Conditions.{IsConstructedAsSaid}
use Rattle.laws_specs.specs.Meets.{Atoms, stand_for, content_as, IsDenotation, answers_in, MeetsSpecs, AnswersAsSaid}
use Rattle.laws_specs.specs.ConditionLaws.{IsCalled, ChoosesAsSaid, ChoosesAsSaidByPriority}
use Rattle.laws_specs.specs.WholeRuns.{Outside, by_rules, has_rules, Either, AreMadeCalls, IsAround, IsRun, WholeRun}
use Rattle.laws_specs.specs.ProgramLaws.{MeetsSpecsOutside, IsRunAsSaid, AllAreValid, AllRunsAreAsSaid, AllChooseAsSaid, ProgramsComputeAsSaid, LoweredProgramsComputeAsSaid}
use Rattle.laws_specs.proofs.LikeRuns.{lowered_programs_run_as_their_source_lem}

pub back : (vs : Values) → of_list (listed vs) ≡ vs
back no_value = refl
back (value_and v vs) = ap (value_and v) (back vs)

-- 1. what an answer stands for
-- 2. of two cases, one by whether a term has rules
pick : (b : Bool) (A B : Type 0) (C : Type 0) → (b ≡ true → A → C) → (b ≡ false → B → C) → Either b A B → C
pick b A B C f g x = grind (arith, common_steps)

-- 3. calls made one after another, each of them required
abbrev Follow : Specs → Atoms → List Call → List Call → Type 0
Follow specs d before after = (made : List Call) × (after ≡ before ++ made) × ((k : Call) → In made k → IsRequired specs k.term (stand_for d k.args))

module _ (p : Program) (specs : Specs) (d : Atoms) (o : Outside) (N : Call → List Call → Content → List Call → Type 0)
    (said : (call : Call) (before : List Call) (c : Content) (after : List Call) → N call before c after → IsRequired specs call.term (stand_for d call.args) → IsRunAsSaid specs d call before c after)
    (outside : MeetsSpecsOutside p specs d o) where
  nested_said : (call : Call) (before : List Call) (c a : Content) (after : List Call) → N call before c after → Contains (answers_in c) a → IsConstructedAsSaid specs call.term (stand_for d call.args) (content_as d a)
  nested_said call before c a after n i required x r = (said call before c after n required).provides a x i r

  -- a call of a list is one that was made
  made_at : (m : Meaning) (n k : ℕ) (calls before after : List Call) (call : Call) (c a : Content) → AreMadeCalls N p o m n calls before after → slice_get calls k ≡ Some call
      → impure_answer m call.term (k + n) ≡ Some c → Contains (answers_in c) a → IsConstructedAsSaid specs call.term (stand_for d call.args) (content_as d a)
  made_at m n k [] before after call c a are e q i = grind (arith, common_steps)
  made_at m n zero (first ∷ rest) before after call c a are e q i = grind arith
  made_at m n (suc k) (first ∷ rest) before after call c a are e q i = grind (arith, common_steps, made_at m (suc n) k rest are.1 after call c a are.4 e)

  follow_all : (m : Meaning) (n : ℕ) (calls before after : List Call) → AreMadeCalls N p o m n calls before after → ((k : Call) → In calls k → IsRequired specs k.term (stand_for d k.args)) → Follow specs d before after
  follow_all m n (call ∷ rest) before after are required = grind (arith, common_steps, follow_all m (suc n) rest are.1 after are.4, append_assoc, in_either, contains_from_in)
  follow_all m n [] before after same required = ([], sym same ∙ sym (append-nil before), λ k i. absurd i)

  -- a meaning of a whole run meets specs
  pub meets : (calls before after : List Call) (call : Call) (m : Meaning) → IsAround N p o call m → AreMadeCalls N p o m 0 calls before after → MeetsSpecs specs d m calls
  meets calls before after call m r are = record {
    bools = λ b ty v e. outside.bools b ty v (sym (r.literals (bool_literal b ty)) ∙ e);
    ints = λ z ty v x e l. outside.ints z ty v x (sym (r.literals (int_literal z ty)) ∙ e) l;
    constants = λ name v x e l. outside.constants name v x (sym (r.constants name) ∙ e) l;
    extractors = λ t v b a e i. outside.extractors t v b a (sym (r.extractors t v) ∙ e) i;
    pures = λ t vs b a e i. pick (has_rules p t) _ _ _ (λ h n. nested_said (record { term = t; args = vs }) [] b a [] (n []) i) (λ h g. outside.pures t vs b a h g i) (r.pures t vs b e);
    impures = λ k call' b a e q i. made_at m 0 k calls before after call' b a are e (subst (λ x. impure_answer m call'.term x ≡ Some b) (omega arith) q) i;
  }

-- 4. by the depth
module _ (p : Program) (specs : Specs) (d : Atoms) (denotes : IsDenotation p specs d) (choose : AllChooseAsSaid p specs d) (o : Outside) (outside : MeetsSpecsOutside p specs d o) where
  -- one function, where what it calls is as said
  pub one_run : (N : Call → List Call → Content → List Call → Type 0)
      → ((call : Call) (before : List Call) (c : Content) (after : List Call) → N call before c after → IsRequired specs call.term (stand_for d call.args) → IsRunAsSaid specs d call before c after)
      → (call : Call) (before : List Call) (c : Content) (after : List Call) → IsRun N p o (by_rules p) call before c after → IsRequired specs call.term (stand_for d call.args) → IsRunAsSaid specs d call before c after
  one_run N said call before c after r required =
      let args = listed call.args in
      let out = choice p r.meaning (rules_of p call.term) args in
      let called : IsCalled p specs call.term d r.meaning args out.calls = record {
        denotes = denotes;
        typed = r.around.typed;
        serves = r.around.serves;
        meets = meets p specs d o N said outside out.calls before after call r.meaning r.around r.calls;
        required = subst (λ vs. IsRequired specs call.term (stand_for d vs)) (sym (back call.args)) required;
      } in
      let answers : AnswersAsSaid p specs call.term d args out = choose call.term r.known r.single r.meaning args called in
      let follows = follow_all p specs d o N said outside r.meaning 0 out.calls before after r.calls (λ k i. answers.calls k (contains_from_in out.calls k i)) in
      record {
        provides = grind (arith, common_steps, back);
        made = follows.0;
        after_those = follows.1;
        required = λ k i. follows.2 k (in_from_contains follows.0 k i);
      }

  whole_run : (n : ℕ) (call : Call) (before : List Call) (c : Content) (after : List Call) → WholeRun (by_rules p) p o n call before c after → IsRequired specs call.term (stand_for d call.args) → IsRunAsSaid specs d call before c after
  whole_run zero call before c after r required = absurd r
  whole_run (suc n) call before c after r required = one_run (WholeRun (by_rules p) p o n) (whole_run n) call before c after r required

-- where each choice answers as said, whole runs do
pub runs_are_said : (p : Program) (specs : Specs) (d : Atoms) → IsDenotation p specs d → AllChooseAsSaid p specs d → AllRunsAreAsSaid p specs d (by_rules p)
runs_are_said p specs d denotes choose o n call before c after outside r required = whole_run p specs d denotes choose o outside n call before c after r required

-- conditions that are valid
pub all_choose : ChoosesAsSaid → ChoosesAsSaidByPriority → (p : Program) (specs : Specs) (d : Atoms) → IsWellTypedProgram p → AllAreValid p specs d → AllChooseAsSaid p specs d
all_choose chooses by_priority p specs d well valid t known single m args called = grind arith

pub programs_compute_as_said_lem : ChoosesAsSaid → ChoosesAsSaidByPriority → ProgramsComputeAsSaid
programs_compute_as_said_lem chooses by_priority p specs d well denotes valid = runs_are_said p specs d denotes (all_choose chooses by_priority p specs d well valid)

pub lowered_programs_compute_as_said_lem : ProgramsComputeAsSaid → LoweredProgramsComputeAsSaid
lowered_programs_compute_as_said_lem said defs expand rules terms f specs d accepted low runs denotes valid o n call before c after outside r required =
    let p = own_program defs rules in
    let well = elaborated_programs_are_well_typed_lem (types_read defs) defs expand rules accepted.read.elaborated in
    said p specs d well denotes valid o n call before c after outside ((lowered_programs_run_as_their_source_lem p terms f low runs o n call before c after).0 r) required
