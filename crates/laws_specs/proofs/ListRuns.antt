-- Functions that do and collect the same have the same runs, also of multi terms: by the depth to which calls nest.
use Rattle.std.proofs.Common.{◌≡◌, ℕ, zero, suc, true, false, List, All, Contains, sym, ap, ◌∙◌, inl, inr, arith}
use Rattle.std.proofs.lemmas.Grind.{common_steps}
use Rattle.std.proofs.lemmas.List.Elements.{All-contains}
use Rattle.std.proofs.lemmas.List.Sorted.{IsPermutation-sym, IsPermutation-trans}
use Rattle.model.specs.rules.Values.{Value, listed}
use Rattle.model.specs.rules.Meaning.{Content, Meaning}
use Rattle.model.specs.rules.Outcome.{Call, Outcome}
use Rattle.model.specs.rules.Picks.{bag}
use Rattle.model.specs.rules.Program.{Program, is_multi, rules_of, terms_with_rules}
use Rattle.model.specs.trees.Collects.{Collects, HasCollectedResults}
use Rattle.model.specs.claims.Layers.{AreLowered, LoweredTerm, IsLoweredTerm}
use Rattle.laws_code.specs.CodeChoices.{OnServed}
use Rattle.laws_specs.specs.WholeRuns.{Outside, Functions, by_rules, WholeRun}
use Rattle.laws_specs.specs.ProgramLaws.{DoTheSame, RunTrees, RunCode}
use Rattle.laws_specs.specs.ListRuns.{bag_or_choice, by_bags, IsListRun, ListRun, WholeRunsAreListRuns, CollectTheSame, LikeFunctionsHaveLikeListRuns, LoweredProgramsCollectAsTheirSource}
use Rattle.laws_code.proofs.TextRuns.{lowered_there}
use Rattle.laws_specs.proofs.LikeRuns.{around, within, turned, trees_do, code_does}

-- 1. runs of like functions
module _ (N M : Call → List Call → Content → List Call → Type 0) (p : Program) (o : Outside) (so : (call : Call) (before : List Call) (c : Content) (after : List Call) → N call before c after → M call before c after) where
  list_within : (f g : Functions) (call : Call) (before : List Call) (c : Content) (after : List Call) → CollectTheSame p f g → IsListRun N p o f call before c after → IsListRun M p o g call before c after
  list_within f g call before c after same r = record {
    known = r.known;
    multi = r.multi;
    collected = r.collected;
    meaning = r.meaning;
    around = around N M p o so call r.meaning r.around;
    calls = r.calls;
    answer = (r.answer.0, r.answer.1, (same call.term r.known r.multi r.collected r.meaning (listed call.args) r.around.typed r.around.serves r.around.apart _).0 r.answer.2);
  }

same_list_runs : (p : Program) (f g : Functions) (o : Outside) → DoTheSame p f g → CollectTheSame p f g → (n : ℕ) (call : Call) (before : List Call) (c : Content) (after : List Call)
    → ListRun f p o n call before c after → ListRun g p o n call before c after
same_list_runs p f g o same lists zero call before c after r = r
same_list_runs p f g o same lists (suc n) call before c after (inl r) =
    inl (within (ListRun f p o n) (ListRun g p o n) p o (same_list_runs p f g o same lists n) f g call before c after same r)
same_list_runs p f g o same lists (suc n) call before c after (inr r) =
    inr (list_within (ListRun f p o n) (ListRun g p o n) p o (same_list_runs p f g o same lists n) f g call before c after lists r)

lists_turned : (p : Program) (f g : Functions) → CollectTheSame p f g → CollectTheSame p g f
lists_turned p f g same t known multi collected m args typed serves apart expected = let s = same t known multi collected m args typed serves apart expected in (s.1, s.0)

pub like_functions_have_like_list_runs_lem : LikeFunctionsHaveLikeListRuns
like_functions_have_like_list_runs_lem p f g same lists o n call before c after =
    (same_list_runs p f g o same lists n call before c after, same_list_runs p g f o (turned p f g same) (lists_turned p f g lists) n call before c after)

-- 2. a whole run is one
pub whole_runs_are_list_runs_lem : WholeRunsAreListRuns
whole_runs_are_list_runs_lem f p o zero call before c after r = r
whole_runs_are_list_runs_lem f p o (suc n) call before c after r =
    inl (within (WholeRun f p o n) (ListRun f p o n) p o (whole_runs_are_list_runs_lem f p o n) f f call before c after (grind arith) r)

-- 3. trees and code: of a term that isn't multi as before, of a multi one they collect the bag
pub single_is : (p : Program) (t : ℕ) (m : Meaning) (args : List Value) → is_multi p t ≡ false → by_rules p t m args ≡ by_bags p t m args
single_is p t m args e = ap (λ b. bag_or_choice b p t m args) (sym e)

-- what collects one bag collects the same
as_other : (x y : Outcome) (all expected : List Content) → Collects x all → Collects y all → Collects x expected → Collects y expected
as_other x y all expected a b c = grind (arith, common_steps, IsPermutation-trans, IsPermutation-sym)

does_as_bags : (p : Program) (f : Functions) → DoTheSame p f (by_rules p) → DoTheSame p f (by_bags p)
does_as_bags p f same t known single m args typed serves apart = same t known single m args typed serves apart ∙ single_is p t m args single

-- functions that collect the bags of the rules' results
abbrev CollectBags : Program → Functions → ℕ → Type 0
CollectBags p f t = is_multi p t ≡ true → All (HasCollectedResults p) (rules_of p t) → OnServed p t (λ m args. Collects (f t m args) (bag p m (rules_of p t) args))

collects_as_bags : (p : Program) (f : Functions) → ((t : ℕ) → Contains (terms_with_rules p) t → CollectBags p f t) → CollectTheSame p f (by_bags p)
collects_as_bags p f each t known multi collected m args typed serves apart expected = grind (arith, common_steps, as_other)

trees_collect : (p : Program) (terms : List LoweredTerm) (f : Functions) → AreLowered p terms → RunTrees p terms f → (t : ℕ) → Contains (terms_with_rules p) t → CollectBags p f t
trees_collect p terms f low runs t known = grind (arith, common_steps, lowered_there p terms t low known, All-contains (IsLoweredTerm p) terms, lowered_there, All-contains)

code_collects : (p : Program) (terms : List LoweredTerm) (f : Functions) → AreLowered p terms → RunCode p terms f → (t : ℕ) → Contains (terms_with_rules p) t → CollectBags p f t
code_collects p terms f low runs t known = grind (arith, common_steps, lowered_there p terms t low known, lowered_there)

pub lowered_programs_collect_as_their_source_lem : LoweredProgramsCollectAsTheirSource
lowered_programs_collect_as_their_source_lem p terms f low (inl runs) =
    like_functions_have_like_list_runs_lem p f (by_bags p) (does_as_bags p f (trees_do p terms f low runs)) (collects_as_bags p f (trees_collect p terms f low runs))
lowered_programs_collect_as_their_source_lem p terms f low (inr runs) =
    like_functions_have_like_list_runs_lem p f (by_bags p) (does_as_bags p f (code_does p terms f low runs)) (collects_as_bags p f (code_collects p terms f low runs))
